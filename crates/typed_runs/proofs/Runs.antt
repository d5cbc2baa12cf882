-- Each world that a run of accepted texts comes to is typed.
use Rattle.std.proofs.Common.{◌≡◌, ℕ, Bool, true, false, List, [], ◌∷◌, ◌++◌, append_assoc, append-nil, Option, Some, None, option_map, option_and_then, slice_get, slice_index_or, refl, sym, ap, subst, ◌∙◌, if◌then◌else◌}
use Rattle.std.proofs.lemmas.List.{map-append}
use Rattle.std.proofs.lemmas.List.Elements.{All-append, All-cons, All-get_or, All-head, All-nil, All-tail}
use Rattle.std.proofs.lemmas.Option.{get_or_from_slice_get, none-some, same_Some, slice_get-map, slice_get_within}
use Rattle.std.specs.Option.{option_map_or}
use Rattle.c_tree.specs.BareDef.{BareDef}
use Rattle.c_semantics.specs.SourceTexts.{Text}
use Rattle.patch_faults.specs.TransformFaults.{first_transform_fault}
use Rattle.source_model.specs.Worlds.{World, Limits, first_world, is_over}
use Rattle.source_model.specs.Moves.{move}
use Rattle.source_model.specs.Installs.{installed}
use Rattle.source_model.specs.Runs.{SourceMove, Move, Install, install, run, start, step}
use Rattle.version_laws.specs.Histories.{IsHistory, last_text, texts_installed, versions_by}
use Rattle.version_laws.proofs.RunHistories.{runs_are_of}
use Rattle.frame_bodies.specs.AcceptedTexts.{AreAccepted, IsAccepted, definitions_of}
use Rattle.world_laws.proofs.Accepted.{main_in}
use Rattle.world_laws.proofs.Runs.{worlds_hold}
use Rattle.typed_runs.specs.TypedWorlds.{WorldTyped}
use Rattle.typed_runs.specs.TypedRunLaws.{FitAfter, IsWorldOf, RunsAreTyped, tree_at}
use Rattle.typed_runs.proofs.Installed.{Transforms}
use Rattle.typed_runs.proofs.AcceptedWorlds.{each_has, first_world_typed, installs_keep_types, moves_keep_types}
use Rattle.source_model.specs.JournalLaws.{HasMain}

-- moves made in two parts
pub two_parts : (texts : List (List BareDef)) (ms ns : List SourceMove) (w : World)
    → run texts (ms ++ ns) w ≡ option_and_then (run texts ns) (run texts ms w)
two_parts texts [] ns w = refl
two_parts texts (m ∷ ms) ns w = by (λ mid. two_parts texts ms ns mid) (step texts m w)
  where
    by : ((mid : World) → run texts (ms ++ ns) mid ≡ option_and_then (run texts ns) (run texts ms mid)) → (o : Option World)
        → option_and_then (run texts (ms ++ ns)) o ≡ option_and_then (run texts ns) (option_and_then (run texts ms) o)
    by rest None = refl
    by rest (Some mid) = rest mid

-- the texts that some moves install, and one more
pub installed_more : (texts : List (List BareDef)) (ms : List SourceMove) (m : SourceMove)
    → texts_installed texts (ms ++ m ∷ []) ≡ texts_installed texts ms ++ texts_installed texts (m ∷ [])
installed_more texts [] m = refl
installed_more texts (Move t ∷ ms) m = installed_more texts ms m
installed_more texts (Install k ∷ ms) m = ap (λ ts. slice_index_or texts k [] ∷ ts) (installed_more texts ms m)

last_accepted : (texts : List Text) (q : Text) → AreAccepted (texts ++ q ∷ []) → IsAccepted q
last_accepted [] q h = All-head IsAccepted q [] h
last_accepted (t ∷ texts) q h = last_accepted texts q (All-tail IsAccepted t (texts ++ q ∷ []) h)

module _ (transforms : Transforms) (texts : List Text) (limits : Limits) (accepted : AreAccepted texts) where
  abbrev defs : List (List BareDef)
  defs = definitions_of texts

  -- a typed world that the run came to by some moves, with the texts of its versions
  record Reached (done : List SourceMove) (w : World) : Type 0 where
    earlier : List Text
    last : Text
    are : definitions_of (earlier ++ last ∷ []) ≡ versions_by defs done
    all : AreAccepted (earlier ++ last ∷ [])
    there : option_and_then (run defs done) (start defs limits) ≡ Some w
    typed : WorldTyped (definitions_of (earlier ++ last ∷ [])) w

  -- the texts of its versions
  abbrev versions_of : (done : List SourceMove) (w : World) → Reached done w → List Text
  versions_of done w r = r.earlier ++ r.last ∷ []

  world_of : (done : List SourceMove) (w : World) (r : Reached done w) → IsWorldOf (versions_of done w r) w
  world_of done w r =
      let of = runs_are_of defs limits done w (each_has HasMain main_in texts accepted) r.there in
      let holds = worlds_hold texts limits done w accepted r.there in
      record {
        history = subst (λ ts. IsHistory ts w.table) (sym r.are) of.history;
        last = of.last ∙ ap last_text (sym r.are);
        holds = holds.0;
      }

  -- one move more
  one_more : (done : List SourceMove) (m : SourceMove) (w mid : World) → option_and_then (run defs done) (start defs limits) ≡ Some w
      → step defs m w ≡ Some mid → option_and_then (run defs (done ++ m ∷ [])) (start defs limits) ≡ Some mid
  one_more done m w mid is e = by (start defs limits) is
    where
      by : (o : Option World) → option_and_then (run defs done) o ≡ Some w → option_and_then (run defs (done ++ m ∷ [])) o ≡ Some mid
      by None is = absurd (none-some w is)
      by (Some first) is =
          two_parts defs done (m ∷ []) first ∙ ap (option_and_then (run defs (m ∷ []))) is
          ∙ ap (option_and_then (run defs [])) e

  after_move : (done : List SourceMove) (t : ℕ) (w mid : World) → Reached done w → move w t ≡ Some mid → Reached (done ++ Move t ∷ []) mid
  after_move done t w mid r e = record {
    earlier = r.earlier;
    last = r.last;
    are = r.are ∙ ap (λ ts. slice_index_or defs 0 [] ∷ ts)
        (sym (append-nil (texts_installed defs done)) ∙ sym (installed_more defs done (Move t)));
    all = r.all;
    there = one_more done (Move t) w mid r.there e;
    typed = moves_keep_types (versions_of done w r) w mid t r.all (world_of done w r) r.typed e;
  }

  after_install : (done : List SourceMove) (k : ℕ) (q : Text) (w : World) (r : Reached done w) → slice_get texts k ≡ Some q → is_over w ≡ false
      → first_transform_fault r.last.tree.definitions q.tree.definitions ≡ None
      → Reached (done ++ Install k ∷ []) (installed q.definitions w)
  after_install done k q w r is going fits = record {
    earlier = versions_of done w r;
    last = q;
    are =
        map-append (λ (t : Text). t.definitions) (versions_of done w r) (q ∷ []) ∙ ap (λ ts. ts ++ q.definitions ∷ []) r.are
        ∙ ap (λ ts. slice_index_or defs 0 [] ∷ ts)
        (ap (λ d. texts_installed defs done ++ d ∷ []) (sym text_at) ∙ sym (installed_more defs done (Install k)));
    all = All-append IsAccepted (versions_of done w r) (q ∷ []) r.all (All-cons IsAccepted q [] own (All-nil IsAccepted));
    there = one_more done (Install k) w (installed q.definitions w) r.there made;
    typed = installs_keep_types transforms r.earlier r.last q w
        (record { older = last_accepted r.earlier r.last r.all; newer = own; faultless = fits }) (world_of done w r) r.typed;
  }
    where
      own : IsAccepted q
      own =
          subst IsAccepted (get_or_from_slice_get texts k q q is) (All-get_or IsAccepted texts k q (slice_get_within texts k q is) accepted)

      found : slice_get defs k ≡ Some q.definitions
      found = slice_get-map (λ (t : Text). t.definitions) texts k ∙ ap (option_map (λ (t : Text). t.definitions)) is

      text_at : slice_index_or defs k [] ≡ q.definitions
      text_at = get_or_from_slice_get defs k q.definitions [] found

      made : step defs (Install k) w ≡ Some (installed q.definitions w)
      made =
          ap (install w) found ∙ ap (λ b. if b then None else Some (installed q.definitions w)) going

  -- what the rest of a run comes to is typed
  abbrev Rest : List SourceMove → World → Type 0
  Rest ms after =
      (done : List SourceMove) (w : World) (r : Reached done w) → FitAfter texts r.last.tree.definitions ms → run defs ms w ≡ Some after
      → WorldTyped (versions_by defs (done ++ ms)) after

  along : (ms : List SourceMove) (after : World) → Rest ms after
  unfolding after_move after_install
  along [] after done w r fits e =
      subst (λ ns. WorldTyped (versions_by defs ns) after) (sym (append-nil done))
      (subst (WorldTyped (versions_by defs done)) (same_Some w after e) (subst (λ ts. WorldTyped ts w) r.are r.typed))
  along (Move t ∷ ms) after done w r fits e =
      subst (λ ns. WorldTyped (versions_by defs ns) after) (append_assoc done (Move t ∷ []) ms) (by (along ms after) (move w t) refl e)
    where
      by : Rest ms after → (o : Option World) → move w t ≡ o → option_and_then (run defs ms) o ≡ Some after
          → WorldTyped (versions_by defs ((done ++ Move t ∷ []) ++ ms)) after
      by rest None is e = absurd (none-some after e)
      by rest (Some mid) is e = rest (done ++ Move t ∷ []) mid (after_move done t w mid r is) fits e
  along (Install k ∷ ms) after done w r fits e =
      subst (λ ns. WorldTyped (versions_by defs ns) after) (append_assoc done (Install k ∷ []) ms)
      (by (along ms after) (slice_get texts k) refl (subst (λ o. option_and_then (run defs ms) (install w o) ≡ Some after)
      (slice_get-map (λ (t : Text). t.definitions) texts k) e))
    where
      by : Rest ms after → (o : Option Text) → slice_get texts k ≡ o → option_and_then (run defs ms) (install w (option_map (λ (t : Text). t.definitions) o)) ≡ Some after
          → WorldTyped (versions_by defs ((done ++ Install k ∷ []) ++ ms)) after
      by rest None is e = absurd (none-some after e)
      by rest (Some q) is e = over (is_over w) refl e
        where
          tree_is : tree_at texts k ≡ q.tree.definitions
          tree_is = ap (λ o. option_map_or (λ t. t.tree.definitions) o []) is

          fit : first_transform_fault r.last.tree.definitions q.tree.definitions ≡ None
          fit = subst (λ d. first_transform_fault r.last.tree.definitions d ≡ None) tree_is fits.0

          over : (b : Bool) → is_over w ≡ b → option_and_then (run defs ms) (if b then None else Some (installed q.definitions w)) ≡ Some after
              → WorldTyped (versions_by defs ((done ++ Install k ∷ []) ++ ms)) after
          over true going e = absurd (none-some after e)
          over false going e =
              rest (done ++ Install k ∷ []) (installed q.definitions w) (after_install done k q w r is going fit)
              (subst (λ d. FitAfter texts d ms) tree_is fits.1) e

pub runs_are_typed : Transforms → RunsAreTyped
runs_are_typed transforms [] limits ms w accepted fits e = absurd (none-some w e)
runs_are_typed transforms (t ∷ texts) limits ms w accepted fits e =
    along transforms (t ∷ texts) limits accepted ms w [] (first_world t.definitions limits)
    (record {
      earlier = [];
      last = t;
      are = refl;
      all = All-cons IsAccepted t [] (All-head IsAccepted t texts accepted) (All-nil IsAccepted);
      there = refl;
      typed = first_world_typed t limits (All-head IsAccepted t texts accepted);
    }) fits e
