-- The moves of a legal journal are a run whose installs are of texts without faults in their transformers.
use Rattle.std.proofs.Common.{◌≡◌, ℕ, zero, suc, ◌&&◌, ◌||◌, not, Bool, true, false, List, [], ◌∷◌, ◌++◌, append-nil, map, length, Option, Some, None, option_map, option_and_then, slice_get, slice_index_or, refl, sym, ap, subst, ◌∙◌, if◌then◌else◌}
use Rattle.std.specs.Prelude.{nat_le, nat_lt}
use Rattle.std.specs.Option.{option_map_or, option_or}
use Rattle.std.proofs.lemmas.List.{map-append}
use Rattle.std.proofs.lemmas.List.Elements.{All-cons, All-map}
use Rattle.std.proofs.lemmas.Option.{get_or_from_slice_get, none-some, slice_get-get_or, slice_get-map}
use Rattle.run_types.specs.declared.run.Event.{Event}
use Rattle.run_types.specs.declared.run.Event.TheVariants.{Move, CheckIn, Offer, Decide, Withdraw}
use Rattle.con_freeness.specs.Verdicts.{Verdict, Admitted, Refused}
use Rattle.c_tree.specs.BareDef.{BareDef}
use Rattle.c_tree.specs.declared.def.Def.{Def}
use Rattle.c_semantics.specs.Changes.{changed}
use Rattle.c_semantics.specs.SkeletonLaws.{DepthIsLexical}
use Rattle.c_semantics.specs.SourceTexts.{Text}
use Rattle.c_semantics.specs.Store.{Body, brought_bodies}
use Rattle.name_sets.specs.Limit.{most_names}
use Rattle.patch_faults.specs.Sorts.{other_kind}
use Rattle.patch_faults.specs.TransformFaults.{first_transform_fault, place_of}
use Rattle.source_model.specs.declared.patch.NotPatch.{NotPatch}
use Rattle.source_model.specs.declared.patch.NotPatch.TheVariants.{Versions, Names, Kind, Transform, StoreFull}
use Rattle.source_model.specs.Worlds.{World, first_world, is_over}
use Rattle.source_model.specs.Moves.{move}
use Rattle.source_model.specs.Installs.{installed}
use Rattle.source_model.specs.Patches.{all_names, cause_if, is_full, last_definitions, last_tree, not_patch, version_limit}
use Rattle.source_model.specs.Runs.{SourceMove, install, run, start, step}
use Rattle.source_model.specs.Runs as source
use Rattle.source_model.specs.Guards.{Guard, Rules, Setup, bodies_of, checked_in, decide, decided, decided_by, first_guard, has_ended, in_force, installed_over, is_open, moved, offer_at, seat_of}
use Rattle.source_model.specs.Guards as guard
use Rattle.source_model.specs.Journals.{guard_after, happens, play}
use Rattle.source_model.proofs.Events.{AllOf, of_outcome}
use Rattle.version_laws.specs.Histories.{texts_installed, versions_by}
use Rattle.frame_bodies.specs.AcceptedTexts.{AreAccepted, IsAccepted, definitions_of}
use Rattle.accepted_runs.specs.AcceptedRuns.{TextsAreAccepted}
use Rattle.typed_runs.specs.TypedWorlds.{WorldTyped}
use Rattle.typed_runs.specs.TypedRunLaws.{FitAfter, tree_at}
use Rattle.typed_runs.proofs.Installed.{Transforms}
use Rattle.typed_runs.proofs.Runs.{installed_more, runs_are_typed, two_parts}
use Rattle.progress_laws.proofs.Runs.{threads_of_runs_go_on}
use Rattle.typed_journals.specs.TypedJournals.{JournalsAreTyped, ThreadsOfJournalsGoOn}

-- ---- patches

first_none : {A : Type 0} (a b : Option A) → option_or a b ≡ None → (a ≡ None) × (b ≡ None)
first_none None b e = (refl, e)
first_none (Some x) b e = absurd (none-some x (sym e))

mapped_none : {A B : Type 0} (f : A → B) (o : Option A) → option_map f o ≡ None → o ≡ None
mapped_none f None e = refl
mapped_none f (Some x) e = absurd (none-some (f x) (sym e))

-- the transformers of a patch have no fault
patch_fits : (bodies : List Body) (versions : List Text) (q : Text) → not_patch bodies versions q ≡ None
    → first_transform_fault (last_tree versions) q.tree.definitions ≡ None
patch_fits bodies versions q e =
    let p = last_definitions versions in
    let fault = first_transform_fault (last_tree versions) q.tree.definitions in
    let count : Option NotPatch = cause_if (nat_le version_limit (length versions)) Versions in
    let names : Option NotPatch = cause_if (nat_lt most_names (length (all_names (versions ++ q ∷ [])))) Names in
    let kinds : Option NotPatch = option_map Kind (other_kind p q.definitions) in
    let transforms : Option NotPatch = option_map (λ f. Transform (place_of f)) fault in
    let full : Option NotPatch = cause_if (is_full (bodies ++ brought_bodies (suc (length versions)) p q)) StoreFull in
    let after_count = (first_none count (option_or names (option_or kinds (option_or transforms full))) e).1 in
    let after_names = (first_none names (option_or kinds (option_or transforms full)) after_count).1 in
    let after_kinds = (first_none kinds (option_or transforms full) after_names).1 in
    mapped_none (λ f. Transform (place_of f)) fault (first_none transforms full after_kinds).0

-- the tree of the last text
last_tree_is : (texts : List Text) (q : Text) → last_tree (texts ++ q ∷ []) ≡ q.tree.definitions
last_tree_is [] q = refl
last_tree_is (t ∷ []) q = refl
last_tree_is (t ∷ u ∷ texts) q = last_tree_is (u ∷ texts) q

-- the tree in force after some moves
abbrev tree_after : List Text → List Def → List SourceMove → List Def
tree_after texts p [] = p
tree_after texts p (source.Move t ∷ ms) = tree_after texts p ms
tree_after texts p (source.Install k ∷ ms) = tree_after texts (tree_at texts k) ms

moved_tree : (texts : List Text) (p : List Def) (ms : List SourceMove) (t : ℕ)
    → tree_after texts p (ms ++ source.Move t ∷ []) ≡ tree_after texts p ms
moved_tree texts p [] t = refl
moved_tree texts p (source.Move n ∷ ms) t = moved_tree texts p ms t
moved_tree texts p (source.Install k ∷ ms) t = moved_tree texts (tree_at texts k) ms t

installed_tree : (texts : List Text) (p : List Def) (ms : List SourceMove) (k : ℕ)
    → tree_after texts p (ms ++ source.Install k ∷ []) ≡ tree_at texts k
installed_tree texts p [] k = refl
installed_tree texts p (source.Move n ∷ ms) k = installed_tree texts p ms k
installed_tree texts p (source.Install n ∷ ms) k = installed_tree texts (tree_at texts n) ms k

move_fits : (texts : List Text) (p : List Def) (ms : List SourceMove) (t : ℕ) → FitAfter texts p ms
    → FitAfter texts p (ms ++ source.Move t ∷ [])
move_fits texts p [] t h = tt
move_fits texts p (source.Move n ∷ ms) t h = move_fits texts p ms t h
move_fits texts p (source.Install k ∷ ms) t h = (h.0, move_fits texts (tree_at texts k) ms t h.1)

install_fits : (texts : List Text) (p : List Def) (ms : List SourceMove) (k : ℕ) → FitAfter texts p ms
    → first_transform_fault (tree_after texts p ms) (tree_at texts k) ≡ None → FitAfter texts p (ms ++ source.Install k ∷ [])
install_fits texts p [] k h e = (e, tt)
install_fits texts p (source.Move n ∷ ms) k h e = install_fits texts p ms k h e
install_fits texts p (source.Install n ∷ ms) k h e = (h.0, install_fits texts (tree_at texts n) ms k h.1 e)

-- ---- the run of a journal

module _ (setup : Setup) where
  -- the first text and those of the offers
  abbrev pub texts : List Text
  texts = setup.first ∷ map (λ (o : guard.Offer). o.text) setup.offers

  abbrev defs : List (List BareDef)
  defs = definitions_of texts

  -- a world that some moves of the texts come to, with the texts of its versions
  pub record Ran (w : World) (versions : List Text) : Type 0 where
    pub ms : List SourceMove
    pub ran : run defs ms (first_world setup.first.definitions setup.limits) ≡ Some w
    pub fits : FitAfter texts setup.first.tree.definitions ms
    pub last : tree_after texts setup.first.tree.definitions ms ≡ last_tree versions
    pub are : versions_by defs ms ≡ definitions_of versions

  first_ran : Ran (first_world setup.first.definitions setup.limits) (setup.first ∷ [])
  first_ran = record { ms = []; ran = refl; fits = tt; last = refl; are = refl }

  one_more : (ms : List SourceMove) (m : SourceMove) (first w after : World) → run defs ms first ≡ Some w → step defs m w ≡ Some after
      → run defs (ms ++ m ∷ []) first ≡ Some after
  one_more ms m first w after e f =
      two_parts defs ms (m ∷ []) first ∙ ap (option_and_then (run defs (m ∷ []))) e ∙ ap (option_and_then (run defs [])) f

  move_ran : (w after : World) (versions : List Text) (t : ℕ) → move w t ≡ Some after → Ran w versions → Ran after versions
  move_ran w after versions t e r = record {
    ms = r.ms ++ source.Move t ∷ [];
    ran = one_more r.ms (source.Move t) (first_world setup.first.definitions setup.limits) w after r.ran e;
    fits = move_fits texts setup.first.tree.definitions r.ms t r.fits;
    last = moved_tree texts setup.first.tree.definitions r.ms t ∙ r.last;
    are = ap (λ ts. slice_index_or defs 0 [] ∷ ts) (installed_more defs r.ms (source.Move t) ∙ append-nil (texts_installed defs r.ms)) ∙ r.are;
  }

  install_ran : (w : World) (versions : List Text) (k : ℕ) (o : guard.Offer) → offer_at setup k ≡ Some o → is_over w ≡ false
      → first_transform_fault (last_tree versions) o.text.tree.definitions ≡ None → Ran w versions
      → Ran (installed o.text.definitions w) (versions ++ o.text ∷ [])
  install_ran w versions zero o at going fits r = absurd (none-some o at)
  install_ran w versions (suc k) o at going fits r = record {
    ms = r.ms ++ source.Install (suc k) ∷ [];
    ran =
        one_more r.ms (source.Install (suc k)) (first_world setup.first.definitions setup.limits) w (installed o.text.definitions w) r.ran
        (ap (install w) found ∙ ap (λ b. if b then None else Some (installed o.text.definitions w)) going);
    fits =
        install_fits texts setup.first.tree.definitions r.ms (suc k) r.fits
        (ap (λ d. first_transform_fault d (tree_at texts (suc k))) r.last ∙ ap (first_transform_fault (last_tree versions)) tree_is ∙ fits);
    last = installed_tree texts setup.first.tree.definitions r.ms (suc k) ∙ tree_is ∙ sym (last_tree_is versions o.text);
    are =
        ap (λ ts. slice_index_or defs 0 [] ∷ ts)
        (installed_more defs r.ms (source.Install (suc k)) ∙ ap (λ d. texts_installed defs r.ms ++ d ∷ []) (get_or_from_slice_get defs (suc k) o.text.definitions [] found))
        ∙ ap (λ ts. ts ++ o.text.definitions ∷ []) r.are ∙ sym (map-append (λ (t : Text). t.definitions) versions (o.text ∷ []));
  }
    where
      text_at : slice_get texts (suc k) ≡ Some o.text
      text_at = slice_get-map (λ (x : guard.Offer). x.text) setup.offers k ∙ ap (option_map (λ (x : guard.Offer). x.text)) at

      found : slice_get defs (suc k) ≡ Some o.text.definitions
      found = slice_get-map (λ (t : Text). t.definitions) texts (suc k) ∙ ap (option_map (λ (t : Text). t.definitions)) text_at

      tree_is : tree_at texts (suc k) ≡ o.text.tree.definitions
      tree_is = ap (λ x. option_map_or (λ t. t.tree.definitions) x []) text_at

  -- ---- events

  abbrev Good : Guard → Type 0
  Good g = Ran g.world g.versions

  module _ (rules : Rules) where
    by_move : (g : Guard) (t : ℕ) (o : Option World) → move g.world t ≡ o → Good g → AllOf Good (option_map (moved g t) o)
    by_move g t None e r = tt
    by_move g t (Some w) e r = move_ran g.world w g.versions t e r

    unless : (b : Bool) (o : Option Guard) → AllOf Good o → AllOf Good (if b then None else o)
    unless true o h = tt
    unless false o h = h

    only : (b : Bool) (o : Option Guard) → AllOf Good o → AllOf Good (if b then o else None)
    only true o h = h
    only false o h = tt

    by_verdict : (g : Guard) (k : ℕ) (o : guard.Offer) → offer_at setup k ≡ Some o
        → first_transform_fault (last_tree g.versions) o.text.tree.definitions ≡ None → Good g → (v : Verdict)
        → AllOf Good (decided_by rules g k o.text (changed (last_definitions g.versions) o.text.definitions) v)
    by_verdict g k o at fits r (Refused refusal) = r
    by_verdict g k o at fits r Admitted = by (is_over g.world) refl
      where
        by : (b : Bool) → is_over g.world ≡ b
            → AllOf Good
            (option_map (installed_over rules g k o.text (changed (last_definitions g.versions) o.text.definitions))
            (if b then None else Some (installed o.text.definitions g.world)))
        by true going = tt
        by false going = install_ran g.world g.versions k o at going fits r

    by_patch : (g : Guard) (k : ℕ) (o : guard.Offer) → offer_at setup k ≡ Some o → Good g → (cause : Option NotPatch)
        → not_patch (bodies_of g) g.versions o.text ≡ cause → AllOf Good (decided rules g k (last_definitions g.versions) o.text cause)
    by_patch g k o at r (Some cause) is = r
    by_patch g k o at r None is = by_verdict g k o at (patch_fits (bodies_of g) g.versions o.text is) r _

    by_offer : (g : Guard) (k : ℕ) (o : Option guard.Offer) → offer_at setup k ≡ o → Good g → AllOf Good (decide rules g k o)
    by_offer g k None at r = tt
    by_offer g k (Some o) at r = by_patch g k o at r (not_patch (bodies_of g) g.versions o.text) refl

    each : (e : Event) (g : Guard) → Good g → AllOf Good (happens rules setup e g)
    each (Move t) g r =
        unless (has_ended g || (seat_of g t).at_check_in) (option_map (moved g t) (move g.world t)) (by_move g t (move g.world t) refl r)
    each (CheckIn t) g r = only _ (Some (checked_in (bodies_of g) g t)) r
    each (Offer k) g r = only _ (Some (record g { open_offer = Some k; greatest = k })) r
    each (Decide k) g r = only (not (has_ended g) && is_open g k) (decide rules g k (offer_at setup k)) (by_offer g k (offer_at setup k) refl r)
    each (Withdraw k) g r = only _ (Some _) r

    along : (events : List Event) (g : Guard) → Good g → AllOf Good (play rules setup events g)
    along [] g r = r
    along (e ∷ es) g r = by (λ mid h. along es mid h) (happens rules setup e g) (each e g r)
      where
        by : ((mid : Guard) → Good mid → AllOf Good (play rules setup es mid)) → (o : Option Guard) → AllOf Good o
            → AllOf Good (option_and_then (play rules setup es) o)
        by rest None h = tt
        by rest (Some mid) h = rest mid h

    pub journal_ran : (events : List Event) (g : Guard) → guard_after rules setup events ≡ Some g → Good g
    journal_ran events g legal = of_outcome Good (guard_after rules setup events) g legal (along events (first_guard setup) first_ran)

  pub all_accepted : TextsAreAccepted setup → AreAccepted texts
  all_accepted accepted =
      All-cons IsAccepted setup.first (map (λ (o : guard.Offer). o.text) setup.offers) accepted.first
      (All-map IsAccepted (λ (o : guard.Offer). o.text) setup.offers
      (λ k d within. accepted.offered (suc k) (slice_index_or setup.offers k d) (slice_get-get_or setup.offers k d within)))

pub journals_are_typed : Transforms → JournalsAreTyped
journals_are_typed transforms rules setup events g accepted legal =
    let r = journal_ran setup rules events g legal in
    subst (λ ts. WorldTyped ts g.world) r.are
    (runs_are_typed transforms (texts setup) setup.limits r.ms g.world (all_accepted setup accepted) r.fits r.ran)

pub threads_of_journals_go_on : DepthIsLexical → Transforms → ThreadsOfJournalsGoOn
threads_of_journals_go_on lexical transforms rules setup events g t th accepted legal over there =
    let r = journal_ran setup rules events g legal in
    threads_of_runs_go_on lexical transforms (texts setup) setup.limits r.ms g.world t th (all_accepted setup accepted) r.fits r.ran over there
