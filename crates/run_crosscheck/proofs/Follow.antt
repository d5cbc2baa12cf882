-- One event more of a journal, followed by the source machine.
use Rattle.std.proofs.Common.{◌≡◌, ◌⊎◌, inl, inr, add-one, ℕ, zero, suc, ◌+◌, ◌<◌, ◌≤◌, Bool, true, false, List, [], ◌∷◌, ◌++◌, append-nil, length, map, take, drop, All, Option, Some, None, option_map, slice_get, slice_index_or, refl, sym, ◌∙◌, ap, subst, arith}
use Rattle.std.specs.Prelude.{Vec}
use Rattle.std.specs.declared.alloc.Global.{Global}
use Rattle.std.specs.Option.{option_and_then, option_map_or}
use Rattle.std.specs.List.{cons_option, range_with_len}
use Rattle.std.proofs.Math.Seq.{drop-cons, take-suc}
use Rattle.std.proofs.lemmas.List.{append_assoc, drop_all, length-append, take_all}
use Rattle.std.proofs.lemmas.List.Elements.{filter_map-append}
use Rattle.std.proofs.lemmas.List.FromFn.{get_or-map-range_with_len, length-map-range_with_len}
use Rattle.std.proofs.lemmas.Option.{get_or_from_slice_get, none-some, same_Some, slice_get-get_or, slice_get-map, slice_get_within}
use Rattle.run_types.specs.declared.run.Event.{Event}
use Rattle.run_types.specs.declared.run.Event.TheVariants.{Move, CheckIn, Offer, Decide, Withdraw}
use Rattle.c_tree.specs.BareExpr.{Bytes}
use Rattle.c_tree.specs.BareDef.{BareDef}
use Rattle.c_tree.specs.declared.def.Def.{Def}
use Rattle.c_tree.specs.declared.def.Program.{Program}
use Rattle.c_semantics.specs.SourceTexts.{Text, text_of}
use Rattle.patch_faults.specs.TransformFaults.{first_transform_fault}
use Rattle.source_model.specs.declared.answer.OfferAnswer.{OfferAnswer}
use Rattle.source_model.specs.declared.answer.OfferAnswer.TheVariants as ids
use Rattle.source_model.specs.Answers.{Answer, Installed, RefusedFor, NoPatch, Withdrawn, NotOffered, answer_seen}
use Rattle.source_model.specs.Guards.{Answered, Guard, Setup, first_guard, offer_at}
use Rattle.source_model.specs.Guards as guard
use Rattle.source_model.specs.Journals.{answer_of, answers, guard_after, install_of, move_by, moves}
use Rattle.source_model.specs.JournalLaws.{JournalIsARun, texts_of}
use Rattle.source_model.specs.Runs.{SourceMove, result, run, source_run, start, step}
use Rattle.source_model.specs.Runs as source
use Rattle.source_model.specs.Spans.{spans}
use Rattle.source_model.specs.Worlds.{Limits, World}
use Rattle.version_laws.specs.Histories.{last_text, text_in as text_at, versions_by}
use Rattle.type_transformers.specs.declared.change.Change.{Change}
use Rattle.type_transformers.specs.Changes.{IsChange, changing, name_of}
use Rattle.source_programs.specs.Programs.{text_in}
use Rattle.source_runner.proofs.AfterMoves.{installed_versions, moved_versions}
use Rattle.source_runner.specs.SourceRuns.{KeepsTexts, trees_of, world_after}
use Rattle.recorded_runs.specs.declared.run.RecordedRun.{RecordedRun}
use Rattle.recorded_runs.specs.RecordedRuns.{IsRecorded}
use Rattle.run_crosscheck.specs.declared.journal_run.JournalRun.{JournalRun}
use Rattle.recorded_runs.specs.RecordedRuns.{CameBy}
use Rattle.recorded_runs.proofs.Runs.{answered}
use Rattle.source_runner.specs.declared.run.SourceRun.{SourceRun}
use Rattle.source_runner.specs.declared.run.Stepped.{Stepped}
use Rattle.source_runner.specs.declared.run.Stepped.TheVariants.{Done, CannotMove}
use Rattle.version_spans.specs.Kept.{span_of}
use Rattle.run_crosscheck.specs.declared.check.SourceAnswer.{SourceAnswer}
use Rattle.run_crosscheck.specs.Comparisons.{comparison_of, first_difference}
use Rattle.run_crosscheck.specs.Crosschecks.{IsCrosscheck}
use Rattle.run_crosscheck.specs.Following.{ArePatches, HasChanges, HasFollowed, IsAt, IsFollowed, IsPatchIf, in_force_after, is_install, says_installed}
use Rattle.run_crosscheck.specs.GivenJournals.{IsJournal}
use Rattle.run_crosscheck.proofs.Patches.{journal_patches}

-- ---- the moves of some events

moves_more : (given : List Answered) (es : List Event) (e : Event)
    → moves given (es ++ e ∷ []) ≡ moves given es ++ cons_option (move_by given e) []
moves_more given es e = filter_map-append (move_by given) es (e ∷ [])

no_move : (given : List Answered) (es : List Event) (e : Event) → move_by given e ≡ None → moves given (es ++ e ∷ []) ≡ moves given es
no_move given es e none =
    moves_more given es e ∙ ap (λ m. moves given es ++ cons_option m []) none ∙ append-nil (moves given es)

one_move : (given : List Answered) (es : List Event) (e : Event) (m : SourceMove) → move_by given e ≡ Some m
    → moves given (es ++ e ∷ []) ≡ moves given es ++ m ∷ []
one_move given es e m is = moves_more given es e ∙ ap (λ x. moves given es ++ cons_option x []) is

-- what can't be made can't be made with more moves
never_after : (texts : List (List BareDef)) (ms more : List SourceMove) (w : World) → run texts ms w ≡ None → run texts (ms ++ more) w ≡ None
never_after texts [] more w e = absurd (none-some w (sym e))
never_after texts (m ∷ ms) more w e = by (λ v. never_after texts ms more v) (step texts m w) e
  where
    by : ((v : World) → run texts ms v ≡ None → run texts (ms ++ more) v ≡ None) → (o : Option World)
        → option_and_then (run texts ms) o ≡ None → option_and_then (run texts (ms ++ more)) o ≡ None
    by rest None none = refl
    by rest (Some v) none = rest v none

never_more : (texts : List (List BareDef)) (limits : Limits) (ms more : List SourceMove) → world_after texts limits ms ≡ None
    → world_after texts limits (ms ++ more) ≡ None
never_more texts limits ms more e = by (start texts limits) e
  where
    by : (o : Option World) → option_and_then (run texts ms) o ≡ None → option_and_then (run texts (ms ++ more)) o ≡ None
    by None none = refl
    by (Some w) none = never_after texts ms more w none

-- ---- the answers

installs_seen : (names : List Bytes) (a : OfferAnswer) → is_install (answer_seen names a) ≡ says_installed a
installs_seen names (ids.Installed version) = refl
installs_seen names (ids.Refused r) = refl
installs_seen names (ids.NotPatch cause) = refl
installs_seen names ids.Withdrawn = refl
installs_seen names ids.NotOffered = refl

-- what is given of an offer that is there says whether it was installed
pub given_is : (setup : Setup) (g : Guard) (names : List Bytes) (given : List OfferAnswer) (i : ℕ) (o : guard.Offer)
    → map (answer_seen names) given ≡ answers setup g → offer_at setup (suc i) ≡ Some o
    → option_map_or says_installed (slice_get given i) false ≡ is_install (answer_of g.answers (suc i))
given_is setup g names given i o same at = by (slice_get given i) there
  where
    within : i < length (answers setup g)
    within =
        subst (λ n. i < n) (sym (length-map-range_with_len (answer_of g.answers) 1 (length setup.offers))) (slice_get_within setup.offers i o at)

    place : 1 + i ≡ suc i
    place = omega arith

    there : option_map (answer_seen names) (slice_get given i) ≡ Some (answer_of g.answers (suc i))
    there =
        sym (slice_get-map (answer_seen names) given i)
        ∙ ap (λ l. slice_get l i) same
        ∙ slice_get-get_or (answers setup g) i NotOffered within
        ∙ ap Some (get_or-map-range_with_len (answer_of g.answers) 1 (length setup.offers) i (suc i) NotOffered (slice_get_within setup.offers i o at) place)

    by : (a : Option OfferAnswer) → option_map (answer_seen names) a ≡ Some (answer_of g.answers (suc i))
        → option_map_or says_installed a false ≡ is_install (answer_of g.answers (suc i))
    by None e = absurd (none-some (answer_of g.answers (suc i)) e)
    by (Some a) e = sym (installs_seen names a) ∙ ap is_install (same_Some (answer_seen names a) (answer_of g.answers (suc i)) e)

-- so does what is said of its number
pub answered_so : (setup : Setup) (g : Guard) (names : List Bytes) (given : List OfferAnswer) (k : ℕ) (o : guard.Offer)
    → map (answer_seen names) given ≡ answers setup g → offer_at setup k ≡ Some o → (said : Bool)
    → ((i : ℕ) → k ≡ suc i → said ≡ option_map_or says_installed (slice_get given i) false) → is_install (answer_of g.answers k) ≡ said
answered_so setup g names given zero o same at said says = absurd (none-some o at)
answered_so setup g names given (suc i) o same at said says = sym (given_is setup g names given i o same at) ∙ sym (says i refl)

-- an offer that wasn't installed leaves what is in force, and one that was has no fault
not_installed : (p q : List Def) (a : Answer) → is_install a ≡ false → in_force_after p q a ≡ p
not_installed p q (Installed version) e = absurd (no e)
  where
    no : true ≡ false → ⊥
    no h = cc
not_installed p q (RefusedFor r) e = refl
not_installed p q (NoPatch cause) e = refl
not_installed p q Withdrawn e = refl
not_installed p q NotOffered e = refl

installed_so : (p q : List Def) (a : Answer) → is_install a ≡ true → IsPatchIf p q a
    → (first_transform_fault p q ≡ None) × (in_force_after p q a ≡ q)
installed_so p q (Installed version) e fits = (fits, refl)
installed_so p q (RefusedFor r) e fits = absurd (no e)
  where
    no : false ≡ true → ⊥
    no h = cc
installed_so p q (NoPatch cause) e fits = absurd (no e)
  where
    no : false ≡ true → ⊥
    no h = cc
installed_so p q Withdrawn e fits = absurd (no e)
  where
    no : false ≡ true → ⊥
    no h = cc
installed_so p q NotOffered e fits = absurd (no e)
  where
    no : false ≡ true → ⊥
    no h = cc

installs_none : (k : ℕ) (a : Answer) → is_install a ≡ false → install_of k a ≡ None
installs_none k (Installed version) e = absurd (no e)
  where
    no : true ≡ false → ⊥
    no h = cc
installs_none k (RefusedFor r) e = refl
installs_none k (NoPatch cause) e = refl
installs_none k Withdrawn e = refl
installs_none k NotOffered e = refl

installs_one : (k : ℕ) (a : Answer) → is_install a ≡ true → install_of k a ≡ Some (source.Install k)
installs_one k (Installed version) e = refl
installs_one k (RefusedFor r) e = absurd (no e)
  where
    no : false ≡ true → ⊥
    no h = cc
installs_one k (NoPatch cause) e = absurd (no e)
  where
    no : false ≡ true → ⊥
    no h = cc
installs_one k Withdrawn e = absurd (no e)
  where
    no : false ≡ true → ⊥
    no h = cc
installs_one k NotOffered e = absurd (no e)
  where
    no : false ≡ true → ⊥
    no h = cc

-- ---- the texts

-- the definitions of the texts of a setup
texts_so : (setup : Setup) (trees : List Program) → map text_of trees ≡ setup.first ∷ map (λ (o : guard.Offer). o.text) setup.offers
    → map text_in trees ≡ texts_of setup
texts_so setup trees e = definitions trees ∙ ap (map (λ (t : Text). t.definitions)) e ∙ ap (λ ts. setup.first.definitions ∷ ts) (offered setup.offers)
  where
    definitions : (ps : List Program) → map text_in ps ≡ map (λ (t : Text). t.definitions) (map text_of ps)
    definitions [] = refl
    definitions (p ∷ ps) = ap (λ ts. text_in p ∷ ts) (definitions ps)

    offered : (os : List guard.Offer)
        → map (λ (t : Text). t.definitions) (map (λ (o : guard.Offer). o.text) os) ≡ map (λ (o : guard.Offer). o.text.definitions) os
    offered [] = refl
    offered (o ∷ os) = ap (λ ts. o.text.definitions ∷ ts) (offered os)

-- the tree of an offer that is there
pub tree_of_offer : (setup : Setup) (trees : List Program) (k : ℕ) (o : guard.Offer)
    → map text_of trees ≡ setup.first ∷ map (λ (o : guard.Offer). o.text) setup.offers → offer_at setup k ≡ Some o
    → (q : Program) × (slice_get trees k ≡ Some q) × (o.text.tree ≡ q)
tree_of_offer setup trees zero o e at = absurd (none-some o at)
tree_of_offer setup trees (suc i) o e at = by (slice_get trees (suc i)) refl there
  where
    there : option_map text_of (slice_get trees (suc i)) ≡ Some o.text
    there =
        sym (slice_get-map text_of trees (suc i))
        ∙ ap (λ ts. slice_get ts (suc i)) e
        ∙ slice_get-map (λ (x : guard.Offer). x.text) setup.offers i
        ∙ ap (option_map (λ (x : guard.Offer). x.text)) at

    by : (q : Option Program) → slice_get trees (suc i) ≡ q → option_map text_of q ≡ Some o.text
        → (q : Program) × (slice_get trees (suc i) ≡ Some q) × (o.text.tree ≡ q)
    by None is h = absurd (none-some o.text h)
    by (Some q) is h = (q, is, ap (λ (t : Text). t.tree) (sym (same_Some (text_of q) o.text h)))

last_of : (texts : List (List BareDef)) (q : List BareDef) → last_text (texts ++ q ∷ []) ≡ q
last_of texts q = ap (text_at (texts ++ q ∷ [])) (length-append texts (q ∷ []) ∙ one (length texts)) ∙ here texts
  where
    one : (n : ℕ) → n + 1 ≡ suc n
    one n = omega arith

    here : (xs : List (List BareDef)) → slice_index_or (xs ++ q ∷ []) (length xs) [] ≡ q
    here [] = refl
    here (x ∷ xs) = here xs

-- ---- the start

pub some_texts : (setup : Setup) (g : Guard) (texts : List Program) (objects : ℕ) (events : List Event) (given : List OfferAnswer)
    → IsJournal setup g texts objects events given → texts ≡ [] → ⊥
some_texts setup g texts objects events given j none = no (ap (map text_of) (sym none) ∙ j.texts_are)
  where
    no : [] ≡ setup.first ∷ map (λ (o : guard.Offer). o.text) setup.offers → ⊥
    no h = cc

pub starts : JournalIsARun → (setup : Setup) (g : Guard) (texts : List Program) (objects : ℕ) (events : List Event) (given : List OfferAnswer)
    → IsJournal setup g texts objects events given → (r : JournalRun)
    → IsRecorded (map text_in texts) (record { objects = objects; slots = 16 }) [] r.run → trees_of r.run.run ≡ texts → r.text ≡ 0
    → IsFollowed setup g.answers [] events r
starts law setup g [] objects events given j r recorded trees number = absurd (no j.texts_are)
  where
    no : [] ≡ setup.first ∷ map (λ (o : guard.Offer). o.text) setup.offers → ⊥
    no h = cc
starts law setup g (p ∷ ps) objects events given j r recorded trees number = record {
  at = record {
    recorded =
        subst (λ ts. IsRecorded ts setup.limits [] r.run) texts_are
        (subst (λ l. IsRecorded (map text_in (p ∷ ps)) l [] r.run) (sym j.limits_are) recorded);
    trees = ap (map text_of) trees ∙ j.texts_are;
    tree = p;
    numbered = ap (λ ts. slice_get ts r.text) trees ∙ ap (slice_get (p ∷ ps)) number;
    in_force = sym (first_is (map text_in (p ∷ ps)) (texts_of setup) texts_are);
  };
  patches =
      subst (λ (t : Text). ArePatches setup g.answers t.tree.definitions events) (sym first_text)
      (journal_patches j.rules setup events g j.legal);
  world = g.world;
  whole = law j.rules setup events g j.legal;
}
  where
    texts_are : map text_in (p ∷ ps) ≡ texts_of setup
    texts_are = texts_so setup (p ∷ ps) j.texts_are

    first_text : text_of p ≡ setup.first
    first_text = ap (λ ts. slice_index_or ts 0 (text_of p)) j.texts_are

    first_is : (xs ys : List (List BareDef)) → xs ≡ ys → slice_index_or xs 0 [] ≡ slice_index_or ys 0 []
    first_is xs ys e = ap (λ ts. slice_index_or ts 0 []) e

-- ---- one event more

module _ (setup : Setup) (given : List Answered) (es rest : List Event) (e : Event) where
  abbrev texts : List (List BareDef)
  texts = texts_of setup

  -- the events in two parts are those in two other parts
  parts : (es ++ e ∷ []) ++ rest ≡ es ++ e ∷ rest
  parts = append_assoc es (e ∷ []) rest

  -- an event without a move
  pub still : (r : JournalRun) → (h : IsFollowed setup given es (e ∷ rest) r) → move_by given e ≡ None
      → ArePatches setup given h.at.tree.definitions rest → IsFollowed setup given (es ++ e ∷ []) rest r
  still r h none patches = record {
    at = record {
      recorded = subst (λ ms. IsRecorded texts setup.limits ms r.run) (sym (no_move given es e none)) h.at.recorded;
      trees = h.at.trees;
      tree = h.at.tree;
      numbered = h.at.numbered;
      in_force = ap (λ ms. last_text (versions_by texts ms)) (no_move given es e none) ∙ h.at.in_force;
    };
    patches = patches;
    world = h.world;
    whole = ap (λ all. world_after texts setup.limits (moves given all)) parts ∙ h.whole;
  }

  -- a move that was made
  pub moved : (old new : JournalRun) (t : ℕ) → (h : IsFollowed setup given es (e ∷ rest) old) → move_by given e ≡ Some (source.Move t)
      → ArePatches setup given h.at.tree.definitions rest
      → IsRecorded texts setup.limits (moves given es ++ source.Move t ∷ []) new.run → KeepsTexts old.run.run new.run.run → new.text ≡ old.text
      → IsFollowed setup given (es ++ e ∷ []) rest new
  moved old new t h is patches recorded keeps same = record {
    at = record {
      recorded = subst (λ ms. IsRecorded texts setup.limits ms new.run) (sym (one_move given es e (source.Move t) is)) recorded;
      trees = ap (map text_of) keeps.0 ∙ h.at.trees;
      tree = h.at.tree;
      numbered = ap (λ ts. slice_get ts new.text) keeps.0 ∙ ap (slice_get (trees_of old.run.run)) same ∙ h.at.numbered;
      in_force =
          ap (λ ms. last_text (versions_by texts ms)) (one_move given es e (source.Move t) is)
          ∙ ap last_text (moved_versions texts (moves given es) t)
          ∙ h.at.in_force;
    };
    patches = patches;
    world = h.world;
    whole = ap (λ all. world_after texts setup.limits (moves given all)) parts ∙ h.whole;
  }

  -- a move of a legal journal can be made
  pub can : (r : JournalRun) (m : SourceMove) → IsFollowed setup given es (e ∷ rest) r → move_by given e ≡ Some m
      → world_after texts setup.limits (moves given es ++ m ∷ []) ≡ None → ⊥
  can r m h is never = none-some h.world (sym all_never ∙ h.whole)
    where
      all_never : world_after texts setup.limits (moves given (es ++ e ∷ rest)) ≡ None
      all_never =
          ap (λ all. world_after texts setup.limits (moves given all)) (sym parts)
          ∙ ap (world_after texts setup.limits) (filter_map-append (move_by given) (es ++ e ∷ []) rest)
          ∙ ap (λ ms. world_after texts setup.limits (ms ++ moves given rest)) (one_move given es e m is)
          ∙ never_more texts setup.limits (moves given es ++ m ∷ []) (moves given rest) never

-- ---- a decision

module _ (setup : Setup) (given : List Answered) (es rest : List Event) (k : ℕ) (old : JournalRun)
    (h : IsFollowed setup given es (Decide k ∷ rest) old) where
  abbrev defs : List (List BareDef)
  defs = texts_of setup

  -- the offer that is decided
  abbrev offer : guard.Offer
  offer = h.patches.0

  pub offered : offer_at setup k ≡ Some offer
  offered = h.patches.1

  -- one that wasn't installed
  pub passed_over : is_install (answer_of given k) ≡ false → IsFollowed setup given (es ++ Decide k ∷ []) rest old
  passed_over e =
      still setup given es rest (Decide k) old h (installs_none k (answer_of given k) e)
      (subst (λ d. ArePatches setup given d rest)
      (not_installed h.at.tree.definitions offer.text.tree.definitions (answer_of given k) e) h.patches.3)

  -- one that was
  module _ (e : is_install (answer_of given k) ≡ true) where
    abbrev next : (q : Program) × (slice_get (trees_of old.run.run) k ≡ Some q) × (offer.text.tree ≡ q)
    next = tree_of_offer setup (trees_of old.run.run) k offer h.at.trees offered

    abbrev pub newer : Program
    newer = next.0

    pub newer_at : slice_get (trees_of old.run.run) k ≡ Some newer
    newer_at = next.1

    so : (first_transform_fault h.at.tree.definitions offer.text.tree.definitions ≡ None)
        × (in_force_after h.at.tree.definitions offer.text.tree.definitions (answer_of given k) ≡ offer.text.tree.definitions)
    so = installed_so h.at.tree.definitions offer.text.tree.definitions (answer_of given k) e h.patches.2

    -- its transformers have no fault
    pub faultless : first_transform_fault h.at.tree.definitions newer.definitions ≡ None
    faultless = ap (λ (q : Program). first_transform_fault h.at.tree.definitions q.definitions) (sym next.2) ∙ so.0

    pub installs : move_by given (Decide k) ≡ Some (source.Install k)
    installs = installs_one k (answer_of given k) e

    -- the texts between which data changes
    newer_text : slice_index_or defs k [] ≡ text_in newer
    newer_text =
        get_or_from_slice_get defs k (text_in newer) []
        (ap (λ ts. slice_get ts k) (sym (texts_so setup (trees_of old.run.run) h.at.trees))
        ∙ slice_get-map text_in (trees_of old.run.run) k
        ∙ ap (option_map text_in) newer_at)

    pub changing_is : (changes : List Change) → map name_of changes ≡ changing (text_in h.at.tree) (text_in newer)
        → map name_of changes ≡ changing (last_text (versions_by defs (moves given es))) (slice_index_or defs k [])
    changing_is changes are =
        are ∙ ap (λ p. changing p (text_in newer)) (sym h.at.in_force)
        ∙ ap (changing (last_text (versions_by defs (moves given es)))) (sym newer_text)

    pub changes_are : (changes : List Change) → All (IsChange (text_in h.at.tree) (text_in newer)) changes
        → All (IsChange (last_text (versions_by defs (moves given es))) (slice_index_or defs k [])) changes
    changes_are changes are =
        subst (λ p. All (IsChange p (slice_index_or defs k [])) changes) (sym h.at.in_force)
        (subst (λ q. All (IsChange (text_in h.at.tree) q) changes) (sym newer_text) are)

    -- the run after its install
    pub installed : (new : JournalRun) → IsRecorded defs setup.limits (moves given es ++ source.Install k ∷ []) new.run
        → KeepsTexts old.run.run new.run.run → new.text ≡ k → IsFollowed setup given (es ++ Decide k ∷ []) rest new
    installed new recorded keeps number = record {
      at = record {
        recorded = subst (λ ms. IsRecorded defs setup.limits ms new.run) (sym one_more) recorded;
        trees = ap (map text_of) keeps.0 ∙ h.at.trees;
        tree = newer;
        numbered = ap (λ ts. slice_get ts new.text) keeps.0 ∙ ap (slice_get (trees_of old.run.run)) number ∙ newer_at;
        in_force =
            ap (λ ms. last_text (versions_by defs ms)) one_more
            ∙ ap last_text (installed_versions defs (moves given es) k)
            ∙ last_of (versions_by defs (moves given es)) (slice_index_or defs k [])
            ∙ newer_text;
      };
      patches =
          subst (λ (q : Program). ArePatches setup given q.definitions rest) next.2
          (subst (λ d. ArePatches setup given d rest) so.1 h.patches.3);
      world = h.world;
      whole = ap (λ all. world_after defs setup.limits (moves given all)) (append_assoc es (Decide k ∷ []) rest) ∙ h.whole;
    }
      where
        one_more : moves given (es ++ Decide k ∷ []) ≡ moves given es ++ source.Install k ∷ []
        one_more = one_move given es (Decide k) (source.Install k) installs

    -- the changes between both texts, asked for by their numbers
    module _ (r : SourceRun) (same : r ≡ old.run.run) (answer : Option (Vec Change Global))
        (asked : (p q : Program) → slice_get (trees_of r) old.text ≡ Some p → slice_get (trees_of r) k ≡ Some q → HasChanges p q answer) where
      answered_changes : HasChanges h.at.tree newer answer
      answered_changes =
          asked h.at.tree newer (ap (λ x. slice_get (trees_of x) old.text) same ∙ h.at.numbered)
          (ap (λ x. slice_get (trees_of x) k) same ∙ newer_at)

      -- there are some, since its transformers have no fault
      pub are_some : ((changes : Vec Change Global) → answer ≡ Some changes → ⊥) → ⊥
      are_some none = by answer none answered_changes
        where
          by : (o : Option (Vec Change Global)) → ((changes : Vec Change Global) → o ≡ Some changes → ⊥) → HasChanges h.at.tree newer o → ⊥
          by None never faulty = faulty faultless
          by (Some changes) never has = never changes refl

      -- and they are those for which an install asks
      pub are_changes : (changes : Vec Change Global) → answer ≡ Some changes → (given_changes : List Change) → given_changes ≡ changes.items
          → (map name_of given_changes ≡ changing (last_text (versions_by defs (moves given es))) (slice_index_or defs k []))
          × All (IsChange (last_text (versions_by defs (moves given es))) (slice_index_or defs k [])) given_changes
      are_changes changes is given_changes are =
          let has = subst (HasChanges h.at.tree newer) is answered_changes in (
            changing_is given_changes (ap (map name_of) are ∙ has.0),
            changes_are given_changes (subst (All (IsChange (text_in h.at.tree) (text_in newer))) (sym are) has.1),
          )

    -- it can be made
    pub can_install : (r : RecordedRun) → CameBy defs setup.limits (moves given es) (source.Install k) r CannotMove → ⊥
    can_install r came = can setup given es rest (Decide k) old (source.Install k) h installs came.1

-- ---- what a step comes to

pub stepped : (setup : Setup) (given : List Answered) (es rest : List Event) (t : ℕ) (old new : JournalRun)
    → IsFollowed setup given es (Move t ∷ rest) old → KeepsTexts old.run.run new.run.run → new.text ≡ old.text → (s : Stepped)
    → CameBy (texts_of setup) setup.limits (moves given es) (source.Move t) new.run s
    → HasFollowed setup given (es ++ Move t ∷ []) rest new s
stepped setup given es rest t old new h keeps same Done came =
    moved setup given es rest (Move t) old new t h refl h.patches came keeps same
stepped setup given es rest t old new h keeps same CannotMove came =
    can setup given es rest (Move t) old (source.Move t) h refl came.1

-- an event without a move
pub passes : (setup : Setup) (given : List Answered) (es rest : List Event) (e : Event) (r : JournalRun)
    → ((t : ℕ) × (e ≡ CheckIn t)) ⊎ (((k : ℕ) × (e ≡ Offer k)) ⊎ ((k : ℕ) × (e ≡ Withdraw k)))
    → IsFollowed setup given es (e ∷ rest) r → IsFollowed setup given (es ++ e ∷ []) rest r
passes setup given es rest e r (inl (t, is)) =
    subst (λ x. IsFollowed setup given es (x ∷ rest) r → IsFollowed setup given (es ++ x ∷ []) rest r) (sym is)
    (λ h. still setup given es rest (CheckIn t) r h refl h.patches)
passes setup given es rest e r (inr (inl (k, is))) =
    subst (λ x. IsFollowed setup given es (x ∷ rest) r → IsFollowed setup given (es ++ x ∷ []) rest r) (sym is)
    (λ h. still setup given es rest (Offer k) r h refl h.patches)
passes setup given es rest e r (inr (inr (k, is))) =
    subst (λ x. IsFollowed setup given es (x ∷ rest) r → IsFollowed setup given (es ++ x ∷ []) rest r) (sym is)
    (λ h. still setup given es rest (Withdraw k) r h refl h.patches)

-- ---- events in order

pub before_event : (setup : Setup) (given : List Answered) (events : List Event) (i : ℕ) (r : JournalRun) → i < length events
    → IsFollowed setup given (take i events) (drop i events) r
    → IsFollowed setup given (take i events) (slice_index_or events i (Move 0) ∷ drop (suc i) events) r
before_event setup given events i r within h =
    subst (λ rest. IsFollowed setup given (take i events) rest r) (drop-cons events i (Move 0) within) h

pub after_event : (setup : Setup) (given : List Answered) (events : List Event) (i : ℕ) (r : JournalRun) → i < length events
    → IsFollowed setup given (take i events ++ slice_index_or events i (Move 0) ∷ []) (drop (suc i) events) r
    → IsFollowed setup given (take (i + 1) events) (drop (i + 1) events) r
after_event setup given events i r within h =
    subst (λ n. IsFollowed setup given (take n events) (drop n events) r) (sym (add-one i))
    (subst (λ es. IsFollowed setup given es (drop (suc i) events) r) (sym (take-suc events i (Move 0) within)) h)

pub all_events : (setup : Setup) (given : List Answered) (events : List Event) (i : ℕ) (r : JournalRun) → length events ≤ i
    → IsFollowed setup given (take i events) (drop i events) r → IsFollowed setup given events [] r
all_events setup given events i r past h =
    subst (λ es. IsFollowed setup given es [] r) (take_all i events past)
    (subst (λ rest. IsFollowed setup given (take i events) rest r) (drop_all i events past) h)

-- ---- the answer

pub is_checked : (texts : List (List BareDef)) (limits : Limits) (ms : List SourceMove) (bytes : List ℕ) (r : RecordedRun)
    → (h : IsRecorded texts limits ms r) (output : List ℕ) (c : SourceAnswer)
    → option_map (λ x. x.output) (source_run texts limits ms) ≡ Some output
    → option_map (λ x. spans x.world) (source_run texts limits ms) ≡ Some (map span_of c.spans.items)
    → c.comparison ≡ comparison_of (first_difference output bytes) → IsCrosscheck texts limits ms bytes c
is_checked texts limits ms bytes r h output c printed shared compared = record {
  run = result h.run.world;
  ran = ap (option_map result) h.run.ran;
  compared =
      compared
      ∙ ap (λ o. comparison_of (first_difference o bytes)) (sym (answered (λ x. x.output) texts limits ms r.run h.run output printed));
  shared = sym (answered (λ x. spans x.world) texts limits ms r.run h.run (map span_of c.spans.items) shared);
}
