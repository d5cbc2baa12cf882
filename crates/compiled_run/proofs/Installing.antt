-- The install of a newer text in a run over code.
use Rattle.std.proofs.Common.{◌≡◌, ℕ, zero, suc, ◌≤◌, ◌<◌, ◌||◌, Bool, true, false, List, [], ◌∷◌, ◌++◌, drop, length, slice_get, slice_index_or, All, Option, None, Some, is_some, refl, sym, ap, ap₂, subst, ◌∙◌, arith, if◌then◌else◌}
use Rattle.std.specs.Prelude.{MatchOption, OnErr, Result, Ok, Err}
use Rattle.std.proofs.lemmas.List.{map-append}
use Rattle.std.proofs.lemmas.List.Elements.{All-head, All-tail}
use Rattle.std.proofs.lemmas.Option.{slice_get-get_or, slice_get_past, slice_get_within}
use Rattle.c_tree.specs.BareDef.{BareDef}
use Rattle.c_semantics.specs.SourceTexts.{Text}
use Rattle.source_model.specs.Installs.{installed}
use Rattle.source_model.specs.Runs.{SourceMove, Install, install}
use Rattle.source_model.specs.Worlds.{Finish, Limits, World, is_over}
use Rattle.version_laws.specs.Histories.{last_text, versions_by}
use Rattle.frame_bodies.specs.AcceptedTexts.{definitions_of}
use Rattle.typed_runs.proofs.AcceptedWorlds.{each_has}
use Rattle.source_runner.specs.SourceRuns.{world_after}
use Rattle.source_runner.proofs.AfterMoves.{installed_versions, then_install}
use Rattle.code_runs.specs.CodeInstalls.{Installs}
use Rattle.code_runs.specs.CodeThreads.{CodeWorld}
use Rattle.code_run_laws.specs.MoveLaws.{CodeInstallsAlike}
use Rattle.code_run_laws.specs.WorldMatches.{WorldMatches}
use Rattle.code_run_laws.proofs.NameNumbers.{number_is}
use Rattle.code_run_laws.proofs.SmallTexts.{few_fields}
use Rattle.code_install_laws.specs.InstalledTexts.{AcceptedTextsAreCoded}
use Rattle.word_layouts.specs.WordChanges.{AreChangesOf, HasFewFields}
use Rattle.word_layouts.specs.declared.layouts.VersionChanges.{VersionChanges}
use Rattle.word_installs.specs.NewRows.{AreNewRows}
use Rattle.word_installs.specs.Prepared.{ArePrepared}
use Rattle.word_installs.specs.declared.rows.NewRow.{NewRow}
use Rattle.code_image.specs.Images.{names_in}
use Rattle.code_machine.specs.declared.machine.CodeMachine.{CodeMachine}
use Rattle.code_machine.specs.Seen.{code_world, output_of}
use Rattle.code_machine.specs.Versions.{IsMachineOf, texts_by, versions_of}
use Rattle.image_load.specs.declared.text_data.TextData.{TextData}
use Rattle.image_load.specs.TextTables.{IsDataOf}
use Rattle.compiled_run.specs.CodeOfRuns.{IsRunOf}
use Rattle.compiled_run.specs.Needs.{NeedsOf}
use Rattle.compiled_run.proofs.RunsAfter.{at_world}

-- ---- texts

-- a text has the last of some definitions
pub last_of : (texts : List Text) (before : List (List BareDef)) (q : List BareDef) → definitions_of texts ≡ before ++ q ∷ []
    → (t : Text) × (t.definitions ≡ q)
last_of [] [] q e = cc
last_of [] (d ∷ before) q e = cc
last_of (t ∷ texts) [] q e = (t, ap (λ (ds : List (List BareDef)). slice_index_or ds 0 q) e)
last_of (t ∷ texts) (d ∷ before) q e = last_of texts before q (ap (drop 1) e)

-- what holds of each of some holds of the last
last_has : (P : List BareDef → Type 0) (before : List (List BareDef)) (q : List BareDef) → All P (before ++ q ∷ []) → P q
last_has P [] q h = All-head P q [] h
last_has P (d ∷ before) q h = last_has P before q (All-tail P d (before ++ q ∷ []) h)

-- what `get` answers
pub past_there : {A : Type 0} {B : Type 0} (o : Option A) (xs : List B) (n : ℕ) (Q : A → Type 0) → ((x : A) → o ≡ Some x → ⊥)
    → MatchOption o (length xs ≤ n) Q → slice_get xs n ≡ None
past_there None xs n Q none h = slice_get_past xs n h
past_there (Some x) xs n Q none h = absurd (none x refl)

pub on_err : {A E : Type 0} (r : Result A E) (P : Type 0) → P → OnErr r P
on_err (Ok x) P p = tt
on_err (Err e) P p = p

-- a world that has ended is over
over_if : (b : Bool) (o : Option Finish) → is_some o ≡ true → (b || is_some o) ≡ true
over_if true o e = refl
over_if false o e = e

-- ---- what is prepared

module _ (texts : List (List BareDef)) (limits : Limits) (ms : List SourceMove) (m : CodeMachine) (tables : List TextData) (kept : ℕ)
    (h : IsRunOf texts limits ms m tables kept) where
  abbrev own : CodeWorld
  own = code_world m

  -- the last text
  last_is : last_text (texts_by texts (versions_of m)) ≡ last_text (versions_by texts ms)
  last_is = ap last_text (h.installed ∙ sym h.are)

  -- the tables of a text with a number, and of that in force
  pub table_is : (k : ℕ) (text : List BareDef) (d : TextData) → slice_get texts k ≡ Some text → slice_get tables k ≡ Some d
      → IsDataOf (names_in texts) text d
  table_is k text d at there = h.tables_are.each k text d at there

  pub old_table : (k : ℕ) (d : TextData) → slice_get texts k ≡ Some (last_text (texts_by texts (versions_of m))) → slice_get tables k ≡ Some d
      → IsDataOf (names_in texts) (last_text (versions_by texts ms)) d
  old_table k d at there = subst (λ (p : List BareDef). IsDataOf (names_in texts) p d) last_is (table_is k _ d at there)

  -- changes from the last text
  pub changes_are : (q : List BareDef) (changes : VersionChanges)
      → AreChangesOf (last_text (versions_by texts ms)) q (names_in texts).tags changes
      → AreChangesOf (last_text (texts_by texts (versions_of m))) q (names_in texts).tags changes
  changes_are q changes h = subst (λ (p : List BareDef). AreChangesOf p q (names_in texts).tags changes) (sym last_is) h

  -- globals and arrays have places
  pub prepared : (q : List BareDef) (d : TextData) → IsDataOf (names_in texts) q d → (rows : List NewRow)
      → AreNewRows (names_in texts).cells (last_text (versions_by texts ms)) q own.shared rows
      → ArePrepared (texts_by texts (versions_of m)) (names_in texts) q own.shared rows d.gone.items
  prepared q d is rows new = record {
    places = λ name x defined cells.
        let at = number_is (names_in texts).cells name (is.rows.numbered name x defined cells) in
        let inside = at.within in
        let long = h.stands.matches.shared.rows in
        omega (arith, inside, long);
    words = subst (λ (p : List BareDef). AreNewRows (names_in texts).cells p q own.shared rows) (sym last_is) new;
    mutexes = is.gone;
  }

  -- ---- an install that was made

  module _ (k : ℕ) (q : List BareDef) (there : slice_get texts k ≡ Some q) (is : slice_index_or texts k [] ≡ q)
      (going : is_over h.world ≡ false)
      (needs : (w : World) → world_after texts limits (ms ++ Install k ∷ []) ≡ Some w → NeedsOf texts limits (ms ++ Install k ∷ [])) where
    after : World
    after = installed q h.world

    ran_on : world_after texts limits (ms ++ Install k ∷ []) ≡ Some after
    unfolding after
    ran_on =
        then_install texts limits ms k h.world h.ran ∙ ap (install h.world) there
        ∙ ap (λ (b : Bool). if b then None else Some (installed q h.world)) going

    newer : versions_by texts (ms ++ Install k ∷ []) ≡ versions_by texts ms ++ q ∷ []
    newer = installed_versions texts ms k ∙ ap (λ (x : List BareDef). versions_by texts ms ++ x ∷ []) is

    -- the text is accepted, so no struct has too many fields
    pub few : HasFewFields q
    few =
        let n = needs after ran_on in
        last_has HasFewFields (versions_by texts ms) q
        (subst (All HasFewFields) (sym n.are ∙ newer) (each_has HasFewFields (λ text a tag. few_fields text tag a) n.versions n.accepted))

    module _ (alike : CodeInstallsAlike) (coded : AcceptedTextsAreCoded) (new : CodeMachine) (of : IsMachineOf texts new)
        (versions : versions_of new ≡ versions_of m ++ k ∷ []) (output : output_of new ≡ output_of m)
        (installs : Installs (texts_by texts (versions_of m)) (names_in texts) q own (code_world new)) where
      -- a text with these definitions
      whole : (t : Text) × (t.definitions ≡ q)
      whole = let n = needs after ran_on in last_of n.versions (versions_by texts ms) q (sym n.are ∙ newer)

      matches : WorldMatches (versions_by texts (ms ++ Install k ∷ [])) (names_in texts) after (code_world new)
      unfolding after
      matches =
          let t = whole in
          let own_installs : Installs (definitions_of h.versions) (names_in texts) t.0.definitions own (code_world new) =
          subst (λ (x : List BareDef). Installs (definitions_of h.versions) (names_in texts) x own (code_world new)) (sym t.1)
          (subst (λ (ts : List (List BareDef)). Installs ts (names_in texts) q own (code_world new)) h.installed installs) in
          let made = alike h.versions t.0 (names_in texts) h.world own (code_world new) h.stands own_installs in
          let defs_are : definitions_of (h.versions ++ t.0 ∷ []) ≡ versions_by texts (ms ++ Install k ∷ []) =
          map-append (λ (x : Text). x.definitions) h.versions (t.0 ∷ [])
          ∙ ap₂ (λ (ts : List (List BareDef)) (x : List BareDef). ts ++ x ∷ []) (sym h.are) t.1 ∙ sym newer in
          subst (λ (ts : List (List BareDef)). WorldMatches ts (names_in texts) (installed q h.world) (code_world new)) defs_are
          (subst (λ (x : List BareDef). WorldMatches (definitions_of (h.versions ++ t.0 ∷ [])) (names_in texts) (installed x h.world) (code_world new))
          t.1 made)

      texts_are : texts_by texts (versions_of new) ≡ versions_by texts (ms ++ Install k ∷ [])
      texts_are =
          ap (texts_by texts) versions ∙ map-append (λ (n : ℕ). slice_index_or texts n []) (versions_of m) (k ∷ [])
          ∙ ap₂ (λ (ts : List (List BareDef)) (x : List BareDef). ts ++ x ∷ []) (h.installed ∙ sym h.are) is ∙ sym newer

      pub went : IsRunOf texts limits (ms ++ Install k ∷ []) new tables kept
      unfolding after
      went =
          at_world coded texts limits (ms ++ Install k ∷ []) (needs after ran_on) new tables kept of h.tables_are texts_are after ran_on matches
          h.within (output ∙ h.output_is) h.few

  -- ---- a text that is there

  pub text_there : (k : ℕ) (d : TextData) → slice_get tables k ≡ Some d → slice_get texts k ≡ Some (slice_index_or texts k [])
  text_there k d at =
      let inside = slice_get_within tables k d at in
      let many = h.tables_are.many in
      let within : k < length texts = omega (arith, inside, many) in
      slice_get-get_or texts k [] within

  pub table_there : (k : ℕ) (q : List BareDef) → slice_get texts k ≡ Some q → slice_get tables k ≡ None → ⊥
  table_there k q at none =
      let inside = slice_get_within texts k q at in
      let many = h.tables_are.many in
      let within : k < length tables = omega (arith, inside, many) in
      none_at tables k within none
    where
      none_at : (ds : List TextData) (n : ℕ) → n < length ds → slice_get ds n ≡ None → ⊥
      none_at [] n lt none = absurd (omega (arith, lt))
      none_at (d ∷ ds) zero lt none = cc
      none_at (d ∷ ds) (suc n) lt none = let inside : n < length ds = omega (arith, lt) in none_at ds n inside none

  pub runs_on : own.finish ≡ None → is_over h.world ≡ false
  runs_on going = ap₂ (λ (a : Bool) (o : Option Finish). a || is_some o) h.stands.matches.used_well (sym h.stands.matches.finish ∙ going)

  -- ---- where none can be made

  pub ended : (k : ℕ) → is_some own.finish ≡ true → world_after texts limits (ms ++ Install k ∷ []) ≡ None
  ended k over = then_install texts limits ms k h.world h.ran ∙ by (slice_get texts k)
    where
      by : (o : Option (List BareDef)) → install h.world o ≡ None
      by None = refl
      by (Some x) =
          ap (λ (b : Bool). if b then None else Some (installed x h.world))
          (over_if h.world.misused h.world.finish (ap is_some (sym h.stands.matches.finish) ∙ over))

  pub no_text : (k : ℕ) → slice_get tables k ≡ None → world_after texts limits (ms ++ Install k ∷ []) ≡ None
  no_text k none =
      then_install texts limits ms k h.world h.ran ∙ ap (install h.world) (none_there tables texts k h.tables_are.many none)
    where
      none_there : (ds : List TextData) (ts : List (List BareDef)) (n : ℕ) → length ds ≡ length ts → slice_get ds n ≡ None → slice_get ts n ≡ None
      none_there [] [] n e none = refl
      none_there [] (t ∷ ts) n e none = cc
      none_there (d ∷ ds) [] n e none = refl
      none_there (d ∷ ds) (t ∷ ts) zero e none = cc
      none_there (d ∷ ds) (t ∷ ts) (suc n) e none = let same : length ds ≡ length ts = omega (arith, e) in none_there ds ts n same none
