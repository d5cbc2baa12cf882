-- A step of a machine over code is a move of the source machine, or none can be made.
use Rattle.std.proofs.Common.{◌≡◌, ℕ, ◌+◌, ◌≤◌, ◌<◌, Bool, true, false, List, [], ◌∷◌, ◌++◌, drop, length, Option, None, Some, is_some, inl, inr, refl, sym, ap, subst, ◌∙◌, arith}
use Rattle.std.specs.Prelude.{◌^◌}
use Rattle.std.proofs.lemmas.List.{drop-append-le, length-append, length-drop}
use Rattle.std.proofs.lemmas.Option.{same_Some}
use Rattle.c_tree.specs.BareDef.{BareDef}
use Rattle.source_model.specs.Worlds.{Finish, Limits, World}
use Rattle.source_model.specs.Moves.{move}
use Rattle.source_model.specs.Runs.{SourceMove, Move}
use Rattle.version_laws.specs.Histories.{versions_by}
use Rattle.frame_bodies.specs.AcceptedTexts.{definitions_of}
use Rattle.source_runner.specs.SourceRuns.{world_after}
use Rattle.source_runner.proofs.AfterMoves.{moved_versions, then_move}
use Rattle.code_runs.specs.CodeThreads.{CodeWorld}
use Rattle.code_runs.specs.CodeWaits.{over}
use Rattle.code_run_laws.specs.MoveLaws.{CodeMovesAlike, CodeStaysAlike, MovesAlike, UsesWell}
use Rattle.code_run_laws.specs.WorldMatches.{WorldMatches}
use Rattle.code_install_laws.specs.InstalledTexts.{AcceptedTextsAreCoded}
use Rattle.code_install_laws.specs.UsedNames.{FieldsStayAtTheirPlaces, UsedNamesStay}
use Rattle.code_image.specs.Images.{names_in}
use Rattle.code_machine.specs.declared.machine.CodeMachine.{CodeMachine}
use Rattle.code_machine.specs.Seen.{code_world, output_of}
use Rattle.code_machine.specs.Steps.{CannotMove, Came, Moved, Stayed}
use Rattle.code_machine.specs.Versions.{IsMachineOf, IsReadyAt, MovesWell, texts_by, versions_of}
use Rattle.image_load.specs.declared.text_data.TextData.{TextData}
use Rattle.compiled_run.specs.CodeOfRuns.{IsRunOf}
use Rattle.compiled_run.specs.Needs.{NeedsOf}
use Rattle.compiled_run.proofs.LostThreads.{never_lost}
use Rattle.compiled_run.proofs.ReadyMoves.{moves_well}
use Rattle.compiled_run.proofs.RunsAfter.{at_world, unchanged}

kept_longer : (kept : ℕ) (out printed : List ℕ) → kept ≤ length out → kept ≤ length (out ++ printed)
kept_longer kept out printed h = let e = length-append out printed in omega (arith, h, e)

few_still : (kept : ℕ) (out : List ℕ) (bound : ℕ) → kept ≤ length out → kept + length (drop kept out) < bound → length out < bound
few_still kept out bound h few = let e = length-drop kept out in omega (arith, h, e, few)

module _ (texts : List (List BareDef)) (limits : Limits) (ms : List SourceMove) (m : CodeMachine) (tables : List TextData) (kept : ℕ)
    (h : IsRunOf texts limits ms m tables kept) where
  abbrev defs : List (List BareDef)
  defs = definitions_of h.versions

  abbrev own : CodeWorld
  own = code_world m

  -- ---- no move can be made

  module _ (stays_alike : CodeStaysAlike) (t : ℕ) where
    pub over_stays : is_some own.finish ≡ Bool.true → move h.world t ≡ None
    over_stays e = stays_alike h.versions (names_in texts) h.world own t h.stands (over e)

    cannot_move : UsedNamesStay → UsesWell h.world t → CannotMove defs (names_in texts) own t → move h.world t ≡ None
    cannot_move stay uses (inl stays) = stays_alike h.versions (names_in texts) h.world own t h.stands stays
    cannot_move stay uses (inr lost) = by own.finish refl
      where
        by : (o : Option Finish) → own.finish ≡ o → move h.world t ≡ None
        by None going = absurd (never_lost h.versions (names_in texts) h.world own h.stands stay t uses going lost)
        by (Some finish) ended = over_stays (ap is_some ended)

  -- ---- the move of a thread, over what is known of the world that it comes to

  module _ (t : ℕ) (needs : (w : World) → world_after texts limits (ms ++ Move t ∷ []) ≡ Some w → NeedsOf texts limits (ms ++ Move t ∷ [])) where
    pub uses_well : UsesWell h.world t
    uses_well after e =
        let ran = then_move texts limits ms t h.world h.ran ∙ e in
        let n = needs after ran in
        ap (λ (w : World). w.misused) (same_Some after n.world (sym ran ∙ n.ran)) ∙ n.used_well

    -- so it is ready
    pub ready : FieldsStayAtTheirPlaces → IsReadyAt texts m t
    ready stay = record {
      run_is = h.machine_is;
      well =
          subst (λ (ts : List (List BareDef)). MovesWell ts (names_in texts) own t) (sym h.installed)
          (moves_well h.versions (names_in texts) h.world own h.stands stay t uses_well);
    }

    module _ (new : CodeMachine) (of : IsMachineOf texts new) (versions : versions_of new ≡ versions_of m) where
      -- none was made
      pub stayed : CodeStaysAlike → UsedNamesStay → Stayed defs (names_in texts) t own (code_world new) (output_of m) (output_of new)
          → IsRunOf texts limits ms new tables kept × (world_after texts limits (ms ++ Move t ∷ []) ≡ None)
      stayed stays_alike stay s = (
        unchanged texts limits ms m tables kept h new of versions s.world s.output,
        then_move texts limits ms t h.world h.ran ∙ cannot_move stays_alike t stay uses_well s.cannot,
      )

      -- it was made
      module _ (laws : CodeMovesAlike) (coded : AcceptedTextsAreCoded)
          (moved : Moved defs (names_in texts) t own (code_world new) (output_of m) (output_of new)) where
        made : MovesAlike h.versions (names_in texts) h.world t (code_world new) moved.printed
        made =
            laws h.versions (names_in texts) h.world own t moved.thread (code_world new) moved.printed h.stands uses_well moved.going moved.lives
            moved.ready moved.moves

        after : World
        after = made.after

        ran_on : world_after texts limits (ms ++ Move t ∷ []) ≡ Some after
        unfolding after
        ran_on = then_move texts limits ms t h.world h.ran ∙ made.moves

        -- what it printed comes after what was printed before
        told : after.output ≡ h.world.output ++ moved.printed
        unfolding after
        told = made.output

        matches : WorldMatches defs (names_in texts) after (code_world new)
        unfolding after
        matches = made.matches

        shown_more : output_of new ≡ drop kept after.output
        shown_more =
            moved.output ∙ ap (λ (o : List ℕ). o ++ moved.printed) h.output_is
            ∙ sym (drop-append-le kept h.world.output moved.printed h.within) ∙ ap (drop kept) (sym told)

        same_versions : defs ≡ versions_by texts (ms ++ Move t ∷ [])
        same_versions = sym h.are ∙ sym (moved_versions texts ms t)

        within : kept ≤ length after.output
        within = subst (λ (o : List ℕ). kept ≤ length o) (sym told) (kept_longer kept h.world.output moved.printed h.within)

        pub went : kept + length (output_of new) < 2 ^ 64 → IsRunOf texts limits (ms ++ Move t ∷ []) new tables kept
        went few =
            at_world coded texts limits (ms ++ Move t ∷ []) (needs after ran_on) new tables kept of h.tables_are
            (ap (texts_by texts) versions ∙ h.installed ∙ same_versions) after ran_on
            (subst (λ (ts : List (List BareDef)). WorldMatches ts (names_in texts) after (code_world new)) same_versions matches) within shown_more
            (few_still kept after.output (2 ^ 64) within (subst (λ (o : List ℕ). kept + length o < 2 ^ 64) shown_more few))

      -- ---- by the answer of a machine

      pub stayed_so : CodeStaysAlike → UsedNamesStay → (answer : Bool) → answer ≡ false → Came texts m t new answer
          → IsRunOf texts limits ms new tables kept × (world_after texts limits (ms ++ Move t ∷ []) ≡ None)
      stayed_so stays_alike stay answer isnt came =
          stayed stays_alike stay
          (subst (λ (ts : List (List BareDef)). Stayed ts (names_in texts) t own (code_world new) (output_of m) (output_of new)) h.installed
          (subst (Came texts m t new) isnt came))

      pub went_so : CodeMovesAlike → AcceptedTextsAreCoded → (answer : Bool) → answer ≡ true → Came texts m t new answer
          → kept + length (output_of new) < 2 ^ 64 → IsRunOf texts limits (ms ++ Move t ∷ []) new tables kept
      went_so laws coded answer was came few =
          went laws coded
          (subst (λ (ts : List (List BareDef)). Moved ts (names_in texts) t own (code_world new) (output_of m) (output_of new)) h.installed
          (subst (Came texts m t new) was came)) few
