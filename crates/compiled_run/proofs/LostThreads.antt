-- No thread of code is lost in a run that misuses nothing.
use Rattle.std.proofs.Common.{◌≡◌, ℕ, true, false, List, Option, None, Some, inl, inr, sym, subst, ◌∙◌}
use Rattle.c_tree.specs.BareExpr.{Bytes}
use Rattle.c_tree.specs.BareDef.{BareDef, Function}
use Rattle.c_semantics.specs.Changes.{agree, same_interface}
use Rattle.c_semantics.specs.SourceTexts.{Text}
use Rattle.c_semantics.specs.Texts.{definition}
use Rattle.c_semantics.specs.Threads.{next_of}
use Rattle.source_model.specs.Worlds.{World, in_slot}
use Rattle.version_laws.specs.Histories.{last_text, text_in}
use Rattle.frame_bodies.specs.AcceptedTexts.{definitions_of}
use Rattle.typed_trees.specs.ExpressionTypes.{IsFunction}
use Rattle.typed_runs.specs.TypedFrames.{result_in, version_in}
use Rattle.typed_runs.specs.TypedWorlds.{tags_of}
use Rattle.typed_runs.proofs.SameUses.{SameUse, same_use}
use Rattle.bytecode.specs.Words.{Naming}
use Rattle.code_runs.specs.CodeData.{Names}
use Rattle.code_runs.specs.CodeThreads.{CodeNext, CodeWorld}
use Rattle.code_runs.specs.CodeMoves.{frame_code}
use Rattle.code_runs.specs.CodeWaits.{WaitsNext, entering}
use Rattle.code_runs.specs.CodeWaits as code
use Rattle.code_run_laws.specs.MoveLaws.{Stands, UsesWell}
use Rattle.code_run_laws.specs.ThreadMatches.{NextMatches, SlotMatches}
use Rattle.code_run_laws.proofs.SlotsMatching.{lives_as, slot_matching}
use Rattle.code_install_laws.specs.UsedNames.{UsedNamesStay, UsesNext, at_enter}
use Rattle.code_image.specs.Images.{has_body}
use Rattle.code_machine.specs.Steps.{EntersNone, IsLost, RestsNowhere}
use Rattle.compiled_run.proofs.Resting.{enters_alike, not_lost, rests_alike}

-- what is a function has a body
no_function : (d : Option BareDef) → IsFunction d → has_body d ≡ false → ⊥
no_function (Some (Function result name parameters body)) is e = cc
no_function _ is e = absurd is

module _ (texts : List Text) (names : Names) (w : World) (own : CodeWorld) (s : Stands texts names w own) where
  abbrev defs : List (List BareDef)
  defs = definitions_of texts

  abbrev tags : List Bytes
  tags = tags_of w.objects

  abbrev naming : Naming
  naming = s.matches.naming

  -- slots match as long as the run goes on
  pub matching : w.finish ≡ None → (t : ℕ) → SlotMatches defs tags naming (in_slot w t) (code.in_slot own t)
  matching going t = slot_matching defs tags naming w.slots own.slots t (s.matches.slots going)

  -- none rests where code has no stop
  pub never_nowhere : w.finish ≡ None → (t : ℕ) → RestsNowhere defs own t → ⊥
  never_nowhere going t lost =
      let lives = lives_as defs tags naming (in_slot w t) (code.in_slot own t) lost.thread lost.lives (matching going t) in
      let rests = rests_alike defs tags naming lives.thread lost.frame lost.thread.below
      (subst (λ n. NextMatches defs tags naming lives.thread.entering lives.thread.frames n lost.thread.below) lost.next lives.matches.next) in
      not_lost (frame_code defs lost.frame) (version_in defs rests.frame.version) (result_in defs rests.frame.version rests.frame.function) tags
      naming lost.frame.state (next_of rests.frame) rests.rests lost.traps lost.stops

  -- none enters a function that the last text doesn't have: that would misuse its name
  module _ (stay : UsedNamesStay) (t : ℕ) (uses : UsesWell w t) (going : own.finish ≡ None) (lost : EntersNone defs own t) where
    is_function : IsFunction (definition (text_in defs lost.enter.version) lost.enter.function)
    is_function =
        let lives = lives_as defs tags naming (in_slot w t) (code.in_slot own t) lost.thread lost.lives (matching (sym s.matches.finish ∙ going) t) in
        let enters = enters_alike defs tags naming lives.thread lost.enter lost.thread.below
        (subst (λ n. NextMatches defs tags naming lives.thread.entering lives.thread.frames n lost.thread.below) lost.next lives.matches.next) in
        subst (λ (v : ℕ). IsFunction (definition (text_in defs v) lost.enter.function)) (sym enters.matches.version)
        (subst (λ (f : Bytes). IsFunction (definition (text_in defs enters.enter.version) f)) (sym enters.matches.function)
        enters.matches.typed.function)

    stays : agree same_interface (definition (text_in defs lost.enter.version) lost.enter.function)
        (definition (last_text defs) lost.enter.function) ≡ true
    stays =
        stay texts names w own t lost.thread lost.enter.version lost.enter.function s uses going lost.lives
        (subst (λ (x : CodeNext). WaitsNext defs names own t x None) (sym lost.next) (entering lost.enter))
        (subst (λ (x : CodeNext). UsesNext defs x lost.enter.version lost.enter.function) (sym lost.next) (at_enter lost.enter))

    pub never_enters_none : ⊥
    never_enters_none =
        let same : SameUse (definition (text_in defs lost.enter.version) lost.enter.function) (definition (last_text defs) lost.enter.function) =
        same_use _ _ stays in
        no_function (definition (last_text defs) lost.enter.function) (same.function is_function) lost.none

  pub never_lost : UsedNamesStay → (t : ℕ) → UsesWell w t → own.finish ≡ None → IsLost defs own t → ⊥
  never_lost stay t uses going (inl nowhere) = never_nowhere (sym s.matches.finish ∙ going) t nowhere
  never_lost stay t uses going (inr none) = never_enters_none stay t uses going none
