use Rattle.std.proofs.Common.{ℕ, List, Option, sym, subst, arith}
use Rattle.bytecode.specs.declared.instr.Instr.{Instr}
use Rattle.bytecode.specs.Seen.{code_of}
use Rattle.code_kinds.specs.WellFormed.{most_variables}
use Rattle.thread_state.specs.Bursts.{Bursts}
use Rattle.thread_state.specs.Frames.{state_at}
use Rattle.thread_state.specs.Heights.{Sound}
use Rattle.fused_code.specs.Fused.{AreFused}
use Rattle.code_machine.specs.Seen.{words_of}
use Rattle.code_machine.proofs.TakenWork.{is_done}
use Rattle.code_machine.proofs.copies.execute.Goals as goal

pub burst-requires-clause-sound : goal.burst-requires-clause-sound
burst-requires-clause-sound c = λ t.
    let g = c.function-function.result.now in
    subst (λ (hs : List (Option ℕ)). Sound (code_of t c.as_slice-2.result.now) most_variables hs) (sym c.as_slice-heights.ensures.value)
    (subst (λ (is : List Instr). Sound (code_of t is) most_variables g.verified.heights.items) (sym c.as_slice-2.ensures.value) (g.fits.sound t))

pub burst-requires-clause-fused : goal.burst-requires-clause-fused
burst-requires-clause-fused c =
    let g = c.function-function.result.now in
    let code = g.verified.body.code.items in
    let heights = g.verified.heights.items in
    subst (λ (is : List Instr). AreFused is most_variables c.as_slice-heights.result.now c.as_slice.result.now) (sym c.as_slice-2.ensures.value)
    (subst (λ (hs : List (Option ℕ)). AreFused code most_variables hs c.as_slice.result.now) (sym c.as_slice-heights.ensures.value)
    (subst (AreFused code most_variables heights) (sym c.as_slice.ensures.value) g.fused))

pub returns-clause-done : goal.returns-clause-done
returns-clause-done c =
    let image = c.args.image.now in
    let from = c.args.from in
    let g = c.function-function.result.now in
    let r = c.burst.result in
    is_done image from c.args.before.now c.burst.new.words g r.end r.place r.height (omega (arith, c.if-from-len.false, c.len.ensures, image.functions.ok.0)) c.function-function.ensures
    (subst (λ (is : List Instr). Bursts (code_of (words_of image) is) (state_at c.args.before.now 0 most_variables from.place from.height) r.end (state_at c.burst.new.words 0 most_variables r.place r.height)) c.as_slice-2.ensures.value
    (subst (λ (ws : List ℕ). Bursts (code_of (words_of image) c.as_slice-2.result.now) (state_at ws 0 most_variables from.place from.height) r.end (state_at c.burst.new.words 0 most_variables r.place r.height)) c.copy_from_slice.ensures.after
    (c.burst.ensures.ends (words_of image))))
