use Rattle.std.proofs.Common.{ℕ, List, Option, subst, sym}
use Rattle.bytecode.specs.declared.instr.Instr.{Instr}
use Rattle.bytecode.specs.Seen.{code_of}
use Rattle.thread_state.specs.Bursts.{Bursts}
use Rattle.thread_state.specs.Frames.{state_at}
use Rattle.thread_state.specs.Heights.{Sound}
use Rattle.verified_code.proofs.unit.CodeUnit.burst.Goals as goal

pub burst-requires-clause-sound : goal.burst-requires-clause-sound
burst-requires-clause-sound c = λ t.
    let unit = c.args.self.now in
    subst (λ (hs : List (Option ℕ)). Sound (code_of t c.as_slice.result.now) unit.verified.body.room hs) (sym c.as_slice-2.ensures.value)
    (subst (λ (is : List Instr). Sound (code_of t is) unit.verified.body.room unit.verified.heights.items) (sym c.as_slice.ensures.value)
    (unit.executable.sound t))

pub returns-clause-ends : goal.returns-clause-ends
returns-clause-ends c = λ t.
    let unit = c.args.self.now in
    let room = unit.verified.body.room in
    subst (λ (is : List Instr). Bursts (code_of t is) (state_at c.args.words.now c.args.base room c.args.place c.args.height) c.burst.result.end
    (state_at c.burst.new.words c.args.base room c.burst.result.place c.burst.result.height)) c.as_slice.ensures.value (c.burst.ensures.ends t)
