use Rattle.program_gen.specs.Shown.{call_of}
use Rattle.program_gen.proofs.Growing.{lines_more}
use Rattle.program_gen.proofs.texts.add_calls.Goals as goal

pub loop-function-preserved : goal.loop-function-preserved
loop-function-preserved c =
    lines_more call_of _ _ _ c.args.functions.now c.loop-function.function-index _ c.loop-function-test.true c.loop-function.invariant
    c.in_ok-add_call.ensures
