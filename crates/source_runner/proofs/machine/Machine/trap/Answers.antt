use Rattle.std.proofs.Common.{true}
use Rattle.source_runner.specs.declared.machine.Finish.TheVariants.{Trapped}
use Rattle.source_runner.proofs.Halted.{finished, halted_thread, or_true}
use Rattle.source_runner.proofs.machine.Machine.trap.Goals as goal

pub returns-clause-moves : goal.returns-clause-moves
returns-clause-moves c = λ w before after h is.
    let end = Trapped c.args.kind c.args.slot in
    record { came = c.keep.ensures.stands _ before after (finished _ _ w before end h) (halted_thread _ true _ _ _ _ _ (or_true w.misused) is) }
