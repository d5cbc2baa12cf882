use Rattle.std.proofs.Common.{subst}
use Rattle.source_runner.specs.declared.machine.Finish.TheVariants.{Finished}
use Rattle.source_programs.specs.Programs.{table_of}
use Rattle.local_evaluation.specs.Values.{seen}
use Rattle.source_runner.specs.Machines.{Stands}
use Rattle.source_runner.proofs.Calls.{finish_main}
use Rattle.source_runner.proofs.Halted.{finished, or_true, with_same}
use Rattle.source_runner.proofs.Stopping.{moves_as}
use Rattle.source_runner.proofs.Stored.{trapped}
use Rattle.source_runner.proofs.machine.Machine.finish.Goals as goal

pub returns-then-slot-eq0-clause-moves : goal.returns-then-slot-eq0-clause-moves
returns-then-slot-eq0-clause-moves c = λ w before user point but used had.
    let m = c.args.self.now in
    let t = table_of m.program in
    let end = finished m c.args.slot w before (Finished c.number_of.result) but in
    moves_as _ w _ _ _
    (finish_main t w c.args.slot c.args.thread c.args.frame point user (seen c.args.value) _ c.if-slot-eq0.true c.number_of.ensures)
    (record {
      came = subst (λ v. Stands c.keep.new.self v) (with_same _ _ _ before end)
          (c.keep.ensures.stands _ before before end (trapped t c.args.thread _ before.frames _ before (or_true w.misused) had));
    })
