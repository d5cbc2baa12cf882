use Rattle.source_programs.specs.Programs.{table_of}
use Rattle.source_runner.proofs.Calls.{newest_at}
use Rattle.source_runner.proofs.Spawns.{spawn_as}
use Rattle.source_runner.proofs.Stopping.{moves_as}
use Rattle.source_runner.proofs.machine.Machine.spawn.Goals as goal

pub returns-in-Some-clause-moves : goal.returns-in-Some-clause-moves
returns-in-Some-clause-moves c = λ w before user at.
    let m = c.args.self.now in
    moves_as _ w _ _ _
    (spawn_as (table_of m.program) w c.args.at.slot c.args.at.thread c.args.at.frame c.args.at.point user c.args.name c.in-Some.argument
    (newest_at _ _ c.in-Some.argument c.as_slice.ensures.value c.in-Some.ensures))
    (c.spawn_with.ensures.moves w before user at)
