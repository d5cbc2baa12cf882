use Rattle.std.proofs.Common.{None, refl}
use Rattle.source_model.specs.Guards.{first_guard}
use Rattle.dsu_runs.specs.declared.live.Live.{Live}
use Rattle.dsu_runs.proofs.Finishing.{live_first, whole}
use Rattle.dsu_runs.proofs.solo_run.solo.Goals as goal

pub returns-clause-ran : goal.returns-clause-ran
returns-clause-ran g c = λ asks setup start.
    let e = g.E.Engine in
    let live : Live g.row.E.Denot = record { engine = c.args.engine; history = c.new.result; last = None; left = c.args.moves } in
    whole setup (e.is_at setup) e.told e.faults live c.finish.result c.new.ensures.items refl
    (c.finish.ensures.ran asks setup (first_guard setup) (live_first setup (e.is_at setup) live c.new.ensures.items start))
