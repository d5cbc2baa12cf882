use Rattle.std.proofs.Common.{◌∙◌}
use Rattle.dsu_runs.specs.Setups.{setup_of}
use Rattle.reported_runs.proofs.DefinedUses.{lacks_memory}
use Rattle.gen_job.proofs.job.run_plain.Goals as goal

pub returns-in-Ok : goal.returns-in-Ok
returns-in-Ok g c =
    let offers = c.args.offers in
    c.run_engine.ensures tt (setup_of c.args.program offers.programs.items offers.lines.items 4096) c.requires.accepted c.in-Ok.ensures.start
    (c.deref.ensures.value ∙ c.requires.offer)

pub stop_before-requires : goal.stop_before-requires
stop_before-requires g c =
    let offers = c.args.offers in
    lacks_memory c.args.program offers.programs.items offers.lines.items 4096 c.requires.accepted c.in-Err.failed.why c.in-Err.ensures.fault
