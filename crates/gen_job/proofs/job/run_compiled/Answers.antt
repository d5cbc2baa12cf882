use Rattle.std.proofs.Common.{◌∙◌}
use Rattle.dsu_runs.specs.Setups.{setup_of}
use Rattle.gen_job.proofs.job.run_compiled.Goals as goal

pub returns-in-Ok : goal.returns-in-Ok
returns-in-Ok g c =
    let offers = c.args.offers in
    c.run_engine.ensures c.in-Ok.ensures.asked (setup_of c.args.program offers.programs.items offers.lines.items 4096) c.requires.accepted c.in-Ok.ensures.start
    (c.deref.ensures.value ∙ c.requires.offer)

pub stop_before-requires : goal.stop_before-requires
stop_before-requires g c = c.in-Err.ensures.fault
