use Rattle.std.proofs.Common.{Some, None}
use Rattle.source_programs.specs.Programs.{table_of}
use Rattle.source_runner.specs.Machines.{enter_with}
use Rattle.source_runner.proofs.Spawns.{free_at, free_there, starts, starts_none}
use Rattle.source_runner.proofs.machine.Machine.start.Goals as goal

pub returns-in_ok-put-in-Some-clause-started : goal.returns-in_ok-put-in-Some-clause-started
returns-in_ok-put-in-Some-clause-started c = λ w before but.
    let m = c.args.self.now in
    starts m c.put.new.self c.args.slot c.in-Some.place w before c.args.name c.args.argument c.args.version but
    (free_at _ _ (Some c.in-Some.place) _ c.as_slice.ensures.value c.free_slot.ensures.least c.in-Some.is)
    (free_there _ _ c.in-Some.place c.as_slice.ensures.value c.in-Some.ensures.free) c.in_ok-put-in-Some.ensures.put

pub returns-in-None-clause-started : goal.returns-in-None-clause-started
returns-in-None-clause-started c = λ w before but.
    let m = c.args.self.now in
    starts_none m c.args.slot w before (enter_with (table_of m.program) c.args.name c.args.argument c.args.version) but
    (free_at _ _ None _ c.as_slice.ensures.value c.free_slot.ensures.least c.in-None.is)
