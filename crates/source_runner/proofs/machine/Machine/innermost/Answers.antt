use Rattle.std.proofs.Common.{rules}
use Rattle.source_programs.specs.Programs.{table_of}
use Rattle.source_runner.proofs.Looking.{innermost_halts}
use Rattle.source_runner.proofs.machine.Machine.innermost.Goals as goal

pub returns-in-Some-Live-default-Halt : goal.returns-in-Some-Live-default-Halt
returns-in-Some-Live-default-Halt c = λ w h going.
    let m = c.args.self.now in
    let there = c.in-Some-Live-default-Halt in
    innermost_halts m w c.args.slot there.field-0-0 there.field-0-1 there.frame there.field-0-1-1 c.of.result h going (search rules)
    there.field-0-1-is (c.of.ensures (table_of m.program))
