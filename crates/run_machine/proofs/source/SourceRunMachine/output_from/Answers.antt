use Rattle.std.proofs.Common.{◌<◌, arith, length}
use Rattle.std.specs.Prelude.{◌^◌}
use Rattle.run_machine.proofs.Printed.{few, none_missing, rest_is}
use Rattle.run_machine.proofs.source.SourceRunMachine.output_from.Goals as goal

pub returns-then-output-from-clause-rest : goal.returns-then-output-from-clause-rest
returns-then-output-from-clause-rest c = λ texts limits moves w run reached kept within.
    absurd (none_missing texts limits moves w c.output-output.result.now reached (c.output-output.ensures texts limits moves run) c.args.from within
    c.if-output-from.true)

pub returns-then-output-from-clause-fits : goal.returns-then-output-from-clause-fits
returns-then-output-from-clause-fits c = λ texts limits moves w run reached.
    let seen = c.output-output.result.now in
    let small : length seen < 2 ^ 64 = omega arith in
    few texts limits moves w seen reached (c.output-output.ensures texts limits moves run) small

pub returns-clause-rest : goal.returns-clause-rest
returns-clause-rest c = λ texts limits moves w run reached kept within.
    rest_is texts limits moves w c.output-output.result.now reached (c.output-output.ensures texts limits moves run) c.args.from

pub returns-clause-fits : goal.returns-clause-fits
returns-clause-fits c = λ texts limits moves w run reached.
    let seen = c.output-output.result.now in
    let small : length seen < 2 ^ 64 = omega arith in
    few texts limits moves w seen reached (c.output-output.ensures texts limits moves run) small
