use Rattle.std.proofs.Common.{◌≡◌, ◌-◌, length, arith}
use Rattle.source_data.proofs.Taken.{arguments_taken, rest_taken}
use Rattle.source_runner.proofs.stack.take_arguments.Goals as goal

pub returns-clause-arguments : goal.returns-clause-arguments
returns-clause-arguments c =
    let old = c.args.values.now in
    let at : c.saturating_sub-at.result ≡ length old.items - c.args.count =
    omega (arith, c.saturating_sub-at.ensures, c.len.ensures, old.ok.0) in
    arguments_taken _ old.items c.saturating_sub-at.result c.args.count at c.split_off.ensures.tail

pub returns-clause-rest : goal.returns-clause-rest
returns-clause-rest c =
    let old = c.args.values.now in
    let at : c.saturating_sub-at.result ≡ length old.items - c.args.count =
    omega (arith, c.saturating_sub-at.ensures, c.len.ensures, old.ok.0) in
    rest_taken _ old.items _ c.saturating_sub-at.result c.args.count at c.split_off.ensures.items
