use Rattle.std.proofs.Common.{take, arith}
use Rattle.c_types.proofs.Counts.{added_is, added_bound}
use Rattle.c_types.proofs.context.name_added.Goals as goal

pub returns-clause-bound : goal.returns-clause-bound
returns-clause-bound c =
    let before = take c.args.index c.args.known.now in
    let is = added_is before c.args.kind.now in
    let bound = added_bound before c.args.kind.now in
    omega (arith, is, bound, c.new_key.ensures, c.new_key-2.ensures)

pub returns-clause-value : goal.returns-clause-value
returns-clause-value c =
    let is = added_is (take c.args.index c.args.known.now) c.args.kind.now in
    omega (arith, is, c.new_key.ensures, c.new_key-2.ensures)
