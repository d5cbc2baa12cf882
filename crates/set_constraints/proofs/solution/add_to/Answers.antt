use Rattle.std.proofs.Common.{inl, arith, rules}
use Rattle.set_constraints.proofs.PassLemmas.{room_less}
use Rattle.set_constraints.proofs.solution.add_to.Goals as goal

pub returns-then-union_with-clause-falls : goal.returns-then-union_with-clause-falls
returns-then-union_with-clause-falls c =
    let sets = c.args.sets.now in
    let less = room_less sets c.args.node c.index-sets-node.result c.union_with.new.self c.requires.node
    (λ id there. (c.union_with.ensures.members id).1 (inl there)) c.union_with.ensures.ids (c.if-union_with.ensures.grew.0 (search rules)) in
    omega (arith, less, c.put.ensures.more)
