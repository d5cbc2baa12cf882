use Rattle.std.proofs.Common.{length}
use Rattle.c_parser.specs.TextPlans.{ItemsRead}
use Rattle.c_parser.proofs.parser.items.Given as goal

abbrev pub invariant-loop-rest : goal.invariant-loop-rest
invariant-loop-rest l = ItemsRead l.tokens l.list.items l.rest

abbrev pub decreases-loop-rest : goal.decreases-loop-rest
decreases-loop-rest l = length l.rest
