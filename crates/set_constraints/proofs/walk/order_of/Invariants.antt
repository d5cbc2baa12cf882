use Rattle.std.proofs.Common.{◌≡◌, ℕ, ◌<◌, length}
use Rattle.set_constraints.specs.Waiting.{IsIn}
use Rattle.set_constraints.proofs.walk.order_of.Given as goal

abbrev pub invariant-loop-place : goal.invariant-loop-place
invariant-loop-place l = length l.all.is_in.items ≡ l.count

abbrev pub invariant-loop-node : goal.invariant-loop-node
invariant-loop-node l = record {
  many : length l.all.is_in.items ≡ l.count;
  listed : (n : ℕ) → n < l.node → IsIn l.all.nodes.items n;
}
