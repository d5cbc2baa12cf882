-- The orders in which nodes are looked at first.
use Rattle.std.specs.Prelude.{ℕ, ◌-◌}
use Rattle.set_constraints.specs.declared.constraint.Order.{Order}
use Rattle.set_constraints.specs.declared.constraint.Order.TheVariants.{Rising, Falling}

-- the node at a place of the order of the nodes below `count`
abbrev pub node_at : Order → ℕ → ℕ → ℕ
node_at Rising place count = place
node_at Falling place count = count - 1 - place
