-- What contracts see of a net.
use Rattle.std.specs.Prelude.{ℕ, List}
use Rattle.set_constraints.specs.declared.constraint.Edge.{Edge}

-- how many nodes there are, and the edges among them
pub record Contents : Type 0 where
  pub nodes : ℕ
  pub edges : List Edge
