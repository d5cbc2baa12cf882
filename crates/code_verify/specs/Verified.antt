-- What the verifier promises of a body.
use Rattle.std.specs.Prelude.{◌≡◌, ◌≤◌, ℕ, List, length, Option, Some, None, option_map, slice_get}
use Rattle.std.specs.Option.{option_flatten}
use Rattle.code_kinds.specs.Shapes.{Shape}
use Rattle.code_kinds.specs.WellFormed.{FunctionCode, Shapes, most_variables, entry, Begins, Fits, WellFormed, BreaksAt}
use Rattle.code_verify.specs.declared.shape.Shape.{Shape as ShapeNode}
use Rattle.code_verify.specs.declared.source.Body.{Body}
use Rattle.code_verify.specs.declared.source.VerifyFault.{VerifyFault}
use Rattle.code_verify.specs.declared.source.VerifyFault.TheVariants.{Bad, Memory}
use Rattle.code_verify.specs.Passing.{Brought}
use Rattle.code_verify.specs.Seen.{shapes_of}

-- the whole body is fine with some shapes
pub record AreShapes (u : FunctionCode) (shapes : Shapes) : Type 0 where
  pub begins : Begins u shapes
  pub fits : Fits u shapes (length u.code)

-- a body is well formed, and these are the lengths of its places' stacks
pub record IsVerified (u : FunctionCode) (heights : List (Option ℕ)) : Type 0 where
  pub well_formed : WellFormed u
  pub many : length heights ≡ length u.code
  pub lengths : (q : ℕ) → option_flatten (slice_get heights q) ≡ option_map (λ s. length s.stack) (well_formed.shapes q)

-- the first instruction that breaks a body
abbrev pub Explains : FunctionCode → VerifyFault → Type 0
Explains u (Bad place) = BreaksAt u place
Explains u Memory = Unit {0}

-- what is known where a body begins
pub record Begun (keeps : ℕ → Option ℕ) (body : Body) (known : List (Option ShapeNode)) : Type 0 where
  pub places : length known ≡ length body.code.items
  pub few : length body.parameters.items ≤ body.room
  pub small : body.room ≤ most_variables
  pub brought : Brought keeps (length body.code.items) (λ q. None) (shapes_of known) (entry body.parameters.items) 0
