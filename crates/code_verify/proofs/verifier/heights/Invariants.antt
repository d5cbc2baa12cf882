use Rattle.std.proofs.Common.{◌≡◌, map, take, length, option_map}
use Rattle.code_verify.specs.declared.shape.Shape.{Shape}
use Rattle.code_verify.proofs.verifier.heights.Given as goal

abbrev pub invariant-loop-shape : goal.invariant-loop-shape
invariant-loop-shape l = l.heights.items ≡ map (λ o. option_map (λ (s : Shape). length s.stack.items) o) (take l.shape-index l.known)
