-- Tables of what is known at places, changed at one place.
use Rattle.std.proofs.Common.{◌≡◌, ◌≢◌, ◌⊎◌, inl, inr, ℕ, zero, suc, ◌+◌, ◌-◌, ◌≤◌, ◌<◌, nat_eq, Bool, true, false, List, [], ◌∷◌, ◌++◌, map, reverse, length, slice_get, slice_set, Option, Some, None, option_map, if◌then◌else◌, refl, sym, ap, ◌∙◌, subst, arith, eqb-true, eq-eqb}
use Rattle.std.specs.Option.{option_flatten}
use Rattle.std.proofs.lemmas.Option.{slice_get-map}
use Rattle.std.proofs.lemmas.List.{length-map, length-reverse}
use Rattle.code_kinds.specs.Shapes.{Shape}
use Rattle.code_verify.specs.declared.shape.Shape.{Shape as ShapeNode}
use Rattle.code_verify.specs.Seen.{shape_of, shapes_of, keeps_of}
use Rattle.code_verify.proofs.Below.{truth}
use Rattle.code_verify.proofs.Passes.{decided}

pub get_set_same : {X : Type 0} (xs : List X) (i : ℕ) (y : X) → i < length xs → slice_get (slice_set xs i y) i ≡ Some y
get_set_same [] i y h = absurd (omega (arith, h))
get_set_same (x ∷ xs) zero y h = refl
get_set_same (x ∷ xs) (suc i) y h = get_set_same xs i y (omega (arith, h))

pub get_set_other : {X : Type 0} (xs : List X) (i j : ℕ) (y : X) → j ≢ i → slice_get (slice_set xs i y) j ≡ slice_get xs j
get_set_other [] i j y h = refl
get_set_other (x ∷ xs) zero zero y h = absurd (h refl)
get_set_other (x ∷ xs) zero (suc j) y h = refl
get_set_other (x ∷ xs) (suc i) zero y h = refl
get_set_other (x ∷ xs) (suc i) (suc j) y h = get_set_other xs i j y (λ e. h (ap suc e))

pub known_here : (known : List (Option ShapeNode)) (q : ℕ) (s : ShapeNode) → q < length known
    → shapes_of (slice_set known q (Some s)) q ≡ Some (shape_of s)
known_here known q s h = ap (λ o. option_map shape_of (option_flatten o)) (get_set_same known q (Some s) h)

pub known_elsewhere : (known : List (Option ShapeNode)) (q r : ℕ) (o : Option ShapeNode) → r ≢ q
    → shapes_of (slice_set known q o) r ≡ shapes_of known r
known_elsewhere known q r o h = ap (λ o. option_map shape_of (option_flatten o)) (get_set_other known q r o h)

-- where nothing is known at the last place
pub nothing_more : {X : Type 0} (xs : List (Option X)) (q : ℕ) → option_flatten (slice_get (xs ++ None ∷ []) q) ≡ option_flatten (slice_get xs q)
nothing_more [] zero = refl
nothing_more [] (suc q) = refl
nothing_more (x ∷ xs) zero = refl
nothing_more (x ∷ xs) (suc q) = nothing_more xs q

pub shapes_nothing_more : (known : List (Option ShapeNode)) (q : ℕ) → shapes_of (known ++ None ∷ []) q ≡ shapes_of known q
shapes_nothing_more known q = ap (option_map shape_of) (nothing_more known q)

-- the heights of places are the lengths of their stacks
pub heights_are : (known : List (Option ShapeNode)) (q : ℕ)
    → option_flatten (slice_get (map (λ o. option_map (λ (s : ShapeNode). length s.stack.items) o) known) q)
    ≡ option_map (λ (s : Shape). length s.stack) (shapes_of known q)
heights_are known q =
    ap option_flatten (slice_get-map (λ o. option_map (λ (s : ShapeNode). length s.stack.items) o) known q) ∙ at_place (slice_get known q)
  where
    at_place : (o : Option (Option ShapeNode))
        → option_flatten (option_map (λ p. option_map (λ (s : ShapeNode). length s.stack.items) p) o)
        ≡ option_map (λ (s : Shape). length s.stack) (option_map shape_of (option_flatten o))
    at_place None = refl
    at_place (Some None) = refl
    at_place (Some (Some s)) = ap Some (sym (length-reverse s.stack.items))
