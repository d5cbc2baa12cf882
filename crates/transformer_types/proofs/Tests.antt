-- What tests and empty lists say of their parts.
use Rattle.std.proofs.Common.{◌≡◌, ℕ, Bool, true, false, ◌&&◌, List, [], ◌∷◌, ◌++◌, refl}
use Rattle.c_expr_types.specs.declared.fault.TypeKind.{TypeKind}
use Rattle.c_expr_types.specs.declared.fault.Fault.{Fault}
use Rattle.c_expr_types.specs.Faults.{unless}

pub both : (a b : Bool) → (a && b) ≡ true → (a ≡ true) × (b ≡ true)
both true b h = (refl, h)
both false b h = absurd (let k : false ≡ true = h in cc)

pub neither : (xs ys : List Fault) → xs ++ ys ≡ [] → (xs ≡ []) × (ys ≡ [])
neither [] ys h = (refl, h)
neither (x ∷ xs) ys h = cc

pub holds : (test : Bool) (kind : TypeKind) (place : ℕ) → unless test kind place ≡ [] → test ≡ true
holds true kind place h = refl
holds false kind place h = cc
