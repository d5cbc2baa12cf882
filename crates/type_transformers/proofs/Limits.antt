-- In a text that types no struct has more fields than an object can have.
use Rattle.std.proofs.Common.{◌≡◌, ℕ, ◌≤◌, Bool, true, false, List, [], ◌∷◌, ◌++◌, length, Some, IfSome, nat_le, refl, arith, bytes_eq, if◌then◌else◌}
use Rattle.std.specs.Option.{option_map_or}
use Rattle.std.proofs.lemmas.Bool.Decides.{nat_tests}
use Rattle.c_tree.specs.declared.def.Def.{Def}
use Rattle.c_tree.specs.declared.def.DefKind.{DefKind}
use Rattle.c_tree.specs.declared.def.DefKind.TheVariants as kind
use Rattle.c_tree.specs.declared.def.Program.{Program}
use Rattle.c_expr_types.specs.declared.fault.Fault.{Fault}
use Rattle.c_expr_types.specs.declared.fault.TypeKind.{TypeKind}
use Rattle.c_expr_types.specs.Faults.{unless}
use Rattle.c_definitions.specs.Lookup.{full_name, declared_as}
use Rattle.c_types.specs.Statements.{hiding}
use Rattle.c_types.specs.Definitions.{Types, all_faults, kind_faults}
use Rattle.versioned_structs.specs.Limits.{most_fields}
use Rattle.type_transformers.specs.Newer.{members_in, HasSmallStructs}

-- of two lists of faults without a fault
left_none : (xs ys : List Fault) → xs ++ ys ≡ [] → xs ≡ []
left_none [] ys e = refl
left_none (x ∷ xs) ys e = cc

right_none : (xs ys : List Fault) → xs ++ ys ≡ [] → ys ≡ []
right_none [] ys e = e
right_none (x ∷ xs) ys e = cc

parts_none : (xs ys : List Fault) → hiding xs ys ≡ [] → xs ≡ []
parts_none [] ys e = refl
parts_none (x ∷ xs) ys e = cc

whole_none : (xs ys : List Fault) → hiding xs ys ≡ [] → ys ≡ []
whole_none [] ys e = e
whole_none (x ∷ xs) ys e = cc

holds : (b : Bool) (k : TypeKind) (place : ℕ) → unless b k place ≡ [] → b ≡ true
holds true k place e = refl
holds false k place e = cc

few : (n : ℕ) → nat_le n 16 ≡ true → n ≤ most_fields
few n e = grind (arith, nat_tests)

-- a definition without a fault
kind_small : (text before : List Def) (d : Def) (k : DefKind) → kind_faults text before d k ≡ [] → length (members_in k) ≤ most_fields
kind_small text before d (kind.Struct tag members) e =
    few (length members) (holds _ _ _ (left_none _ _ (right_none _ _ (whole_none _ _ e))))
kind_small text before d _ e = omega arith

all_small : (text before ds : List Def) → all_faults text before ds ≡ [] → HasSmallStructs ds
all_small text before [] e name = tt
all_small text before (d ∷ ds) e name =
    by (option_map_or (bytes_eq name) (full_name d.kind) false)
    (kind_small text before d d.kind (left_none (kind_faults text before d d.kind) _ e))
    (all_small text (before ++ d ∷ []) ds (right_none (kind_faults text before d d.kind) _ e) name)
  where
    by : (b : Bool) → length (members_in d.kind) ≤ most_fields → IfSome (declared_as ds name) (λ d. length (members_in d.kind) ≤ most_fields)
        → IfSome (if b then Some d else declared_as ds name) (λ d. length (members_in d.kind) ≤ most_fields)
    by true here rest = here
    by false here rest = rest

pub small_structs : (program : Program) → Types program → HasSmallStructs program.definitions
small_structs program types =
    all_small program.definitions [] program.definitions (parts_none (all_faults program.definitions [] program.definitions) _ types)
