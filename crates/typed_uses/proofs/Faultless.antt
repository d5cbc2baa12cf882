-- What holds where there is no fault.
use Rattle.std.proofs.Common.{◌≡◌, ℕ, Bool, true, false, List, [], ◌∷◌, ◌++◌, refl, ◌∙◌, if◌then◌else◌}
use Rattle.c_tree.specs.declared.name.CType.{CType}
use Rattle.c_tree.specs.declared.expr.ExprNode.{ExprNode}
use Rattle.c_expr_types.specs.declared.fault.Fault.{Fault}
use Rattle.c_expr_types.specs.declared.fault.TypeKind.{TypeKind}
use Rattle.c_expr_types.specs.declared.fault.TypeKind.TheVariants.{WrongType}
use Rattle.c_expr_types.specs.declared.found.Found.{Found}
use Rattle.c_expr_types.specs.declared.found.Found.TheVariants.{Wrong, Place, Value, Zero, Null, Nothing, Designator}
use Rattle.c_expr_types.specs.declared.found.Part.{Part}
use Rattle.c_expr_types.specs.Faults.{fault, unless}
use Rattle.c_expr_types.specs.Found.{faults_of, after, misfit, misplaced, required, place_required}
use Rattle.c_definitions.specs.Lookup.{Names}
use Rattle.c_expr_types.specs.Expressions.{parts, own, part, is_allowed, is_initialising, where_allowed}
use Rattle.c_types.specs.Statements.{hiding}

pub none_before : {A : Type 0} (xs ys : List A) → xs ++ ys ≡ [] → xs ≡ []
none_before [] ys e = refl
none_before (x ∷ xs) ys e = cc

pub none_after : {A : Type 0} (xs ys : List A) → xs ++ ys ≡ [] → ys ≡ []
none_after [] ys e = e
none_after (x ∷ xs) ys e = cc

pub none_hidden : (parts whole : List Fault) → hiding parts whole ≡ [] → (parts ≡ []) × (whole ≡ [])
none_hidden [] whole e = (refl, e)
none_hidden (f ∷ more) whole e = cc

pub passes : (test : Bool) (kind : TypeKind) (place : ℕ) → unless test kind place ≡ [] → test ≡ true
passes true kind place e = refl
passes false kind place e = cc

-- an expression has no fault
abbrev pub Clean : Found → Type 0
Clean found = faults_of found ≡ []

-- what is required of it holds
pub meets : (holds : Bool) (p : Part) → required holds p ≡ [] → (holds ≡ true) × Clean p.found
meets holds p = by p.found
  where
    by : (found : Found) → misfit holds p.place found ≡ [] → (holds ≡ true) × Clean found
    by (Wrong f) e = cc
    by (Place t) e = (passes holds WrongType p.place e, refl)
    by (Value t) e = (passes holds WrongType p.place e, refl)
    by (Zero k) e = (passes holds WrongType p.place e, refl)
    by Null e = (passes holds WrongType p.place e, refl)
    by Nothing e = (passes holds WrongType p.place e, refl)
    by Designator e = (passes holds WrongType p.place e, refl)

-- it is a place of some type, as required
pub is_place : (holds : Bool) (p : Part) → place_required holds p ≡ [] → (t : CType) × (p.found ≡ Place t) × (holds ≡ true)
is_place holds p = by p.found
  where
    by : (found : Found) → misplaced holds p.place found ≡ [] → (t : CType) × (found ≡ Place t) × (holds ≡ true)
    by (Wrong f) e = cc
    by (Place t) e = (t, refl, passes holds WrongType p.place e)
    by (Value t) e = cc
    by (Zero k) e = cc
    by Null e = cc
    by Nothing e = cc
    by Designator e = cc

pub after_none : (faults : List Fault) (found : Found) → Clean (after faults found) →
    (faults ≡ []) × Clean found × (after faults found ≡ found)
after_none [] found e = (refl, e, refl)
after_none (f ∷ more) found e = cc

-- an expression without faults has parts without faults, and is what it is by them
pub record Built (names : Names) (at : ℕ) (node : ExprNode Part) : Type 0 where
  pub none : parts names node ≡ []
  pub clean : Clean (own names at node)
  pub is : (part names at node).found ≡ own names at node

pub built : (names : Names) (at : ℕ) (node : ExprNode Part) → Clean (part names at node).found → Built names at node
built names at node clean =
    let allowed = is_allowed names.position (is_initialising node) in
    let whole = after_none (parts names node) (where_allowed allowed at (own names at node)) clean in
    let itself = after_none (if allowed then [] else fault WrongType at ∷ faults_of (own names at node)) (own names at node) whole.1 in
    record { none = whole.0; clean = itself.1; is = whole.2 ∙ itself.2 }
