-- Small texts: which bodies their versions bring, and why only what types is resolved by its uses.
use Rattle.std.proofs.Common.{◌≡◌, ℕ, List, [], ◌∷◌, map, Option, Some, None, refl, pos}
use Rattle.std.specs.Prelude.{codes}
use Rattle.c_ints.specs.declared.kind.Kind.{Kind}
use Rattle.c_ints.specs.declared.kind.Kind.TheVariants.{I32, I64}
use Rattle.c_ints.specs.declared.operator.BinOp.TheVariants.{Add}
use Rattle.c_ints.specs.Kind.{width}
use Rattle.c_ints.specs.Number.{number}
use Rattle.c_tree.specs.BareExpr.{Bytes, BareType, BareExpr, Integer}
use Rattle.c_tree.specs.BareExpr as e
use Rattle.c_tree.specs.BareStmt.{BareStmts}
use Rattle.c_tree.specs.BareStmt as s
use Rattle.c_tree.specs.BareDef.{BareDef, Function, Global}
use Rattle.c_semantics.specs.Texts.{Definitions}
use Rattle.c_semantics.specs.Resolved.{Expression, Statement, Statements}
use Rattle.c_semantics.specs.Resolved as made
use Rattle.c_semantics.specs.Resolution.{resolved_body}
use Rattle.c_semantics.specs.Skeletons.{skeleton_of, direct_uses}
use Rattle.c_semantics.specs.SourceTexts.{Text}
use Rattle.c_semantics.specs.Store.{store, generation_by}

abbrev variable : Kind → Bytes → BareDef
variable k name = Global (record { declared = Integer k; name = name; initial = None })

-- int f(void) { return g; }   int h(void) { return 1; }
abbrev reads : BareDef
reads = Function (Some (Integer I32)) (codes "f") [] (s.StmtThen (s.ReturnValue (e.Variable (codes "g"))) s.NoStmts)

abbrev uses_none : BareDef
uses_none = Function (Some (Integer I32)) (codes "h") [] (s.StmtThen (s.ReturnValue (e.Number (number I32 (pos 1)))) s.NoStmts)

abbrev with_type : Kind → Text
with_type k = record {
  definitions = variable k (codes "g") ∷ reads ∷ uses_none ∷ [];
  tokens = [];
  tree = record { definitions = []; end = 0 };
}

-- `int g`, then `long g` twice: f has a new body in version 2 alone, h in none
abbrev versions : List Text
versions = with_type I32 ∷ with_type I64 ∷ with_type I64 ∷ []

abbrev known : ℕ → List ℕ
known n = map (λ f. generation_by f n (store versions)) (codes "f" ∷ codes "h" ∷ codes "x" ∷ [])

brought : map (λ b. b.generation) (store versions) ≡ 1 ∷ 1 ∷ 2 ∷ []
brought = refl

in_force : map known (1 ∷ 2 ∷ 3 ∷ []) ≡ (1 ∷ 1 ∷ 0 ∷ []) ∷ (2 ∷ 1 ∷ 0 ∷ []) ∷ (2 ∷ 1 ∷ 0 ∷ []) ∷ []
in_force = refl

-- void f(void) { g + g = 1; }   doesn't type: it has no uses, and is resolved by the type of g
abbrev no_place : Option BareDef
no_place =
    Some (Function None (codes "f") []
    (s.StmtThen (s.Evaluate (e.Assign (e.Binary Add (e.Variable (codes "g")) (e.Variable (codes "g"))) (e.Number (number I32 (pos 1))))) s.NoStmts))

abbrev all_of : Kind → Definitions
all_of k name = Some (variable k name)

without_uses : map (λ k. direct_uses (skeleton_of (all_of k) no_place)) (I32 ∷ I64 ∷ []) ≡ [] ∷ [] ∷ []
without_uses = refl

-- the width of the type to which the assigned value is converted
abbrev width_of : BareType → ℕ
width_of (Integer k) = width k
width_of _ = 0

abbrev width_in : Statements → ℕ
width_in (made.StatementThen (made.Evaluate (made.Assign place (made.Convert type value))) more) = width_of type
width_in _ = 0

resolved_otherwise : map (λ k. width_in (resolved_body (all_of k) no_place)) (I32 ∷ I64 ∷ []) ≡ 32 ∷ 64 ∷ []
resolved_otherwise = refl
