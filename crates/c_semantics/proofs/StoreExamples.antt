-- Which functions a version brings new bodies of, computed. Both texts have a function that writes g, one that calls f, and one
-- that does neither; from the first to the second the type of g changes, and the body of f.
use Rattle.std.proofs.Common.{◌≡◌, true, false, List, [], ◌∷◌, map, Some, None, refl, pos}
use Rattle.std.specs.Prelude.{codes}
use Rattle.c_ints.specs.declared.kind.Kind.{Kind}
use Rattle.c_ints.specs.declared.kind.Kind.TheVariants.{I32, I64}
use Rattle.c_ints.specs.Number.{number}
use Rattle.c_tree.specs.BareExpr as bare
use Rattle.c_tree.specs.BareStmt.{BareStmts}
use Rattle.c_tree.specs.BareStmt as bare_s
use Rattle.c_tree.specs.BareDef.{BareDef, Function, Global}
use Rattle.c_semantics.specs.Resolved.{Statement, NoExpressions, NoStatements, StatementThen}
use Rattle.c_semantics.specs.Resolved as tree
use Rattle.c_semantics.specs.Skeletons.{skeleton}
use Rattle.c_semantics.specs.Store.{is_new}

-- a text whose global has a type, and whose function f has a body
abbrev text : Kind → BareStmts → List BareDef
text kind body =
    Global (record { declared = bare.Integer kind; name = codes "g"; initial = None })
    ∷ Function (Some (bare.Integer I32)) (codes "f") [] body
    ∷ Function (Some (bare.Integer I32)) (codes "writer") [] bare_s.NoStmts
    ∷ Function (Some (bare.Integer I32)) (codes "caller") [] bare_s.NoStmts
    ∷ Function (Some (bare.Integer I32)) (codes "other") [] bare_s.NoStmts ∷ []

abbrev first : List BareDef
first = text I32 bare_s.NoStmts

abbrev second : List BareDef
second = text I64 (bare_s.StmtThen bare_s.Update bare_s.NoStmts)

-- g = 0;
abbrev write : Statement
write = tree.Evaluate (tree.Assign (tree.Global (codes "g")) (tree.Constant (number I32 (pos 0))))

-- f();
abbrev call : Statement
call = tree.Evaluate (tree.Call (codes "f") NoExpressions)

-- f has another body and the same interface, so its caller keeps its own
brought : is_new first second (codes "f") (skeleton NoStatements)
    ∷ is_new first second (codes "writer") (skeleton (StatementThen write NoStatements))
    ∷ is_new first second (codes "caller") (skeleton (StatementThen call NoStatements))
    ∷ is_new first second (codes "other") (skeleton NoStatements)
    ∷ is_new first second (codes "added") (skeleton NoStatements) ∷ []
    ≡ true ∷ true ∷ false ∷ false ∷ true ∷ []
brought = refl
