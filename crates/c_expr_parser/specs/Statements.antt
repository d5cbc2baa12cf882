-- Statements (6.8).
use Rattle.std.specs.Prelude.{ℕ, suc, List, [], ◌∷◌, ◌++◌, map, Option, Some, None}
use Rattle.c_tree.specs.declared.expr.Expr.{Expr}
use Rattle.c_tree.specs.declared.stmt.Declaration.{Declaration}
use Rattle.c_tree.specs.declared.stmt.Stmt.{Stmt, roll-Stmt}
use Rattle.c_tree.specs.declared.stmt.StmtNode.{StmtNode}
use Rattle.c_tree.specs.declared.stmt.StmtNode.TheVariants as node
use Rattle.c_expr_parser.specs.Placed.{Placed, at, start}
use Rattle.c_expr_parser.specs.Terminals.{IsPunctuator, IsKeyword, IsLibraryWord}
use Rattle.c_expr_parser.specs.Expressions.{Assignment}
use Rattle.c_expr_parser.specs.Declarations.{Variables}

-- the statement of a node that begins at a place
abbrev pub stmt : ℕ → StmtNode Stmt → Stmt
stmt place made = roll-Stmt (record { place = place; node = made })

-- the statements of a declaration that begins at a place
abbrev pub declares : ℕ → List Declaration → List Stmt
declares place declared = map (λ declaration. stmt place (node.Declare declaration)) declared

-- how a statement ends: dangling where an `else` after it would belong to an `if` in it, else complete
pub data Ending : Type 0 where
  dangling : Ending
  complete : Ending

-- an expression, or nothing
pub data Optional (depth : ℕ) : List Placed → Option Expr → Type 0 where
  absent : Optional depth [] None
  present : {ts : List Placed} {e : Expr} → Assignment depth ts e → Optional depth ts (Some e)

-- the first part of a `for`, with its semicolon (6.8.5.3)
pub data First (depth : ℕ) : List Placed → List Stmt → Type 0 where
  declaration : {ts : List Placed} {declared : List Declaration} → Variables depth ts declared
      → First depth ts (declares (start ts) declared)
  expression : {ts : List Placed} {semicolon : Placed} {e : Expr} → Assignment depth ts e → IsPunctuator depth ";" semicolon
      → First depth (ts ++ semicolon ∷ []) (stmt (start ts) (node.Evaluate e) ∷ [])
  nothing : {semicolon : Placed} → IsPunctuator depth ";" semicolon → First depth (semicolon ∷ []) []

mutual
  -- a statement. An `else` belongs to the nearest `if` before it that has none and may have it here (6.8.4.1p3): what
  -- stands between an `if` and its `else` is complete
  pub data Statement : Ending → ℕ → List Placed → Stmt → Type 0 where
    block : {d : ℕ} {brace end : Placed} {ts : List Placed} {ss : List Stmt}
        → IsPunctuator d "{" brace → Items (suc d) ts ss → IsPunctuator d "}" end
        → Statement complete d (brace ∷ ts ++ end ∷ []) (stmt (at brace) (node.Block ss))
    empty : {d : ℕ} {semicolon : Placed} → IsPunctuator d ";" semicolon
        → Statement complete d (semicolon ∷ []) (stmt (at semicolon) node.Empty)
    evaluate : {d : ℕ} {ts : List Placed} {semicolon : Placed} {e : Expr}
        → Assignment d ts e → IsPunctuator d ";" semicolon
        → Statement complete d (ts ++ semicolon ∷ []) (stmt (start ts) (node.Evaluate e))
    if_only : {ending : Ending} {d : ℕ} {word paren close : Placed} {test body : List Placed} {c : Expr} {s : Stmt}
        → IsKeyword d "if" word → IsPunctuator d "(" paren → Assignment (suc d) test c → IsPunctuator d ")" close
        → Statement ending (suc d) body s
        → Statement dangling d (word ∷ paren ∷ test ++ close ∷ body) (stmt (at word) (node.If c s))
    if_else : {ending : Ending} {d : ℕ} {word paren close other : Placed} {test first second : List Placed} {c : Expr} {s r : Stmt}
        → IsKeyword d "if" word → IsPunctuator d "(" paren → Assignment (suc d) test c → IsPunctuator d ")" close
        → Statement complete (suc d) first s → IsKeyword d "else" other → Statement ending (suc d) second r
        → Statement ending d (word ∷ paren ∷ test ++ (close ∷ first ++ other ∷ second)) (stmt (at word) (node.IfElse c s r))
    while : {ending : Ending} {d : ℕ} {word paren close : Placed} {test body : List Placed} {c : Expr} {s : Stmt}
        → IsKeyword d "while" word → IsPunctuator d "(" paren → Assignment (suc d) test c → IsPunctuator d ")" close
        → Statement ending (suc d) body s
        → Statement ending d (word ∷ paren ∷ test ++ close ∷ body) (stmt (at word) (node.While c s))
    do_while : {ending : Ending} {d : ℕ} {word again paren close semicolon : Placed} {body test : List Placed} {c : Expr} {s : Stmt}
        → IsKeyword d "do" word → Statement ending (suc d) body s → IsKeyword d "while" again → IsPunctuator d "(" paren
        → Assignment (suc d) test c → IsPunctuator d ")" close → IsPunctuator d ";" semicolon
        → Statement complete d (word ∷ body ++ (again ∷ paren ∷ test ++ close ∷ semicolon ∷ [])) (stmt (at word) (node.DoWhile s c))
    for : {ending : Ending} {d : ℕ} {word paren semicolon close : Placed} {first test step body : List Placed}
        {before : List Stmt} {c e : Option Expr} {s : Stmt}
        → IsKeyword d "for" word → IsPunctuator d "(" paren → First (suc d) first before → Optional (suc d) test c
        → IsPunctuator (suc d) ";" semicolon → Optional (suc d) step e → IsPunctuator d ")" close → Statement ending (suc d) body s
        → Statement ending d (word ∷ paren ∷ first ++ (test ++ (semicolon ∷ step ++ close ∷ body)))
        (stmt (at word) (node.For before c e s))
    break : {d : ℕ} {word semicolon : Placed} → IsKeyword d "break" word → IsPunctuator d ";" semicolon
        → Statement complete d (word ∷ semicolon ∷ []) (stmt (at word) node.Break)
    continue : {d : ℕ} {word semicolon : Placed} → IsKeyword d "continue" word → IsPunctuator d ";" semicolon
        → Statement complete d (word ∷ semicolon ∷ []) (stmt (at word) node.Continue)
    return : {d : ℕ} {word semicolon : Placed} → IsKeyword d "return" word → IsPunctuator d ";" semicolon
        → Statement complete d (word ∷ semicolon ∷ []) (stmt (at word) node.Return)
    return_value : {d : ℕ} {word semicolon : Placed} {ts : List Placed} {e : Expr}
        → IsKeyword d "return" word → Assignment d ts e → IsPunctuator d ";" semicolon
        → Statement complete d (word ∷ ts ++ semicolon ∷ []) (stmt (at word) (node.ReturnValue e))
    -- a point where an update may come in
    update : {d : ℕ} {word paren close semicolon : Placed}
        → IsLibraryWord d "dsu_update" word → IsPunctuator d "(" paren → IsPunctuator d ")" close → IsPunctuator d ";" semicolon
        → Statement complete d (word ∷ paren ∷ close ∷ semicolon ∷ []) (stmt (at word) node.Update)
    -- a block that one version runs
    transaction : {d : ℕ} {word brace end : Placed} {ts : List Placed} {ss : List Stmt}
        → IsLibraryWord d "dsu_tx" word → IsPunctuator d "{" brace → Items (suc d) ts ss → IsPunctuator d "}" end
        → Statement complete d (word ∷ brace ∷ ts ++ end ∷ []) (stmt (at word) (node.Transaction ss (at end)))

  -- what stands between the braces of a block (6.8.2)
  pub data Items : ℕ → List Placed → List Stmt → Type 0 where
    none : {d : ℕ} → Items d [] []
    declaration : {d : ℕ} {ts rest : List Placed} {declared : List Declaration} {ss : List Stmt}
        → Variables d ts declared → Items d rest ss → Items d (ts ++ rest) (declares (start ts) declared ++ ss)
    statement : {ending : Ending} {d : ℕ} {ts rest : List Placed} {s : Stmt} {ss : List Stmt}
        → Statement ending d ts s → Items d rest ss → Items d (ts ++ rest) (s ∷ ss)
