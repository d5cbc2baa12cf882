-- What is appended in parts is appended in one.
use Rattle.std.proofs.Common.{◌≡◌, ℕ, ◌+◌, List, ◌++◌, drop, get_or, Result, Ok, Err, ap, sym, ◌∙◌, append_assoc, add-zero}
use Rattle.std.specs.Prelude.{OnOk, slice_index_or}
use Rattle.std.proofs.lemmas.List.{get_or-drop, drop-drop}
use Rattle.c_tree.specs.declared.expr.Expr.{Expr}
use Rattle.c_tree.specs.declared.stmt.Stmt.{Stmt}
use Rattle.c_semantics.specs.Resolved.{Expression, Expressions, Statement, Statements, ExpressionThen, StatementThen}
use Rattle.c_semantics.specs.Places.{expression_places, all_places, nothing, statement_places, statements_places, no_statement}

pub added : (old mid new x y : List ℕ) → mid ≡ old ++ x → new ≡ mid ++ y → new ≡ old ++ (x ++ y)
added old mid new x y e f = f ∙ ap (λ l. l ++ y) e ∙ append_assoc old x y

-- by a last call, whose result is returned
pub added_last : {T E : Type 0} (r : Result T E) (old mid new x y z : List ℕ) → mid ≡ old ++ x → OnOk r (new ≡ mid ++ y) → x ++ y ≡ z
    → OnOk r (new ≡ old ++ z)
added_last (Ok v) old mid new x y z e f g = added old mid new x y e f ∙ ap (λ l. old ++ l) g
added_last (Err v) old mid new x y z e f g = f

-- one more argument, the k-th
pub argument_added : (a : Expression) (more rest : Expressions) (es : List Expr) (e : Expr) (k next : ℕ) (old new all : List ℕ)
    → ExpressionThen a more ≡ rest → e ≡ slice_index_or es k nothing → next ≡ k + 1 → new ≡ old ++ expression_places a e
    → old ++ all_places rest (drop k es) ≡ all → new ++ all_places more (drop next es) ≡ all
argument_added a more rest es e k next old new all is place after now whole =
    ap (λ l. l ++ all_places more (drop next es)) now ∙ append_assoc old _ _
    ∙ ap (λ x. old ++ (expression_places a x ++ all_places more (drop next es))) (place ∙ sym (get_or-drop k es 0 nothing ∙ ap (λ n. get_or es n nothing) (add-zero k)))
    ∙ ap (λ l. old ++ (expression_places a (get_or (drop k es) 0 nothing) ++ all_places more l)) (ap (λ n. drop n es) after ∙ sym (drop-drop 1 k es))
    ∙ ap (λ r. old ++ all_places r (drop k es)) is ∙ whole

-- one more statement, the k-th
pub statement_added : (a : Statement) (more rest : Statements) (list : List Stmt) (s : Stmt) (k next : ℕ) (old new all : List ℕ)
    → StatementThen a more ≡ rest → s ≡ slice_index_or list k no_statement → next ≡ k + 1 → new ≡ old ++ statement_places a s
    → old ++ statements_places rest (drop k list) ≡ all → new ++ statements_places more (drop next list) ≡ all
statement_added a more rest list s k next old new all is place after now whole =
    ap (λ l. l ++ statements_places more (drop next list)) now ∙ append_assoc old _ _
    ∙ ap (λ x. old ++ (statement_places a x ++ statements_places more (drop next list)))
    (place ∙ sym (get_or-drop k list 0 no_statement ∙ ap (λ n. get_or list n no_statement) (add-zero k)))
    ∙ ap (λ l. old ++ (statement_places a (get_or (drop k list) 0 no_statement) ++ statements_places more l))
    (ap (λ n. drop n list) after ∙ sym (drop-drop 1 k list))
    ∙ ap (λ r. old ++ statements_places r (drop k list)) is ∙ whole
