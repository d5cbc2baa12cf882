-- What the resolution of names and arguments comes to.
use Rattle.std.proofs.Common.{◌≡◌, ℕ, zero, suc, ◌+◌, ◌<◌, ◌≤◌, List, [], ◌∷◌, length, get_or, drop, map, reverse, ◌++◌, Option, Some, None, refl, sym, ap, ◌∙◌, arith}
use Rattle.std.specs.Prelude.{slice_get, option_map}
use Rattle.std.specs.Option.{option_map_or}
use Rattle.std.proofs.Math.Seq.{drop-cons}
use Rattle.std.proofs.lemmas.List.{map-append, reverse-append, drop_all}
use Rattle.c_tree.specs.BareExpr.{Bytes, BareType, BareExpr}
use Rattle.c_tree.specs.declared.stmt.Stmt.{Stmt}
use Rattle.c_tree.specs.Bare.{bare_arguments, bare_stmt, bare_block}
use Rattle.c_tree.specs.BareDef.{BareBinding}
use Rattle.c_semantics.specs.Resolved.{Expression, Expressions, Statement, Statements, Local as LocalPlace, Global, NoExpressions, ExpressionThen, NoStatements, StatementThen}
use Rattle.c_semantics.specs.Texts.{Definitions, global_type}
use Rattle.c_semantics.specs.Resolution.{located, variable, handed, passed, tree_of, resolved_all, declared_by, declared_by_all, statement, statements}
use Rattle.name_resolution.specs.declared.known.Local.{Local}
use Rattle.name_resolution.specs.Found.{given, listed, before}
use Rattle.name_resolution.specs.Known.{binding_of, locals_of}

-- a name that is declared as a local
pub local_variable : (look : Definitions) (name : Bytes) (o : Option BareBinding) (type : BareType)
    → Some type ≡ option_map (λ b. b.declared) o → variable look name o ≡ located (LocalPlace name) type
local_variable look name None type e = cc
local_variable look name (Some b) type e = let same : type ≡ b.declared = cc in ap (located (LocalPlace name)) (sym same)

-- and one that isn't
pub global_variable : (look : Definitions) (name : Bytes) (o : Option BareBinding)
    → None ≡ option_map (λ (b : BareBinding). b.declared) o → variable look name o ≡ located (Global name) (global_type (look name))
global_variable look name None e = refl
global_variable look name (Some b) e = cc

-- what is taken of two things that are there together
pub or_same : {A B C : Type 0} (f : A → C) (g : B → C) (a : Option A) (b : Option B) (d : C)
    → option_map f a ≡ option_map g b → option_map_or f a d ≡ option_map_or g b d
or_same f g None None d e = refl
or_same f g None (Some y) d e = cc
or_same f g (Some x) None d e = cc
or_same f g (Some x) (Some y) d e = let same : f x ≡ g y = cc in same

-- the argument of a spawned function is that of its first parameter
pub handed_given : (ps : List BareBinding) (e : Expression) → given (slice_get ps 0) e ≡ handed ps e
handed_given [] e = refl
handed_given (p ∷ ps) e = refl

drop_none : (i : ℕ) → drop {A = BareBinding} i [] ≡ []
drop_none zero = refl
drop_none (suc i) = refl

-- arguments from one on
pub passed_before : (es : List Expression) (ps : List BareBinding) (i : ℕ) (e : Expression) → i < length es → e ≡ get_or es i e
    → passed (listed (drop i es)) (drop i ps) ≡ ExpressionThen (given (slice_get ps i) e) (passed (listed (drop (suc i) es)) (drop (suc i) ps))
passed_before [] ps i e l is = absurd (omega arith)
passed_before (x ∷ es) [] zero e l is = ap (λ y. ExpressionThen y (passed (listed es) [])) (sym is)
passed_before (x ∷ es) (p ∷ ps) zero e l is = ap (λ y. ExpressionThen (given (Some p) y) (passed (listed es) ps)) (sym is)
passed_before (x ∷ es) [] (suc i) e l is = ap (passed (listed (drop i es))) (sym (drop_none i)) ∙ passed_before es [] i e (omega arith) is
passed_before (x ∷ es) (p ∷ ps) (suc i) e l is = passed_before es ps i e (omega arith) is

-- with one more in front
pub passed_more : (es : List Expression) (ps : List BareBinding) (i j : ℕ) (e : Expression) (rest : Expressions) → j ≡ suc i → i < length es
    → e ≡ get_or es i e → rest ≡ passed (listed (drop j es)) (drop j ps)
    → ExpressionThen (given (slice_get ps i) e) rest ≡ passed (listed (drop i es)) (drop i ps)
passed_more es ps i j e rest next l is r =
    ap (ExpressionThen (given (slice_get ps i) e)) (r ∙ ap (λ n. passed (listed (drop n es)) (drop n ps)) next) ∙ sym (passed_before es ps i e l is)

-- without parameters they stay
pub passed_nothing : (es : Expressions) → passed es [] ≡ es
passed_nothing NoExpressions = refl
passed_nothing (ExpressionThen e es) = ap (ExpressionThen e) (passed_nothing es)

-- arguments one by one
pub listed_all : (look : Definitions) (locals : List BareBinding) (es : List BareExpr)
    → listed (map (tree_of look locals) es) ≡ resolved_all look locals (bare_arguments es)
listed_all look locals [] = refl
listed_all look locals (e ∷ es) = ap (ExpressionThen (tree_of look locals e)) (listed_all look locals es)

-- ---- statements

before_at : (ss : List Statement) (i : ℕ) (s : Statement) → i < length ss → s ≡ get_or ss i s
    → before (drop i ss) NoStatements ≡ StatementThen s (before (drop (suc i) ss) NoStatements)
before_at ss i s l is =
    ap (λ (xs : List Statement). before xs NoStatements) (drop-cons ss i s l)
    ∙ ap (λ x. StatementThen x (before (drop (suc i) ss) NoStatements)) (sym is)

-- a list with one more in front
pub before_more : (ss : List Statement) (i j : ℕ) (s : Statement) (rest : Statements) → j ≡ suc i → i < length ss → s ≡ get_or ss i s
    → rest ≡ before (drop j ss) NoStatements → StatementThen s rest ≡ before (drop i ss) NoStatements
before_more ss i j s rest next l is r =
    ap (StatementThen s) (r ∙ ap (λ n. before (drop n ss) NoStatements) next) ∙ sym (before_at ss i s l is)

-- and one with one more at its end
pub before_last : (ss : List Statement) (s : Statement) (rest : Statements) → before (ss ++ s ∷ []) rest ≡ before ss (StatementThen s rest)
before_last [] s rest = refl
before_last (x ∷ ss) s rest = ap (StatementThen x) (before_last ss s rest)

-- one more local variable is the innermost
pub one_more_local : (locals more : List Local) (l : Local) → more ≡ locals ++ l ∷ [] → locals_of more ≡ binding_of l ∷ locals_of locals
one_more_local locals more l e =
    ap locals_of e ∙ ap reverse (map-append binding_of locals (l ∷ [])) ∙ reverse-append (map binding_of locals) (binding_of l ∷ [])

rest_at : (xs : List Stmt) (i : ℕ) (s : Stmt) → i < length xs → s ≡ get_or xs i s → drop i xs ≡ s ∷ drop (i + 1) xs
rest_at xs i s l is =
    let next : suc i ≡ i + 1 = omega arith in
    drop-cons xs i s l ∙ ap (λ y. y ∷ drop (suc i) xs) (sym is) ∙ ap (λ n. s ∷ drop n xs) next

-- the statements of a block from one on
pub sequence_more : (look : Definitions) (type : BareType) (xs : List Stmt) (i : ℕ) (s : Stmt) (locals inner : List BareBinding)
    → i < length xs → s ≡ get_or xs i s → inner ≡ declared_by (bare_stmt s) locals
    → statements look type locals (bare_block (map bare_stmt (drop i xs)))
    ≡ StatementThen (statement look type locals (bare_stmt s)) (statements look type inner (bare_block (map bare_stmt (drop (i + 1) xs))))
sequence_more look type xs i s locals inner l is e =
    ap (λ ys. statements look type locals (bare_block (map bare_stmt ys))) (rest_at xs i s l is)
    ∙ ap (λ ls. StatementThen (statement look type locals (bare_stmt s)) (statements look type ls (bare_block (map bare_stmt (drop (i + 1) xs))))) (sym e)

-- and what they declare
pub declared_more : (xs : List Stmt) (i : ℕ) (s : Stmt) (locals inner : List BareBinding)
    → i < length xs → s ≡ get_or xs i s → inner ≡ declared_by (bare_stmt s) locals
    → declared_by_all (bare_block (map bare_stmt (drop i xs))) locals ≡ declared_by_all (bare_block (map bare_stmt (drop (i + 1) xs))) inner
declared_more xs i s locals inner l is e =
    ap (λ ys. declared_by_all (bare_block (map bare_stmt ys)) locals) (rest_at xs i s l is)
    ∙ ap (declared_by_all (bare_block (map bare_stmt (drop (i + 1) xs)))) (sym e)

-- after the last one
pub sequence_end : (look : Definitions) (type : BareType) (xs : List Stmt) (i : ℕ) (locals : List BareBinding) → length xs ≤ i
    → statements look type locals (bare_block (map bare_stmt (drop i xs))) ≡ NoStatements
sequence_end look type xs i locals l = ap (λ ys. statements look type locals (bare_block (map bare_stmt ys))) (drop_all i xs l)

pub declared_end : (xs : List Stmt) (i : ℕ) (locals : List BareBinding) → length xs ≤ i
    → declared_by_all (bare_block (map bare_stmt (drop i xs))) locals ≡ locals
declared_end xs i locals l = ap (λ ys. declared_by_all (bare_block (map bare_stmt ys)) locals) (drop_all i xs l)
