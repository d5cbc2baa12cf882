-- How the plans of lists go on after the items that were read.
use Rattle.std.proofs.Common.{◌≡◌, ◌<◌, ◌≤◌, ℕ, false, List, [], ◌∷◌, ◌++◌, length, refl, ap, ◌∙◌, append-nil}
use Rattle.std.specs.Prelude.{codes}
use Rattle.c_lexer.specs.declared.token.Token.{Token}
use Rattle.c_lexer.specs.declared.token.TokenKind.TheVariants.{Punctuator}
use Rattle.c_tree.specs.declared.name.CType.{CType}
use Rattle.c_tree.specs.declared.expr.Expr.{Expr}
use Rattle.c_tree.specs.declared.stmt.Declaration.{Declaration}
use Rattle.c_tree.specs.declared.stmt.Stmt.{Stmt}
use Rattle.c_tree.specs.declared.stmt.StmtNode.TheVariants.{Declare}
use Rattle.c_tree.specs.declared.def.Binding.{Binding}
use Rattle.c_tree.specs.declared.def.Parameters.TheVariants.{Named, Unnamed}
use Rattle.c_tree.specs.declared.def.FieldValue.{FieldValue}
use Rattle.c_tree.specs.declared.def.DefKind.{DefKind}
use Rattle.c_expr_parser.specs.Definitions.{defs}
use Rattle.c_expr_parser.specs.Readings.{most_depth}
use Rattle.c_expr_parser.specs.Statements.{stmt, declares}
use Rattle.c_expr_parser.specs.Tables.{is, holds_ahead}
use Rattle.c_parser.specs.TextPlans.{TextPlan, punctuator, star_then, variables, as_values, as_declarations, as_bindings, as_types, as_globals, as_updates, text_parsed}
use Rattle.c_parser.specs.TextPlans.Found.{declarations, parameters, made}
use Rattle.c_parser.specs.TextPlans.TextPlan.{Give, Want}
use Rattle.c_parser.specs.TextPlans.TextWanted.{MoreVariables, MoreParameters, MoreTypes, MoreMembers, MoreNames, MoreGlobals, MoreValues, Updates}
use Rattle.c_parser.specs.TextPlans.TextParsed.{deep_at}
use Rattle.c_parser.specs.Parts.{variable_then}
use Rattle.c_parser.proofs.SignsByFirstToken.{IsFirst, sign_none, sign_some, sign_deep, then_star, shifted}

-- variables after some statements, and one more after them
abbrev pub more_variables : ℕ → CType → ℕ → List Stmt → (List Stmt → TextPlan) → TextPlan
more_variables d t start list k =
    Want (MoreVariables d t) (λ more. punctuator (codes ";") d (k (list ++ declares start (as_declarations more))))

abbrev pub variable_behind : ℕ → CType → ℕ → List Stmt → (List Stmt → TextPlan) → Declaration → TextPlan
variable_behind d t start list k x =
    Want (MoreVariables d t) (λ more. punctuator (codes ";") d (k (list ++ declares start (x ∷ as_declarations more))))

variables_form : ℕ → CType → TextPlan
variables_form d t = star_then d t (variables d t (λ ds. Give (declarations ds)))

pub variables_end : (d : ℕ) (t : CType) (start : ℕ) (list : List Stmt) (k : List Stmt → TextPlan) (ts : List Token)
    → holds_ahead (is Punctuator (codes ",")) ts ≡ false → text_parsed (more_variables d t start list k) ts ≡ text_parsed (punctuator (codes ";") d (k list)) ts
unfolding variables_form
variables_end d t start list k ts e =
    sign_none (MoreVariables d t) (is Punctuator (codes ",")) (variables_form d t) _ (declarations []) ts (λ t. refl) refl e
    ∙ ap (λ l. text_parsed (punctuator (codes ";") d (k l)) ts) (append-nil list)

pub variables_deep : (d : ℕ) (t : CType) (start : ℕ) (list : List Stmt) (k : List Stmt → TextPlan) (us ts : List Token)
    → IsFirst (is Punctuator (codes ",")) ts us → most_depth < d → text_parsed (more_variables d t start list k) ts ≡ deep_at (length ts)
unfolding variables_form
variables_deep d t start list k us ts f low =
    sign_deep (MoreVariables d t) (is Punctuator (codes ",")) (variables_form d t) _ us ts (λ t. refl) f low

pub variables_next : (d : ℕ) (t : CType) (start : ℕ) (list : List Stmt) (k : List Stmt → TextPlan) (us ts : List Token)
    → IsFirst (is Punctuator (codes ",")) ts us → d ≤ most_depth
    → text_parsed (more_variables d t start list k) ts ≡ text_parsed (star_then d t (variable_then d t (variable_behind d t start list k))) us
unfolding variables_form
variables_next d t start list k us ts f shallow =
    sign_some (MoreVariables d t) (is Punctuator (codes ",")) (variables_form d t) _ us ts (λ t. refl) f shallow
    ∙ ap (λ p. text_parsed p us) (then_star d t (variables d t (λ ds. Give (declarations ds))) _)

pub variables_shift : (d : ℕ) (t : CType) (start : ℕ) (list all : List Stmt) (k : List Stmt → TextPlan) (x : Declaration) (ts : List Token)
    → all ≡ list ++ stmt start (Declare x) ∷ []
    → text_parsed (variable_behind d t start list k x) ts ≡ text_parsed (more_variables d t start all k) ts
variables_shift d t start list all k x ts e =
    shifted (MoreVariables d t) list (stmt start (Declare x)) (λ more. declares start (as_declarations more)) (λ l. punctuator (codes ";") d (k l)) all ts e

-- parameters with names, and types alone
abbrev pub more_parameters : ℕ → List Binding → TextPlan
more_parameters d list = Want (MoreParameters d) (λ more. Give (parameters (Named (list ++ as_bindings more))))

abbrev pub more_types : ℕ → List CType → TextPlan
more_types d list = Want (MoreTypes d) (λ more. Give (parameters (Unnamed (list ++ as_types more))))

-- declarations of members, and further names in one
abbrev pub more_members : ℕ → List Binding → (List Binding → TextPlan) → TextPlan
more_members d list k = Want (MoreMembers d) (λ more. k (list ++ as_bindings more))

abbrev pub more_names : ℕ → CType → List Binding → (List Binding → TextPlan) → TextPlan
more_names d t list k = Want (MoreNames d t) (λ more. punctuator (codes ";") d (k (list ++ as_bindings more)))

-- globals
abbrev pub more_globals : ℕ → CType → List DefKind → TextPlan
more_globals start t kinds =
    Want (MoreGlobals t) (λ more. punctuator (codes ";") 0 (Give (made (λ n. defs start (kinds ++ as_globals more)))))

-- an array's initialisers
abbrev pub more_values : List Expr → (List Expr → TextPlan) → TextPlan
more_values list k = Want (MoreValues 1) (λ more. punctuator (codes "}") 0 (k (list ++ as_values more)))

-- updates of fields
abbrev pub more_updates : ℕ → List FieldValue → (List FieldValue → TextPlan) → TextPlan
more_updates d list k = Want (Updates d) (λ more. k (list ++ as_updates more))
