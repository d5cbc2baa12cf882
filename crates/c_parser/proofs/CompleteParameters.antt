-- The walk reads what stands between a function's parentheses, and functions after their names.
use Rattle.std.specs.Prelude.{ℕ, List, [], ◌∷◌, ◌++◌, Option, codes}
use Rattle.std.proofs.Common.{refl}
use Rattle.c_lexer.specs.declared.token.Token.{Token}
use Rattle.c_lexer.specs.declared.token.TokenKind.TheVariants.{Keyword, Punctuator}
use Rattle.c_tree.specs.declared.name.CType.{CType}
use Rattle.c_tree.specs.declared.name.Name.{Name}
use Rattle.c_tree.specs.declared.stmt.Stmt.{Stmt}
use Rattle.c_tree.specs.declared.def.Binding.{Binding}
use Rattle.c_tree.specs.declared.def.Parameters.{Parameters}
use Rattle.c_tree.specs.declared.def.Parameters.TheVariants.{Named, Unnamed}
use Rattle.c_expr_parser.specs.Placed.{Placed, tokens, start, at}
use Rattle.c_expr_parser.specs.Terminals.{Spells, IsPunctuator, name}
use Rattle.c_expr_parser.specs.TypeNames.{TypeName}
use Rattle.c_expr_parser.specs.Declarations.{Commas}
use Rattle.c_expr_parser.specs.Statements.{Items}
use Rattle.c_expr_parser.specs.Definitions.{Parameter, ParameterList, PrototypeParameters}
use Rattle.c_expr_parser.specs.Plans.Value.{named}
use Rattle.c_expr_parser.proofs.Beginnings.{begins_type}
use Rattle.c_parser.specs.TextPlans.{Found, TextWanted, TextPlan, then_text, punctuator, name_then, type_then, as_part, as_place, as_bindings, as_types, as_statements, as_parameters, parameters_by, function_by, function_made, prototype_made}
use Rattle.c_parser.specs.TextPlans.Found.{part, parameters, made}
use Rattle.c_parser.specs.TextPlans.TextPlan.{Give, Want}
use Rattle.c_parser.specs.TextPlans.TextWanted.{ParameterName, MoreParameters, MoreTypes, Body, Place}
use Rattle.c_parser.proofs.CompletePlans.{Goes, stays, taken, spelled, and_then, passing, skipped, type_part}
use Rattle.c_parser.proofs.CompleteTokens.{word, closing, naming, refuses, type_before_name, type_before_punctuator, is_other, from_type}
use Rattle.c_parser.proofs.CompleteStatements.{items_walk}

-- what follows the type of the first
abbrev parameter_name : ℕ → CType → TextPlan
parameter_name d t = Want (ParameterName d) (λ f. parameters_by d t (as_part f))

-- a parameter that is the first, and one that isn't
first_parameter : {d : ℕ} {ts : List Placed} {b : Binding} → Parameter d ts b → (rest : List Token) (k : Found → TextPlan)
    → Goes ts rest (Want (TextWanted.ParameterList d) k)
    (Want (MoreParameters d) (λ more. k (parameters (Named (b ∷ as_bindings more)))))
first_parameter {d} (Parameter.parameter {variable} ty id) rest k =
    and_then
    (from_type (TextWanted.ParameterList d) (λ p t. parameter_name d t) k ty (type_before_name id rest)
    (λ u h. rw (is_other begins_type Keyword (codes "void") u refl h) refl) refl)
    (taken {w = ParameterName d} {p = Give (part (named (name variable)))} (rw id.sort refl) id.stands stays)

further_parameter : {d : ℕ} {ts : List Placed} {b : Binding} → Parameter d ts b → (rest : List Token) (k : Binding → TextPlan)
    → Goes ts rest (type_then d (λ t. name_then d (λ name. k (record { declared = t; name = name })))) (k b)
further_parameter {d} (Parameter.parameter {t} {variable} ty id) rest k =
    and_then
    (type_part ty (variable.token ∷ rest) (type_before_name id rest) (λ t. name_then d (λ name. k (record { declared = t; name = name }))))
    (naming (λ name. k (record { declared = t; name = name })) id stays)

further_parameters : {d e : ℕ} {ts : List Placed} {bs : List Binding} {close : Placed} → Commas d (Parameter d) ts bs
    → IsPunctuator e ")" close → (rest : List Token) (k : List Binding → TextPlan)
    → Goes ts (close.token ∷ rest)
    (type_then d (λ t. name_then d (λ name. Want (MoreParameters d) (λ more. k (record { declared = t; name = name } ∷ as_bindings more)))))
    (k bs)
further_parameters {d} {close = close} (Commas.last p) s rest k =
    skipped (further_parameter p (close.token ∷ rest) (λ b. Want (MoreParameters d) (λ more. k (b ∷ as_bindings more))))
    refl (refuses (MoreParameters d) s refl)
further_parameters {d} {close = close} (Commas.more {rest = others} {comma} {a = b} p c ps) s rest k =
    and_then (further_parameter p (comma.token ∷ (tokens others ++ close.token ∷ rest)) (λ b. Want (MoreParameters d) (λ more. k (b ∷ as_bindings more))))
    (spelled {w = MoreParameters d} c refl refl (further_parameters ps s rest (λ bs. k (b ∷ bs))))

named_parameters : {d e : ℕ} {ts : List Placed} {bs : List Binding} {close : Placed} → Commas d (Parameter d) ts bs
    → IsPunctuator e ")" close → (rest : List Token) (k : Found → TextPlan)
    → Goes ts (close.token ∷ rest) (Want (TextWanted.ParameterList d) k) (k (parameters (Named bs)))
named_parameters {d} {close = close} (Commas.last p) s rest k =
    skipped (first_parameter p (close.token ∷ rest) k) refl (refuses (MoreParameters d) s refl)
named_parameters {d} {close = close} (Commas.more {rest = others} {comma} {a = b} p c ps) s rest k =
    and_then (first_parameter p (comma.token ∷ (tokens others ++ close.token ∷ rest)) k)
    (spelled {w = MoreParameters d} c refl refl (further_parameters ps s rest (λ bs. k (parameters (Named (b ∷ bs))))))

pub parameter_list_walk : {d e : ℕ} {ts : List Placed} {bs : List Binding} {close : Placed} → ParameterList d ts bs
    → IsPunctuator e ")" close → (rest : List Token) (k : Found → TextPlan)
    → Goes ts (close.token ∷ rest) (Want (TextWanted.ParameterList d) k) (k (parameters (Named bs)))
parameter_list_walk {d} ParameterList.nothing s rest k = passing refl (refuses (TextWanted.ParameterList d) s refl) stays
parameter_list_walk {d} (ParameterList.void w) s rest k = spelled {w = TextWanted.ParameterList d} w refl refl stays
parameter_list_walk (ParameterList.some ps) s rest k = named_parameters ps s rest k

-- types alone
further_types : {d e : ℕ} {ts : List Placed} {cs : List CType} {close : Placed} → Commas d (TypeName d) ts cs
    → IsPunctuator e ")" close → (rest : List Token) (k : List CType → TextPlan)
    → Goes ts (close.token ∷ rest) (type_then d (λ t. Want (MoreTypes d) (λ more. k (t ∷ as_types more)))) (k cs)
further_types {d} {close = close} (Commas.last ty) s rest k =
    skipped (type_part ty (close.token ∷ rest) (type_before_punctuator s rest) (λ t. Want (MoreTypes d) (λ more. k (t ∷ as_types more))))
    refl (refuses (MoreTypes d) s refl)
further_types {d} {close = close} (Commas.more {rest = others} {comma} {a = t} ty c ps) s rest k =
    and_then (type_part ty (comma.token ∷ (tokens others ++ close.token ∷ rest)) (type_before_punctuator c _) (λ t. Want (MoreTypes d) (λ more. k (t ∷ as_types more))))
    (spelled {w = MoreTypes d} c refl refl (further_types ps s rest (λ cs. k (t ∷ cs))))

first_type : {d e : ℕ} {ts : List Placed} {t : CType} {spelling : List ℕ} {u : Placed} → TypeName d ts t → Spells Punctuator e spelling u
    → (rest : List Token) (k : Found → TextPlan)
    → Goes ts (u.token ∷ rest) (Want (TextWanted.ParameterList d) k) (Want (MoreTypes d) (λ more. k (parameters (Unnamed (t ∷ as_types more)))))
first_type {d} ty s rest k =
    skipped
    (from_type (TextWanted.ParameterList d) (λ p t. parameter_name d t) k ty (type_before_punctuator s rest)
    (λ u h. rw (is_other begins_type Keyword (codes "void") u refl h) refl) refl)
    refl (rw s.sort refl)

types_walk : {d e : ℕ} {ts : List Placed} {cs : List CType} {close : Placed} → Commas d (TypeName d) ts cs
    → IsPunctuator e ")" close → (rest : List Token) (k : Found → TextPlan)
    → Goes ts (close.token ∷ rest) (Want (TextWanted.ParameterList d) k) (k (parameters (Unnamed cs)))
types_walk {d} (Commas.last ty) s rest k = skipped (first_type ty s rest k) refl (refuses (MoreTypes d) s refl)
types_walk {d} {close = close} (Commas.more {rest = others} {comma} {a = t} ty c ps) s rest k =
    and_then (first_type ty c (tokens others ++ close.token ∷ rest) k)
    (spelled {w = MoreTypes d} c refl refl (further_types ps s rest (λ cs. k (parameters (Unnamed (t ∷ cs))))))

-- a function's body after its name
pub body_walk : {parameters body : List Placed} {paren close brace final : Placed} {bs : List Binding} {ss : List Stmt}
    → IsPunctuator 0 "(" paren → ParameterList 1 parameters bs → IsPunctuator 0 ")" close → IsPunctuator 0 "{" brace → Items 1 body ss
    → IsPunctuator 0 "}" final → (start : ℕ) (result : Option CType) (function : Name) (rest : List Token) (k : Found → TextPlan)
    → Goes (paren ∷ parameters ++ (close ∷ brace ∷ body ++ final ∷ [])) rest (Want (TextWanted.Function start result function) k)
    (k (made (function_made start result function bs ss (at final))))
body_walk {body = body} {close} {brace} {final} {bs} {ss} p ps c b is e start result function rest k =
    spelled {w = TextWanted.Function start result function} p refl refl
    (and_then (parameter_list_walk ps c (tokens (brace ∷ body ++ final ∷ []) ++ rest)
    (λ ps. punctuator (codes ")") 0 (then_text (function_by start result function (as_parameters ps)) k)))
    (word c (spelled {w = Body start result function bs} b refl refl
    (and_then (items_walk is e rest (λ ss. Want (Place (codes "}") 0) (λ end. k (made (function_made start result function bs (as_statements ss) (as_place end))))))
    (closing (λ end. k (made (function_made start result function bs ss (as_place end)))) e stays)))))

-- and a prototype's end
pub prototype_walk : {inside : List Placed} {paren close semicolon : Placed} {ps : Parameters}
    → IsPunctuator 0 "(" paren → PrototypeParameters 1 inside ps → IsPunctuator 0 ")" close → IsPunctuator 0 ";" semicolon
    → (start : ℕ) (result : Option CType) (function : Name) (rest : List Token) (k : Found → TextPlan)
    → Goes (paren ∷ inside ++ close ∷ semicolon ∷ []) rest (Want (TextWanted.Function start result function) k)
    (k (made (prototype_made start result function ps)))
prototype_walk {semicolon = semicolon} p (PrototypeParameters.named {parameters = bs} ps) c s start result function rest k =
    spelled {w = TextWanted.Function start result function} p refl refl
    (and_then (parameter_list_walk ps c (semicolon.token ∷ rest)
    (λ ps. punctuator (codes ")") 0 (then_text (function_by start result function (as_parameters ps)) k)))
    (word c (spelled {w = Body start result function bs} s refl refl stays)))
prototype_walk {semicolon = semicolon} p (PrototypeParameters.unnamed ts) c s start result function rest k =
    spelled {w = TextWanted.Function start result function} p refl refl
    (and_then (types_walk ts c (semicolon.token ∷ rest)
    (λ ps. punctuator (codes ")") 0 (then_text (function_by start result function (as_parameters ps)) k)))
    (word c (word s stays)))
