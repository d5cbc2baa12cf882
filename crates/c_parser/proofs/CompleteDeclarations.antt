-- The walk reads what is a declaration.
use Rattle.std.specs.Prelude.{◌≡◌, ℕ, IsTrue, List, [], ◌∷◌, ◌++◌, Some, None, codes}
use Rattle.std.proofs.Common.{refl, ap, sym, subst, append-nil}
use Rattle.c_lexer.specs.declared.token.Token.{Token}
use Rattle.c_lexer.specs.declared.token.TokenKind.TheVariants.{Punctuator}
use Rattle.c_tree.specs.declared.name.CType.{CType}
use Rattle.c_tree.specs.declared.stmt.Declaration.{Declaration}
use Rattle.c_tree.specs.declared.def.Binding.{Binding}
use Rattle.c_expr_parser.specs.Placed.{Placed, tokens, start, at}
use Rattle.c_expr_parser.specs.Terminals.{Spells, IsPunctuator, name}
use Rattle.c_expr_parser.specs.TypeNames.{Star}
use Rattle.c_expr_parser.specs.Declarations.{Declarators, Variable, Variables, Member, Members}
use Rattle.c_expr_parser.proofs.Beginnings.{type_opens, begins_type}
use Rattle.c_expr_parser.proofs.CompletePlans.{tokens_append}
use Rattle.c_expr_parser.proofs.CompleteTokens.{token_of}
use Rattle.c_expr_parser.proofs.CompleteEnds.{Closing, closes}
use Rattle.c_expr_parser.proofs.CompleteTypes.{EndsType}
use Rattle.c_parser.specs.TextPlans.{Found, TextWanted, TextPlan, then_text, text_depth, text_takes, punctuator, name_then, type_then, type_from, star_then, variables, declaration_behind, names, members_behind, as_optional, as_declarations, as_bindings}
use Rattle.c_parser.specs.TextPlans.Found.{declarations, bindings}
use Rattle.c_parser.specs.TextPlans.TextPlan.{Give, Want}
use Rattle.c_parser.specs.TextPlans.TextWanted.{Initial, MoreVariables, MoreNames, MoreMembers}
use Rattle.c_parser.proofs.CompletePlans.{Goes, Passes, stays, spelled, and_then, passing, skipped, to, expression, type_part}
use Rattle.c_parser.proofs.CompleteTokens.{word, naming, refuses, type_before_name, starts, from_type}

-- a star where the type has one
pub starred : {d : ℕ} {t : CType} {stars ts : List Placed} {rest : List Token} {q : TextPlan} (p : TextPlan) (k : Found → TextPlan)
    → Star d t stars → Goes ts rest (then_text p k) q → Goes (stars ++ ts) rest (then_text (star_then d t p) k) q
starred p k Star.integer r = r
starred p k (Star.handle s) r = word s r
starred p k Star.thread r = r

closing_initial : {spelling : List ℕ} → Closing spelling → (d place many : ℕ)
    → text_takes (Initial d) (token_of Punctuator place many spelling) ≡ None
closing_initial Closing.paren d p m = refl
closing_initial _ d p m = refl

-- a variable before a punctuator that ends it
variable_walk : {d e : ℕ} {t : CType} {ts : List Placed} {v : Declaration} {spelling : List ℕ} {u : Placed} → Variable d t ts v
    → Closing spelling → Spells Punctuator e spelling u → (rest : List Token) (k : Declaration → TextPlan)
    → Goes ts (u.token ∷ rest)
    (name_then d (λ name. Want (Initial d) (λ i. k (record { declared = t; name = name; initial = as_optional i })))) (k v)
variable_walk {d} {t = t} {u = u} (Variable.plain id) c s rest k =
    naming (λ name. Want (Initial d) (λ i. k (record { declared = t; name = name; initial = as_optional i }))) id
    (passing refl (refuses (Initial d) s (closing_initial c d (at u) u.token.len)) stays)
variable_walk {d} {t = t} {u = u} (Variable.initialised {variable} id sign a) c s rest k =
    naming (λ name. Want (Initial d) (λ i. k (record { declared = t; name = name; initial = as_optional i }))) id
    (spelled {w = Initial d} sign refl refl
    (expression a (u.token ∷ rest) (closes c s rest) (λ e. k (record { declared = t; name = name variable; initial = Some e }))))

pub variables_walk : {d : ℕ} {t : CType} {ts : List Placed} {ds : List Declaration} {semicolon : Placed}
    → Declarators d t (Variable d t) ts ds → IsPunctuator d ";" semicolon → (rest : List Token) (k : List Declaration → TextPlan)
    → Goes ts (semicolon.token ∷ rest) (variables d t k) (k ds)
variables_walk {d} {t} (Declarators.last v) s rest k =
    skipped (variable_walk v Closing.semicolon s rest (λ x. Want (MoreVariables d t) (λ more. k (x ∷ as_declarations more))))
    refl (refuses (MoreVariables d t) s refl)
variables_walk {d} {t} {semicolon = semicolon} (Declarators.more {ts} {stars} {rest = others} {a = a} v comma star vs) s rest k =
    and_then (variable_walk v Closing.comma comma (tokens (stars ++ others) ++ (semicolon.token ∷ rest))
    (λ x. Want (MoreVariables d t) (λ more. k (x ∷ as_declarations more))))
    (spelled {w = MoreVariables d t} comma refl refl
    (starred (variables d t (λ ds. Give (declarations ds))) (λ more. k (a ∷ as_declarations more)) star (variables_walk vs s rest (λ ds. k (a ∷ ds)))))

-- a variable begins with a name
variable_names : {d : ℕ} {t : CType} {ts : List Placed} {v : Declaration} → Variable d t ts v → (rest : List Token)
    → EndsType (tokens ts ++ rest)
variable_names (Variable.plain id) rest = type_before_name id rest
variable_names (Variable.initialised id sign a) rest = type_before_name id _

variables_name : {d : ℕ} {t : CType} {ts : List Placed} {ds : List Declaration} → Declarators d t (Variable d t) ts ds
    → (rest : List Token) → EndsType (tokens ts ++ rest)
variables_name (Declarators.last v) rest = variable_names v rest
variables_name (Declarators.more {ts} {stars} {rest = others} {comma} v s star vs) rest =
    subst EndsType (sym (tokens_append ts (comma ∷ stars ++ others) rest)) (variable_names v (tokens (comma ∷ stars ++ others) ++ rest))

-- a declaration that is known by its first token
pub declaration_walk : {d : ℕ} {ts : List Placed} {ds : List Declaration} (W : TextWanted) (made : ℕ → List Declaration → TextPlan)
    (k : Found → TextPlan) (rest : List Token) → Variables d ts ds
    → ((u : Token) → IsTrue (begins_type u.kind u.text)
    → text_takes W u ≡ type_from d u (λ t. declaration_behind d t (λ ds. made u.at ds)))
    → text_depth W ≡ d → Goes ts rest (Want W k) (then_text (made (start ts) ds) k)
declaration_walk {d} {ds = ds} W made k rest (Variables.declaration {ts} {names} {semicolon} {t} ty vs s) begins deep =
    to (ap (λ place. then_text (made place ds) k) (sym (starts (type_opens ty) (names ++ semicolon ∷ []))))
    (and_then
    (from_type W (λ place t. declaration_behind d t (λ ds. made place ds)) k ty
    (subst EndsType (sym (tokens_append names (semicolon ∷ []) rest)) (variables_name vs (semicolon.token ∷ rest))) begins deep)
    (and_then (variables_walk vs s rest (λ ds. punctuator (codes ";") d (then_text (made (start ts) ds) k))) (word s stays)))

-- the members of a struct
names_walk : {d : ℕ} {t : CType} {ts : List Placed} {bs : List Binding} {semicolon : Placed}
    → Declarators d t (Member d t) ts bs → IsPunctuator d ";" semicolon → (rest : List Token) (k : List Binding → TextPlan)
    → Goes ts (semicolon.token ∷ rest) (names d t k) (k bs)
names_walk {d} {t} (Declarators.last (Member.member {field} id)) s rest k =
    naming (λ name. Want (MoreNames d t) (λ more. k (record { declared = t; name = name } ∷ as_bindings more))) id
    (passing refl (refuses (MoreNames d t) s refl) stays)
names_walk {d} {t} (Declarators.more {stars} {rest = others} (Member.member {field} id) comma star bs) s rest k =
    naming (λ name. Want (MoreNames d t) (λ more. k (record { declared = t; name = name } ∷ as_bindings more))) id
    (spelled {w = MoreNames d t} comma refl refl
    (starred (names d t (λ bs. Give (bindings bs))) (λ more. k (record { declared = t; name = name field } ∷ as_bindings more)) star
    (names_walk bs s rest (λ bs. k (record { declared = t; name = name field } ∷ bs)))))

names_name : {d : ℕ} {t : CType} {ts : List Placed} {bs : List Binding} → Declarators d t (Member d t) ts bs
    → (rest : List Token) → EndsType (tokens ts ++ rest)
names_name (Declarators.last (Member.member id)) rest = type_before_name id rest
names_name (Declarators.more (Member.member id) s star vs) rest = type_before_name id _

-- members after their type
last_members : {d : ℕ} {t : CType} {names : List Placed} {members : List Binding} {semicolon : Placed}
    → Declarators d t (Member d t) names members → IsPunctuator d ";" semicolon → (rest : List Token) → Passes (MoreMembers d) rest
    → (k : Found → TextPlan) → Goes (names ++ semicolon ∷ []) rest (then_text (members_behind d t) k) (k (bindings members))
last_members {d} {members = members} ns s rest ends k =
    to (ap (λ all. k (bindings all)) (append-nil members))
    (and_then (names_walk ns s rest (λ these. punctuator (codes ";") d (Want (MoreMembers d) (λ more. k (bindings (these ++ as_bindings more))))))
    (word s (passing refl ends stays)))

more_members : {d : ℕ} {t : CType} {names others : List Placed} {members : List Binding} {semicolon : Placed} (further : List Binding)
    → Declarators d t (Member d t) names members → IsPunctuator d ";" semicolon → (rest : List Token) → (k : Found → TextPlan)
    → Goes others rest (Want (MoreMembers d) (λ more. k (bindings (members ++ as_bindings more)))) (k (bindings (members ++ further)))
    → Goes (names ++ semicolon ∷ others) rest (then_text (members_behind d t) k) (k (bindings (members ++ further)))
more_members {d} {others = others} further ns s rest k r =
    and_then (names_walk ns s (tokens others ++ rest)
    (λ these. punctuator (codes ";") d (Want (MoreMembers d) (λ more. k (bindings (these ++ as_bindings more))))))
    (word s r)

further_members : {d : ℕ} {ts : List Placed} {members : List Binding} → Members d ts members → (rest : List Token)
    → Passes (MoreMembers d) rest → (k : Found → TextPlan) → Goes ts rest (Want (MoreMembers d) k) (k (bindings members))
further_members {d} (Members.last {names} {semicolon} ty ns s) rest ends k =
    and_then (from_type (MoreMembers d) (λ place t. members_behind d t) k ty
    (subst EndsType (sym (tokens_append names (semicolon ∷ []) rest)) (names_name ns (semicolon.token ∷ rest))) (λ u h. refl) refl)
    (last_members ns s rest ends k)
further_members {d} (Members.more {names} {rest = others} {semicolon} {members} {others = further} ty ns s behind_it) rest ends k =
    and_then (from_type (MoreMembers d) (λ place t. members_behind d t) k ty
    (subst EndsType (sym (tokens_append names (semicolon ∷ others) rest)) (names_name ns (semicolon.token ∷ (tokens others ++ rest)))) (λ u h. refl) refl)
    (more_members further ns s rest k (further_members behind_it rest ends (λ more. k (bindings (members ++ as_bindings more)))))

pub members_walk : {d : ℕ} {ts : List Placed} {members : List Binding} → Members d ts members → (rest : List Token)
    → Passes (MoreMembers d) rest → (k : Found → TextPlan)
    → Goes ts rest (type_then d (λ t. then_text (members_behind d t) k)) (k (bindings members))
members_walk {d} (Members.last {names} {semicolon} ty ns s) rest ends k =
    and_then (type_part ty (tokens (names ++ semicolon ∷ []) ++ rest)
    (subst EndsType (sym (tokens_append names (semicolon ∷ []) rest)) (names_name ns (semicolon.token ∷ rest)))
    (λ t. then_text (members_behind d t) k))
    (last_members ns s rest ends k)
members_walk {d} (Members.more {names} {rest = others} {semicolon} {members} {others = further} ty ns s behind_it) rest ends k =
    and_then (type_part ty (tokens (names ++ semicolon ∷ others) ++ rest)
    (subst EndsType (sym (tokens_append names (semicolon ∷ others) rest)) (names_name ns (semicolon.token ∷ (tokens others ++ rest))))
    (λ t. then_text (members_behind d t) k))
    (more_members further ns s rest k (further_members behind_it rest ends (λ more. k (bindings (members ++ as_bindings more)))))
