-- How the plans of parameters, members, globals and items go on, by their first tokens.
use Rattle.std.proofs.Common.{◌≡◌, ◌<◌, ◌≤◌, ℕ, Bool, true, false, List, [], ◌∷◌, ◌++◌, length, Option, Some, None, refl, sym, ap, ◌∙◌, arith, append_assoc, append-nil}
use Rattle.std.specs.Prelude.{option_map, if◌then◌else◌, codes}
use Rattle.std.proofs.lemmas.List.{map-append}
use Rattle.std.proofs.Math.Path.{fun_ext}
use Rattle.c_lexer.specs.declared.token.Token.{Token}
use Rattle.c_lexer.specs.declared.token.TokenKind.TheVariants.{Identifier, Keyword, Punctuator}
use Rattle.c_tree.specs.declared.name.Name.{Name}
use Rattle.c_tree.specs.declared.name.CType.{CType}
use Rattle.c_tree.specs.declared.expr.Expr.{Expr}
use Rattle.c_tree.specs.declared.def.Binding.{Binding}
use Rattle.c_tree.specs.declared.def.Parameters.TheVariants.{Named}
use Rattle.c_tree.specs.declared.def.FieldValue.{FieldValue}
use Rattle.c_tree.specs.declared.def.Def.{Def}
use Rattle.c_tree.specs.declared.def.DefKind.{DefKind}
use Rattle.c_tree.specs.declared.def.DefKind.TheVariants as kind
use Rattle.c_expr_parser.specs.Readings.{most_depth}
use Rattle.c_expr_parser.specs.Definitions.{def, defs}
use Rattle.c_expr_parser.specs.Tables.{is, is_kind, when_some, holds_ahead, begins_type}
use Rattle.c_expr_parser.specs.Plans.{Plan, Word, Naming, Cast, nothing, named, after, as_expr, as_type, conditional_rest, operand_plan}
use Rattle.c_expr_parser.specs.Plans.Plan.{Return}
use Rattle.c_parser.specs.TextPlans.{TextPlan, behind, as_part, as_bindings, as_values, as_listed, as_length, as_updates, text_at_depth, text_parsed, text_reads, punctuator, type_then, conditional_then, type_from, members_behind, names, parameters_by}
use Rattle.c_parser.specs.TextPlans.Found.{part, parameters, bindings, values, global, updates}
use Rattle.c_parser.specs.TextPlans.TextPlan.{Give, Want}
use Rattle.c_parser.specs.TextPlans.TextWanted.{Of, ParameterList, ParameterName, MoreMembers, MoreValues, AfterComma, ArrayInitial, ArrayLength, Global, Updates}
use Rattle.c_parser.specs.TextPlans.TextParsed.{deep_at}
use Rattle.c_parser.specs.Parts.{named_plan, unnamed_plan, member_line_then, update_then}
use Rattle.c_parser.proofs.PlanResults.{parsed_takes, parsed_left, parsed_dead, parsed_end, parsed_end_left, passes_held, takes_first, sinks_first}
use Rattle.c_parser.proofs.SignsByFirstToken.{IsFirst, sign_some, then_conditional}
use Rattle.c_parser.proofs.PhraseBeginnings.{begins_as, begins_type_as, type_none, no_operand, then_give}
use Rattle.c_parser.proofs.ListLoops.{more_members, more_values, more_updates}

-- parameters
abbrev pub list_by : ℕ → Token → Bool → Option TextPlan
list_by d t a =
    if a then Some (Give (parameters (Named []))) else type_from d t (λ ty. Want (ParameterName d) (λ f. parameters_by d ty (as_part f)))

pub list_void : (d : ℕ) (us ts : List Token) → IsFirst (is Keyword (codes "void")) ts us → d ≤ most_depth
    → text_reads (ParameterList d) ts ≡ text_parsed (Give (parameters (Named []))) us
list_void d us ts f shallow = takes_first (ParameterList d) Give (Give (parameters (Named []))) f.0 us ts f.1 (ap (list_by d f.0) f.2) shallow

pub list_deep : (d : ℕ) (us ts : List Token) → IsFirst (is Keyword (codes "void")) ts us → most_depth < d
    → text_reads (ParameterList d) ts ≡ deep_at (length ts)
list_deep d us ts f low = sinks_first (ParameterList d) Give (Give (parameters (Named []))) f.0 us ts f.1 (ap (list_by d f.0) f.2) low

pub list_none : (d : ℕ) (ts : List Token) → holds_ahead (is Keyword (codes "void")) ts ≡ false → holds_ahead begins_type ts ≡ false
    → text_reads (ParameterList d) ts ≡ text_parsed (Give (parameters (Named []))) ts
list_none d [] no_void no_type = parsed_end_left (ParameterList d) Give (parameters (Named [])) refl
list_none d (t ∷ ts) no_void no_type =
    parsed_left (ParameterList d) Give t ts (parameters (Named []))
    (ap (list_by d t) no_void ∙ ap (option_map (λ p. behind (after p Return) (λ v. Want (ParameterName d) (λ f. parameters_by d (as_type v) (as_part f))))) (type_none d t no_type))
    refl

pub list_type : (d : ℕ) (ts : List Token) → holds_ahead (is Keyword (codes "void")) ts ≡ false → holds_ahead begins_type ts ≡ true
    → text_reads (ParameterList d) ts ≡ text_parsed (type_then d (λ ty. Want (ParameterName d) (λ f. parameters_by d ty (as_part f)))) ts
list_type d [] no_void h = let e : false ≡ true = h in absurd (cc)
list_type d (t ∷ ts) no_void h =
    begins_type_as (ParameterList d) d (λ ty. Want (ParameterName d) (λ f. parameters_by d ty (as_part f))) Give t ts h (ap (list_by d t) no_void) refl
    ∙ ap (λ (q : CType → TextPlan). text_parsed (type_then d q) (t ∷ ts)) (fun_ext (λ ty. then_give (Want (ParameterName d) (λ f. parameters_by d ty (as_part f)))))

pub list_named : (d : ℕ) (ty : CType) (ts : List Token) → holds_ahead (is_kind Identifier) ts ≡ true
    → text_parsed (Want (ParameterName d) (λ f. parameters_by d ty (as_part f))) ts ≡ text_parsed (named_plan d ty) ts
list_named d ty [] h = let e : false ≡ true = h in absurd (cc)
list_named d ty (t ∷ ts) h =
    parsed_takes (ParameterName d) _ t ts (Give (part (named (record { place = t.at; text = t.text }))))
    (ap (λ b. when_some b (Some (Give (part (named (record { place = t.at; text = t.text })))))) h)
    ∙ sym (parsed_takes (Of (Naming d)) _ t ts (Give (part (named (record { place = t.at; text = t.text }))))
    (ap (option_map (λ p. behind p (λ v. Give (part v)))) (ap (λ b. when_some b (Some (Return (named (record { place = t.at; text = t.text }))))) h)))

pub list_unnamed : (d : ℕ) (ty : CType) (ts : List Token) → holds_ahead (is_kind Identifier) ts ≡ false
    → text_parsed (Want (ParameterName d) (λ f. parameters_by d ty (as_part f))) ts ≡ text_parsed (unnamed_plan d ty) ts
list_unnamed d ty ts h =
    passes_held (is_kind Identifier) (ParameterName d) (λ f. parameters_by d ty (as_part f)) (part nothing) ts
    (λ t e. ap (λ b. when_some b (Some (Give (part (named (record { place = t.at; text = t.text })))))) e) refl h

-- members
pub members_next : (d : ℕ) (list : List Binding) (k : List Binding → TextPlan) (ts : List Token) → holds_ahead begins_type ts ≡ true
    → text_parsed (more_members d list k) ts ≡ text_parsed (member_line_then d (λ bs. more_members d (list ++ bs) k)) ts
members_next d list k [] h = let e : false ≡ true = h in absurd (cc)
members_next d list k (t ∷ ts) h =
    begins_type_as (MoreMembers d) d (members_behind d) _ t ts h refl refl
    ∙ ap (λ (q : List Binding → TextPlan). text_parsed (type_then d (λ ty. names d ty (λ bs. punctuator (codes ";") d (q bs)))) (t ∷ ts))
    (fun_ext (λ bs. ap (Want (MoreMembers d)) (fun_ext (λ f. ap k (sym (append_assoc list bs (as_bindings f)))))))

pub members_end : (d : ℕ) (list : List Binding) (k : List Binding → TextPlan) (ts : List Token) → holds_ahead begins_type ts ≡ false
    → text_parsed (more_members d list k) ts ≡ text_parsed (k list) ts
members_end d list k ts h =
    passes_held begins_type (MoreMembers d) (λ f. k (list ++ as_bindings f)) (bindings []) ts
    (λ t e. ap (option_map (λ p. behind (after p Return) (λ v. members_behind d (as_type v)))) (type_none d t e)) refl h
    ∙ ap (λ l. text_parsed (k l) ts) (append-nil list)

-- initialisers of an array
values_by : (list : List Expr) (k : List Expr → TextPlan) (t : Token) (us : List Token) (o : Option Plan) → operand_plan true 1 t ≡ o
    → is Punctuator (codes "}") t ≡ false
    → text_parsed (Want (AfterComma 1) (λ f. punctuator (codes "}") 0 (k (list ++ as_values f)))) (t ∷ us)
    ≡ text_parsed (conditional_then 1 (λ e. Want (MoreValues 1) (λ f. punctuator (codes "}") 0 (k (list ++ e ∷ as_values f))))) (t ∷ us)
values_by list k t us (Some p) h no_ =
    begins_as (AfterComma 1) (Cast 1) (conditional_rest 1) (λ v. Want (MoreValues 1) (λ more. Give (values (as_expr v ∷ as_values more)))) _ t us p
    (ap (option_map (λ p. behind (after p (conditional_rest 1)) (λ v. Want (MoreValues 1) (λ more. Give (values (as_expr v ∷ as_values more)))))) h) h refl
values_by list k t us None h no_ =
    parsed_left (AfterComma 1) _ t us (values [])
    (ap (option_map (λ p. behind (after p (conditional_rest 1)) (λ v. Want (MoreValues 1) (λ more. Give (values (as_expr v ∷ as_values more)))))) h) refl
    ∙ parsed_dead (Of (Word Punctuator (codes "}") 0)) _ t us
    (ap (option_map (λ p. behind p (λ v. Give (part v)))) (ap (λ b. when_some b (Some (Return nothing))) no_)) refl
    ∙ sym (parsed_dead (Of (Cast 1)) _ t us (ap (option_map (λ p. behind p (λ v. Give (part v)))) h) refl)

values_at : (list : List Expr) (k : List Expr → TextPlan) (ts : List Token) → holds_ahead (is Punctuator (codes "}")) ts ≡ false
    → text_parsed (Want (AfterComma 1) (λ f. punctuator (codes "}") 0 (k (list ++ as_values f)))) ts
    ≡ text_parsed (conditional_then 1 (λ e. Want (MoreValues 1) (λ f. punctuator (codes "}") 0 (k (list ++ e ∷ as_values f))))) ts
values_at list k [] no_ =
    parsed_end_left (AfterComma 1) _ (values []) refl ∙ parsed_end (Of (Word Punctuator (codes "}") 0)) _ refl
    ∙ sym (parsed_end (Of (Cast 1)) _ refl)
values_at list k (t ∷ us) no_ = values_by list k t us (operand_plan true 1 t) refl no_

pub values_next : (list : List Expr) (k : List Expr → TextPlan) (us ts : List Token) → IsFirst (is Punctuator (codes ",")) ts us
    → holds_ahead (is Punctuator (codes "}")) us ≡ false
    → text_parsed (more_values list k) ts
    ≡ text_parsed (conditional_then 1 (λ e. Want (MoreValues 1) (λ f. punctuator (codes "}") 0 (k (list ++ e ∷ as_values f))))) us
values_next list k us ts f no_ =
    sign_some (MoreValues 1) (is Punctuator (codes ",")) (Want (AfterComma 1) Give) _ us ts (λ t. refl) f (omega arith) ∙ values_at list k us no_

pub values_last : (list : List Expr) (k : List Expr → TextPlan) (vs us ts : List Token) → IsFirst (is Punctuator (codes ",")) ts us
    → IsFirst (is Punctuator (codes "}")) us vs → text_parsed (more_values list k) ts ≡ text_parsed (k list) vs
values_last list k vs us ts f g =
    sign_some (MoreValues 1) (is Punctuator (codes ",")) (Want (AfterComma 1) Give) _ us ts (λ t. refl) f (omega arith)
    ∙ (rw g.1 (parsed_left (AfterComma 1) _ g.0 vs (values [])
    (ap (option_map (λ p. behind (after p (conditional_rest 1)) (λ v. Want (MoreValues 1) (λ more. Give (values (as_expr v ∷ as_values more))))))
    (no_operand 1 (codes "}") g.0 refl g.2)) refl
    ∙ takes_first (Of (Word Punctuator (codes "}") 0)) _ (Give (part nothing)) g.0 vs (g.0 ∷ vs) refl
    (ap (option_map (λ p. behind p (λ v. Give (part v)))) (ap (λ b. when_some b (Some (Return nothing))) g.2)) (omega arith)))
    ∙ ap (λ l. text_parsed (k l) vs) (append-nil list)

-- globals
abbrev pub global_by : CType → Name → Bool → Bool → Option TextPlan
global_by ty name a b =
    if a then Some (conditional_then 0 (λ e. Give (global (kind.Global (record { declared = ty; name = name; initial = Some e })))))
    else when_some b (Some (Want (ArrayLength 1) (λ n. punctuator (codes "]") 0 (Want ArrayInitial (λ es.
    Give (global (kind.Array (record { element = ty; name = name; length = as_length n; initial = as_listed es }))))))))

pub global_value : (ty : CType) (name : Name) (us ts : List Token) → IsFirst (is Punctuator (codes "=")) ts us
    → text_reads (Global ty name) ts
    ≡ text_parsed (conditional_then 0 (λ e. Give (global (kind.Global (record { declared = ty; name = name; initial = Some e }))))) us
global_value ty name us ts f =
    takes_first (Global ty name) Give (conditional_then 0 (λ e. Give (global (kind.Global (record { declared = ty; name = name; initial = Some e }))))) f.0 us ts f.1
    (ap (λ a. global_by ty name a (is Punctuator (codes "[") f.0)) f.2) (omega arith)
    ∙ ap (λ p. text_parsed p us) (then_give _)

pub global_array : (ty : CType) (name : Name) (us ts : List Token) → IsFirst (is Punctuator (codes "[")) ts us → holds_ahead (is Punctuator (codes "=")) ts ≡ false
    → text_reads (Global ty name) ts
    ≡ text_parsed (Want (ArrayLength 1) (λ n. punctuator (codes "]") 0 (Want ArrayInitial (λ es.
    Give (global (kind.Array (record { element = ty; name = name; length = as_length n; initial = as_listed es }))))))) us
global_array ty name us ts f no_ =
    takes_first (Global ty name) Give (Want (ArrayLength 1) (λ n. punctuator (codes "]") 0 (Want ArrayInitial (λ es.
    Give (global (kind.Array (record { element = ty; name = name; length = as_length n; initial = as_listed es }))))))) f.0 us ts f.1
    (ap (λ a. global_by ty name a (is Punctuator (codes "[") f.0)) (sym (ap (holds_ahead (is Punctuator (codes "="))) f.1) ∙ no_) ∙ ap (global_by ty name false) f.2)
    (omega arith)

pub global_plain : (ty : CType) (name : Name) (ts : List Token) → holds_ahead (is Punctuator (codes "=")) ts ≡ false
    → holds_ahead (is Punctuator (codes "[")) ts ≡ false
    → text_reads (Global ty name) ts ≡ text_parsed (Give (global (kind.Global (record { declared = ty; name = name; initial = None })))) ts
global_plain ty name [] no_ none = parsed_end_left (Global ty name) Give _ refl
global_plain ty name (t ∷ ts) no_ none =
    parsed_left (Global ty name) Give t ts _ (ap (λ a. global_by ty name a (is Punctuator (codes "[") t)) no_ ∙ ap (global_by ty name false) none) refl

pub defs_more : (start : ℕ) (before list all : List Def) (kinds : List DefKind) (x : DefKind) → list ≡ before ++ defs start kinds
    → all ≡ list ++ def start x ∷ [] → all ≡ before ++ defs start (kinds ++ x ∷ [])
defs_more start before list all kinds x e f =
    f ∙ ap (λ l. l ++ def start x ∷ []) e ∙ append_assoc before (defs start kinds) (def start x ∷ [])
    ∙ ap (λ l. before ++ l) (sym (map-append (def start) kinds (x ∷ [])))

-- updates of fields
abbrev pub update_form : ℕ → Token → TextPlan
update_form d t =
    punctuator (codes "=") d (conditional_then d (λ e. punctuator (codes ";") d (Want (Updates d) (λ more.
    Give (updates (record { field = record { place = t.at; text = t.text }; value = e } ∷ as_updates more))))))

pub updates_next : (d : ℕ) (list : List FieldValue) (k : List FieldValue → TextPlan) (ts : List Token) → holds_ahead (is_kind Identifier) ts ≡ true
    → text_parsed (more_updates d list k) ts
    ≡ text_parsed (update_then d (λ x. Want (Updates d) (λ f. k (list ++ x ∷ as_updates f)))) ts
updates_next d list k [] h = let e : false ≡ true = h in absurd (cc)
updates_next d list k (t ∷ ts) h =
    parsed_takes (Updates d) (λ f. k (list ++ as_updates f)) t ts (update_form d t) (ap (λ b. when_some b (Some (update_form d t))) h)
    ∙ ap (λ p. text_at_depth d (length (t ∷ ts)) (text_parsed p ts)) (ap (punctuator (codes "=") d) (then_conditional d (λ e. punctuator (codes ";") d (Want (Updates d) (λ more.
    Give (updates (record { field = record { place = t.at; text = t.text }; value = e } ∷ as_updates more))))) (λ f. k (list ++ as_updates f))))
    ∙ sym (parsed_takes (Of (Naming d)) _ t ts (Give (part (named (record { place = t.at; text = t.text }))))
    (ap (option_map (λ p. behind p (λ v. Give (part v)))) (ap (λ b. when_some b (Some (Return (named (record { place = t.at; text = t.text }))))) h)))

pub updates_end : (d : ℕ) (list : List FieldValue) (k : List FieldValue → TextPlan) (ts : List Token) → holds_ahead (is_kind Identifier) ts ≡ false
    → text_parsed (more_updates d list k) ts ≡ text_parsed (k list) ts
updates_end d list k ts h =
    passes_held (is_kind Identifier) (Updates d) (λ f. k (list ++ as_updates f)) (updates []) ts
    (λ t e. ap (λ b. when_some b (Some (update_form d t))) e) refl h
    ∙ ap (λ l. text_parsed (k l) ts) (append-nil list)
