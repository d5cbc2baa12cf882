-- What the plans of members, parameters, globals and updates mean.
use Rattle.std.specs.Prelude.{ℕ, zero, suc, List, [], ◌∷◌, ◌++◌, codes}
use Rattle.std.proofs.Common.{sym, subst, append-nil, append_assoc}
use Rattle.c_lexer.specs.declared.token.Token.{Token}
use Rattle.c_lexer.specs.declared.token.TokenKind.TheVariants.{Punctuator, Identifier, Keyword}
use Rattle.c_tree.specs.declared.name.CType.{CType}
use Rattle.c_tree.specs.declared.def.Binding.{Binding}
use Rattle.c_tree.specs.declared.def.Parameters.TheVariants.{Named, Unnamed}
use Rattle.c_expr_parser.specs.Placed.{Placed}
use Rattle.c_expr_parser.specs.Terminals.{IsPunctuator, IsIdentifier, name}
use Rattle.c_expr_parser.specs.TypeNames.{TypeName}
use Rattle.c_expr_parser.specs.Declarations.{Commas, Declarators, Member, Members}
use Rattle.c_expr_parser.specs.Definitions.{Parameter, ParameterList, PrototypeParameters, Updates}
use Rattle.c_expr_parser.specs.Tables.{is, is_kind}
use Rattle.c_expr_parser.specs.Plans.{Value}
use Rattle.c_expr_parser.specs.Plans.Value.{nothing, named}
use Rattle.c_expr_parser.proofs.SoundTables.{placed_at, Each, each_if, each_when, spelled_at, token_at}
use Rattle.c_parser.specs.TextPlans.{Found, TextWanted, TextPlan, then_text, text_takes, punctuator, name_then, members_behind, parameters_by, as_part, as_bindings, as_types, as_updates}
use Rattle.c_parser.specs.TextPlans.Found.{part, bindings, types, parameters, updates}
use Rattle.c_parser.specs.TextPlans.TextPlan.{Give, Want}
use Rattle.c_parser.proofs.TraceMeaning.{Meaning, From, Explains, gives}
use Rattle.c_parser.proofs.WantedMeaning.{text_word, text_name, text_type, text_conditional, type_begun}
use Rattle.c_parser.proofs.SoundDeclarations.{Made, text_want, regroup, Declares, names_explained}
use Rattle.c_parser.proofs.SoundPhrases.{on_none, on_more, declares_all}

-- further members, and phrases after one with commas between
pub data MoreMembers (d : ℕ) : List Binding → List Placed → Type 0 where
  none : MoreMembers d [] []
  some : {ts : List Placed} {bs : List Binding} → Members d ts bs → MoreMembers d bs ts

pub data MoreCommas {A : Type 0} (d : ℕ) (Phrase : List Placed → A → Type 0) : List A → List Placed → Type 0 where
  none : MoreCommas d Phrase [] []
  some : {comma : Placed} {ts : List Placed} {all : List A} → IsPunctuator d "," comma → Commas d Phrase ts all → MoreCommas d Phrase all (comma ∷ ts)

pub data MaybeName (d : ℕ) : Value → List Placed → Type 0 where
  none : MaybeName d nothing []
  some : {t : Placed} → IsIdentifier d t → MaybeName d (named (name t)) (t ∷ [])

commas_of : {A : Type 0} {d : ℕ} {Phrase : List Placed → A → Type 0} {vs : List Placed} {a : A} {all : List A} (us : List Placed) → Phrase us a
    → MoreCommas d Phrase all vs → Commas d Phrase (us ++ vs) (a ∷ all)
commas_of {d = d} {Phrase} {a = a} us x MoreCommas.none = subst (λ l. Commas d Phrase l (a ∷ [])) (sym (append-nil us)) (Commas.last x)
commas_of us x (MoreCommas.some c xs) = Commas.more x c xs

-- on at most so many tokens, these are found as the grammar says
pub record Defines (n : ℕ) : Type 0 where
  pub members_so : (d : ℕ) → Explains n (Made bindings (λ bs ts r. MoreMembers d bs ts)) (Want (TextWanted.MoreMembers d) Give)
  pub name_so : (d : ℕ) → Explains n (Made part (λ v ts r. MaybeName d v ts)) (Want (TextWanted.ParameterName d) Give)
  pub parameters_so : (d : ℕ) → Explains n (Made bindings (λ bs ts r. MoreCommas d (Parameter d) bs ts)) (Want (TextWanted.MoreParameters d) Give)
  pub types_so : (d : ℕ) → Explains n (Made types (λ cs ts r. MoreCommas d (TypeName d) cs ts)) (Want (TextWanted.MoreTypes d) Give)
  pub list_so : (d : ℕ) → Explains n (Made parameters (λ ps ts r. PrototypeParameters d ts ps)) (Want (TextWanted.ParameterList d) Give)
  pub updates_so : (d : ℕ) → Explains n (Made updates (λ us ts r. Updates d ts us)) (Want (TextWanted.Updates d) Give)

pub members_of : {d : ℕ} {ty : CType} {ns vs : List Placed} {s : Placed} {these more : List Binding} (us : List Placed) → TypeName d us ty
    → Declarators d ty (Member d ty) ns these → IsPunctuator d ";" s → MoreMembers d more vs
    → Members d (us ++ (ns ++ (s ∷ vs))) (these ++ more)
members_of {d} {ns = ns} {s = s} {these} us t ds h MoreMembers.none =
    subst (Members d (us ++ (ns ++ (s ∷ [])))) (sym (append-nil these)) (Members.last t ds h)
members_of us t ds h (MoreMembers.some ms) = Members.more t ds h ms

-- the members of a struct after their type
pub members_explained : {n : ℕ} (Q : Meaning) → Declares n → Defines n → (d : ℕ) (ty : CType) (k : Found → TextPlan)
    → ((ns vs : List Placed) (s : Placed) (these more : List Binding) → Declarators d ty (Member d ty) ns these → IsPunctuator d ";" s
    → MoreMembers d more vs → Explains n (λ ts f r. Q (ns ++ (s ∷ (vs ++ ts))) f r) (k (bindings (these ++ more))))
    → Explains n Q (then_text (members_behind d ty) k)
members_explained Q declares defines d ty k g =
    names_explained Q declares d ty (λ these. punctuator (codes ";") d (Want (TextWanted.MoreMembers d) (λ more. k (bindings (these ++ as_bindings more)))))
    (λ ns these x. text_word (From ns Q) (λ s hs.
    text_want (From (s ∷ []) (From ns Q)) (λ more. k (bindings (these ++ as_bindings more))) (TextWanted.MoreMembers d) (defines.members_so d)
    (λ more vs rest m. g ns vs s these more x hs m)))

members_taken : {n : ℕ} → Declares n → Defines n → (d : ℕ) (t : Token)
    → Each (λ p. Explains n (From (placed_at d t ∷ []) (Made bindings (λ bs ts r. MoreMembers d bs ts))) p) (text_takes (TextWanted.MoreMembers d) t)
members_taken {n} declares defines d t =
    type_begun Q (members_behind d) d t (λ us ty x.
    members_explained (From us Q) declares defines d ty Give (λ ns vs s these more y hs m.
    gives (λ rest. rw append-nil (Made.it_is (MoreMembers.some (members_of (placed_at d t ∷ us) x y hs m))))))
  where
    Q : Meaning
    Q = From (placed_at d t ∷ []) (Made bindings (λ bs ts r. MoreMembers d bs ts))

-- parameters
name_taken : (n d : ℕ) (t : Token)
    → Each (λ p. Explains n (From (placed_at d t ∷ []) (Made part (λ v ts r. MaybeName d v ts))) p) (text_takes (TextWanted.ParameterName d) t)
name_taken n d t =
    each_when (λ p. Explains n (From (placed_at d t ∷ []) (Made part (λ v ts r. MaybeName d v ts))) p) (is_kind Identifier t) _
    (λ h. gives (λ rest. Made.it_is (MaybeName.some (token_at Identifier d t h))))

parameters_taken : {n : ℕ} → Defines n → (d : ℕ) (t : Token)
    → Each (λ p. Explains n (From (placed_at d t ∷ []) (Made bindings (λ bs ts r. MoreCommas d (Parameter d) bs ts))) p)
    (text_takes (TextWanted.MoreParameters d) t)
parameters_taken {n} defines d t =
    each_when (λ p. Explains n Q p) (is Punctuator (codes ",") t) _
    (λ h. text_type Q (λ ty. name_then d (λ name. Want (TextWanted.MoreParameters d) (λ more.
    Give (bindings (record { declared = ty; name = name } ∷ as_bindings more)))))
    (λ us ty x. text_name (From us Q) (λ name. Want (TextWanted.MoreParameters d) (λ more.
    Give (bindings (record { declared = ty; name = name } ∷ as_bindings more))))
    (λ y id. text_want (From (y ∷ []) (From us Q)) (λ more. Give (bindings (record { declared = ty; name = name y } ∷ as_bindings more)))
    (TextWanted.MoreParameters d) (defines.parameters_so d)
    (λ bs vs rest m. regroup (From us Q) (y ∷ []) vs (regroup Q us (y ∷ vs)
    (gives (λ rest. rw append-nil (Made.it_is (MoreCommas.some (spelled_at Punctuator d (codes ",") t h)
    (subst (λ l. Commas d (Parameter d) l (record { declared = ty; name = name y } ∷ bs)) (append_assoc us (y ∷ []) vs)
    (commas_of (us ++ y ∷ []) (Parameter.parameter x id) m)))))))))))
  where
    Q : Meaning
    Q = From (placed_at d t ∷ []) (Made bindings (λ bs ts r. MoreCommas d (Parameter d) bs ts))

types_taken : {n : ℕ} → Defines n → (d : ℕ) (t : Token)
    → Each (λ p. Explains n (From (placed_at d t ∷ []) (Made types (λ cs ts r. MoreCommas d (TypeName d) cs ts))) p)
    (text_takes (TextWanted.MoreTypes d) t)
types_taken {n} defines d t =
    each_when (λ p. Explains n Q p) (is Punctuator (codes ",") t) _
    (λ h. text_type Q (λ ty. Want (TextWanted.MoreTypes d) (λ more. Give (types (ty ∷ as_types more))))
    (λ us ty x. text_want (From us Q) (λ more. Give (types (ty ∷ as_types more))) (TextWanted.MoreTypes d) (defines.types_so d)
    (λ cs vs rest m. regroup Q us vs
    (gives (λ rest. rw append-nil (Made.it_is (MoreCommas.some (spelled_at Punctuator d (codes ",") t h) (commas_of us x m))))))))
  where
    Q : Meaning
    Q = From (placed_at d t ∷ []) (Made types (λ cs ts r. MoreCommas d (TypeName d) cs ts))

list_taken : {n : ℕ} → Defines n → (d : ℕ) (t : Token)
    → Each (λ p. Explains n (From (placed_at d t ∷ []) (Made parameters (λ ps ts r. PrototypeParameters d ts ps))) p)
    (text_takes (TextWanted.ParameterList d) t)
list_taken {n} defines d t =
    each_if (λ p. Explains n Q p) (is Keyword (codes "void") t) _ _
    (λ h. gives (λ rest. Made.it_is (PrototypeParameters.named (ParameterList.void (spelled_at Keyword d (codes "void") t h)))))
    (λ h. type_begun Q (λ ty. Want (TextWanted.ParameterName d) (λ f. parameters_by d ty (as_part f))) d t
    (λ us ty x. text_want (From us Q) (λ f. parameters_by d ty (as_part f)) (TextWanted.ParameterName d) (defines.name_so d)
    (λ v vs rest m. by_name us ty x m)))
  where
    Q : Meaning
    Q = From (placed_at d t ∷ []) (Made parameters (λ ps ts r. PrototypeParameters d ts ps))

    by_name : (us : List Placed) (ty : CType) → TypeName d (placed_at d t ∷ us) ty → {v : Value} {vs : List Placed} → MaybeName d v vs
        → Explains n (From vs (From us Q)) (parameters_by d ty v)
    by_name us ty x MaybeName.none =
        text_want (From us Q) (λ more. Give (parameters (Unnamed (ty ∷ as_types more)))) (TextWanted.MoreTypes d) (defines.types_so d)
        (λ cs vs rest m. gives (λ rest. rw append-nil (Made.it_is (PrototypeParameters.unnamed (commas_of (placed_at d t ∷ us) x m)))))
    by_name us ty x (MaybeName.some {t = y} id) =
        text_want (From (y ∷ []) (From us Q)) (λ more. Give (parameters (Named (record { declared = ty; name = name y } ∷ as_bindings more))))
        (TextWanted.MoreParameters d) (defines.parameters_so d)
        (λ bs vs rest m. gives (λ rest. rw append-nil (Made.it_is (PrototypeParameters.named (ParameterList.some
        (subst (λ l. Commas d (Parameter d) l (record { declared = ty; name = name y } ∷ bs)) (append_assoc (placed_at d t ∷ us) (y ∷ []) vs)
        (commas_of (placed_at d t ∷ (us ++ y ∷ [])) (Parameter.parameter x id) m)))))))

-- the updates of a transformer
updates_taken : {n : ℕ} → Defines n → (d : ℕ) (t : Token)
    → Each (λ p. Explains n (From (placed_at d t ∷ []) (Made updates (λ us ts r. Updates d ts us))) p) (text_takes (TextWanted.Updates d) t)
updates_taken {n} defines d t =
    each_when (λ p. Explains n Q p) (is_kind Identifier t) _
    (λ h. text_word Q (λ s hs. text_conditional (From (s ∷ []) Q) (λ e. punctuator (codes ";") d (Want (TextWanted.Updates d) (λ more.
    Give (updates (record { field = record { place = t.at; text = t.text }; value = e } ∷ as_updates more)))))
    (λ us e c. text_word (From us (From (s ∷ []) Q)) (λ x hx.
    text_want (From (x ∷ []) (From us (From (s ∷ []) Q)))
    (λ more. Give (updates (record { field = record { place = t.at; text = t.text }; value = e } ∷ as_updates more)))
    (TextWanted.Updates d) (defines.updates_so d)
    (λ more vs rest m. gives (λ rest. rw append-nil (Made.it_is (Updates.more (token_at Identifier d t h) hs c hx m))))))))
  where
    Q : Meaning
    Q = From (placed_at d t ∷ []) (Made updates (λ us ts r. Updates d ts us))

abbrev Lists : ℕ → Meaning
Lists d = Made parameters (λ ps ts r. PrototypeParameters d ts ps)

pub defines_all : (n : ℕ) → Defines n
defines_all zero = record {
  members_so = λ d. on_none (TextWanted.MoreMembers d) (Made bindings (λ bs ts r. MoreMembers d bs ts)) (λ rest p. Made.it_is MoreMembers.none);
  name_so = λ d. on_none (TextWanted.ParameterName d) (Made part (λ v ts r. MaybeName d v ts)) (λ rest p. Made.it_is MaybeName.none);
  parameters_so = λ d. on_none (TextWanted.MoreParameters d) (Made bindings (λ bs ts r. MoreCommas d (Parameter d) bs ts)) (λ rest p. Made.it_is MoreCommas.none);
  types_so = λ d. on_none (TextWanted.MoreTypes d) (Made types (λ cs ts r. MoreCommas d (TypeName d) cs ts)) (λ rest p. Made.it_is MoreCommas.none);
  list_so = λ d. on_none (TextWanted.ParameterList d) (Lists d) (λ rest p. Made.it_is (PrototypeParameters.named ParameterList.nothing));
  updates_so = λ d. on_none (TextWanted.Updates d) (Made updates (λ us ts r. Updates d ts us)) (λ rest p. Made.it_is Updates.none);
}
defines_all (suc n) = record {
  members_so = λ d. on_more (TextWanted.MoreMembers d) (Made bindings (λ bs ts r. MoreMembers d bs ts)) (λ rest p. Made.it_is MoreMembers.none) (members_taken (declares_all n) (defines_all n) d);
  name_so = λ d. on_more (TextWanted.ParameterName d) (Made part (λ v ts r. MaybeName d v ts)) (λ rest p. Made.it_is MaybeName.none) (name_taken n d);
  parameters_so = λ d. on_more (TextWanted.MoreParameters d) (Made bindings (λ bs ts r. MoreCommas d (Parameter d) bs ts)) (λ rest p. Made.it_is MoreCommas.none) (parameters_taken (defines_all n) d);
  types_so = λ d. on_more (TextWanted.MoreTypes d) (Made types (λ cs ts r. MoreCommas d (TypeName d) cs ts)) (λ rest p. Made.it_is MoreCommas.none) (types_taken (defines_all n) d);
  list_so = λ d. on_more (TextWanted.ParameterList d) (Lists d) (λ rest p. Made.it_is (PrototypeParameters.named ParameterList.nothing)) (list_taken (defines_all n) d);
  updates_so = λ d. on_more (TextWanted.Updates d) (Made updates (λ us ts r. Updates d ts us)) (λ rest p. Made.it_is Updates.none) (updates_taken (defines_all n) d);
}
