-- An accepted text has no struct of more fields than an object has words, and no array so long that the word of a negative index is
-- the number of an element.
use Rattle.std.proofs.Common.{◌≡◌, ◌≤◌, ◌^◌, ◌&&◌, ℤ, pos, negsuc, Bool, true, false, List, [], ◌∷◌, ◌++◌, map, length, Option, Some, refl, sym, subst, if◌then◌else◌, unsigned_abs, arith}
use Rattle.std.specs.Prelude.{int_le, nat_le}
use Rattle.std.proofs.lemmas.Bool.{leb-true}
use Rattle.std.proofs.lemmas.List.{length-map}
use Rattle.std.proofs.lemmas.Option.{none-some, same_Some}
use Rattle.c_ints.specs.declared.int.Int.{Int}
use Rattle.c_ints.specs.Number.{value_of}
use Rattle.c_tree.specs.BareExpr.{Bytes, BareExpr, BareType}
use Rattle.c_tree.specs.BareDef.{BareDef, Array, Struct}
use Rattle.c_tree.specs.Bare.{bare_binding, bare_def, bare_kind}
use Rattle.c_tree.specs.declared.def.Def.{Def}
use Rattle.c_tree.specs.declared.def.DefKind.{DefKind}
use Rattle.c_tree.specs.declared.def.DefKind.TheVariants as kind
use Rattle.c_expr_types.specs.declared.fault.TypeKind.TheVariants.{OverLimit}
use Rattle.c_expr_types.specs.Faults.{unless}
use Rattle.c_types.specs.Definitions.{all_faults, is_small_array, kind_faults, many_cells, many_names, max_fields, named_twice, tagged_twice}
use Rattle.c_semantics.specs.Constants.{elements}
use Rattle.c_semantics.specs.Names.{struct_name}
use Rattle.c_semantics.specs.SourceTexts.{Text}
use Rattle.c_semantics.specs.Texts.{defines, definition, members_of}
use Rattle.typed_uses.proofs.Faultless.{none_after, none_before, none_hidden, passes}
use Rattle.frame_bodies.specs.AcceptedTexts.{IsAccepted}
use Rattle.frame_bodies.proofs.AcceptedFacts.{bare_of}
use Rattle.code_runs.specs.CodeData.{most_fields}

-- a definition that is small
abbrev IsSmall : BareDef → Type 0
IsSmall (Struct tag members) = length members ≤ most_fields
IsSmall (Array type name n values) = elements n ≤ 2 ^ 63
IsSmall _ = Unit {0}

four : (a b c d : Bool) → (a && b && c && d) ≡ true → (a ≡ true) × (b ≡ true)
four true true c d e = (refl, refl)
four true false true true e = cc
four true false true false e = cc
four true false false true e = cc
four true false false false e = cc
four false true true true e = cc
four false true true false e = cc
four false true false true e = cc
four false true false false e = cc
four false false true true e = cc
four false false true false e = cc
four false false false true e = cc
four false false false false e = cc

no : false ≡ true → ⊥
no e = cc

count_short : (z : ℤ) → int_le (pos 1) z ≡ true → int_le z (pos 65536) ≡ true → unsigned_abs z ≤ 2 ^ 63
count_short (pos n) low high = let h : n ≤ 65536 = leb-true n 65536 high in omega (arith, h)
count_short (negsuc n) low high = absurd (no low)

kind_small : (text before : List Def) (d : Def) (k : DefKind) → kind_faults text before d k ≡ [] → IsSmall (bare_kind k)
kind_small text before d (kind.Struct tag members) e =
    let whole = (none_hidden _ _ e).1 in
    let few = none_before (unless (nat_le (length members) max_fields) OverLimit d.place) (many_names before d) (none_after (tagged_twice before tag) _ whole) in
    let h : length members ≤ 16 = leb-true (length members) 16 (passes (nat_le (length members) max_fields) OverLimit d.place few) in
    subst (λ n. n ≤ 16) (sym (length-map members bare_binding)) h
kind_small text before d (kind.Array a) e =
    let whole = (none_hidden _ _ e).1 in
    let small =
    none_before (unless (is_small_array a) OverLimit d.place) (many_names before d ++ many_cells before d)
    (none_after (named_twice before a.name) _ (none_after _ _ whole)) in
    let both = four _ _ _ _ (passes (is_small_array a) OverLimit d.place small) in
    count_short (value_of a.length.value) both.0 both.1
kind_small text before d _ e = tt

-- what is found in a text without faults is small
found_small : (text before ds : List Def) (name : Bytes) (x : BareDef) → all_faults text before ds ≡ []
    → definition (map bare_def ds) name ≡ Some x → IsSmall x
found_small text before [] name x e is = absurd (none-some x is)
found_small text before (d ∷ ds) name x e is =
    by (defines name (bare_def d)) (kind_small text before d d.kind (none_before (kind_faults text before d d.kind) _ e))
    (found_small text (before ++ d ∷ []) ds name x (none_after (kind_faults text before d d.kind) _ e)) is
  where
    by : (b : Bool) → IsSmall (bare_def d) → (definition (map bare_def ds) name ≡ Some x → IsSmall x)
        → (if b then Some (bare_def d) else definition (map bare_def ds) name) ≡ Some x → IsSmall x
    by true own rest is = subst IsSmall (same_Some (bare_def d) x is) own
    by false own rest is = rest is

pub definition_small : (text : Text) (name : Bytes) (x : BareDef) → IsAccepted text → definition text.definitions name ≡ Some x → IsSmall x
definition_small text name x a is =
    let ds = text.tree.definitions in
    found_small ds [] ds name x (none_hidden (all_faults ds [] ds) _ a.accepted.types).0 (subst (λ t. definition t name ≡ Some x) (sym (bare_of text a)) is)

-- the fields of a struct
few_in : (o : Option BareDef) → ((x : BareDef) → o ≡ Some x → IsSmall x) → length (members_of o) ≤ most_fields
few_in (Some (Struct tag members)) small = small (Struct tag members) refl
few_in _ small = omega arith

pub few_fields : (text : Text) (tag : Bytes) → IsAccepted text → length (members_of (definition text.definitions (struct_name tag))) ≤ most_fields
few_fields text tag a =
    few_in (definition text.definitions (struct_name tag)) (λ x is. definition_small text (struct_name tag) x a is)

-- the elements of an array
pub short_arrays : (text : Text) (name own : Bytes) (type : BareType) (n : Int) (values : Option (List BareExpr)) → IsAccepted text
    → definition text.definitions name ≡ Some (Array type own n values) → elements n ≤ 2 ^ 63
short_arrays text name own type n values a is = definition_small text name (Array type own n values) a is
