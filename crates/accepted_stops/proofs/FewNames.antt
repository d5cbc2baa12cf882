-- An accepted text defines few names, each once, and its structs have few members.
use Rattle.std.proofs.Common.{◌≡◌, ◌≤◌, ◌⊎◌, inl, inr, ℕ, ◌+◌, Bool, true, false, List, [], ◌∷◌, ◌++◌, map, length, Option, Some, None, find, cond, is_some, is_none, refl, sym, ap, subst, arith, append_assoc, length-append, if◌then◌else◌}
use Rattle.std.specs.Prelude.{nat_le}
use Rattle.std.proofs.lemmas.Bool.{leb-true}
use Rattle.std.proofs.lemmas.List.{append-nil, length-map, map-append}
use Rattle.std.proofs.lemmas.List.Elements.{filter_map-append}
use Rattle.name_sets.specs.Limit.{most_names}
use Rattle.c_tree.specs.Bare.{bare_binding, bare_def, bare_kind}
use Rattle.c_tree.specs.BareDef.{BareDef}
use Rattle.c_tree.specs.BareExpr.{Bytes}
use Rattle.c_tree.specs.declared.def.Def.{Def}
use Rattle.c_tree.specs.declared.def.DefKind.{DefKind}
use Rattle.c_tree.specs.declared.def.DefKind.TheVariants as kind
use Rattle.c_definitions.specs.Lookup.{definition_of, members_of}
use Rattle.c_expr_types.specs.declared.fault.TypeKind.TheVariants.{DeclaredTwice, OverLimit}
use Rattle.c_expr_types.specs.Expressions.{unknown_tag}
use Rattle.c_expr_types.specs.Faults.{unless}
use Rattle.c_expr_types.specs.Need.{optional_need}
use Rattle.c_types.specs.Definitions.{all_faults, is_small, is_small_array, kind_faults, many_cells, many_names, max_fields, max_need, name_added, named_twice, names_of, result_faults, tagged_twice}
use Rattle.c_types.proofs.Counts.{names_more}
use Rattle.c_semantics.specs.SourceTexts.{Text}
use Rattle.c_semantics.specs.Texts.{defined, defines, definition, names}
use Rattle.c_semantics.specs.Texts as bare
use Rattle.typed_uses.proofs.Faultless.{none_after, none_before, none_hidden, passes}
use Rattle.frame_bodies.specs.AcceptedTexts.{IsAccepted}
use Rattle.frame_bodies.proofs.AcceptedFacts.{bare_of}
use Rattle.code_runs.specs.CodeData.{most_fields}

-- ---- how many names

abbrev named : List Def → ℕ
named ds = length (names (map bare_def ds))

new_name : {A : Type 0} (o : Option A) → is_none o ≡ true → ◌≡◌ {A = ℕ} (if is_some o then 0 else 1) 1
new_name None e = refl
new_name (Some x) e = cc

module _ (text before : List Def) (d : Def) where
  -- a definition adds each name that it defines, and names are few where it adds one
  pub record Counted (made : DefKind) : Type 0 where
    pub adds : length (names (bare_kind made ∷ [])) ≤ name_added before made
    pub few : (many_names before d ≡ []) ⊎ (name_added before made ≡ 0)

  counted_name : (made : DefKind) (o : Option Def) → is_none o ≡ true → length (names (bare_kind made ∷ [])) ≡ 1
      → name_added before made ≡ (if is_some o then 0 else 1) → many_names before d ≡ [] → Counted made
  counted_name made o free one added many =
      let new = new_name o free in record { adds = omega (arith, new, one, added); few = inl many }

  counted : (made : DefKind) → kind_faults text before d made ≡ [] → Counted made
  counted (kind.Struct tag members) e =
      let whole : tagged_twice before tag ++ (unless (nat_le (length members) max_fields) OverLimit d.place ++ many_names before d) ≡ [] =
      (none_hidden _ _ e).1 in
      let free : is_none (members_of before tag.text) ≡ true =
      passes (is_none (members_of before tag.text)) DeclaredTwice tag.place (none_before (tagged_twice before tag) _ whole) in
      let new : ◌≡◌ {A = ℕ} (if is_some (members_of before tag.text) then 0 else 1) 1 = new_name (members_of before tag.text) free in
      record {
        adds = omega (arith, new);
        few = inl (none_after (unless (nat_le (length members) max_fields) OverLimit d.place) _ (none_after (tagged_twice before tag) _ whole));
      }
  counted (kind.Forward tag) e = record { adds = omega arith; few = inr refl }
  counted (kind.Mutex name) e =
      counted_name (kind.Mutex name) (definition_of before name.text)
      (passes (is_none (definition_of before name.text)) DeclaredTwice name.place (none_before (named_twice before name) _ e)) refl refl
      (none_after (named_twice before name) _ e)
  counted (kind.Function f) e =
      let whole = none_after (result_faults text f.result) _ (none_hidden _ _ e).1 in
      counted_name (kind.Function f) (definition_of before f.name.text)
      (passes (is_none (definition_of before f.name.text)) DeclaredTwice f.name.place (none_before (named_twice before f.name) _ whole)) refl refl
      (none_after (unless (is_small f) OverLimit d.place) _ (none_after (named_twice before f.name) _ whole))
  counted (kind.Prototype p) e = record { adds = omega arith; few = inr refl }
  counted (kind.Global v) e =
      let whole = none_after (unknown_tag text v.declared) _ (none_hidden _ _ e).1 in
      counted_name (kind.Global v) (definition_of before v.name.text)
      (passes (is_none (definition_of before v.name.text)) DeclaredTwice v.name.place (none_before (named_twice before v.name) _ whole)) refl refl
      (none_before (many_names before d) (many_cells before d)
      (none_after (unless (nat_le (optional_need v.initial) max_need) OverLimit d.place) _ (none_after (named_twice before v.name) _ whole)))
  counted (kind.Array a) e =
      let whole = none_after (unknown_tag text a.element) _ (none_hidden _ _ e).1 in
      counted_name (kind.Array a) (definition_of before a.name.text)
      (passes (is_none (definition_of before a.name.text)) DeclaredTwice a.name.place (none_before (named_twice before a.name) _ whole)) refl refl
      (none_before (many_names before d) (many_cells before d)
      (none_after (unless (is_small_array a) OverLimit d.place) _ (none_after (named_twice before a.name) _ whole)))
  counted (kind.TransformStruct t) e = record { adds = omega arith; few = inr refl }
  counted (kind.TransformGlobal name value) e = record { adds = omega arith; few = inr refl }

  named_more : named (before ++ d ∷ []) ≡ named before + length (names (bare_kind d.kind ∷ []))
  named_more =
      let apart = ap length (ap names (map-append bare_def before (d ∷ []))) in
      let split = ap length (filter_map-append defined (map bare_def before) (bare_kind d.kind ∷ [])) in
      let sum = length-append (names (map bare_def before)) (names (bare_kind d.kind ∷ [])) in
      omega (arith, apart, split, sum)

  -- so all are counted, and few
  pub record Few : Type 0 where
    pub counts : named (before ++ d ∷ []) ≤ names_of (before ++ d ∷ [])
    pub within : names_of (before ++ d ∷ []) ≤ most_names

  few_more : named before ≤ names_of before → names_of before ≤ most_names → kind_faults text before d d.kind ≡ [] → Few
  few_more counts within e =
      let own = counted d.kind e in
      let more = names_more before d in
      let adds = own.adds in record {
        counts = omega (arith, counts, named_more, more, adds);
        within = elim own.few [
          | inl many ↦ leb-true (names_of (before ++ d ∷ [])) most_names (passes (nat_le (names_of (before ++ d ∷ [])) most_names) OverLimit d.place many)
          | inr none ↦ omega (arith, within, more, none)
        ];
      }

few_in : (text before ds : List Def) → named before ≤ names_of before → names_of before ≤ most_names → all_faults text before ds ≡ []
    → named (before ++ ds) ≤ most_names
few_in text before [] counts within e =
    subst {A = List Def} (λ ds. named ds ≤ most_names) (sym (append-nil before)) (omega (arith, counts, within))
few_in text before (d ∷ ds) counts within e =
    let own = kind_faults text before d d.kind in
    let more = few_more text before d counts within (none_before own _ e) in
    subst {A = List Def} (λ all. named all ≤ most_names) (append_assoc before (d ∷ []) ds)
    (few_in text (before ++ d ∷ []) ds more.counts more.within (none_after own _ e))

pub few_names : (text : Text) → IsAccepted text → length (names text.definitions) ≤ most_names
few_names text a =
    let ds = text.tree.definitions in
    subst {A = List BareDef} (λ x. length (names x) ≤ most_names) (bare_of text a)
    (few_in ds [] ds (omega arith) (omega arith) (none_hidden _ _ a.accepted.types).0)

-- ---- how many members

abbrev IsNarrow : DefKind → Type 0
IsNarrow (kind.Struct tag members) = length members ≤ most_fields
IsNarrow _ = Unit {0}

abbrev AreNarrow : List Def → Type 0
AreNarrow [] = Unit {0}
AreNarrow (d ∷ ds) = IsNarrow d.kind × AreNarrow ds

narrow_kind : (text before : List Def) (d : Def) (k : DefKind) → kind_faults text before d k ≡ [] → IsNarrow k
narrow_kind text before d (kind.Struct tag members) e =
    leb-true (length members) max_fields
    (passes (nat_le (length members) max_fields) OverLimit d.place
    (none_before (unless (nat_le (length members) max_fields) OverLimit d.place) _
    (none_after (tagged_twice before tag) _ (none_hidden _ _ e).1)))
narrow_kind text before d _ e = tt

all_narrow : (text before ds : List Def) → all_faults text before ds ≡ [] → AreNarrow ds
all_narrow text before [] e = tt
all_narrow text before (d ∷ ds) e =
    let own = kind_faults text before d d.kind in
    (narrow_kind text before d d.kind (none_before own _ e), all_narrow text (before ++ d ∷ []) ds (none_after own _ e))

abbrev HasFew : Option BareDef → Type 0
HasFew d = length (bare.members_of d) ≤ most_fields

narrow_bare : (k : DefKind) → IsNarrow k → HasFew (Some (bare_kind k))
narrow_bare (kind.Struct tag members) h = omega (arith, h, length-map members bare_binding)
narrow_bare _ h = omega arith

narrow_found : (ds : List Def) (name : Bytes) → AreNarrow ds → HasFew (find (defines name) (map bare_def ds))
narrow_found [] name h = omega arith
narrow_found (d ∷ ds) name h = by (defines name (bare_def d)) (narrow_found ds name h.1)
  where
    by : (b : Bool) → HasFew (find (defines name) (map bare_def ds)) → HasFew (cond b (Some (bare_def d)) (find (defines name) (map bare_def ds)))
    by true rest = narrow_bare d.kind h.0
    by false rest = rest

pub few_members : (text : Text) (name : Bytes) → IsAccepted text → HasFew (definition text.definitions name)
few_members text name a =
    let ds = text.tree.definitions in
    subst {A = List BareDef} (λ x. HasFew (definition x name)) (bare_of text a)
    (narrow_found ds name (all_narrow ds [] ds (none_hidden _ _ a.accepted.types).0))
