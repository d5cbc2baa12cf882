-- A text that types has at most as many names as a table may have.
use Rattle.std.proofs.Common.{◌≡◌, ℕ, ◌+◌, ◌≤◌, Bool, true, false, ◌||◌, List, [], ◌∷◌, ◌++◌, map, length, is_some, refl, sym, ap, subst, ◌∙◌, arith, append_assoc, bytes_eq, if◌then◌else◌}
use Rattle.std.specs.Prelude.{nat_le}
use Rattle.std.specs.List.{list_any}
use Rattle.std.proofs.lemmas.Bool.Decides.{nat_tests}
use Rattle.std.proofs.lemmas.List.{append-nil}
use Rattle.std.proofs.lemmas.Slice.Eq.{bytes_eq-Decides}
use Rattle.name_sets.specs.Limit.{most_names}
use Rattle.name_sets.specs.NameLists.{is_among, name_set, precedes, with_name}
use Rattle.c_tree.specs.Bare.{bare_def, bare_kind}
use Rattle.c_tree.specs.BareExpr.{Bytes}
use Rattle.c_tree.specs.declared.name.Name.{Name}
use Rattle.c_tree.specs.declared.def.Def.{Def}
use Rattle.c_tree.specs.declared.def.DefKind.{DefKind}
use Rattle.c_tree.specs.declared.def.DefKind.TheVariants as kind
use Rattle.c_tree.specs.declared.def.Program.{Program}
use Rattle.c_definitions.specs.declared.key.Key.TheVariants as key
use Rattle.c_definitions.specs.Index.{is_key, key_of, keys}
use Rattle.c_definitions.specs.Lookup.{definition_of, members_of}
use Rattle.c_expr_types.specs.Faults.{unless}
use Rattle.c_expr_types.specs.declared.fault.Fault.{Fault}
use Rattle.c_expr_types.specs.declared.fault.TypeKind.TheVariants.{OverLimit}
use Rattle.c_expr_types.specs.Expressions.{unknown_tag}
use Rattle.c_expr_types.specs.Need.{optional_need}
use Rattle.c_types.specs.Definitions.{Types, all_faults, is_small, is_small_array, kind_faults, many_cells, many_names, max_need, name_added, named_twice, names_of, result_faults}
use Rattle.c_types.proofs.Counts.{name_taken, names_more, tag_taken}
use Rattle.c_semantics.specs.Names.{struct_name}
use Rattle.c_semantics.specs.Texts.{names}
use Rattle.typed_uses.proofs.Faultless.{none_before, none_after, none_hidden, passes}
use Rattle.sorted_names.proofs.Order.{among_set, same_sets, set_ascends}

-- ---- a set of names with one name more

longer : (n : Bytes) (ns : List Bytes) → length (with_name n ns) ≤ length ns + 1
longer n [] = omega arith
longer n (k ∷ ks) = by (bytes_eq n k) (precedes n k) (longer n ks)
  where
    by : (same first : Bool) → length (with_name n ks) ≤ length ks + 1
        → length (if same then k ∷ ks else (if first then n ∷ k ∷ ks else k ∷ with_name n ks)) ≤ length (k ∷ ks) + 1
    by true first rest = omega arith
    by false true rest = omega arith
    by false false rest = omega (arith, rest)

as_long : (n : Bytes) (xs : List Bytes) → is_among xs n ≡ true → name_set (n ∷ xs) ≡ name_set xs
as_long n xs there =
    same_sets (name_set (n ∷ xs)) (name_set xs) (set_ascends (n ∷ xs)) (set_ascends xs)
    (λ z. among_set z (n ∷ xs) ∙ again z (bytes_eq z n) refl ∙ sym (among_set z xs))
  where
    again : (z : Bytes) (b : Bool) → bytes_eq z n ≡ b → (b || is_among xs z) ≡ is_among xs z
    again z true is = sym (ap (is_among xs) ((bytes_eq-Decides z n).0 is) ∙ there)
    again z false is = refl

-- it has one name more, unless it has the name
one_more : (n : Bytes) (xs : List Bytes) (count : ℕ) (taken : Bool) → (taken ≡ true → is_among xs n ≡ true)
    → length (name_set xs) ≤ count → length (name_set (n ∷ xs)) ≤ (if taken then 0 else 1) + count
one_more n xs count true there few =
    let same = ap length (as_long n xs (there refl)) in omega (arith, same, few)
one_more n xs count false there few = let one = longer n (name_set xs) in omega (arith, one, few)

-- ---- what definitions are found by is among the names that they define

or_later : (b x y : Bool) → (x ≡ true → y ≡ true) → (b || x) ≡ true → (b || y) ≡ true
or_later true x y f e = refl
or_later false x y f e = f e

or_right : (a b : Bool) → b ≡ true → (a || b) ≡ true
or_right true b e = refl
or_right false b e = e

among_names : (ds : List Def) (name : Bytes) → list_any (is_key name) (keys key.Name ds) ≡ true
    → is_among (names (map bare_def ds)) name ≡ true
among_names [] name e = e
among_names (d ∷ ds) name e = by d.kind (among_names ds name) e
  where
    by : (made : DefKind) → (list_any (is_key name) (keys key.Name ds) ≡ true → is_among (names (map bare_def ds)) name ≡ true) → (is_key name (key_of key.Name made) || list_any (is_key name) (keys key.Name ds)) ≡ true
        → is_among (names (bare_kind made ∷ map bare_def ds)) name ≡ true
    by (kind.Struct tag members) rest e = or_right (bytes_eq name (struct_name tag.text)) _ (rest e)
    by (kind.Forward tag) rest e = rest e
    by (kind.Mutex own) rest e = or_later (bytes_eq name own.text) _ _ rest e
    by (kind.Function f) rest e = or_later (bytes_eq name f.name.text) _ _ rest e
    by (kind.Prototype p) rest e = rest e
    by (kind.Global v) rest e = or_later (bytes_eq name v.name.text) _ _ rest e
    by (kind.Array a) rest e = or_later (bytes_eq name a.name.text) _ _ rest e
    by (kind.TransformStruct t) rest e = rest e
    by (kind.TransformGlobal own value) rest e = rest e

among_tags : (ds : List Def) (tag : Bytes) → list_any (is_key tag) (keys key.Struct ds) ≡ true
    → is_among (names (map bare_def ds)) (struct_name tag) ≡ true
among_tags [] tag e = e
among_tags (d ∷ ds) tag e = by d.kind (among_tags ds tag) e
  where
    same : (other : Bytes) (b : Bool) → bytes_eq tag other ≡ b → (list_any (is_key tag) (keys key.Struct ds) ≡ true → is_among (names (map bare_def ds)) (struct_name tag) ≡ true) → (b || list_any (is_key tag) (keys key.Struct ds)) ≡ true
        → (bytes_eq (struct_name tag) (struct_name other) || is_among (names (map bare_def ds)) (struct_name tag)) ≡ true
    same other true is rest e =
        ap (λ b. b || is_among (names (map bare_def ds)) (struct_name tag)) ((bytes_eq-Decides (struct_name tag) (struct_name other)).1 (ap struct_name ((bytes_eq-Decides tag other).0 is)))
    same other false is rest e = or_right (bytes_eq (struct_name tag) (struct_name other)) _ (rest e)

    by : (made : DefKind) → (list_any (is_key tag) (keys key.Struct ds) ≡ true → is_among (names (map bare_def ds)) (struct_name tag) ≡ true) → (is_key tag (key_of key.Struct made) || list_any (is_key tag) (keys key.Struct ds)) ≡ true
        → is_among (names (bare_kind made ∷ map bare_def ds)) (struct_name tag) ≡ true
    by (kind.Struct other members) rest e = same other.text (bytes_eq tag other.text) refl rest e
    by (kind.Forward other) rest e = rest e
    by (kind.Mutex own) rest e = or_right (bytes_eq (struct_name tag) own.text) _ (rest e)
    by (kind.Function f) rest e = or_right (bytes_eq (struct_name tag) f.name.text) _ (rest e)
    by (kind.Prototype p) rest e = rest e
    by (kind.Global v) rest e = or_right (bytes_eq (struct_name tag) v.name.text) _ (rest e)
    by (kind.Array a) rest e = or_right (bytes_eq (struct_name tag) a.name.text) _ (rest e)
    by (kind.TransformStruct t) rest e = rest e
    by (kind.TransformGlobal own value) rest e = rest e

-- ---- the set of the names of some definitions has at most as many as these are counted

few_in_set : (ds : List Def) → length (name_set (names (map bare_def ds))) ≤ names_of ds
few_in_set [] = omega arith
few_in_set (d ∷ ds) = by d.kind (few_in_set ds)
  where
    named : (name : Name) → length (name_set (names (map bare_def ds))) ≤ names_of ds
        → length (name_set (name.text ∷ names (map bare_def ds))) ≤ (if is_some (definition_of ds name.text) then 0 else 1) + names_of ds
    named name few =
        one_more name.text (names (map bare_def ds)) (names_of ds) (is_some (definition_of ds name.text))
        (λ e. among_names ds name.text (sym (name_taken ds name.text) ∙ e)) few

    by : (made : DefKind) → length (name_set (names (map bare_def ds))) ≤ names_of ds
        → length (name_set (names (bare_kind made ∷ map bare_def ds))) ≤ name_added ds made + names_of ds
    by (kind.Struct tag members) few =
        one_more (struct_name tag.text) (names (map bare_def ds)) (names_of ds) (is_some (members_of ds tag.text))
        (λ e. among_tags ds tag.text (sym (tag_taken ds tag.text) ∙ e)) few
    by (kind.Forward tag) few = omega (arith, few)
    by (kind.Mutex name) few = named name few
    by (kind.Function f) few = named f.name few
    by (kind.Prototype p) few = omega (arith, few)
    by (kind.Global v) few = named v.name few
    by (kind.Array a) few = named a.name few
    by (kind.TransformStruct t) few = omega (arith, few)
    by (kind.TransformGlobal name value) few = omega (arith, few)

-- ---- and these are few where there is no fault

at_most : (m n : ℕ) → nat_le m n ≡ true → m ≤ n
at_most m n e = grind (arith, nat_tests, e)

module _ (text before : List Def) (d : Def) where
  counted : many_names before d ≡ [] → names_of (before ++ d ∷ []) ≤ most_names
  counted e = at_most (names_of (before ++ d ∷ [])) most_names (passes (nat_le (names_of (before ++ d ∷ [])) most_names) OverLimit d.place e)

  -- a definition of another kind adds no name
  uncounted : names_of before ≤ most_names → name_added before d.kind ≡ 0 → names_of (before ++ d ∷ []) ≤ most_names
  uncounted few none = let more = names_more before d in omega (arith, few, none, more)

  next : (made : DefKind) → d.kind ≡ made → names_of before ≤ most_names → kind_faults text before d made ≡ []
      → names_of (before ++ d ∷ []) ≤ most_names
  next (kind.Struct tag members) is few e = counted (none_after _ _ (none_after _ _ (none_hidden _ _ e).1))
  next (kind.Forward tag) is few e = uncounted few (ap (name_added before) is)
  next (kind.Mutex name) is few e = counted (none_after _ _ e)
  next (kind.Function f) is few e =
      counted
      (none_after (unless (is_small f) OverLimit d.place) _
      (none_after (named_twice before f.name) _ (none_after (result_faults text f.result) _ (none_hidden _ _ e).1)))
  next (kind.Prototype p) is few e = uncounted few (ap (name_added before) is)
  next (kind.Global v) is few e =
      counted
      (none_before (many_names before d) (many_cells before d)
      (none_after (unless (nat_le (optional_need v.initial) max_need) OverLimit d.place) _
      (none_after (named_twice before v.name) _ (none_after (unknown_tag text v.declared) _ (none_hidden _ _ e).1))))
  next (kind.Array a) is few e =
      counted
      (none_before (many_names before d) (many_cells before d)
      (none_after (unless (is_small_array a) OverLimit d.place) _
      (none_after (named_twice before a.name) _ (none_after (unknown_tag text a.element) _ (none_hidden _ _ e).1))))
  next (kind.TransformStruct t) is few e = uncounted few (ap (name_added before) is)
  next (kind.TransformGlobal name value) is few e = uncounted few (ap (name_added before) is)

within_limit : (text before ds : List Def) → names_of before ≤ most_names → all_faults text before ds ≡ []
    → names_of (before ++ ds) ≤ most_names
within_limit text before [] few e = subst {A = List Def} (λ ds. names_of ds ≤ most_names) (sym (append-nil before)) few
within_limit text before (d ∷ ds) few e =
    let own : List Fault = kind_faults text before d d.kind in
    subst {A = List Def} (λ all. names_of all ≤ most_names) (append_assoc before (d ∷ []) ds)
    (within_limit text (before ++ d ∷ []) ds (next text before d d.kind refl few (none_before own _ e)) (none_after own _ e))

-- a table has room for the names of a text that types
pub few_names : (p : Program) → Types p → length (name_set (names (map bare_def p.definitions))) ≤ most_names
few_names p types =
    let all = few_in_set p.definitions in
    let few = within_limit p.definitions [] p.definitions (omega arith) (none_hidden _ _ types).0 in
    omega (arith, all, few)
