-- How many names some definitions have, counted from their first on.
use Rattle.std.proofs.Common.{◌≡◌, ℕ, zero, suc, ◌+◌, ◌≤◌, min, ltb, leb, Bool, true, false, not, ◌||◌, List, [], ◌∷◌, ◌++◌, map, take, slice_get, Option, None, Some, is_some, is_none, refl, sym, ap, ◌∙◌, arith, bytes_eq, if◌then◌else◌}
use Rattle.std.specs.List.{list_any, find}
use Rattle.std.proofs.lemmas.Bool.Decides.{nat_tests}
use Rattle.c_scope.proofs.NameLemmas.{bytes_same, same_bytes}
use Rattle.c_tree.specs.BareExpr.{Bytes}
use Rattle.c_tree.specs.declared.name.Name.{Name}
use Rattle.c_tree.specs.declared.def.Binding.{Binding}
use Rattle.c_tree.specs.declared.def.Def.{Def}
use Rattle.c_tree.specs.declared.def.DefKind.{DefKind}
use Rattle.c_tree.specs.declared.def.DefKind.TheVariants as kind
use Rattle.c_definitions.specs.declared.key.Key.{Key}
use Rattle.c_definitions.specs.declared.key.Key.TheVariants as by
use Rattle.c_definitions.specs.Lookup.{definition_of, members_of, members_in, struct_of}
use Rattle.c_definitions.specs.Index.{is_key, key_of, keys, new_key}
use Rattle.c_types.specs.Definitions.{name_added, names_of, cells_in, cells_of}
use Rattle.c_types.specs.TransformSyntax.{of_struct, of_global}
use Rattle.c_definitions.proofs.Index.{named_found, struct_found}

-- how many names
distinct : List (Option Bytes) → ℕ
distinct [] = 0
distinct (k ∷ ks) = new_key k ks + distinct ks

any_behind : (p : Option Bytes → Bool) (ks : List (Option Bytes)) (k : Option Bytes) → list_any p (ks ++ k ∷ []) ≡ (list_any p ks || (p k || false))
any_behind p [] k = refl
any_behind p (j ∷ ks) k = by (p j) (any_behind p ks k)
  where
    by : (b : Bool) → list_any p (ks ++ k ∷ []) ≡ (list_any p ks || (p k || false)) → (b || list_any p (ks ++ k ∷ [])) ≡ ((b || list_any p ks) || (p k || false))
    by true rest = refl
    by false rest = rest

-- it is one whether the first or the last of two equal names counts
one_of_two : (same a b : Bool) → (same ≡ true → a ≡ b) →
    (if a || (same || false) then 0 else 1) + (if b then 0 else 1) ≡ (if a then 0 else 1) + (if same || b then 0 else 1)
one_of_two true true true alike = refl
one_of_two true true false alike = absurd (let e : true ≡ false = alike refl in cc)
one_of_two true false true alike = absurd (let e : false ≡ true = alike refl in cc)
one_of_two true false false alike = refl
one_of_two false true true alike = refl
one_of_two false true false alike = refl
one_of_two false false true alike = refl
one_of_two false false false alike = refl

mirrored : (a b : Bytes) → bytes_eq a b ≡ bytes_eq b a
mirrored a b = by (bytes_eq a b) (bytes_eq b a) refl refl
  where
    by : (x y : Bool) → bytes_eq a b ≡ x → bytes_eq b a ≡ y → x ≡ y
    by true true ex ey = refl
    by false false ex ey = refl
    by true false ex ey = absurd (let e : bytes_eq b a ≡ true = same_bytes b a (sym (bytes_same a b ex)) in cc)
    by false true ex ey = absurd (let e : bytes_eq a b ≡ true = same_bytes a b (sym (bytes_same b a ey)) in cc)

swapped : (j k : Option Bytes) (ks : List (Option Bytes)) → new_key j (ks ++ k ∷ []) + new_key k ks ≡ new_key j ks + new_key k (j ∷ ks)
swapped None None ks = refl
swapped None (Some b) ks = refl
swapped (Some a) None ks = ap (λ x. (if x then 0 else 1) + 0) (any_behind (is_key a) ks None ∙ or_false (list_any (is_key a) ks))
  where
    or_false : (x : Bool) → (x || false) ≡ x
    or_false true = refl
    or_false false = refl
swapped (Some a) (Some b) ks =
    ap (λ x. (if x then 0 else 1) + (if list_any (is_key b) ks then 0 else 1)) (any_behind (is_key a) ks (Some b))
    ∙ one_of_two (bytes_eq a b) (list_any (is_key a) ks) (list_any (is_key b) ks) (λ e. ap (λ n. list_any (is_key n) ks) (bytes_same a b e))
    ∙ ap (λ x. (if list_any (is_key a) ks then 0 else 1) + (if x || list_any (is_key b) ks then 0 else 1)) (mirrored a b)

one_more_distinct : (ks : List (Option Bytes)) (k : Option Bytes) → distinct (ks ++ k ∷ []) ≡ distinct ks + new_key k ks
unfolding distinct
one_more_distinct [] k = omega arith
one_more_distinct (j ∷ ks) k =
    let rest = one_more_distinct ks k in
    let e = swapped j k ks in
    omega (arith, rest, e)

module _ (f : Def → Option Bytes) (name : Bytes) where
  any_key : (ds : List Def) → list_any (is_key name) (map f ds) ≡ list_any (λ d. is_key name (f d)) ds
  any_key [] = refl
  any_key (d ∷ ds) = ap (λ b. is_key name (f d) || b) (any_key ds)

found_any : (p : Def → Bool) (ds : List Def) → is_some (find p ds) ≡ list_any p ds
found_any p [] = refl
found_any p (d ∷ ds) = by (p d) (found_any p ds)
  where
    by : (b : Bool) → is_some (find p ds) ≡ list_any p ds → is_some (if b then Some d else find p ds) ≡ (b || list_any p ds)
    by true rest = refl
    by false rest = rest

-- a name is declared
pub name_taken : (ds : List Def) (name : Bytes) → is_some (definition_of ds name) ≡ list_any (is_key name) (keys by.Name ds)
name_taken ds name =
    ap is_some (sym (named_found ds name)) ∙ found_any (λ d. is_key name (key_of by.Name d.kind)) ds
    ∙ sym (any_key (λ d. key_of by.Name d.kind) name ds)

members_there : (ds : List Def) (tag : Bytes) → is_some (members_of ds tag) ≡ is_some (struct_of ds tag)
members_there [] tag = refl
members_there (d ∷ ds) tag = by d.kind (members_there ds tag)
  where
    by : (made : DefKind) → is_some (members_of ds tag) ≡ is_some (struct_of ds tag) →
        is_some (members_of (record { place = d.place; kind = made } ∷ ds) tag) ≡ is_some (struct_of (record { place = d.place; kind = made } ∷ ds) tag)
    by (kind.Struct other members) rest = inside (bytes_eq tag other.text)
      where
        inside : (b : Bool) →
            is_some (elim (if b then Some (record { place = d.place; kind = kind.Struct other members }) else struct_of ds tag) as (λ o. Option (List Binding)) [ None ↦ None | Some d' ↦ members_in d'.kind ])
            ≡ is_some (if b then Some (record { place = d.place; kind = kind.Struct other members }) else struct_of ds tag)
        inside true = refl
        inside false = rest
    by (kind.Forward other) rest = rest
    by (kind.Mutex other) rest = rest
    by (kind.Function f) rest = rest
    by (kind.Prototype p) rest = rest
    by (kind.Global d') rest = rest
    by (kind.Array a) rest = rest
    by (kind.TransformStruct t) rest = rest
    by (kind.TransformGlobal global e) rest = rest

-- a tag is a struct's
pub tag_taken : (ds : List Def) (tag : Bytes) → is_some (members_of ds tag) ≡ list_any (is_key tag) (keys by.Struct ds)
tag_taken ds tag =
    members_there ds tag ∙ ap is_some (sym (struct_found ds tag)) ∙ found_any (λ d. is_key tag (key_of by.Struct d.kind)) ds
    ∙ sym (any_key (λ d. key_of by.Struct d.kind) tag ds)

none_there : {A : Type 0} (o : Option A) → not (is_some o) ≡ is_none o
none_there None = refl
none_there (Some x) = refl

pub name_free : (ds : List Def) (name : Bytes) → not (list_any (is_key name) (keys by.Name ds)) ≡ is_none (definition_of ds name)
name_free ds name = ap not (sym (name_taken ds name)) ∙ none_there (definition_of ds name)

pub tag_free : (ds : List Def) (tag : Bytes) → not (list_any (is_key tag) (keys by.Struct ds)) ≡ is_none (members_of ds tag)
tag_free ds tag = ap not (sym (tag_taken ds tag)) ∙ none_there (members_of ds tag)

-- counted by tags and by names
abbrev pub added : List Def → DefKind → ℕ
added ds made = new_key (key_of by.Struct made) (keys by.Struct ds) + new_key (key_of by.Name made) (keys by.Name ds)

-- a name adds one where it isn't declared
named_added : (ds : List Def) (name : Name) → (if is_some (definition_of ds name.text) then 0 else 1) ≡ 0 + new_key (Some name.text) (keys by.Name ds)
named_added ds name =
    ap (λ b. if b then 0 else 1) (name_taken ds name.text)
    ∙ omega arith

pub added_is : (ds : List Def) (made : DefKind) → name_added ds made ≡ added ds made
added_is ds (kind.Struct tag members) =
    ap (λ b. if b then 0 else 1) (tag_taken ds tag.text)
    ∙ omega arith
added_is ds (kind.Forward other) = refl
added_is ds (kind.Mutex name) = named_added ds name
added_is ds (kind.Function f) = named_added ds f.name
added_is ds (kind.Prototype p) = refl
added_is ds (kind.Global d) = named_added ds d.name
added_is ds (kind.Array a) = named_added ds a.name
added_is ds (kind.TransformStruct t) = refl
added_is ds (kind.TransformGlobal global e) = refl

distinct_names : (ds : List Def) → names_of ds ≡ distinct (keys by.Struct ds) + distinct (keys by.Name ds)
unfolding distinct
distinct_names [] = refl
distinct_names (d ∷ ds) =
    let rest = distinct_names ds in
    let e = added_is ds d.kind in
    omega (arith, rest, e)

keys_behind : (by : Key) (ds : List Def) (d : Def) → keys by (ds ++ d ∷ []) ≡ keys by ds ++ key_of by d.kind ∷ []
keys_behind by [] d = refl
keys_behind by (x ∷ ds) d = ap (λ ks. key_of by x.kind ∷ ks) (keys_behind by ds d)

-- a definition after others adds to their names
pub names_more : (ds : List Def) (d : Def) → names_of (ds ++ d ∷ []) ≡ names_of ds + name_added ds d.kind
names_more ds d =
    let a = distinct_names (ds ++ d ∷ []) in
    let b = distinct_names ds in
    let s = ap distinct (keys_behind by.Struct ds d) ∙ one_more_distinct (keys by.Struct ds) (key_of by.Struct d.kind) in
    let n = ap distinct (keys_behind by.Name ds d) ∙ one_more_distinct (keys by.Name ds) (key_of by.Name d.kind) in
    let e = added_is ds d.kind in
    omega (arith, a, b, s, n, e)

-- and to their cells
pub cells_more : (ds : List Def) (d : Def) → cells_of (ds ++ d ∷ []) ≡ cells_of ds + cells_in d.kind
cells_more [] d = omega arith
cells_more (x ∷ ds) d = let rest = cells_more ds d in omega (arith, rest)

one_at_most : (b : Bool) → (if b then 0 else 1) ≤ 1
one_at_most true = omega arith
one_at_most false = omega arith

pub added_bound : (ds : List Def) (made : DefKind) → name_added ds made ≤ 1
added_bound ds (kind.Struct tag members) = one_at_most (is_some (members_of ds tag.text))
added_bound ds (kind.Forward other) = omega arith
added_bound ds (kind.Mutex name) = one_at_most (is_some (definition_of ds name.text))
added_bound ds (kind.Function f) = one_at_most (is_some (definition_of ds f.name.text))
added_bound ds (kind.Prototype p) = omega arith
added_bound ds (kind.Global d) = one_at_most (is_some (definition_of ds d.name.text))
added_bound ds (kind.Array a) = one_at_most (is_some (definition_of ds a.name.text))
added_bound ds (kind.TransformStruct t) = omega arith
added_bound ds (kind.TransformGlobal global e) = omega arith

-- the definitions up to and with one
taken_next : (ds : List Def) (i : ℕ) (d : Def) → slice_get ds i ≡ Some d → take (suc i) ds ≡ take i ds ++ d ∷ []
taken_next [] i d at = absurd (cc)
taken_next (x ∷ ds) zero d at = let e : x ≡ d = cc in ap (λ y. y ∷ []) e
taken_next (x ∷ ds) (suc i) d at = ap (λ ys. x ∷ ys) (taken_next ds i d at)

pub taken_more : (ds : List Def) (i : ℕ) (d : Def) → slice_get ds i ≡ Some d → take (i + 1) ds ≡ take i ds ++ d ∷ []
taken_more ds i d at = let next : i + 1 ≡ suc i = omega arith in ap (λ n. take n ds) next ∙ taken_next ds i d at

-- few cells are counted exactly
pub few : (n : ℕ) → ltb (min n 65537) 65537 ≡ leb n 65536
few n = grind (arith, nat_tests)

module _ (f : Def → Option Bytes) (name : Bytes) (p : Def → Bool) (alike : (d : Def) → is_key name (f d) ≡ p d) where
  any_alike : (ds : List Def) → list_any (is_key name) (map f ds) ≡ list_any p ds
  any_alike [] = refl
  any_alike (d ∷ ds) = ap (λ b. b || list_any (is_key name) (map f ds)) (alike d) ∙ ap (λ b. p d || b) (any_alike ds)

struct_alike : (tag : Bytes) (made : DefKind) → is_key tag (key_of by.StructTransformer made) ≡ of_struct tag made
struct_alike tag (kind.Struct other members) = refl
struct_alike tag (kind.Forward other) = refl
struct_alike tag (kind.Mutex other) = refl
struct_alike tag (kind.Function f) = refl
struct_alike tag (kind.Prototype p) = refl
struct_alike tag (kind.Global d) = refl
struct_alike tag (kind.Array a) = refl
struct_alike tag (kind.TransformStruct t) = refl
struct_alike tag (kind.TransformGlobal global e) = refl

global_alike : (name : Bytes) (made : DefKind) → is_key name (key_of by.GlobalTransformer made) ≡ of_global name made
global_alike name (kind.Struct other members) = refl
global_alike name (kind.Forward other) = refl
global_alike name (kind.Mutex other) = refl
global_alike name (kind.Function f) = refl
global_alike name (kind.Prototype p) = refl
global_alike name (kind.Global d) = refl
global_alike name (kind.Array a) = refl
global_alike name (kind.TransformStruct t) = refl
global_alike name (kind.TransformGlobal global e) = refl

-- some are transformers of a struct, or of a global
pub struct_transformed : (ds : List Def) (tag : Bytes) → list_any (is_key tag) (keys by.StructTransformer ds) ≡ list_any (λ d. of_struct tag d.kind) ds
struct_transformed ds tag = any_alike (λ d. key_of by.StructTransformer d.kind) tag (λ d. of_struct tag d.kind) (λ d. struct_alike tag d.kind) ds

pub global_transformed : (ds : List Def) (name : Bytes) → list_any (is_key name) (keys by.GlobalTransformer ds) ≡ list_any (λ d. of_global name d.kind) ds
global_transformed ds name = any_alike (λ d. key_of by.GlobalTransformer d.kind) name (λ d. of_global name d.kind) (λ d. global_alike name d.kind) ds
