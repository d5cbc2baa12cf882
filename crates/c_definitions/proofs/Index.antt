-- What is found by a table is the first of its list.
use Rattle.std.proofs.Common.{◌≡◌, ℕ, zero, suc, min, ◌+◌, ◌<◌, Bool, true, false, ◌||◌, ltb, List, [], ◌∷◌, ◌++◌, map, take, drop, length, get_or, Option, None, Some, is_some, refl, sym, ap, ◌∙◌, arith, bytes_eq, codes, if◌then◌else◌, option_map, option_and_then, slice_get}
use Rattle.std.specs.Option.{option_or, option_map_or}
use Rattle.std.proofs.lemmas.Bool.Decides.{nat_tests}
use Rattle.std.proofs.lemmas.List.{at_drop_more}
use Rattle.std.proofs.lemmas.Option.{slice_get-map}
use Rattle.std.specs.List.{find, list_any}
use Rattle.c_scope.specs.Tables.{look_up, innermost, declared}
use Rattle.c_scope.proofs.NameLemmas.{bytes_same}
use Rattle.c_tree.specs.BareExpr.{Bytes}
use Rattle.c_tree.specs.declared.def.Binding.{Binding}
use Rattle.c_tree.specs.declared.def.Def.{Def}
use Rattle.c_tree.specs.declared.def.DefKind.{DefKind}
use Rattle.c_tree.specs.declared.def.DefKind.TheVariants as kind
use Rattle.c_definitions.specs.declared.key.Key.TheVariants as by
use Rattle.c_definitions.specs.Lookup.{member}
use Rattle.c_definitions.specs.Lookup.{name_of, full_name, is_named, defines_tag, declares_tag, definition_of, declared_as, struct_of, members_in, members_of, is_tag}
use Rattle.c_definitions.specs.Index.{is_key, key_of, keys, place_of, earlier, stands_before, with_name, with_names, table_of, own_members, member_keys, member_tables}

module _ {T : Type 0} where
  or_none : (o : Option T) → option_or o None ≡ o
  or_none None = refl
  or_none (Some x) = refl

  or_in_turn : (a b c : Option T) → option_or (option_or a b) c ≡ option_or a (option_or b c)
  or_in_turn None b c = refl
  or_in_turn (Some x) b c = refl

  look_up_appended : (table : List (Bytes × T)) (name : Bytes) (value : T) (other : Bytes) →
      look_up (table ++ (name, value) ∷ []) other ≡ option_or (look_up table other) (if bytes_eq other name then Some value else None)
  look_up_appended [] name value other = refl
  look_up_appended (d ∷ ds) name value other = by (bytes_eq other d.0) (look_up_appended ds name value other)
    where
      by : (b : Bool) → look_up (ds ++ (name, value) ∷ []) other ≡ option_or (look_up ds other) (if bytes_eq other name then Some value else None) →
          (if b then Some d.1 else look_up (ds ++ (name, value) ∷ []) other) ≡ option_or (if b then Some d.1 else look_up ds other) (if bytes_eq other name then Some value else None)
      by true rest = refl
      by false rest = rest

  -- one table with a name more, unless it has it
  pub one_more : Bytes → T → List (Bytes × T) → List (Bytes × T)
  one_more name value table = if is_some (look_up table name) then table else table ++ (name, value) ∷ []

  pub one_more_is : (table : List (Bytes × T)) (name : Bytes) (value : T) →
      (if is_some (look_up table name) then table ∷ [] else declared (table ∷ []) name value) ≡ one_more name value table ∷ []
  unfolding one_more
  one_more_is table name value = by (is_some (look_up table name))
    where
      by : (b : Bool) → (if b then table ∷ [] else (table ++ (name, value) ∷ []) ∷ []) ≡ (if b then table else table ++ (name, value) ∷ []) ∷ []
      by true = refl
      by false = refl

  pub look_up_one_more : (table : List (Bytes × T)) (name : Bytes) (value : T) (other : Bytes) →
      look_up (one_more name value table) other ≡ option_or (look_up table other) (if bytes_eq other name then Some value else None)
  unfolding one_more
  look_up_one_more table name value other = by (look_up table name) refl (bytes_eq other name) refl
    where
      by : (o : Option T) → look_up table name ≡ o → (b : Bool) → bytes_eq other name ≡ b →
          look_up (if is_some o then table else table ++ (name, value) ∷ []) other ≡ option_or (look_up table other) (if b then Some value else None)
      by None is b same = look_up_appended table name value other ∙ ap (λ x. option_or (look_up table other) (if x then Some value else None)) same
      by (Some v) is true same =
          let here : look_up table other ≡ Some v = ap (look_up table) (bytes_same other name same) ∙ is in
          here ∙ sym (ap (λ o. option_or o (Some value)) here)
      by (Some v) is false same = sym (or_none (look_up table other))

on_from : (n : ℕ) (o : Option ℕ) → option_map (λ i. suc n + i) o ≡ option_map (λ i. n + i) (option_map suc o)
on_from n None = refl
on_from n (Some i) = ap Some (omega arith)

from_here : (n : ℕ) (b : Bool) (o : Option ℕ) →
    option_or (if b then Some n else None) (option_map (λ i. suc n + i) o) ≡ option_map (λ i. n + i) (if b then Some 0 else option_map suc o)
from_here n true o = ap Some (omega arith)
from_here n false o = on_from n o

pub look_up_with_names : (ks : List (Option Bytes)) (n : ℕ) (table : List (Bytes × ℕ)) (name : Bytes) →
    innermost (with_names ks n (table ∷ [])) name ≡ option_or (look_up table name) (option_map (λ i. n + i) (place_of name ks))
look_up_with_names [] n table name = refl
look_up_with_names (None ∷ ks) n table name =
    look_up_with_names ks (suc n) table name ∙ ap (option_or (look_up table name)) (on_from n (place_of name ks))
look_up_with_names (Some k ∷ ks) n table name =
    ap (λ ts. innermost (with_names ks (suc n) ts) name) (one_more_is table k n)
    ∙ look_up_with_names ks (suc n) (one_more k n table) name
    ∙ ap (λ o. option_or o (option_map (λ i. suc n + i) (place_of name ks))) (look_up_one_more table k n name)
    ∙ or_in_turn (look_up table name) (if bytes_eq name k then Some n else None) (option_map (λ i. suc n + i) (place_of name ks))
    ∙ ap (option_or (look_up table name)) (from_here n (bytes_eq name k) (place_of name ks))

from_zero : (o : Option ℕ) → option_map (λ i. 0 + i) o ≡ o
from_zero None = refl
from_zero (Some i) = ap Some (omega arith)

-- the table has the first place of each name
pub look_up_table : (ks : List (Option Bytes)) (name : Bytes) → innermost (table_of ks) name ≡ place_of name ks
look_up_table ks name = look_up_with_names ks 0 [] name ∙ from_zero (place_of name ks)

none_before : (o : Option ℕ) → stands_before o 0 ≡ false
none_before None = refl
none_before (Some first) = grind (arith, nat_tests)

both_less : (a b : ℕ) → ltb (suc a) (suc b) ≡ ltb a b
both_less a b = grind (arith, nat_tests)

module _ {A : Type 0} (f : A → Option Bytes) (name : Bytes) where
  -- what is at the first place of a name is the first of that name
  pub found : (xs : List A) → option_and_then (slice_get xs) (place_of name (map f xs)) ≡ find (λ x. is_key name (f x)) xs
  found [] = refl
  found (x ∷ xs) = by (is_key name (f x)) (place_of name (map f xs)) (found xs)
    where
      by : (b : Bool) (o : Option ℕ) → option_and_then (slice_get xs) o ≡ find (λ y. is_key name (f y)) xs →
          option_and_then (slice_get (x ∷ xs)) (if b then Some 0 else option_map suc o) ≡ (if b then Some x else find (λ y. is_key name (f y)) xs)
      by true o rest = refl
      by false None rest = rest
      by false (Some i) rest = rest

  -- one of that name comes before a place
  pub found_before : (xs : List A) (place : ℕ) → stands_before (place_of name (map f xs)) place ≡ list_any (is_key name) (map f (take place xs))
  found_before [] zero = refl
  found_before [] (suc place) = refl
  found_before (x ∷ xs) zero = none_before (place_of name (map f (x ∷ xs)))
  found_before (x ∷ xs) (suc place) = by (is_key name (f x)) (place_of name (map f xs)) (found_before xs place)
    where
      by : (b : Bool) (o : Option ℕ) → stands_before o place ≡ list_any (is_key name) (map f (take place xs)) →
          stands_before (if b then Some 0 else option_map suc o) (suc place) ≡ (b || list_any (is_key name) (map f (take place xs)))
      by true o rest = grind (arith, nat_tests)
      by false None rest = rest
      by false (Some i) rest = both_less i place ∙ rest

  -- some are of that name
  pub found_some : (xs : List A) → is_some (place_of name (map f xs)) ≡ list_any (λ x. is_key name (f x)) xs
  found_some [] = refl
  found_some (x ∷ xs) = by (is_key name (f x)) (place_of name (map f xs)) (found_some xs)
    where
      by : (b : Bool) (o : Option ℕ) → is_some o ≡ list_any (λ y. is_key name (f y)) xs →
          is_some (if b then Some 0 else option_map suc o) ≡ (b || list_any (λ y. is_key name (f y)) xs)
      by true o rest = refl
      by false None rest = rest
      by false (Some i) rest = rest

-- one step along a list whose names are noted
pub step : {A : Type 0} (f : A → Option Bytes) (xs : List A) (i : ℕ) (x : A) (tables next : List (List (Bytes × ℕ))) → i < length xs →
    x ≡ get_or xs i x → next ≡ with_name (f x) i tables →
    with_names (map f (drop (i + 1) xs)) (i + 1) next ≡ with_names (map f (drop i xs)) i tables
step f xs i x tables next below is made =
    ap (λ n. with_names (map f (drop (i + 1) xs)) n next) (omega arith)
    ∙ ap (with_names (map f (drop (i + 1) xs)) (suc i)) made
    ∙ ap (λ y. with_names (map f (drop (i + 1) xs)) (suc i) (with_name (f y) i tables)) is
    ∙ sym (at_drop_more (λ ys. with_names (map f ys) i tables) xs i x below)

-- what two tests tell alike
module _ {A : Type 0} (p q : A → Bool) (alike : (d : A) → p d ≡ q d) where
  same_find : (ds : List A) → find p ds ≡ find q ds
  same_find [] = refl
  same_find (d ∷ ds) =
      ap (λ b. if b then Some d else find p ds) (alike d) ∙ ap (λ o. if q d then Some d else o) (same_find ds)

  same_any : (ds : List A) → list_any p ds ≡ list_any q ds
  same_any [] = refl
  same_any (d ∷ ds) = ap (λ b. b || list_any p ds) (alike d) ∙ ap (λ b. q d || b) (same_any ds)

named_alike : (name : Bytes) (made : DefKind) → is_key name (key_of by.Name made) ≡ is_named name (name_of made)
named_alike name (kind.Struct tag members) = refl
named_alike name (kind.Forward tag) = refl
named_alike name (kind.Mutex other) = refl
named_alike name (kind.Function f) = refl
named_alike name (kind.Prototype p) = refl
named_alike name (kind.Global d) = refl
named_alike name (kind.Array a) = refl
named_alike name (kind.TransformStruct t) = refl
named_alike name (kind.TransformGlobal global e) = refl

struct_alike : (tag : Bytes) (made : DefKind) → is_key tag (key_of by.Struct made) ≡ defines_tag tag made
struct_alike tag (kind.Struct other members) = refl
struct_alike tag (kind.Forward other) = refl
struct_alike tag (kind.Mutex other) = refl
struct_alike tag (kind.Function f) = refl
struct_alike tag (kind.Prototype p) = refl
struct_alike tag (kind.Global d) = refl
struct_alike tag (kind.Array a) = refl
struct_alike tag (kind.TransformStruct t) = refl
struct_alike tag (kind.TransformGlobal global e) = refl

tag_alike : (tag : Bytes) (made : DefKind) → is_key tag (key_of by.Tag made) ≡ declares_tag tag made
tag_alike tag (kind.Struct other members) = refl
tag_alike tag (kind.Forward other) = refl
tag_alike tag (kind.Mutex other) = refl
tag_alike tag (kind.Function f) = refl
tag_alike tag (kind.Prototype p) = refl
tag_alike tag (kind.Global d) = refl
tag_alike tag (kind.Array a) = refl
tag_alike tag (kind.TransformStruct t) = refl
tag_alike tag (kind.TransformGlobal global e) = refl

or_false : (b : Bool) → b ≡ (b || false)
or_false true = refl
or_false false = refl

zero_is_least : (j : ℕ) → min 0 j ≡ 0
zero_is_least j = omega arith

least_is_zero : (i : ℕ) → min i 0 ≡ 0
least_is_zero i = omega arith

earlier_alone : (o : Option ℕ) → earlier o None ≡ o
earlier_alone None = refl
earlier_alone (Some i) = refl

both_on : (o p : Option ℕ) → earlier (option_map suc o) (option_map suc p) ≡ option_map suc (earlier o p)
both_on None p = refl
both_on (Some i) None = refl
both_on (Some i) (Some j) = ap Some (omega arith)

module _ {A : Type 0} (f g : A → Option Bytes) (name : Bytes) where
  one_on : (x : A) (xs : List A) (o : Option ℕ) → option_and_then (slice_get (x ∷ xs)) (option_map suc o) ≡ option_and_then (slice_get xs) o
  one_on x xs None = refl
  one_on x xs (Some i) = refl

  -- what is at the earlier of the first places of two names is the first that has either name
  found_by_two : (other : Bytes) (xs : List A) →
      option_and_then (slice_get xs) (earlier (place_of name (map f xs)) (place_of other (map g xs)))
      ≡ find (λ x. is_key name (f x) || is_key other (g x)) xs
  found_by_two other [] = refl
  found_by_two other (x ∷ xs) = by (is_key name (f x)) (is_key other (g x)) (place_of name (map f xs)) (place_of other (map g xs)) (found_by_two other xs)
    where
      by : (b c : Bool) (o p : Option ℕ) → option_and_then (slice_get xs) (earlier o p) ≡ find (λ y. is_key name (f y) || is_key other (g y)) xs →
          option_and_then (slice_get (x ∷ xs)) (earlier (if b then Some 0 else option_map suc o) (if c then Some 0 else option_map suc p))
          ≡ (if b || c then Some x else find (λ y. is_key name (f y) || is_key other (g y)) xs)
      by true true o p rest = refl
      by true false o None rest = refl
      by true false o (Some j) rest = ap (slice_get (x ∷ xs)) (zero_is_least (suc j))
      by false true None p rest = refl
      by false true (Some i) p rest = ap (slice_get (x ∷ xs)) (least_is_zero (suc i))
      by false false o p rest = ap (option_and_then (slice_get (x ∷ xs))) (both_on o p) ∙ one_on x xs (earlier o p) ∙ rest

  -- the same where there may be no other name
  found_by_either : (other : Option Bytes) (xs : List A) →
      option_and_then (slice_get xs) (earlier (place_of name (map f xs)) (option_and_then (λ k. place_of k (map g xs)) other))
      ≡ find (λ x. is_key name (f x) || option_map_or (λ k. is_key k (g x)) other false) xs
  found_by_either None xs =
      ap (option_and_then (slice_get xs)) (earlier_alone (place_of name (map f xs)))
      ∙ found f name xs
      ∙ same_find (λ x. is_key name (f x)) (λ x. is_key name (f x) || false) (λ x. or_false (is_key name (f x))) xs
  found_by_either (Some other) xs = found_by_two other xs

no_struct : (b : Bool) (tag : Option Bytes) → (b || option_map_or (λ own. false) tag false) ≡ b
no_struct true None = refl
no_struct true (Some tag) = refl
no_struct false None = refl
no_struct false (Some tag) = refl

module _ (name : Bytes) (own : Option Bytes) (is : (tag : Bytes) → bytes_eq name (codes "struct " ++ tag) ≡ option_map_or (λ t. bytes_eq t tag) own false) where
  full_alike : (made : DefKind) →
      (is_key name (key_of by.Name made) || option_map_or (λ t. is_key t (key_of by.Struct made)) own false)
      ≡ option_map_or (bytes_eq name) (full_name made) false
  full_alike (kind.Struct tag members) = sym (is tag.text)
  full_alike (kind.Forward tag) = no_struct false own
  full_alike (kind.Mutex other) = no_struct (bytes_eq name other.text) own
  full_alike (kind.Function f) = no_struct (bytes_eq name f.name.text) own
  full_alike (kind.Prototype p) = no_struct false own
  full_alike (kind.Global d) = no_struct (bytes_eq name d.name.text) own
  full_alike (kind.Array a) = no_struct (bytes_eq name a.name.text) own
  full_alike (kind.TransformStruct t) = no_struct false own
  full_alike (kind.TransformGlobal global e) = no_struct false own

  -- what is at the earlier place of a name and of the tag in it is the first of that full name
  pub declared_found : (ds : List Def) →
      option_and_then (slice_get ds) (earlier (place_of name (keys by.Name ds)) (option_and_then (λ t. place_of t (keys by.Struct ds)) own))
      ≡ declared_as ds name
  declared_found ds =
      found_by_either (λ d. key_of by.Name d.kind) (λ d. key_of by.Struct d.kind) name own ds
      ∙ same_find (λ d. is_key name (key_of by.Name d.kind) || option_map_or (λ t. is_key t (key_of by.Struct d.kind)) own false)
      (λ d. option_map_or (bytes_eq name) (full_name d.kind) false) (λ d. full_alike d.kind) ds

-- what is found by a name is the definition that declares it
pub named_found : (ds : List Def) (name : Bytes) → find (λ d. is_key name (key_of by.Name d.kind)) ds ≡ definition_of ds name
named_found ds name =
    same_find (λ d. is_key name (key_of by.Name d.kind)) (λ d. is_named name (name_of d.kind)) (λ d. named_alike name d.kind) ds

pub struct_found : (ds : List Def) (tag : Bytes) → find (λ d. is_key tag (key_of by.Struct d.kind)) ds ≡ struct_of ds tag
struct_found ds tag =
    same_find (λ d. is_key tag (key_of by.Struct d.kind)) (λ d. defines_tag tag d.kind) (λ d. struct_alike tag d.kind) ds

pub tag_found : (ds : List Def) (tag : Bytes) → is_some (place_of tag (keys by.Tag ds)) ≡ is_tag ds tag
tag_found ds tag =
    found_some (λ d. key_of by.Tag d.kind) tag ds
    ∙ same_any (λ d. is_key tag (key_of by.Tag d.kind)) (λ d. declares_tag tag d.kind) (λ d. tag_alike tag d.kind) ds

-- the members that are looked at are those of the struct
members_alike : (ds : List Def) (tag name : Bytes) →
    option_and_then (λ d. member (own_members d.kind) name) (struct_of ds tag)
    ≡ option_and_then (λ members. member members name) (members_of ds tag)
members_alike [] tag name = refl
members_alike (d ∷ ds) tag name = by d.kind (members_alike ds tag name)
  where
    by : (made : DefKind) →
        option_and_then (λ d'. member (own_members d'.kind) name) (struct_of ds tag) ≡ option_and_then (λ members. member members name) (members_of ds tag) →
        option_and_then (λ d'. member (own_members d'.kind) name) (if defines_tag tag made then Some (record { place = d.place; kind = made }) else struct_of ds tag)
        ≡ option_and_then (λ members. member members name) (option_and_then (λ d'. members_in d'.kind) (if defines_tag tag made then Some (record { place = d.place; kind = made }) else struct_of ds tag))
    by (kind.Struct other members) rest = inside (bytes_eq tag other.text)
      where
        inside : (b : Bool) →
            option_and_then (λ d'. member (own_members d'.kind) name) (if b then Some (record { place = d.place; kind = kind.Struct other members }) else struct_of ds tag)
            ≡ option_and_then (λ ms. member ms name) (option_and_then (λ d'. members_in d'.kind) (if b then Some (record { place = d.place; kind = kind.Struct other members }) else struct_of ds tag))
        inside true = refl
        inside false = rest
    by (kind.Forward other) rest = rest
    by (kind.Mutex other) rest = rest
    by (kind.Function f) rest = rest
    by (kind.Prototype p) rest = rest
    by (kind.Global d') rest = rest
    by (kind.Array a) rest = rest
    by (kind.TransformStruct t) rest = rest
    by (kind.TransformGlobal global e) rest = rest

pub struct_member : (ds : List Def) (tag name : Bytes) →
    option_and_then (λ d. member (own_members d.kind) name) (option_and_then (slice_get ds) (place_of tag (keys by.Struct ds)))
    ≡ option_and_then (λ members. member members name) (members_of ds tag)
struct_member ds tag name =
    ap (option_and_then (λ d. member (own_members d.kind) name)) (found (λ d. key_of by.Struct d.kind) tag ds ∙ struct_found ds tag)
    ∙ members_alike ds tag name

-- a member is found by the table of its struct
pub member_found : (ds : List Def) (place : ℕ) (d : Def) (tables : List (List (List (Bytes × ℕ)))) (number : Option ℕ) (name : Bytes) →
    slice_get ds place ≡ Some d → tables ≡ member_tables ds →
    number ≡ option_and_then (λ t. innermost t name) (slice_get tables place) →
    option_map (λ b. b.declared) (option_and_then (slice_get (own_members d.kind)) number) ≡ member (own_members d.kind) name
member_found ds place d tables number name at are is =
    let members : List Binding = own_members d.kind in
    ap (λ n. option_map (λ b. b.declared) (option_and_then (slice_get members) n))
    (is
    ∙ ap (λ ts. option_and_then (λ t. innermost t name) (slice_get ts place)) are
    ∙ ap (option_and_then (λ t. innermost t name)) (slice_get-map (λ d'. table_of (member_keys (own_members d'.kind))) ds place)
    ∙ ap (λ o. option_and_then (λ t. innermost t name) (option_map (λ d'. table_of (member_keys (own_members d'.kind))) o)) at
    ∙ look_up_table (member_keys members) name)
    ∙ ap (option_map (λ b. b.declared)) (found (λ b. Some b.name.text) name members)

-- a member is found by the tables of all definitions
pub members_found : (ds : List Def) (place : Option ℕ) (tables : List (List (List (Bytes × ℕ)))) (number : Option ℕ) (name : Bytes) →
    tables ≡ member_tables ds →
    number ≡ option_and_then (λ t. innermost t name) (option_and_then (slice_get tables) place) →
    option_and_then (λ d. option_map (λ b. b.declared) (option_and_then (slice_get (own_members d.kind)) number)) (option_and_then (slice_get ds) place)
    ≡ option_and_then (λ d. member (own_members d.kind) name) (option_and_then (slice_get ds) place)
members_found ds None tables number name are is = refl
members_found ds (Some place) tables number name are is = by (slice_get ds place) refl
  where
    by : (o : Option Def) → slice_get ds place ≡ o →
        option_and_then (λ d. option_map (λ b. b.declared) (option_and_then (slice_get (own_members d.kind)) number)) o
        ≡ option_and_then (λ d. member (own_members d.kind) name) o
    by None at = refl
    by (Some d) at = member_found ds place d tables number name at are is
