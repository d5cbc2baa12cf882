-- The tables by which a text's names are found without going through it, for the contracts of private functions. A table
-- is a list of names, each with the place of a definition or member in its list.
use Rattle.std.specs.Prelude.{◌≡◌, ℕ, suc, min, Bool, false, nat_lt, List, [], ◌∷◌, map, Option, Some, None, is_some, option_map, if◌then◌else◌}
use Rattle.std.specs.List.{list_any}
use Rattle.std.specs.Str.{bytes_eq}
use Rattle.c_scope.specs.Tables.{look_up_first, declared}
use Rattle.c_tree.specs.BareExpr.{Bytes}
use Rattle.c_tree.specs.declared.def.Binding.{Binding}
use Rattle.c_tree.specs.declared.def.Def.{Def}
use Rattle.c_tree.specs.declared.def.DefKind.{DefKind}
use Rattle.c_tree.specs.declared.def.DefKind.TheVariants as kind
use Rattle.c_definitions.specs.declared.key.Key.{Key}
use Rattle.c_definitions.specs.declared.key.Key.TheVariants as by
use Rattle.c_definitions.specs.Lookup.{name_of}

-- what a definition is found by, if anything
abbrev pub key_of : Key → DefKind → Option Bytes
key_of by.Name made = option_map (λ name. name.text) (name_of made)
key_of by.Struct (kind.Struct tag members) = Some tag.text
key_of by.Tag (kind.Struct tag members) = Some tag.text
key_of by.Tag (kind.Forward tag) = Some tag.text
key_of by.StructTransformer (kind.TransformStruct t) = Some t.name.text
key_of by.GlobalTransformer (kind.TransformGlobal global e) = Some global.text
key_of _ _ = None

-- a name is found by it
abbrev pub is_key : Bytes → Option Bytes → Bool
is_key name None = false
is_key name (Some other) = bytes_eq name other

abbrev pub keys : Key → List Def → List (Option Bytes)
keys by ds = map (λ d. key_of by d.kind) ds

-- members are found by their names
abbrev pub member_keys : List Binding → List (Option Bytes)
member_keys bs = map (λ b. Some b.name.text) bs

-- 1 for a name that others haven't
abbrev pub new_key : Option Bytes → List (Option Bytes) → ℕ
new_key None others = 0
new_key (Some name) others = if list_any (is_key name) others then 0 else 1

-- the first place of a name
abbrev pub place_of : Bytes → List (Option Bytes) → Option ℕ
place_of name [] = None
place_of name (k ∷ ks) = if is_key name k then Some 0 else option_map suc (place_of name ks)

-- the earlier of two places, where there are any
abbrev pub earlier : Option ℕ → Option ℕ → Option ℕ
earlier None second = second
earlier (Some first) None = Some first
earlier (Some first) (Some second) = Some (min first second)

-- it is a place before another
abbrev pub stands_before : Option ℕ → ℕ → Bool
stands_before None place = false
stands_before (Some first) place = nat_lt first place

abbrev pub Places : Type 0
Places = List (List (Bytes × ℕ))

-- a name, if there is one, with its place, unless the innermost table has it
abbrev pub with_name : Option Bytes → ℕ → Places → Places
with_name None place tables = tables
with_name (Some name) place tables = if is_some (look_up_first tables name) then tables else declared tables name place

-- the tables after some names, the first of which has this place
abbrev pub with_names : List (Option Bytes) → ℕ → Places → Places
with_names [] place tables = tables
with_names (name ∷ names) place tables = with_names names (suc place) (with_name name place tables)

-- the table of the first places of some names
abbrev pub table_of : List (Option Bytes) → Places
table_of names = with_names names 0 ([] ∷ [])

-- the members of a struct's definition; of another none
abbrev pub own_members : DefKind → List Binding
own_members (kind.Struct tag members) = members
own_members _ = []

-- the tables of the members of each definition
abbrev pub member_tables : List Def → List Places
member_tables ds = map (λ d. table_of (member_keys (own_members d.kind))) ds

-- tables are those of a text's definitions
pub record IsIndex (text : List Def) (names structs tags struct_transformers global_transformers : Places) (members : List Places) : Type 0 where
  pub of_names : names ≡ table_of (keys by.Name text)
  pub of_structs : structs ≡ table_of (keys by.Struct text)
  pub of_tags : tags ≡ table_of (keys by.Tag text)
  pub of_struct_transformers : struct_transformers ≡ table_of (keys by.StructTransformer text)
  pub of_global_transformers : global_transformers ≡ table_of (keys by.GlobalTransformer text)
  pub of_members : members ≡ member_tables text
