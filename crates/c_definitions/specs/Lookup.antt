-- What names stand for (6.2.1, 6.2.3). A name of the text's first level is known in the whole text. Where it is declared
-- twice, the first declaration is meant: the later one has a fault.
use Rattle.std.specs.Prelude.{Bool, true, false, List, map, ◌++◌, Option, Some, None, option_map, option_and_then, is_some, codes, if◌then◌else◌}
use Rattle.std.specs.Option.{option_map_or}
use Rattle.std.specs.List.{list_any, find}
use Rattle.std.specs.Str.{bytes_eq}
use Rattle.c_scope.specs.Tables.{look_up_first, innermost, declared}
use Rattle.c_tree.specs.BareExpr.{Bytes}
use Rattle.c_tree.specs.declared.name.Name.{Name}
use Rattle.c_tree.specs.declared.name.CType.{CType}
use Rattle.c_tree.specs.declared.name.CType.TheVariants.{Integer, Handle, Thread}
use Rattle.c_tree.specs.declared.def.Binding.{Binding}
use Rattle.c_tree.specs.declared.def.Def.{Def}
use Rattle.c_tree.specs.declared.def.DefKind.{DefKind}
use Rattle.c_tree.specs.declared.def.DefKind.TheVariants as kind
use Rattle.c_definitions.specs.declared.lookup.Position.{Position}

-- what a name stands for that is no struct's tag
pub data Meaning : Type 0 where
  AVariable : CType → Meaning
  -- of elements of a type
  AnArray : CType → Meaning
  -- with the type of its result, none where it is void, and those of its parameters
  AFunction : Option CType → List CType → Meaning
  AMutex : Meaning

-- the types of parameters
abbrev pub types_of : List Binding → List CType
types_of bindings = map (λ b. b.declared) bindings

-- the name that a definition declares. A prototype declares none: it speaks of a function that the text defines
abbrev pub name_of : DefKind → Option Name
name_of (kind.Function f) = Some f.name
name_of (kind.Global d) = Some d.name
name_of (kind.Array a) = Some a.name
name_of (kind.Mutex name) = Some name
name_of _ = None

-- what that name stands for
abbrev pub meaning_in : DefKind → Option Meaning
meaning_in (kind.Function f) = Some (AFunction f.result (types_of f.parameters))
meaning_in (kind.Global d) = Some (AVariable d.declared)
meaning_in (kind.Array a) = Some (AnArray a.element)
meaning_in (kind.Mutex name) = Some AMutex
meaning_in _ = None

-- the name is there and has these bytes
abbrev pub is_named : Bytes → Option Name → Bool
is_named bytes None = false
is_named bytes (Some name) = bytes_eq bytes name.text

-- the first of some definitions that declares a name
abbrev pub definition_of : List Def → Bytes → Option Def
definition_of text name = find (λ d. is_named name (name_of d.kind)) text

-- what a name of the first level stands for
abbrev pub defined : List Def → Bytes → Option Meaning
defined text name = option_and_then (λ d. meaning_in d.kind) (definition_of text name)

-- a definition of the struct of a tag
abbrev pub defines_tag : Bytes → DefKind → Bool
defines_tag tag (kind.Struct name members) = bytes_eq tag name.text
defines_tag tag _ = false

-- the members that a struct's definition has
abbrev pub members_in : DefKind → Option (List Binding)
members_in (kind.Struct name members) = Some members
members_in _ = None

-- the first of some definitions that is that of a tag's struct
abbrev pub struct_of : List Def → Bytes → Option Def
struct_of text tag = find (λ d. defines_tag tag d.kind) text

-- the members of the struct of a tag; none where it isn't defined
abbrev pub members_of : List Def → Bytes → Option (List Binding)
members_of text tag = option_and_then (λ d. members_in d.kind) (struct_of text tag)

-- the full name of a definition that declares something at run time: a struct with members has its tag after `struct`
abbrev pub full_name : DefKind → Option Bytes
full_name (kind.Struct tag members) = Some (codes "struct " ++ tag.text)
full_name made = option_map (λ name. name.text) (name_of made)

-- the first of some definitions that has a full name
abbrev pub declared_as : List Def → Bytes → Option Def
declared_as text name = find (λ d. option_map_or (bytes_eq name) (full_name d.kind) false) text

-- a definition declares the tag: `struct T { .. };` or `struct T;`
abbrev pub declares_tag : Bytes → DefKind → Bool
declares_tag tag (kind.Struct name members) = bytes_eq tag name.text
declares_tag tag (kind.Forward name) = bytes_eq tag name.text
declares_tag tag _ = false

-- the tag is declared in the text
abbrev pub is_tag : List Def → Bytes → Bool
is_tag ds tag = list_any (λ d. declares_tag tag d.kind) ds

-- the variables of the blocks round a place, by block, the innermost first; the parameters of a function and the variables
-- of its outermost block are one block's
abbrev pub Scopes : Type 0
Scopes = List (List (Bytes × CType))

-- the name is declared in the innermost block already
abbrev pub is_repeated : Bytes → Scopes → Bool
is_repeated name scopes = is_some (look_up_first scopes name)

-- the scopes after a declaration of a variable: the innermost block has it too, unless it has that name already
abbrev pub declare : Bytes → CType → Scopes → Scopes
declare name t scopes = if is_repeated name scopes then scopes else declared scopes name t

-- what the names of an expression are looked up in
pub record Names : Type 0 where
  pub text : List Def
  pub scopes : Scopes
  pub position : Position

-- what a variable of a block stands for, where there is one, and else what the name stands for in the text
abbrev pub hidden_by : Option CType → Option Meaning → Option Meaning
hidden_by (Some t) outer = Some (AVariable t)
hidden_by None outer = outer

abbrev pub meaning_of : Names → Bytes → Option Meaning
meaning_of names name = hidden_by (innermost names.scopes name) (defined names.text name)

-- the tag of a type is declared; an integer type and `thrd_t` have none
abbrev pub is_known : List Def → CType → Bool
is_known text (Integer k) = true
is_known text (Handle tag) = is_tag text tag.text
is_known text Thread = true

-- the type of the first member of a name
abbrev pub member : List Binding → Bytes → Option CType
member members name = option_map (λ b. b.declared) (find (λ b. bytes_eq name b.name.text) members)
