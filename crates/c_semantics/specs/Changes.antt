-- What changes between two texts, by name.
use Rattle.std.specs.Prelude.{Bool, true, false, not, ◌&&◌, List, map, filter, Option, Some}
use Rattle.std.specs.Ordering.{int_eq}
use Rattle.c_ints.specs.Number.{value_of}
use Rattle.c_tree.specs.BareExpr.{Bytes, BareType}
use Rattle.c_tree.specs.BareDef.{BareBinding, BareDef, Struct, Mutex, Function, Global, Array}
use Rattle.name_sets.specs.NameLists.{name_set, is_among}
use Rattle.c_semantics.specs.Texts.{definition, names}
use Rattle.c_semantics.specs.Same.{same_list, same_option, same_type, same_stmts, same_binding}

-- a struct's layout: its fields with their types, in order
abbrev pub same_layout : List BareBinding → List BareBinding → Bool
same_layout = same_list same_binding

-- a function's signature: its result and the types of its parameters; their names aren't part of it
abbrev pub same_signature : Option BareType → List BareBinding → Option BareType → List BareBinding → Bool
same_signature r ps q qs =
    same_option same_type r q && same_list same_type (map (λ b. b.declared) ps) (map (λ b. b.declared) qs)

-- two definitions of one name have the same interface: a struct's layout, a function's signature, a global's type (of
-- an array with its length as a number, whatever the type of the constant that tells it), of a mutex that it is there
abbrev pub same_interface : BareDef → BareDef → Bool
same_interface (Struct tag ms) (Struct other ns) = same_layout ms ns
same_interface (Mutex name) (Mutex other) = true
same_interface (Function r name ps body) (Function q other qs code) = same_signature r ps q qs
same_interface (Global a) (Global b) = same_type a.declared b.declared
same_interface (Array t name n initial) (Array u other m values) = same_type t u && int_eq (value_of n) (value_of m)
same_interface _ _ = false

-- two definitions of one name are the same: a function's with its parameters' names and its body; of the others
-- their interface, so a changed initialiser alone is no change
abbrev pub same_definition : BareDef → BareDef → Bool
same_definition (Function r name ps body) (Function q other qs code) =
    same_option same_type r q && same_list same_binding ps qs && same_stmts body code
same_definition a b = same_interface a b

-- what two texts say of a name agrees: both define it, and alike
abbrev pub agree : (BareDef → BareDef → Bool) → Option BareDef → Option BareDef → Bool
agree same (Some a) (Some b) = same a b
agree same _ _ = false

-- the names of p whose definition in q is another or is gone
abbrev pub changed : List BareDef → List BareDef → List Bytes
changed p q = filter (λ z. not (agree same_definition (definition p z) (definition q z))) (name_set (names p))

-- the names of p whose interface in q is another or is gone
abbrev pub interface : List BareDef → List BareDef → List Bytes
interface p q = filter (λ z. not (agree same_interface (definition p z) (definition q z))) (name_set (names p))

-- the names of q that p doesn't have
abbrev pub added : List BareDef → List BareDef → List Bytes
added p q = filter (λ z. not (is_among (names p) z)) (name_set (names q))
