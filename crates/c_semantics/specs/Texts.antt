-- What the definitions of a text say of its names.
use Rattle.std.specs.Prelude.{Bool, false, List, [], Option, Some, None, filter_map, find, bytes_eq}
use Rattle.std.specs.Option.{option_map_or}
use Rattle.c_ints.specs.declared.kind.Kind.TheVariants.{I32}
use Rattle.c_tree.specs.BareExpr.{Bytes, BareType, Integer}
use Rattle.c_tree.specs.BareDef.{BareBinding, BareDef, Struct, Forward, Mutex, Function, Prototype, Global, Array, TransformStruct, TransformGlobal}
use Rattle.c_semantics.specs.Names.{struct_name}

-- the name that is defined; prototypes, forward declarations and transformers define none
abbrev pub defined : BareDef → Option Bytes
defined (Struct tag members) = Some (struct_name tag)
defined (Forward tag) = None
defined (Mutex name) = Some name
defined (Function result name parameters body) = Some name
defined (Prototype result name parameters) = None
defined (Global d) = Some d.name
defined (Array element name length initial) = Some name
defined (TransformStruct tag values) = None
defined (TransformGlobal name value) = None

-- the definitions of a program by name
abbrev pub Definitions : Type 0
Definitions = Bytes → Option BareDef

-- whether a definition is that of the name
abbrev pub defines : Bytes → BareDef → Bool
defines name d = option_map_or (bytes_eq name) (defined d) false

-- the definition of a name in a text
abbrev pub definition : List BareDef → Definitions
definition text name = find (defines name) text

-- the names that a text defines, in its order
abbrev pub names : List BareDef → List Bytes
names = filter_map defined

-- the type `int`, also where a text that types has no type to tell
abbrev pub int : BareType
int = Integer I32

-- the type of a global variable, or of an array's elements
abbrev pub global_type : Option BareDef → BareType
global_type (Some (Global d)) = d.declared
global_type (Some (Array element name length initial)) = element
global_type _ = int

-- the type of a function's value
abbrev pub result_type : Option BareDef → BareType
result_type (Some (Function (Some type) name parameters body)) = type
result_type _ = int

-- the parameters of a function
abbrev pub parameters_of : Option BareDef → List BareBinding
parameters_of (Some (Function result name parameters body)) = parameters
parameters_of _ = []

-- the fields of a struct
abbrev pub members_of : Option BareDef → List BareBinding
members_of (Some (Struct tag members)) = members
members_of _ = []

-- what a name is declared as in a list
abbrev pub bound : List BareBinding → Bytes → Option BareBinding
bound bindings name = find (λ b. bytes_eq name b.name) bindings

-- the type of a name in a list
abbrev pub bound_type : List BareBinding → Bytes → BareType
bound_type bindings name = option_map_or (λ b. b.declared) (bound bindings name) int
