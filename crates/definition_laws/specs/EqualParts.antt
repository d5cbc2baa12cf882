-- When two definitions are equal in what they say of their name. Equal is equality of the plain data.
use Rattle.std.specs.Prelude.{◌≡◌, List, map}
use Rattle.c_ints.specs.Number.{value_of}
use Rattle.c_tree.specs.BareExpr.{BareType}
use Rattle.c_tree.specs.BareDef.{BareBinding, BareDef, Struct, Mutex, Function, Global, Array}

-- the types of some fields or parameters, without their names
abbrev pub types_of : List BareBinding → List BareType
types_of = map (λ b. b.declared)

-- two definitions are of one sort and have equal parts: a struct's fields, each with its name and its type, in order; of a
-- mutex that it is there; a function's result type, its parameters with their names and types, and its body; a global's type,
-- without its initialiser; an array's element type and its length as a number, without its initialisers
abbrev pub HaveEqualParts : BareDef → BareDef → Type 0
HaveEqualParts (Struct tag fields) (Struct other members) = fields ≡ members
HaveEqualParts (Mutex name) (Mutex other) = Unit {0}
HaveEqualParts (Function result name parameters body) (Function type other bindings code) =
    (result ≡ type) × (parameters ≡ bindings) × (body ≡ code)
HaveEqualParts (Global d) (Global e) = d.declared ≡ e.declared
HaveEqualParts (Array element name length initial) (Array type other number values) =
    (element ≡ type) × (value_of length ≡ value_of number)
HaveEqualParts _ _ = ⊥

-- the same of what others rely on: of a function its result type and its parameters' types, and neither names nor body
abbrev pub HaveEqualInterfaces : BareDef → BareDef → Type 0
HaveEqualInterfaces (Function result name parameters body) (Function type other bindings code) =
    (result ≡ type) × (types_of parameters ≡ types_of bindings)
HaveEqualInterfaces a b = HaveEqualParts a b
