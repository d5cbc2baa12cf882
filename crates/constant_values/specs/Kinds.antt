-- The kinds of values, and what depends on a kind alone.
use Rattle.std.specs.Prelude.{[]}
use Rattle.c_tree.specs.BareExpr.{BareType, Integer, Handle, Thread}
use Rattle.c_semantics.specs.Values.{Value, zero_of, converted_to}
use Rattle.constant_values.specs.declared.kind.ValueKind.{ValueKind}
use Rattle.constant_values.specs.declared.kind.ValueKind.TheVariants.{Number, Reference, Thread as ThreadKind}

-- the kind of value of a type
abbrev pub kind_of : BareType → ValueKind
kind_of (Integer k) = Number k
kind_of (Handle tag) = Reference
kind_of Thread = ThreadKind

-- a type whose values have a kind
abbrev pub a_type_of : ValueKind → BareType
a_type_of (Number k) = Integer k
a_type_of Reference = Handle []
a_type_of ThreadKind = Thread

-- zero, null, or no thread
abbrev pub zero_of_kind : ValueKind → Value
zero_of_kind kind = zero_of (a_type_of kind)

-- a value converted as by assignment to a type of a kind
abbrev pub converted_to_kind : ValueKind → Value → Value
converted_to_kind kind value = converted_to (a_type_of kind) value
