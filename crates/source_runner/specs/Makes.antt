-- Which stops can be made, by what they take.
use Rattle.std.specs.Prelude.{ℕ, nat_lt, Bool, true, false, List, [], ◌∷◌, drop}
use Rattle.c_semantics.specs.Stops.{Stop, WriteGlobal, ReadElement, WriteElement, ReadField, WriteField, Free, Spawn, Join, Return, End}
use Rattle.c_semantics.specs.Values.{Value, Number, Reference, Started}

-- whether there is a newest value, and whether it is a number, or a handle of an object or of a thread
abbrev pub is_any : List Value → Bool
is_any [] = false
is_any (v ∷ values) = true

abbrev pub is_number : List Value → Bool
is_number (Number n ∷ values) = true
is_number _ = false

abbrev pub is_reference : List Value → Bool
is_reference (Reference object ∷ values) = true
is_reference _ = false

abbrev pub is_handle : List Value → Bool
is_handle (Started named ∷ values) = true
is_handle _ = false

-- whether the values that a stop takes are there
abbrev pub has_values : Stop → List Value → Bool
has_values (WriteGlobal name) values = is_any values
has_values (ReadElement name) values = is_number values
has_values (WriteElement name) values = is_number (drop 1 values)
has_values (ReadField tag field) values = is_reference values
has_values (WriteField tag field) values = is_reference (drop 1 values)
has_values (Free tag) values = is_reference values
has_values (Spawn name) values = is_any values
has_values Join values = is_handle values
has_values Return values = is_any values
has_values _ values = true

-- whether a thread in that many transactions that waits for nothing can make a stop
abbrev pub can_make : Stop → ℕ → List Value → Bool
can_make End depth values = nat_lt 0 depth
can_make s depth values = has_values s values
