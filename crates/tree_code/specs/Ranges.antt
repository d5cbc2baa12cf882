-- Values of which a word says all: an integer is in the range of its kind, as each integer of a machine is.
use Rattle.std.specs.Prelude.{◌≡◌, List, [], ◌∷◌, None}
use Rattle.c_ints.specs.Kind.{InRange}
use Rattle.c_ints.specs.Number.{kind_of, value_of}
use Rattle.c_tree.specs.BareExpr.{BareType, Integer, Handle, Thread}
use Rattle.c_semantics.specs.Values.{Value, Number, Reference, Started}

abbrev pub Ranged : Value → Type 0
Ranged (Number n) = InRange (kind_of n) (value_of n)
Ranged (Reference object) = Unit {0}
Ranged (Started thread) = Unit {0}

abbrev pub AllRanged : List Value → Type 0
AllRanged [] = Unit {0}
AllRanged (v ∷ vs) = Ranged v × AllRanged vs

-- a value of a type that is no object's handle and no thread, with an integer in range
abbrev pub IsPlain : BareType → Value → Type 0
IsPlain (Integer k) (Number n) = (kind_of n ≡ k) × InRange k (value_of n)
IsPlain (Handle tag) (Reference None) = Unit {0}
IsPlain Thread (Started None) = Unit {0}
IsPlain _ _ = ⊥
