-- What a return gives of a function whose result is an int.
use Rattle.std.specs.Prelude.{◌≡◌, ℕ, List, [], ◌∷◌, Option}
use Rattle.c_ints.specs.declared.kind.Kind.TheVariants.{I32}
use Rattle.c_ints.specs.Kind.{InRange}
use Rattle.c_ints.specs.Number.{kind_of, value_of}
use Rattle.c_tree.specs.BareDef.{BareDef}
use Rattle.c_semantics.specs.Texts.{Definitions, int, result_type}
use Rattle.c_semantics.specs.Values.{Value, Number, Reference, Started}
use Rattle.c_semantics.specs.Stops.{Return}
use Rattle.c_semantics.specs.Pieces.{Piece, Scopes, Stopped}
use Rattle.c_semantics.specs.Evaluation.{local}
use Rattle.c_semantics.specs.Resolution.{resolved_body}
use Rattle.c_semantics.specs.SkeletonLaws.{Comes}

-- a value is an int: an integer of that kind, with a number in its range
abbrev pub IsInt : Value → Type 0
IsInt (Number n) = (kind_of n ≡ I32) × InRange I32 (value_of n)
IsInt (Reference object) = ⊥
IsInt (Started thread) = ⊥

-- the newest value is one
abbrev pub NewestIsInt : List Value → Type 0
NewestIsInt [] = ⊥
NewestIsInt (v ∷ values) = IsInt v

-- where a frame stops at a return that comes through the body of a function whose result is an int, its newest value is one
abbrev pub ReturnsAreInts : Type 0
ReturnsAreInts =
    (look : Definitions) (d : Option BareDef) (a depth : ℕ) (ps : List Piece) (values : List Value) (scopes : Scopes)
    (n : ℕ) (rest : List Piece) (more : List Value) (others : Scopes)
    → result_type d ≡ int → Comes (resolved_body look d) (result_type d) a depth ps
    → local ps values scopes ≡ Stopped Return n rest more others → NewestIsInt more
