-- What `printf` writes (7.21.6.1), with the conversions %d, %u, %ld, %lu and %%.
use Rattle.std.specs.Prelude.{ℕ, Bool, false, not, ◌==◌, List, [], ◌∷◌, ◌++◌, if◌then◌else◌}
use Rattle.std.specs.Fmt.{signed_decimal}
use Rattle.c_ints.specs.Number.{value_of}
use Rattle.c_ints.specs.declared.kind.Kind.{Kind}
use Rattle.c_format.specs.declared.reading.Reading.{Reading}
use Rattle.c_format.specs.declared.reading.Reading.TheVariants.{Text, Percent}
use Rattle.c_format.specs.Formats.{percent, read, taken}
use Rattle.c_tree.specs.BareExpr.{Bytes}
use Rattle.c_semantics.specs.Values.{Value, Number}

-- what one byte of a format writes, and what it leaves of the arguments
pub record Written : Type 0 where
  pub bytes : List ℕ
  pub arguments : List Value

-- an argument in decimal
abbrev pub shown : List Value → List ℕ
shown (Number n ∷ vs) = signed_decimal (value_of n)
shown _ = []

-- the arguments after the first
abbrev pub others : List Value → List Value
others [] = []
others (v ∷ vs) = vs

-- a byte that stands for itself: one of no conversion, and the second `%` of `%%`
abbrev pub is_literal : Reading → ℕ → Bool
is_literal Text c = not (c == percent)
is_literal Percent c = c == percent
is_literal _ c = false

-- what a byte writes by the kind that its conversion takes: the next argument, or itself where it stands for itself
abbrev pub written_for : List Kind → Bool → ℕ → List Value → Written
written_for [] literal c vs = record { bytes = if literal then c ∷ [] else []; arguments = vs }
written_for (kind ∷ kinds) literal c vs = record { bytes = shown vs; arguments = others vs }

-- one byte of a format
abbrev pub written : Reading → ℕ → List Value → Written
written reading c vs = written_for (taken reading c) (is_literal reading c) c vs

-- a format's bytes, from one on
abbrev pub printed_from : Reading → Bytes → List Value → List ℕ
printed_from reading [] vs = []
printed_from reading (c ∷ cs) vs =
    let w = written reading c vs in w.bytes ++ printed_from (read reading c) cs w.arguments

-- what a format and its arguments print
abbrev pub printed : Bytes → List Value → List ℕ
printed = printed_from Text
