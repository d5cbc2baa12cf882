-- The formats of `printf` (7.21.6.1): `%d`, `%u`, `%ld`, `%lu` and `%%`.
use Rattle.std.specs.Prelude.{ℕ, ◌==◌, ◌||◌, List, [], ◌∷◌, ◌++◌, Option, Some, None, option_map, if◌then◌else◌}
use Rattle.c_ints.specs.declared.kind.Kind.{Kind}
use Rattle.c_ints.specs.declared.kind.Kind.TheVariants.{I32, U32, I64, U64}
use Rattle.c_format.specs.declared.reading.Reading.{Reading}
use Rattle.c_format.specs.declared.reading.Reading.TheVariants.{Text, Percent, Long, Bad}

-- the byte that a conversion begins with
abbrev pub percent : ℕ
percent = 0x25

-- the byte `d`, which ends a conversion that takes a signed integer
abbrev pub letter_d : ℕ
letter_d = 0x64

-- the byte `l`, which makes the integer a long one
abbrev pub letter_l : ℕ
letter_l = 0x6c

-- the byte `u`, which ends a conversion that takes an unsigned integer
abbrev pub letter_u : ℕ
letter_u = 0x75

-- what a further byte makes of what was read
abbrev pub read : Reading → ℕ → Reading
read Text c = if c == percent then Percent else Text
read Percent c = if c == letter_d || c == letter_u || c == percent then Text else (if c == letter_l then Long else Bad)
read Long c = if c == letter_d || c == letter_u then Text else Bad
read Bad c = Bad

-- the kind that a conversion takes, where the byte ends one that takes something
abbrev pub taken : Reading → ℕ → List Kind
taken Percent c = if c == letter_d then I32 ∷ [] else (if c == letter_u then U32 ∷ [] else [])
taken Long c = if c == letter_d then I64 ∷ [] else (if c == letter_u then U64 ∷ [] else [])
taken _ c = []

-- the kinds that a format's conversions take, in order; none where a `%` begins no conversion
abbrev pub kinds : Reading → List ℕ → Option (List Kind)
kinds Text [] = Some []
kinds _ [] = None
kinds reading (c ∷ cs) = option_map (λ others. taken reading c ++ others) (kinds (read reading c) cs)
