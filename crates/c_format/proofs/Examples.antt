-- The kinds of small formats, by computing.
use Rattle.std.specs.Prelude.{◌≡◌, [], ◌∷◌, Some, None, codes}
use Rattle.std.proofs.Common.{refl}
use Rattle.c_ints.specs.declared.kind.Kind.TheVariants.{I32, U32, I64, U64}
use Rattle.c_format.specs.declared.reading.Reading.TheVariants.{Text}
use Rattle.c_format.specs.Formats.{kinds}

no_conversion : kinds Text (codes "total") ≡ Some []
no_conversion = refl

-- each conversion, in its place
all_conversions : kinds Text (codes "%d+%u=%ld, %lu") ≡ Some (I32 ∷ U32 ∷ I64 ∷ U64 ∷ [])
all_conversions = refl

-- a percent sign takes nothing, and the `d` after it is text
percent_sign : kinds Text (codes "%%d") ≡ Some []
percent_sign = refl

-- a conversion that has not ended
open_conversion : kinds Text (codes "%d %l") ≡ None
open_conversion = refl

-- a conversion that there isn't, with one after it that there is
unknown_conversion : kinds Text (codes "%s%d") ≡ None
unknown_conversion = refl

-- `%l%` is no percent sign
long_percent : kinds Text (codes "%l%") ≡ None
long_percent = refl
