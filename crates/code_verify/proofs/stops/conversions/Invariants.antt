use Rattle.std.proofs.Common.{◌≡◌, ◌+◌, ◌≤◌, drop, length, option_map}
use Rattle.c_format.specs.declared.reading.Reading.TheVariants.{Text}
use Rattle.c_format.specs.Formats.{kinds}
use Rattle.code_verify.proofs.stops.conversions.Given as goal

abbrev pub invariant-loop-i : goal.invariant-loop-i
invariant-loop-i l =
    (l.many ≤ l.i)
    × (option_map (λ m. l.many + m) (option_map length (kinds l.reading (drop l.i l.format))) ≡ option_map length (kinds Text l.format))
