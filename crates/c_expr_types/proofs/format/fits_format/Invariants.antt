use Rattle.std.proofs.Common.{◌≡◌, ◌≤◌, length, drop}
use Rattle.c_format.specs.Formats.{kinds}
use Rattle.c_expr_types.specs.Formats.{fits_format, take_all}
use Rattle.c_expr_types.proofs.format.fits_format.Given as goal

abbrev pub invariant-loop-i : goal.invariant-loop-i
invariant-loop-i l =
    (l.used ≤ length l.arguments)
    × (take_all (kinds l.reading (drop l.i l.format)) (drop l.used l.arguments) ≡ fits_format l.format l.arguments)
