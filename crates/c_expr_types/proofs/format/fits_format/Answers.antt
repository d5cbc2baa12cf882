use Rattle.std.proofs.Common.{◌≡◌, drop, sym, ◌∙◌}
use Rattle.std.proofs.lemmas.List.{drop_all}
use Rattle.c_format.specs.declared.reading.Reading.TheVariants.{Text}
use Rattle.c_expr_types.proofs.Conversions.{at_end}
use Rattle.c_expr_types.proofs.format.fits_format.Goals as goal
use Rattle.c_expr_types.proofs.format.fits_format.Goals.{in-Text, in_default-matches}

pub returns-then-matches : goal.returns-then-matches
returns-then-matches c =
    let text : c.loop-i.reading ≡ Text = elim c.match-matches.branch [ in-Text w ↦ cc | in_default-matches w ↦ absurd cc ] in
    sym (at_end c.loop-i.reading (drop c.loop-i.i c.args.format.now) c.loop-i.used c.args.arguments.now text (drop_all c.loop-i.i c.args.format.now c.loop-i-test.false) c.loop-i.invariant.0)
    ∙ c.loop-i.invariant.1
