use Rattle.std.proofs.Common.{◌<◌, subst, ℕ}
use mir.Syntax.{w64}
use mir.Val.{of_z, to_z}
use Rattle.std.proofs.lemmas.Int.{to_z-of_z}
use Rattle.c_ints.specs.Kind.{width}
use Rattle.word_arithmetic.proofs.SignedResults.{shifted_left}
use Rattle.word_arithmetic.proofs.signed.shift_left.Goals as goal

pub returns : goal.returns
returns c =
    let below : c.args.count < width c.args.kind = subst (λ (n : ℕ). c.args.count < n) c.width.ensures c.if-width-count.false in
    shifted_left c.args.kind c.args.x (to_z w64 (of_z w64 c.args.x)) c.args.count c.greatest.result c.requires c.greatest.ensures below (to_z-of_z w64 c.args.x c.ranges.x) c.if-x-lt0.false c.if-greatest-count.false
