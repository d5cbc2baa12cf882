use Rattle.std.proofs.Common.{sym, subst, arith}
use Rattle.c_lexer.specs.declared.unit.Reading.TheVariants.{Space}
use Rattle.c_lexer.specs.Prefixes.{Passes}
use Rattle.c_lexer.specs.Units.{read_comment}
use Rattle.c_lexer.specs.Cut.{IsUnit}
use Rattle.c_lexer.proofs.LongestPrefixes.{passes_more, unit_past}
use Rattle.c_lexer.proofs.UnitsByFirstBytes.{comment_passes, comment_closes}
use Rattle.c_lexer.proofs.comments.comment_unit.Goals as goal

pub returns-then-closes_comment : goal.returns-then-closes_comment
returns-then-closes_comment c =
    unit_past read_comment c.args.bytes.now c.loop-at.at 2 Space c.loop-at.invariant
    (subst (λ l. IsUnit read_comment l 2 Space) c.split_at.ensures.back (comment_closes c.split_at.result.1.now (sym c.if-closes_comment.ensures)))

pub loop-at-preserved : goal.loop-at-preserved
loop-at-preserved c = passes_more read_comment c.args.bytes.now c.loop-at.at 1 c.loop-at.invariant
    (subst (λ l. Passes read_comment l 1) c.split_at.ensures.back (comment_passes c.split_at.result.1.now (omega (arith, c.split_at.ensures.back_len)) (sym c.if-closes_comment.ensures)))
