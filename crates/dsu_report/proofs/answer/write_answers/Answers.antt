use Rattle.std.proofs.Common.{arith}
use Rattle.std.proofs.lemmas.Result.{err_from_is_err_and}
use Rattle.dsu_report.proofs.Offers.{offer_front, offer_more}
use Rattle.dsu_report.proofs.answer.write_answers.Goals as goal

pub returns-in_err-write_answer-clause-bytes : goal.returns-in_err-write_answer-clause-bytes
returns-in_err-write_answer-clause-bytes g c =
    let p = err_from_is_err_and c.from_residual.result c.from_residual.ensures.1 in
    rw p.1 (offer_front c.args.names.now c.args.answers.now c.args.texts.now c.loop-at.at c.index-answers-at.result c.text_at.result.now
    c.loop-at-test.true c.index-answers-at.is c.text_at.ensures _ _ _ c.loop-at.invariant.lines c.in_err-write_answer.ensures.bytes)

pub loop-at-preserved : goal.loop-at-preserved
loop-at-preserved g c = record {
  lines =
      offer_more c.args.names.now c.args.answers.now c.args.texts.now c.loop-at.at c.index-answers-at.result c.text_at.result.now
      c.loop-at-test.true c.index-answers-at.is c.text_at.ensures _ _ _ c.loop-at.invariant.lines c.in_ok-write_answer.ensures.bytes;
  later = omega (arith, c.loop-at.invariant.later, c.in_ok-write_answer.ensures.cause.later);
}
