use Rattle.std.proofs.Common.{List, map, sym, ap, subst, ◌∙◌}
use Rattle.std.specs.Prelude.{All}
use Rattle.std.proofs.lemmas.List.{take_all}
use Rattle.std.proofs.lemmas.List.Elements.{All-nil, All-push}
use Rattle.c_semantics.specs.Store.{CheckInOf}
use Rattle.admits_report.specs.declared.answers.CheckInAnswer.{CheckInAnswer}
use Rattle.admits_report.specs.Answered.{AnswersFor, spot_of}
use Rattle.admits_report.proofs.Blocks.{spots_more}
use Rattle.admits_report.proofs.answers.lines_of.Goals as goal

pub loop-spot-init : goal.loop-spot-init
loop-spot-init c = (
  ap (map spot_of) c.new-lines.ensures.items,
  λ f at. subst {A = List CheckInAnswer} (All (λ line. AnswersFor c.args.admission.now (CheckInOf f 1 line.spot.before) line.answer))
      (sym c.new-lines.ensures.items) (All-nil _),
)

pub loop-spot-preserved : goal.loop-spot-preserved
loop-spot-preserved c = (
  spots_more c.args.spots.now c.loop-spot.lines.items _ c.loop-spot.spot-index _ c.check_in_answer-answer.result c.loop-spot-test.true
      c.in_ok-push.ensures.items c.loop-spot.invariant.0,
  λ f at. subst {A = List CheckInAnswer} (All (λ line. AnswersFor c.args.admission.now (CheckInOf f 1 line.spot.before) line.answer))
      (sym c.in_ok-push.ensures.items)
      (All-push (λ line. AnswersFor c.args.admission.now (CheckInOf f 1 line.spot.before) line.answer) c.loop-spot.lines.items _
      (c.loop-spot.invariant.1 f at) (c.check_in_answer-answer.ensures f at)),
)

pub returns-clause-spots : goal.returns-clause-spots
returns-clause-spots c =
    c.loop-spot.invariant.0 ∙ take_all c.loop-spot.spot-index c.args.spots.now c.loop-spot-test.false
