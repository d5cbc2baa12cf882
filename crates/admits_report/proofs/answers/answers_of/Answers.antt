use Rattle.std.proofs.Common.{◌∙◌, refl}
use Rattle.admits_report.proofs.answers.answers_of.Goals as goal

pub returns : goal.returns
returns c = record {
  function = refl;
  spots = c.in_ok-lines.ensures.spots ∙ c.as_slice.ensures.value;
  start = c.start_answer.ensures;
  lines = c.in_ok-lines.ensures.answers;
}
