use Rattle.changes_report.proofs.Adding.{from_nothing}
use Rattle.changes_report.proofs.output.text_among.Goals as goal

pub returns : goal.returns
returns c = from_nothing _ _ _ _ _ c.new-text.ensures.items c.in_ok-add_lists.ensures c.in_ok-add_changes.ensures
