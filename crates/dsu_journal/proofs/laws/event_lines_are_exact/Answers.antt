use Rattle.std.proofs.Common.{ap, ◌∙◌}
use Rattle.dsu_journal.specs.Journals.{event_of}
use Rattle.dsu_journal.proofs.EventLines.{event_reads, line_is}
use Rattle.dsu_journal.proofs.laws.event_lines_are_exact.Goals as goal

pub returns : goal.returns
returns c = λ line e. (line_is line e, λ is. ap event_of is.0 ∙ event_reads e is.1)
