use Rattle.std.proofs.Common.{ap, ◌∙◌}
use Rattle.journal_versions.specs.Journals.{group_of}
use Rattle.journal_versions.proofs.EventLines.{group_reads, line_is}
use Rattle.journal_versions.proofs.laws.event_lines_are_exact.Goals as goal

pub returns : goal.returns
returns c = λ form line e times. (line_is form line e times, λ is. ap (λ l. group_of form l) is.0 ∙ group_reads form e times is.1)
