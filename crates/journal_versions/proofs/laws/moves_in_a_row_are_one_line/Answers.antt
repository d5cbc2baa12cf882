use Rattle.journal_versions.proofs.Groups.{groups_are_whole}
use Rattle.journal_versions.proofs.laws.moves_in_a_row_are_one_line.Goals as goal

pub returns : goal.returns
returns c = groups_are_whole
