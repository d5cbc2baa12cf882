use Rattle.effects.proofs.OneRow.{one_row}
use Rattle.effects.proofs.RowsExist.{each_has_a_row}
use Rattle.effects.proofs.laws.each_mark_has_one_row.Goals as goal

pub returns-clause-exists : goal.returns-clause-exists
returns-clause-exists c = each_has_a_row

pub returns-clause-unique : goal.returns-clause-unique
returns-clause-unique c = one_row
