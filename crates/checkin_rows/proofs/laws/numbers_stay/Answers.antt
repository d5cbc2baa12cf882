use Rattle.checkin_rows.proofs.MarkLemmas.{numbers_stay}
use Rattle.checkin_rows.proofs.laws.numbers_stay.Goals as goal

pub returns : goal.returns
returns c = numbers_stay
