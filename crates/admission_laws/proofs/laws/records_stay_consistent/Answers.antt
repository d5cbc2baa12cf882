use Rattle.admission_laws.proofs.TransactionFacts.{left_entries_follow, records_stay_consistent, versioned_is_consistent}
use Rattle.admission_laws.proofs.laws.records_stay_consistent.Goals as goal

pub returns-clause-stay : goal.returns-clause-stay
returns-clause-stay c = records_stay_consistent

pub returns-clause-follow : goal.returns-clause-follow
returns-clause-follow c = left_entries_follow

pub returns-clause-versioned : goal.returns-clause-versioned
returns-clause-versioned c = versioned_is_consistent
