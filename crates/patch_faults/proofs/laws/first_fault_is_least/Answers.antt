use Rattle.patch_faults.proofs.LeastPlaces.{first_fault_is_least, none_where_none}
use Rattle.patch_faults.proofs.laws.first_fault_is_least.Goals as goal

pub returns-clause-first : goal.returns-clause-first
returns-clause-first c = first_fault_is_least

pub returns-clause-none : goal.returns-clause-none
returns-clause-none c = none_where_none
