use Rattle.code_store.proofs.StoredBodies.{store_with_names}
use Rattle.code_store.proofs.DirectUses.{uses_are_direct}
use Rattle.code_store.proofs.laws.stores_are_exact.Goals as goal

pub returns-clause-names : goal.returns-clause-names
returns-clause-names c = store_with_names

pub returns-clause-uses : goal.returns-clause-uses
returns-clause-uses c = uses_are_direct
