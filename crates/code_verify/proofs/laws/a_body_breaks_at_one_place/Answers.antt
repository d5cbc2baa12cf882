use Rattle.code_verify.proofs.Exclusive.{well_formed_excludes, breaks_once}
use Rattle.code_verify.proofs.laws.a_body_breaks_at_one_place.Goals as goal

pub returns-clause-excludes : goal.returns-clause-excludes
returns-clause-excludes c = well_formed_excludes

pub returns-clause-once : goal.returns-clause-once
returns-clause-once c = breaks_once
