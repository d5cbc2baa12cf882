use Rattle.name_resolution.proofs.Kept.{grows_refl}
use Rattle.source_programs.proofs.Defining.{defined_by_text}
use Rattle.source_programs.proofs.resolved.definitions_of.Goals as goal

pub returns-in_err-known-clause-grows : goal.returns-in_err-known-clause-grows
returns-in_err-known-clause-grows c = grows_refl _

pub returns-clause-definitions : goal.returns-clause-definitions
returns-clause-definitions c = defined_by_text _ _ _ _ c.in_ok-known.ensures c.known_definitions.ensures.definitions
