use Rattle.accepted_bodies.proofs.DefinedUses.{accepted_texts_are_known, accepted_texts_have_none}
use Rattle.accepted_bodies.proofs.laws.accepted_texts_define_each_use.Goals as goal

pub returns-clause-each : goal.returns-clause-each
returns-clause-each c = accepted_texts_have_none

pub returns-clause-known : goal.returns-clause-known
returns-clause-known c = accepted_texts_are_known
