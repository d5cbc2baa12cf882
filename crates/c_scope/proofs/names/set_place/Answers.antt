use Rattle.c_scope.proofs.NameLemmas.{texts-set, places-set}
use Rattle.c_scope.proofs.names.set_place.Goals as goal

pub returns-clause-texts : goal.returns-clause-texts
returns-clause-texts c = texts-set c.args.names.now.entries c.args.name c.args.place

pub returns-clause-places : goal.returns-clause-places
returns-clause-places c = places-set c.args.names.now.entries c.args.name c.args.place
