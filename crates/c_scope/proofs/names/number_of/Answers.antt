use Rattle.std.proofs.Common.{sym}
use Rattle.c_scope.proofs.NameLemmas.{number-lookup, lacks-lookup}
use Rattle.c_scope.proofs.names.number_of.Goals as goal

pub returns-in_err-name-clause-absent : goal.returns-in_err-name-clause-absent
returns-in_err-name-clause-absent c =
    rw c.from_residual.ensures (lacks-lookup c.args.text.now c.args.names.now.entries (sym c.in_err-name.ensures.found))

pub returns-clause-found : goal.returns-clause-found
returns-clause-found c =
    number-lookup c.args.text.now c.args.names.now.entries c.in_ok-name.name c.in_ok-name.ensures.within (sym c.in_ok-name.ensures.index)
