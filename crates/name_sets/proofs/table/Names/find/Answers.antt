use Rattle.std.proofs.Common.{sym}
use Rattle.name_sets.proofs.TextLemmas.{absent-lookup, at-lookup}
use Rattle.name_sets.proofs.table.Names.find.Goals as goal

pub returns-in_err-index-clause-absent : goal.returns-in_err-index-clause-absent
returns-in_err-index-clause-absent c =
    rw (c.from_residual.ensures, ← c.self.view_is) (absent-lookup c.args.text.now c.self.inside.texts.keys (sym c.in_err-index.ensures.found))

pub returns-clause-found : goal.returns-clause-found
returns-clause-found c =
    rw (c.at.ensures, ← c.self.view_is) (at-lookup c.args.text.now c.self.inside.texts.keys c.in_ok-index.index c.in_ok-index.ensures.within (sym c.in_ok-index.ensures.index))
