use Rattle.std.proofs.Common.{◌∷◌, [], ◌++◌, sym, subst}
use Rattle.word_layouts.specs.WordChanges.{StandFor}
use Rattle.word_layouts.proofs.Versions.{stands_more}
use Rattle.word_layouts.proofs.layouts.WordLayouts.add.Goals as goal

pub returns-clause-stands : goal.returns-clause-stands
returns-clause-stands c = λ texts q tags all few next.
    subst (StandFor (texts ++ q ∷ []) tags) (sym c.in_ok-push.ensures.items)
    (stands_more texts q tags c.args.self.now.versions.items c.args.changes all few next)
