use Rattle.std.proofs.Common.{◌∷◌, [], ◌++◌, sym, ap, ◌∙◌, subst}
use Rattle.pass_lock.specs.Histories.{Adds}
use Rattle.base_tests.specs.Tallies.{tallied}
use Rattle.base_tests.proofs.Tallies.{one_added}
use Rattle.base_tests.proofs.counts.Tally.add.Goals as goal

pub returns : goal.returns
returns c = (
  tt ∷ [],
  subst (λ xs. Adds c.args.number (tallied c.args.self.now.by.items) (tt ∷ []) (tallied xs)) (ap (λ xs. xs ++ c.args.number ∷ []) (sym c.reserve.ensures.items) ∙ sym c.push_reserved.ensures.items)
      (one_added c.args.number c.args.self.now.by.items),
)
