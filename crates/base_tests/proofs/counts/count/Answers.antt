use Rattle.std.proofs.Common.{sym, ap, ◌∙◌, subst}
use Rattle.pass_lock.specs.Histories.{Adds}
use Rattle.pass_lock.specs.Passes.{opened}
use Rattle.base_tests.specs.Tallies.{tallied}
use Rattle.base_tests.proofs.counts.count.Goals as goal

pub give-requires-clause-turn : goal.give-requires-clause-turn
give-requires-clause-turn g c = let log = tallied c.take-turn.result.value.by.items in let number = sym (ap (λ k. k.number) c.take-turn.ensures.pass ∙ c.requires.1) in (
  opened log,
  c.add-added.ensures.0,
  ap (λ k. k.turn) c.take-turn.ensures.pass,
  subst (λ n. Adds n log c.add-added.ensures.0 (tallied c.add-added.new.self.by.items)) number c.add-added.ensures.1,
)
