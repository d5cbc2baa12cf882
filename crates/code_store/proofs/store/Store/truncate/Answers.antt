use Rattle.std.proofs.Common.{subst, sym, ◌∙◌}
use Rattle.code_store.proofs.Counting.{Fit, fit_front}
use Rattle.code_store.proofs.store.Store.truncate.Goals as goal

pub counts_of-counts-requires : goal.counts_of-counts-requires
counts_of-counts-requires c =
    subst Fit (sym (c.deref.ensures.value ∙ c.truncate.ensures.items))
    (fit_front c.self.inside.bodies.items c.args.count c.self.inside.check_ins c.self.inside.tokens c.self.invariant)
