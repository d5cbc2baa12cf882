use Rattle.std.proofs.Common.{◌≡◌, ◌+◌, ◌++◌, sym, ap, subst, ◌∙◌}
use Rattle.code_store.specs.Stored.{HasCounts, AddsAllStored}
use Rattle.code_store.proofs.StoredBodies.{store_with_bodies}
use Rattle.code_store.proofs.Counting.{counts_both}
use Rattle.code_store.proofs.store.Store.add_all.Goals as goal

pub invariant_of-self-2 : goal.invariant_of-self-2
invariant_of-self-2 c =
    let old = c.args.self.now in
    let more = c.args.bodies.items in
    let was = c.self.inside in
    let counts = c.counts_of-counts.result in
    let items : c.append.new.self.items ≡ old ++ more = c.in_ok-append.ensures.items ∙ ap (λ bs. bs ++ more) c.self.view_is in
    subst (λ bs. HasCounts bs (was.check_ins + counts.check_ins) (was.tokens + counts.tokens)) (sym items)
    (counts_both old more was.check_ins was.tokens counts.check_ins counts.tokens c.requires
    (subst (λ bs. HasCounts bs was.check_ins was.tokens) c.self.view_is c.self.invariant)
    (subst (λ bs. HasCounts bs counts.check_ins counts.tokens) c.deref.ensures.value c.counts_of-counts.ensures))

pub returns-clause-store : goal.returns-clause-store
returns-clause-store c =
    let old = c.args.self.now in
    let more = c.args.bodies.items in
    let items : c.append.new.self.items ≡ old ++ more = c.in_ok-append.ensures.items ∙ ap (λ bs. bs ++ more) c.self.view_is in
    subst (λ bs. AddsAllStored old more bs) (sym items) (store_with_bodies old more)
