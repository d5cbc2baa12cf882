use Rattle.std.proofs.Common.{◌≡◌, ℕ, IfOk, subst, sym, ◌∙◌}
use Rattle.run_types.specs.declared.run.Event.TheVariants.{Decide}
use Rattle.dsu_runs.specs.Engines.{MakesAt}
use Rattle.dsu_runs.specs.UndefinedNames.{UsesUndefined}
use Rattle.dsu_runs.proofs.running.make.Goals as goal

pub returns-in-Move-clause-made : goal.returns-in-Move-clause-made
returns-in-Move-clause-made g c = λ setup x at.
    let e = g.E.Engine in
    subst
    (λ event. IfOk c.act.result
    (MakesAt (λ y. e.is_at setup y c.act.new.engine) setup event x (e.told c.args.engine.now) (e.told c.act.new.engine)))
    (sym c.in-Move.is) (c.act.ensures.made setup x at)

pub returns-in-CheckIn-clause-made : goal.returns-in-CheckIn-clause-made
returns-in-CheckIn-clause-made g c = λ setup x at.
    let e = g.E.Engine in
    subst
    (λ event.
    MakesAt (λ y. e.is_at setup y c.check_in.new.self) setup event x (e.told c.args.engine.now) (e.told c.check_in.new.self)
    c.check_in.result)
    (sym c.in-CheckIn.is) (c.check_in.ensures.made setup x at)

pub returns-in-Offer-clause-made : goal.returns-in-Offer-clause-made
returns-in-Offer-clause-made g c = λ setup x at.
    let e = g.E.Engine in
    subst
    (λ event.
    MakesAt (λ y. e.is_at setup y c.offer.new.self) setup event x (e.told c.args.engine.now) (e.told c.offer.new.self)
    c.offer.result)
    (sym c.in-Offer.is) (c.offer.ensures.made setup x at)

pub returns-in-Decide-clause-made : goal.returns-in-Decide-clause-made
returns-in-Decide-clause-made g c = λ setup x at.
    let e = g.E.Engine in
    subst
    (λ event. IfOk c.decide.result
    (MakesAt (λ y. e.is_at setup y c.decide.new.self) setup event x (e.told c.args.engine.now) (e.told c.decide.new.self)))
    (sym c.in-Decide.is) (c.decide.ensures.made setup x at)

pub returns-in-Decide-clause-decides : goal.returns-in-Decide-clause-decides
returns-in-Decide-clause-decides g c = λ is. (c.in-Decide.k, c.in-Decide.is)

pub returns-in-Decide-clause-offers : goal.returns-in-Decide-clause-offers
returns-in-Decide-clause-offers g c = λ is. (c.in-Decide.k, c.in-Decide.is)

pub returns-in-Decide-clause-undefined : goal.returns-in-Decide-clause-undefined
returns-in-Decide-clause-undefined g c = λ is k decides setup x at.
    subst (UsesUndefined setup) (decided c.in-Decide.k k (sym c.in-Decide.is ∙ decides)) (c.decide.ensures.undefined is setup x at)
  where
    decided : (a b : ℕ) → Decide a ≡ Decide b → a ≡ b
    decided a b same = cc

pub returns-in-Withdraw-clause-made : goal.returns-in-Withdraw-clause-made
returns-in-Withdraw-clause-made g c = λ setup x at.
    let e = g.E.Engine in
    subst
    (λ event.
    MakesAt (λ y. e.is_at setup y c.withdraw.new.self) setup event x (e.told c.args.engine.now) (e.told c.withdraw.new.self)
    c.withdraw.result)
    (sym c.in-Withdraw.is) (c.withdraw.ensures.made setup x at)
