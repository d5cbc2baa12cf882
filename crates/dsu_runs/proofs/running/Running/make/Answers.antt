use Rattle.std.proofs.Common.{subst, sym, ◌∙◌}
use Rattle.dsu_runs.specs.Turns.{Steps}
use Rattle.dsu_runs.proofs.Stepping.{stepped, still_there}
use Rattle.dsu_runs.proofs.running.Running.make.Goals as goal

pub returns-in-Done-clause-made : goal.returns-in-Done-clause-made
returns-in-Done-clause-made g c = λ setup x there.
    let e = g.E.Engine in
    let made = c.make.ensures in
    let old = c.args.self.now.engine in
    let new = c.make.new.engine in
    subst (Steps (λ y. e.is_at setup y new) setup c.args.event x (e.told old) (e.told new)) (sym c.step_of-step.ensures)
    (stepped (λ y. e.is_at setup y new) setup c.args.event x (e.told old) (e.told new) c.make.result _
    (λ stays none. stays none setup x there) (made.made setup x there) made.silent made.stays made.decides
    (λ is. made.misused is setup x there) made.offers (λ is k decides. made.undefined is k decides setup x there))

pub returns-in-CannotHappen-clause-made : goal.returns-in-CannotHappen-clause-made
returns-in-CannotHappen-clause-made g c = λ setup x there.
    let e = g.E.Engine in
    let made = c.make.ensures in
    let old = c.args.self.now.engine in
    let new = c.make.new.engine in
    subst (Steps (λ y. e.is_at setup y new) setup c.args.event x (e.told old) (e.told new)) (sym c.step_of-step.ensures)
    (stepped (λ y. e.is_at setup y new) setup c.args.event x (e.told old) (e.told new) c.make.result _
    (λ stays none. stays none setup x there) (made.made setup x there) made.silent made.stays made.decides
    (λ is. made.misused is setup x there) made.offers (λ is k decides. made.undefined is k decides setup x there))

pub returns-in-CannotHappen-clause-stays : goal.returns-in-CannotHappen-clause-stays
returns-in-CannotHappen-clause-stays g c = λ is none setup x there.
    still_there c.make.result _ c.make.ensures.stays (sym c.step_of-step.ensures ∙ is) none setup x there
