use Rattle.std.proofs.Common.{◌≡◌, length, sym, subst}
use Rattle.std.specs.Prelude.{Ok}
use Rattle.run_types.specs.declared.run.Event.TheVariants.{CheckIn}
use Rattle.source_model.specs.Schedules.{first_act, slots_after}
use Rattle.dsu_runs.specs.declared.engine.Turn.TheVariants as turn
use Rattle.dsu_runs.specs.Engines.{Makes, MovesOn, TurnsTo}
use Rattle.dsu_runs.proofs.Turning.{moved_on, of_ok, passed_on}
use Rattle.dsu_runs.proofs.solo_run.SoloRun.act.Goals as goal

pub returns-in-Ok-Moved-clause-turned : goal.returns-in-Ok-Moved-clause-turned
returns-in-Ok-Moved-clause-turned g c = λ asks setup x goes none.
    let e = g.E.Engine in
    let old = c.args.self.now in
    let m = c.moved.ensures in
    let slot = c.in-Ok-Moved.slot in
    let mid = c.act_next.new.self in
    let next = first_act x (slots_after (length x.seats) old.last) in
    let is : c.act_next.result ≡ Ok (turn.Moved slot) = cc in
    let t =
    of_ok c.act_next.result (TurnsTo (λ y. e.is_at setup y mid) setup next x (e.told old.running.engine) (e.told mid)) (turn.Moved slot)
    (c.act_next.ensures.turned asks setup x goes) is in
    moved_on (e.is_at setup) e.told setup x old c.moved.new.self slot next goes none t.0
    (subst (λ n. MovesOn (λ y. e.is_at setup y n) setup slot x (e.told old.running.engine) (e.told n)) (sym m.engine) t.1)
    m.history m.last m.fewer m.left

pub returns-in-Ok-CheckedIn-clause-turned : goal.returns-in-Ok-CheckedIn-clause-turned
returns-in-Ok-CheckedIn-clause-turned g c = λ asks setup x goes none.
    let e = g.E.Engine in
    let old = c.args.self.now in
    let m = c.checked_in.ensures in
    let slot = c.in-Ok-CheckedIn.slot in
    let mid = c.act_next.new.self in
    let next = first_act x (slots_after (length x.seats) old.last) in
    let is : c.act_next.result ≡ Ok (turn.CheckedIn slot) = cc in
    let t =
    of_ok c.act_next.result (TurnsTo (λ y. e.is_at setup y mid) setup next x (e.told old.running.engine) (e.told mid)) (turn.CheckedIn slot)
    (c.act_next.ensures.turned asks setup x goes) is in
    passed_on (e.is_at setup) e.told setup x old c.checked_in.new.self slot next goes none t.0
    (subst (λ n. Makes (λ y. e.is_at setup y n) setup (CheckIn slot) x (e.told old.running.engine) (e.told n)) (sym m.engine) t.1)
    m.history m.last m.left c.requires.left
