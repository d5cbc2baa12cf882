use Rattle.std.proofs.Common.{◌∙◌, Some, ap, sym}
use Rattle.std.specs.Prelude.{option_map}
use Rattle.std.specs.Option.{option_or}
use Rattle.run_types.specs.declared.run.Event.TheVariants.{Decide}
use Rattle.dsu_runs.specs.Turns.{next_within, offer_or_act}
use Rattle.dsu_runs.proofs.Acting.{turned_by}
use Rattle.dsu_runs.proofs.Ends.{next_going}
use Rattle.dsu_runs.proofs.Standing.{still_going}
use Rattle.dsu_runs.proofs.solo_run.SoloRun.ask.Goals as goal

pub returns-in-Some-clause-turned : goal.returns-in-Some-clause-turned
returns-in-Some-clause-turned g c = λ asks setup x at seats.
    let e = g.E.Engine in
    let old = c.args.self.now in
    let going = still_going x c.finish.result (c.finish.ensures setup x at) (sym c.is_some.ensures ∙ c.if-is_some.false) in
    let used = sym (c.is_used_up.ensures asks setup x at going seats) ∙ c.if-is_used_up.false in
    let opened = sym (c.«open».ensures setup x at) ∙ c.in-Some.is in
    turned_by (e.is_at setup) e.told setup x (Some (Decide c.in-Some.k)) (next_within setup x old.last old.left) old c.close.new.self
    c.close.result
    (sym (next_going setup x old.last old.left going used
    ∙ ap (λ o. option_or (option_map Decide o) (offer_or_act setup x old.last old.left)) opened))
    (c.close.ensures.turned setup x at going opened)
