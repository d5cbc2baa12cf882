use Rattle.std.proofs.Common.{◌∙◌, Some, ap, sym}
use Rattle.std.specs.Prelude.{option_map}
use Rattle.std.specs.Option.{option_or}
use Rattle.run_types.specs.declared.run.Event.TheVariants.{Offer}
use Rattle.dsu_runs.specs.Turns.{offer_or_act}
use Rattle.dsu_runs.proofs.Acting.{turned_by, with_running}
use Rattle.dsu_runs.proofs.Offering.{act_left, opened}
use Rattle.dsu_runs.proofs.solo_run.SoloRun.open_due.Goals as goal

pub returns-in-Some-clause-turned : goal.returns-in-Some-clause-turned
returns-in-Some-clause-turned g c = λ setup x goes.
    let e = g.E.Engine in
    let old = c.args.self.now in
    let made = c.make.ensures in
    let is_due = sym (c.due.ensures setup x goes.there) ∙ c.in-Some.is in
    turned_by (e.is_at setup) e.told setup x (Some (Offer c.in-Some.k)) (offer_or_act setup x old.last old.left) old
    (with_running old c.make.new.self) c.make.result
    (sym (ap (λ o. option_or (option_map Offer o) (act_left x old.last old.left)) is_due))
    (opened (e.is_at setup) e.told setup x old c.make.new.self c.in-Some.k c.make.result c.requires.unknown goes is_due
    (made.made setup x goes.there, made.history, made.moves))
