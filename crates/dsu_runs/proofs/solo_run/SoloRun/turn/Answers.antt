use Rattle.std.proofs.Common.{◌∙◌, length, ap, sym, subst}
use Rattle.source_model.specs.Schedules.{first_act, slots_after}
use Rattle.dsu_runs.specs.Turns.{Turned, next_within}
use Rattle.dsu_runs.proofs.Acting.{turned_by}
use Rattle.dsu_runs.proofs.Turning.{quiet_next, turned_after}
use Rattle.dsu_runs.proofs.solo_run.SoloRun.turn.Goals as goal

pub returns-in-None-clause-turned : goal.returns-in-None-clause-turned
returns-in-None-clause-turned g c = λ asks setup x at fits known.
    let e = g.E.Engine in
    let old = c.args.self.now in
    let mid = c.others_turn.new.self in
    let same = c.in-None.ensures.kept in
    let quiet = c.in-None.ensures.turned asks setup x at fits known in
    let first = first_act x (slots_after (length x.seats) old.last) in
    turned_by (e.is_at setup) e.told setup x first (next_within setup x old.last old.left) old c.act.new.self c.act.result
    (sym (quiet_next setup x old.last old.left quiet))
    (turned_after (e.is_at setup) e.told setup x first old mid c.act.new.self c.act.result same
    (subst (λ s. Turned (e.is_at setup) e.told setup x (first_act x (slots_after (length x.seats) s.last)) mid c.act.new.self c.act.result) same
    (c.act.ensures.turned (c.others_turn.ensures.asked asks) setup x
    (record {
      there = subst (λ s. e.is_at setup x s.running.engine) (sym same) at;
      going = quiet.going;
      fits = fits;
      none_open = quiet.none_open;
    })
    quiet.none_due)))
