use Rattle.std.proofs.Common.{◌∙◌, ◌+◌, ap, length, refl, subst, sym, arith}
use Rattle.std.specs.Prelude.{false}
use Rattle.std.proofs.lemmas.Bool.{false≢true}
use Rattle.dsu_runs.specs.Finishes.{Finishes}
use Rattle.dsu_runs.proofs.Happening.{any_are_rows, any_rules}
use Rattle.dsu_runs.proofs.Soloing.{came_to_nothing, ended, failed, finished, further, lacks, no_room, one_more, room_taken, starts}
use Rattle.dsu_runs.proofs.solo_run.finish.Goals as goal

pub returns-in_default-clause-ran : goal.returns-in_default-clause-ran
returns-in_default-clause-ran g c = λ asks setup start live.
    let e = g.E.Engine in
    no_room setup (e.is_at setup) e.told e.faults start c.args.live (record { engine = c.args.live.engine; history = c.reserve.new.self }) refl
    c.reserve.ensures.items live

pub loop-turn-init : goal.loop-turn-init
loop-turn-init g c =
    let e = g.E.Engine in
    let long = ap length c.reserve.ensures.items in
    record {
      going = λ asks setup start live.
          starts setup (e.is_at setup) e.told e.faults start c.args.live
          (record {
            running = record { engine = c.args.live.engine; history = c.reserve.new.self };
            last = c.args.live.last;
            left = c.args.live.left;
            quiet = false;
          }) refl c.reserve.ensures.items refl refl refl live;
      asked = λ asks. asks;
      counted = omega (arith, long);
      room = let room = c.in-Ok.ensures.ok in omega (arith, long, room);
      left = λ is. absurd (false≢true is);
    }

pub loop-turn-preserved : goal.loop-turn-preserved
loop-turn-preserved g c =
    let e = g.E.Engine in
    let old = c.loop-turn.solo in
    let new = c.turn.new.self in
    let at = c.loop-turn.invariant in
    let kept = c.turn.ensures.kept in
    record {
      going = λ asks setup start live.
          let now = at.going asks setup start live in
          let seats =
          c.seats_fit_their_slots.ensures any_rules setup old.running.history.items now.guard (now.came.legal any_rules any_are_rows) in
          one_more setup (e.is_at setup) e.told e.faults start c.args.live old new c.turn.result now kept
          (c.turn.ensures.turned (at.asked asks) setup now.guard now.there seats.count now.quiet) c.in-Done.is;
      asked = λ asks. c.turn.ensures.asked (at.asked asks);
      counted = let one = kept.longer c.in-Done.is in omega (arith, one, at.counted);
      room = let more = kept.room in omega (arith, at.room, more);
      left = c.turn.ensures.left;
    }

pub returns-in-CannotHappen-clause-ran : goal.returns-in-CannotHappen-clause-ran
returns-in-CannotHappen-clause-ran g c = λ asks setup start live.
    let e = g.E.Engine in
    let old = c.loop-turn.solo in
    let new = c.turn.new.self in
    let at = c.loop-turn.invariant.going asks setup start live in
    let seats =
    c.seats_fit_their_slots.ensures any_rules setup old.running.history.items at.guard (at.came.legal any_rules any_are_rows) in
    let turned = c.turn.ensures.turned (c.loop-turn.invariant.asked asks) setup at.guard at.there seats.count at.quiet in
    let nothing =
    came_to_nothing setup (e.is_at setup) e.told e.faults start c.args.live old new c.turn.result at c.turn.ensures.kept turned
    c.in-CannotHappen.is in
    let end =
    ended setup (e.is_at setup) e.told e.faults start c.args.live old new c.turn.result at c.turn.ensures.kept turned nothing
    c.solo_schedule_goes_to_the_end.ensures.nothing_next in
    subst (Finishes setup (e.is_at setup) e.told e.faults start c.args.live)
    (sym (c.end.ensures.ended (c.turn.ensures.asked (c.loop-turn.invariant.asked asks)) setup at.guard end.0 seats.count)) end.1

pub returns-in-SinkFailed-clause-ran : goal.returns-in-SinkFailed-clause-ran
returns-in-SinkFailed-clause-ran g c = λ asks setup start live.
    let e = g.E.Engine in
    let old = c.loop-turn.solo in
    let new = c.turn.new.self in
    let at = c.loop-turn.invariant.going asks setup start live in
    let seats =
    c.seats_fit_their_slots.ensures any_rules setup old.running.history.items at.guard (at.came.legal any_rules any_are_rows) in
    subst (Finishes setup (e.is_at setup) e.told e.faults start c.args.live) (sym c.stop.ensures)
    (failed setup (e.is_at setup) e.told e.faults start c.args.live old new c.turn.result at c.turn.ensures.kept
    (c.turn.ensures.turned (c.loop-turn.invariant.asked asks) setup at.guard at.there seats.count at.quiet) c.in-SinkFailed.is)

pub returns-in-Memory-clause-ran : goal.returns-in-Memory-clause-ran
returns-in-Memory-clause-ran g c = λ asks setup start live.
    let e = g.E.Engine in
    let old = c.loop-turn.solo in
    let new = c.turn.new.self in
    let at = c.loop-turn.invariant.going asks setup start live in
    let seats =
    c.seats_fit_their_slots.ensures any_rules setup old.running.history.items at.guard (at.came.legal any_rules any_are_rows) in
    subst (Finishes setup (e.is_at setup) e.told e.faults start c.args.live) (sym c.stop-in-Memory.ensures)
    (lacks setup (e.is_at setup) e.told e.faults start c.args.live old new c.turn.result at c.turn.ensures.kept
    (c.turn.ensures.turned (c.loop-turn.invariant.asked asks) setup at.guard at.there seats.count at.quiet) c.in-Memory.is)

pub returns-clause-ran : goal.returns-clause-ran
returns-clause-ran g c = λ asks setup start live.
    let e = g.E.Engine in
    let s = c.loop-turn.solo in
    let at = c.loop-turn.invariant.going asks setup start live in
    let seats = c.seats_fit_their_slots.ensures any_rules setup s.running.history.items at.guard (at.came.legal any_rules any_are_rows) in
    let full = further setup (e.is_at setup) e.told e.faults start c.args.live s at c.loop-turn._turn c.loop-turn.invariant.counted in
    subst (Finishes setup (e.is_at setup) e.told e.faults start c.args.live)
    (sym (c.end-2.ensures.ended (c.loop-turn.invariant.asked asks) setup at.guard at.there seats.count))
    (finished setup (e.is_at setup) e.told e.faults start c.args.live s at
    (room_taken setup (e.is_at setup) e.told e.faults start c.args.live s at
    (omega (arith, full, c.loop-turn-test.false, c.offers.ensures setup start live.there, c.slots.ensures setup start live.there))))
