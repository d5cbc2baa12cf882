use Rattle.std.proofs.Common.{◌∙◌, ◌∷◌, ◌+◌, [], ap, length, length-append, refl, sym, subst, arith}
use Rattle.std.specs.Prelude.{slice_index_or}
use Rattle.run_types.specs.declared.run.Event.TheVariants.{Move}
use Rattle.source_model.specs.Endings.{ending, int_ending}
use Rattle.dsu_runs.specs.Replays.{Replayed}
use Rattle.dsu_runs.specs.Turns.{history_after}
use Rattle.dsu_runs.proofs.Coming.{Tries}
use Rattle.dsu_runs.proofs.Happening.{any_are_rows, any_rules}
use Rattle.dsu_runs.proofs.Replaying.{failed, finished, lacks, line_there, misused, no_room, one_more, refused, starts, undefined}
use Rattle.dsu_runs.proofs.replay_run.replay.Goals as goal

pub returns-in_default-clause-replayed : goal.returns-in_default-clause-replayed
returns-in_default-clause-replayed g c = λ asks setup start.
    let e = g.E.Engine in
    no_room setup (e.is_at setup) e.told e.faults c.args.engine c.args.events.now (record { engine = c.args.engine; history = c.new.result }) refl
    c.new.ensures.items

pub loop-line-init : goal.loop-line-init
loop-line-init g c =
    let e = g.E.Engine in
    record {
      made = λ asks setup start.
          starts setup (e.is_at setup) e.told e.faults c.args.engine c.args.events.now
          (record { engine = c.args.engine; history = c.in-Ok.history }) refl c.in-Ok.ensures.items start;
      asked = λ asks. asks;
      counted = ap length c.in-Ok.ensures.items;
      room = c.in-Ok.ensures.capacity;
    }

pub loop-line-preserved : goal.loop-line-preserved
loop-line-preserved g c =
    let e = g.E.Engine in
    let m = c.make.ensures in
    let lines = c.args.events.now in
    let n = c.loop-line.line-index in
    let old = c.loop-line.running in
    let new = c.make.new.self in
    let line = slice_index_or lines n (0, Move 0) in
    record {
      made = λ asks setup start.
          let tries : Tries setup (e.is_at setup) e.told e.faults old new line.1 c.make.result = record {
            made = λ x there. m.made setup x there;
            history = m.history;
            later = m.later;
            cause = m.cause;
            moves = m.moves;
          } in
          one_more setup (e.is_at setup) e.told e.faults c.args.engine lines n old new line c.make.result
          (c.loop-line.invariant.made asks setup start) (line_there lines n c.loop-line-test.true) tries c.in-Done.is;
      asked = λ asks. m.asked (c.loop-line.invariant.asked asks);
      counted =
          ap length (m.history ∙ ap (history_after line.1 old.history.items) c.in-Done.is)
          ∙ length-append old.history.items (line.1 ∷ [])
          ∙ ap (λ k. k + 1) c.loop-line.invariant.counted;
      room = let more = m.room in omega (arith, c.loop-line.invariant.room, more);
    }

pub make-requires : goal.make-requires
make-requires g c =
    let at = c.loop-line.invariant in
    omega (arith, at.counted, at.room, c.loop-line-test.true)

pub returns-in-CannotHappen-clause-replayed : goal.returns-in-CannotHappen-clause-replayed
returns-in-CannotHappen-clause-replayed g c = λ asks setup start.
    let e = g.E.Engine in
    let m = c.make.ensures in
    let lines = c.args.events.now in
    let n = c.loop-line.line-index in
    let old = c.loop-line.running in
    let new = c.make.new.self in
    let line = slice_index_or lines n (0, Move 0) in
    let tries : Tries setup (e.is_at setup) e.told e.faults old new line.1 c.make.result = record {
      made = λ x there. m.made setup x there;
      history = m.history;
      later = m.later;
      cause = m.cause;
      moves = m.moves;
    } in
    subst (Replayed setup (e.is_at setup) e.told e.faults c.args.engine lines) (sym c.stop.ensures)
    (refused setup (e.is_at setup) e.told e.faults c.args.engine lines n old new line c.make.result
    (c.loop-line.invariant.made asks setup start) (line_there lines n c.loop-line-test.true) tries c.in-CannotHappen.is)

pub returns-in-SinkFailed-clause-replayed : goal.returns-in-SinkFailed-clause-replayed
returns-in-SinkFailed-clause-replayed g c = λ asks setup start.
    let e = g.E.Engine in
    let m = c.make.ensures in
    let lines = c.args.events.now in
    let n = c.loop-line.line-index in
    let old = c.loop-line.running in
    let new = c.make.new.self in
    let line = slice_index_or lines n (0, Move 0) in
    let tries : Tries setup (e.is_at setup) e.told e.faults old new line.1 c.make.result = record {
      made = λ x there. m.made setup x there;
      history = m.history;
      later = m.later;
      cause = m.cause;
      moves = m.moves;
    } in
    subst (Replayed setup (e.is_at setup) e.told e.faults c.args.engine lines) (sym c.stop-in-SinkFailed.ensures)
    (failed setup (e.is_at setup) e.told e.faults c.args.engine lines n old new line c.make.result
    (c.loop-line.invariant.made asks setup start) (line_there lines n c.loop-line-test.true) tries c.in-SinkFailed.is)

pub returns-in-Memory-clause-replayed : goal.returns-in-Memory-clause-replayed
returns-in-Memory-clause-replayed g c = λ asks setup start.
    let e = g.E.Engine in
    let m = c.make.ensures in
    let lines = c.args.events.now in
    let n = c.loop-line.line-index in
    let old = c.loop-line.running in
    let new = c.make.new.self in
    let line = slice_index_or lines n (0, Move 0) in
    let tries : Tries setup (e.is_at setup) e.told e.faults old new line.1 c.make.result = record {
      made = λ x there. m.made setup x there;
      history = m.history;
      later = m.later;
      cause = m.cause;
      moves = m.moves;
    } in
    subst (Replayed setup (e.is_at setup) e.told e.faults c.args.engine lines) (sym c.stop-in-Memory.ensures)
    (lacks setup (e.is_at setup) e.told e.faults c.args.engine lines n old new line c.make.result
    (c.loop-line.invariant.made asks setup start) (line_there lines n c.loop-line-test.true) tries c.in-Memory.is)

pub returns-in-Misused-clause-replayed : goal.returns-in-Misused-clause-replayed
returns-in-Misused-clause-replayed g c = λ asks setup start.
    let e = g.E.Engine in
    let m = c.make.ensures in
    let lines = c.args.events.now in
    let n = c.loop-line.line-index in
    let old = c.loop-line.running in
    let new = c.make.new.self in
    let line = slice_index_or lines n (0, Move 0) in
    let tries : Tries setup (e.is_at setup) e.told e.faults old new line.1 c.make.result = record {
      made = λ x there. m.made setup x there;
      history = m.history;
      later = m.later;
      cause = m.cause;
      moves = m.moves;
    } in
    subst (Replayed setup (e.is_at setup) e.told e.faults c.args.engine lines) (sym c.stop-in-Misused.ensures)
    (misused setup (e.is_at setup) e.told e.faults c.args.engine lines n old new line c.make.result
    (c.loop-line.invariant.made asks setup start) (line_there lines n c.loop-line-test.true) tries c.in-Misused.is)

pub returns-in-UndefinedName-clause-replayed : goal.returns-in-UndefinedName-clause-replayed
returns-in-UndefinedName-clause-replayed g c = λ asks setup start.
    let e = g.E.Engine in
    let m = c.make.ensures in
    let lines = c.args.events.now in
    let n = c.loop-line.line-index in
    let old = c.loop-line.running in
    let new = c.make.new.self in
    let line = slice_index_or lines n (0, Move 0) in
    let tries : Tries setup (e.is_at setup) e.told e.faults old new line.1 c.make.result = record {
      made = λ x there. m.made setup x there;
      history = m.history;
      later = m.later;
      cause = m.cause;
      moves = m.moves;
    } in
    subst (Replayed setup (e.is_at setup) e.told e.faults c.args.engine lines) (sym c.stop-in-UndefinedName.ensures)
    (undefined setup (e.is_at setup) e.told e.faults c.args.engine lines n old new line c.make.result
    (c.loop-line.invariant.made asks setup start) (line_there lines n c.loop-line-test.true) tries c.in-UndefinedName.is)

pub returns-clause-replayed : goal.returns-clause-replayed
returns-clause-replayed g c = λ asks setup start.
    let e = g.E.Engine in
    let at = c.loop-line.invariant.made asks setup start in
    let seats =
    c.seats_fit_their_slots.ensures any_rules setup c.loop-line.running.history.items at.guard (at.came.legal any_rules any_are_rows) in
    subst (Replayed setup (e.is_at setup) e.told e.faults c.args.engine c.args.events.now)
    (sym (c.end.ensures.ended (c.loop-line.invariant.asked asks) setup at.guard at.there seats.count))
    (finished setup (e.is_at setup) e.told e.faults c.args.engine c.args.events.now c.loop-line.line-index c.loop-line.running
    (int_ending (ending at.guard)) at c.loop-line-test.false refl)
