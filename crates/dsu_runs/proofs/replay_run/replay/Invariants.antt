use Rattle.std.proofs.Common.{◌≡◌, ◌≤◌, length}
use Rattle.std.specs.Prelude.{vec_capacity}
use Rattle.source_model.specs.Guards.{Setup, first_guard}
use Rattle.dsu_runs.proofs.Replaying.{Made}
use Rattle.dsu_runs.proofs.replay_run.replay.Given as goal

abbrev pub invariant-loop-line : goal.invariant-loop-line
invariant-loop-line g l =
    let e = g.E.Engine in
    record {
      made : e.asks l.fn.engine → (setup : Setup) → e.is_at setup (first_guard setup) l.fn.engine
          → Made setup (e.is_at setup) e.told e.faults l.fn.engine l.fn.events l.line-index l.running;
      asked : e.asks l.fn.engine → e.asks l.running.engine;
      counted : length l.running.history.items ≡ l.line-index;
      room : length l.fn.events ≤ vec_capacity l.running.history;
    }
