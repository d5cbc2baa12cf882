use Rattle.std.proofs.Common.{◌≡◌, ◌+◌, ◌<◌, ◌≤◌, length, true}
use Rattle.std.specs.Prelude.{vec_capacity}
use Rattle.source_model.specs.Guards.{Guard, Setup}
use Rattle.dsu_runs.specs.Finishes.{IsLive}
use Rattle.dsu_runs.proofs.Soloing.{Going}
use Rattle.dsu_runs.proofs.solo_run.finish.Given as goal

abbrev pub invariant-loop-turn : goal.invariant-loop-turn
invariant-loop-turn g l =
    let e = g.E.Engine in
    record {
      going : e.asks l.fn.live.engine → (setup : Setup) (start : Guard) → IsLive setup (e.is_at setup) start l.fn.live
          → Going setup (e.is_at setup) e.told e.faults start l.fn.live l.solo;
      asked : e.asks l.fn.live.engine → e.asks l.solo.running.engine;
      counted : length l.solo.running.history.items ≡ length l.fn.live.history.items + l._turn;
      room : length l.fn.live.history.items + l.most ≤ vec_capacity l.solo.running.history;
      left : l.solo.quiet ≡ true → 0 < l.solo.left;
    }
