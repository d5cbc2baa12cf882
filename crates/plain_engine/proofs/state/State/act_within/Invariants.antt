use Rattle.std.proofs.Common.{◌≡◌, ◌-◌, false}
use Rattle.std.specs.List.{range_with_len}
use Rattle.source_model.specs.Guards.{Guard, Setup, has_ended}
use Rattle.source_model.specs.Schedules.{first_act}
use Rattle.plain_engine.specs.Plain.{IsStateAt, state_shown}
use Rattle.plain_engine.proofs.state.State.act_within.Given as goal

-- none of the slots before the rest acts
abbrev pub invariant-loop-slot : goal.invariant-loop-slot
invariant-loop-slot g l =
    g.M.Machine.asks l.self.run → (setup : Setup) (x : Guard) → IsStateAt setup x (state_shown g.M.Machine.shown l.self) → has_ended x ≡ false
    → first_act x (range_with_len l.from (l.to - l.from)) ≡ first_act x (range_with_len l.rest (l.to - l.rest))

abbrev pub decreases-loop-slot : goal.decreases-loop-slot
decreases-loop-slot g l = l.to - l.rest
