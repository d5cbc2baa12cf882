use Rattle.std.proofs.Common.{◌≡◌, ◌∙◌, ℕ, Bool, true, false, Option, Some, None, ap, refl, sym}
use Rattle.std.specs.Prelude.{◌&&◌, not}
use Rattle.std.specs.Option.{is_some}
use Rattle.std.proofs.lemmas.Bool.{true≢false}
use Rattle.source_model.specs.Runs.{some_can_move}
use Rattle.source_model.specs.Endings.{seats_wait}
use Rattle.dsu_runs.proofs.Standing.{stuck_in_turn}
use Rattle.threaded_vm.proofs.shared.is_stuck.Goals as goal

twice : (b : Bool) → b ≡ not (not b)
twice true = refl
twice false = refl

none_is : (o : Option ℕ) → is_some o ≡ false → o ≡ None
none_is None is = refl
none_is (Some k) is = absurd (true≢false is)

pub returns-then-try_settle-clause-stuck : goal.returns-then-try_settle-clause-stuck
returns-then-try_settle-clause-stuck g c = λ yes setup x at going fits.
    let asks = c.try_settle.ensures.asks c.if-try_settle.true in
    let stuck =
    twice c.is_none.result
    ∙ ap not (sym c.is_none.ensures)
    ∙ stuck_in_turn x c.next_act.result fits (c.next_act.ensures asks setup x at going fits) in (
      ap (λ b. not b && (seats_wait x.seats && not (some_can_move x.world))) going ∙ sym stuck ∙ yes,
      sym (c.«open».ensures setup x at) ∙ none_is c.«open».result (sym c.is_some.ensures ∙ c.if-is_some.false),
    )
