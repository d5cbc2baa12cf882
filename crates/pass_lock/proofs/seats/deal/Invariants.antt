use Rattle.std.proofs.Common.{◌≡◌, ◌+◌, ◌-◌, ◌≤◌, [], vec_len, vec_capacity}
use Rattle.pass_lock.specs.declared.view.Stage.TheVariants.{Idle}
use Rattle.pass_lock.specs.Passes.{fresh_from}
use Rattle.pass_lock.specs.Steps.{seated}
use Rattle.pass_lock.proofs.seats.deal.Given as goal

abbrev pub invariant-loop-number : goal.invariant-loop-number
invariant-loop-number g l =
    (l.number ≤ l.passes) × (l.first.table_id ≡ l.board.table_id) × (l.first.me ≡ (seated Idle [] (l.number + 1), []))
    × (l.all.items ≡ fresh_from l.board.table_id 0 l.number) × (vec_len l.all ≡ l.number) × (vec_capacity l.all ≡ vec_capacity l.initial.all)

abbrev pub decreases-loop-number : goal.decreases-loop-number
decreases-loop-number g l = l.passes - l.number
