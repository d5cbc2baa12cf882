use Rattle.std.proofs.Common.{rules, arith, ◌≡◌, ◌+◌, ◌<◌, ap, ◌∙◌}
use Rattle.pass_lock.proofs.Calls.{dealt, split_kept, split_given}
use Rattle.pass_lock.proofs.Kept.{splits_one}
use Rattle.pass_lock.proofs.Making.{fresh_next}
use Rattle.pass_lock.proofs.seats.deal.Goals as goal

pub split_seat-seat-requires : goal.split_seat-seat-requires
split_seat-seat-requires g c = let below : c.loop-number.number < c.args.passes = search rules in let key : c.args.board.now.key ≡ c.args.passes = search rules in
    (search rules, search rules, splits_one g.W.Told.history _ _ c.loop-number.number c.loop-number.first.me.0 (ap (λ m. m.0) c.loop-number.invariant.2) (omega arith))

pub loop-number-preserved : goal.loop-number-preserved
loop-number-preserved g c = let i = c.loop-number.invariant in let e = c.split_seat-seat.ensures in let below = c.loop-number-test.true in (
  omega arith,
  e.0 ∙ i.1,
  split_kept c.loop-number.first.me c.split_seat-seat.new.seat.me c.loop-number.number i.2 e.2,
  c.push_reserved.ensures.items ∙ fresh_next c.args.board.now.table_id c.loop-number.number c.loop-number.all.items c.of.result i.3
      (c.of.ensures ∙ dealt c.split_seat-seat.result c.args.board.now.table_id c.loop-number.number (e.3 ∙ i.1) (split_given c.loop-number.first.me c.split_seat-seat.result.me c.loop-number.number i.2 e.4)),
  c.push_reserved.ensures.len ∙ ap (λ k. k + 1) i.4,
  c.push_reserved.ensures.capacity ∙ i.5,
)
