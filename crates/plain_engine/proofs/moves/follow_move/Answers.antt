use Rattle.std.proofs.Common.{◌≡◌, ◌<◌, ◌==◌, ◌∙◌, Some, refl, subst, arith, length, slice_index_or}
use Rattle.std.proofs.lemmas.List.{length-set}
use Rattle.std.specs.Prelude.{slice_get}
use Rattle.std.proofs.lemmas.Option.{slice_get-get_or, slice_get_within}
use Rattle.source_model.specs.Worlds.{in_slot, is_over}
use Rattle.offer_decision.proofs.Filled.{none_filled, one_more}
use Rattle.plain_engine.specs.declared.seat.Seat.{Seat}
use Rattle.plain_engine.specs.Kept.{IsAfter, empty}
use Rattle.plain_engine.proofs.moves.follow_move.Goals as goal

pub loop-slot-init : goal.loop-slot-init
loop-slot-init g c = (
  subst (λ xs. length xs ≡ 16) c.all.ensures.same c.all.ensures.many,
  λ texts limits moves w run reached.
      none_filled (λ n new. (old : Seat) × (slice_get c.args.seats.now n ≡ Some old)
      × IsAfter (g.M.Machine.shown c.args.run.now).words (is_over w) (in_slot w n) (n == c.args.mover) c.args.leads old new)
      c.args.seats.now,
)

pub loop-slot-preserved : goal.loop-slot-preserved
loop-slot-preserved g c =
    let seats = c.loop-slot.seats in
    let k = c.loop-slot.slot in
    let before = c.all.result.now in
    let kept = slice_index_or before k empty in
    let many = c.all.ensures.many in
    rw c.set.ensures (
      length-set seats k c.after.result ∙ c.loop-slot.invariant.0,
      λ texts limits moves w run reached.
          one_more (λ n new. (old : Seat) × (slice_get c.args.seats.now n ≡ Some old)
          × IsAfter (g.M.Machine.shown c.args.run.now).words (is_over w) (in_slot w n) (n == c.args.mover) c.args.leads old new)
          seats _ k c.after.result refl (
            kept,
            subst (λ xs. slice_get xs k ≡ Some kept) c.all.ensures.same
                (slice_get-get_or before k empty (omega (arith, c.loop-slot-test.true, many))),
            c.after.ensures texts limits moves w run reached,
          )
          (c.loop-slot.invariant.1 texts limits moves w run reached),
    )

pub returns : goal.returns
returns g c = λ texts limits moves w run reached n new at.
    let here : n < c.loop-slot.slot =
    omega (arith, slice_get_within c.loop-slot.seats n new at, c.loop-slot.invariant.0, c.loop-slot-test.false) in
    c.loop-slot.invariant.1 texts limits moves w run reached n new here at
