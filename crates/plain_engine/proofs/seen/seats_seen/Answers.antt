use Rattle.std.proofs.Common.{◌≡◌, ◌<◌, ◌∙◌, Some, refl, subst, arith, slice_index_or}
use Rattle.std.proofs.lemmas.List.{length-set}
use Rattle.std.specs.Prelude.{slice_get}
use Rattle.std.proofs.lemmas.Option.{slice_get-get_or, slice_get_within}
use Rattle.source_model.specs.Guards.{in_transaction}
use Rattle.source_model.specs.Worlds.{in_slot}
use Rattle.offer_decision.proofs.Filled.{one_more}
use Rattle.plain_engine.specs.declared.seat.Seat.{Seat}
use Rattle.plain_engine.specs.Kept.{empty}
use Rattle.plain_engine.specs.Seen.{IsSeen}
use Rattle.plain_engine.proofs.seen.seats_seen.Goals as goal

pub loop-slot-preserved : goal.loop-slot-preserved
loop-slot-preserved g c =
    let seats = c.args.seats.now in
    let k = c.loop-slot.slot in
    let kept = slice_index_or c.all.result.now k empty in
    let at = subst (λ xs. slice_get xs k ≡ Some kept) c.all.ensures.same
    (slice_get-get_or c.all.result.now k empty (omega (arith, c.loop-slot-test.true, c.all.ensures.many))) in (
      length-set c.loop-slot.all k _ ∙ c.loop-slot.invariant.0,
      one_more (λ n seen. (kept : Seat) × (slice_get seats n ≡ Some kept) × IsSeen (g.M.Machine.shown c.args.run.now).words c.args.names.now c.args.versions kept seen)
          c.loop-slot.all _ k _ refl (kept, at, c.seen.ensures.kept) c.loop-slot.invariant.1,
      λ texts limits moves w run reached.
          one_more (λ n seen. in_transaction (in_slot w n) ≡ seen.in_transaction) c.loop-slot.all _ k _ refl
          (c.seen.ensures.within texts limits moves w run reached)
          (c.loop-slot.invariant.2 texts limits moves w run reached),
    )

pub returns-clause-kept : goal.returns-clause-kept
returns-clause-kept g c = λ n seen at.
    let here : n < c.loop-slot.slot =
    omega (arith, slice_get_within c.loop-slot.all n seen at, c.loop-slot.invariant.0, c.loop-slot-test.false) in
    c.loop-slot.invariant.1 n seen here at

pub returns-clause-within : goal.returns-clause-within
returns-clause-within g c = λ texts limits moves w run reached n seen at.
    let here : n < c.loop-slot.slot =
    omega (arith, slice_get_within c.loop-slot.all n seen at, c.loop-slot.invariant.0, c.loop-slot-test.false) in
    c.loop-slot.invariant.2 texts limits moves w run reached n seen here at
