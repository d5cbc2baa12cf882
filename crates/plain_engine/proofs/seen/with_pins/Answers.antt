use Rattle.std.proofs.Common.{◌≡◌, ◌<◌, ◌∙◌, Some, ap, refl, subst, sym, arith, length, slice_index_or}
use Rattle.std.specs.Prelude.{slice_get}
use Rattle.std.proofs.lemmas.List.{length-set}
use Rattle.std.proofs.lemmas.Option.{slice_get-get_or, slice_get_within}
use Rattle.offer_decision.proofs.Filled.{one_more}
use Rattle.plain_engine.specs.declared.seat.Seat.{Seat}
use Rattle.plain_engine.specs.Kept.{empty}
use Rattle.plain_engine.proofs.seen.with_pins.Goals as goal

pub loop-slot-preserved : goal.loop-slot-preserved
loop-slot-preserved c =
    let seats = c.args.seats.now in
    let pins = c.args.pins.now in
    let k = c.loop-slot.slot in
    let kept = slice_index_or c.all.result.now k empty in
    let at = subst (λ xs. slice_get xs k ≡ Some kept) c.all.ensures.same
    (slice_get-get_or c.all.result.now k empty (omega (arith, c.loop-slot-test.true, c.all.ensures.many))) in
    let within : k < length pins = omega (arith, c.loop-slot-test.true) in (
      length-set c.loop-slot.all k c.with_pin.result ∙ c.loop-slot.invariant.0,
      one_more (λ n new. (old : Seat) × (slice_get seats n ≡ Some old) × (new.kept ≡ old.kept)
          × (new.at_check_in ≡ old.at_check_in) × (slice_get pins n ≡ Some new.pinned)) c.loop-slot.all _ k c.with_pin.result refl (
            kept,
            at,
            ap (λ (s : Seat). s.kept) c.with_pin.ensures,
            ap (λ (s : Seat). s.at_check_in) c.with_pin.ensures,
            slice_get-get_or pins k _ within ∙ ap (λ (s : Seat). Some s.pinned) (sym c.with_pin.ensures),
          )
          c.loop-slot.invariant.1,
    )

pub returns : goal.returns
returns c =
    rw c.of.ensures (λ n new at.
    let here : n < c.loop-slot.slot =
    omega (arith, slice_get_within c.loop-slot.all n new at, c.loop-slot.invariant.0, c.loop-slot-test.false) in
    c.loop-slot.invariant.1 n new here at)
