use Rattle.std.proofs.Common.{inl, inr, Some, None, sym, ap, ◌∙◌, arith}
use Rattle.std.specs.Prelude.{slice_get}
use Rattle.std.proofs.lemmas.Bool.{cases_eq}
use Rattle.std.proofs.lemmas.Option.{get_or_from_slice_get, slice_get-get_or, slice_get_within}
use Rattle.image_load.proofs.stacks.highest_with.Goals as goal

pub loop-height-preserved : goal.loop-height-preserved
loop-height-preserved c = record {
  higher = omega (arith, c.max-most.ensures, c.loop-height.invariant.higher);
  never_higher = λ place height before has.
      elim (cases_eq place c.loop-height.height-index) [
        | inl same ↦ omega (
          arith,
          c.max-most.ensures,
          c.height_at.ensures.there height
              (get_or_from_slice_get c.args.heights.now c.loop-height.height-index (Some height) _ (ap (slice_get c.args.heights.now) (sym same) ∙ has)),
        )
        | inr differs ↦ omega (arith, c.max-most.ensures, c.loop-height.invariant.never_higher place height (omega arith) has)
      ];
  least = λ other low high.
      omega (
        arith,
        c.max-most.ensures,
        c.loop-height.invariant.least other low high,
        c.height_at.ensures.none other
            (λ h is. high c.loop-height.height-index h (slice_get-get_or c.args.heights.now c.loop-height.height-index None c.loop-height-test.true ∙ ap Some is)),
      );
}

pub returns-clause-never_higher : goal.returns-clause-never_higher
returns-clause-never_higher c = λ place height has.
    c.loop-height.invariant.never_higher place height (omega (arith, slice_get_within c.args.heights.now place (Some height) has, c.loop-height-test.false)) has
