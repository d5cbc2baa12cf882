use Rattle.std.proofs.Common.{◌≡◌, inl, inr, length, List, Option, Some, ℕ, refl, sym, subst, ap, ◌∙◌, arith}
use Rattle.std.specs.Prelude.{slice_get}
use Rattle.std.proofs.lemmas.Bool.{cases_eq}
use Rattle.std.proofs.lemmas.Option.{get_or_from_slice_get, slice_get_read, slice_get_within}
use Rattle.thread_state.specs.Frames.{most_words}
use Rattle.thread_state.specs.Heights.{HasHeight}
use Rattle.thread_state.specs.Turns.{no_names}
use Rattle.code_image.specs.declared.function.CodeFunction.{CodeFunction}
use Rattle.image_load.proofs.stacks.highest_stack.Goals as goal

pub loop-function-preserved : goal.loop-function-preserved
loop-function-preserved c =
    let functions = c.args.functions.now in
    let index = c.loop-function.function-index in
    let item = c.function-item.result in
    let there : slice_get functions index ≡ Some item = slice_get_read functions (length functions) index item refl c.loop-function-test.true c.function-item.is in
    record {
      never_higher = λ n f before found place height has.
          elim (cases_eq n index) [
            | inl same ↦
                let is : item ≡ f = c.function-item.is ∙ get_or_from_slice_get functions index f item (ap (slice_get functions) (sym same) ∙ found) in
                c.highest_with-most.ensures.never_higher place height
                (subst (λ (hs : List (Option ℕ)). HasHeight hs place height) (ap (λ (g : CodeFunction). g.verified.heights.items) (sym is) ∙ sym c.as_slice.ensures.value) has)
            | inr differs ↦ omega (arith, c.highest_with-most.ensures.higher, c.loop-function.invariant.never_higher n f (omega arith) found place height has)
          ];
      least = λ other high. c.highest_with-most.ensures.least other (c.loop-function.invariant.least other high)
          (λ place height has. high index item there place height (subst (λ (hs : List (Option ℕ)). HasHeight hs place height) c.as_slice.ensures.value has));
    }

pub returns-clause-highest : goal.returns-clause-highest
returns-clause-highest c = record {
  never_higher = λ n f there.
      c.loop-function.invariant.never_higher n f (omega (arith, slice_get_within c.args.functions.now n f there, c.loop-function-test.false)) there;
  least = c.loop-function.invariant.least;
}

pub returns-clause-low : goal.returns-clause-low
returns-clause-low c = c.loop-function.invariant.least most_words (λ n f there place height has. (f.fits.sound no_names).low place height has)
