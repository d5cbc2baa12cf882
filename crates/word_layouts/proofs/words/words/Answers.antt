use Rattle.std.proofs.Common.{sym, subst, ◌≤◌, length}
use Rattle.versioned_structs.specs.Limits.{most_fields}
use Rattle.word_layouts.proofs.WordFields.{words_step}
use Rattle.word_layouts.proofs.words.words.Goals as goal

pub loop-place-preserved : goal.loop-place-preserved
loop-place-preserved c =
    let values = c.as_slice-values.result.now in
    let few : length values ≤ most_fields = subst (λ l. length l ≤ most_fields) (sym c.as_slice-values.ensures.values) c.as_slice-values.ensures.few in
    words_step values c.loop-place.words c.loop-place.place _ c.word.result c.loop-place-test.true few c.loop-place.invariant c.word.ensures
