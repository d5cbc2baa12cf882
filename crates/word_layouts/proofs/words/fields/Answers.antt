use Rattle.std.proofs.Common.{◌∷◌, [], ◌++◌, ◌+◌, length, length-append, map, take, sym, ap, ◌∙◌, arith}
use Rattle.std.proofs.lemmas.List.{map-append}
use Rattle.local_evaluation.specs.Values.{seen}
use Rattle.word_layouts.specs.WordValues.{read_words}
use Rattle.word_layouts.proofs.WordFields.{read_more}
use Rattle.word_layouts.proofs.words.fields.Goals as goal

pub loop-place-preserved : goal.loop-place-preserved
loop-place-preserved c =
    let kinds = c.args.kinds.now in
    let words = c.args.words.now in
    let place = c.loop-place.place in
    let value = c.read.result in
    let before = c.loop-place.invariant in (
      ap (map seen) c.push.ensures
          ∙ map-append seen c.loop-place.fields (value ∷ [])
          ∙ ap (λ l. l ++ seen value ∷ []) before.0
          ∙ ap (λ v. read_words (take place kinds) words ++ v ∷ []) c.read.ensures
          ∙ sym (read_more kinds words place _ _ c.loop-place-test.true (omega (arith, c.requires, c.told-words, c.loop-place-test.true))),
      ap length c.push.ensures ∙ length-append c.loop-place.fields (value ∷ []) ∙ ap (λ n. n + 1) before.1,
    )
