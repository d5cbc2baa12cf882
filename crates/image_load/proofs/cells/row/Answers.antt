use Rattle.std.proofs.Common.{map, ap, ◌∙◌, arith}
use Rattle.std.proofs.lemmas.List.{take_all}
use Rattle.std.proofs.lemmas.Result.{err_from_is_err_and}
use Rattle.local_evaluation.specs.Values.{seen}
use Rattle.bytecode.specs.Words.{word_of}
use Rattle.image_load.specs.FirstCells.{IsPlain}
use Rattle.image_load.proofs.NameNumbers.{listed_read}
use Rattle.image_load.proofs.Lists.{of_images}
use Rattle.image_load.proofs.cells.row.Goals as goal

pub loop-place-preserved : goal.loop-place-preserved
loop-place-preserved c = λ naming.
    listed_read (word_of naming) seen c.loop-place.words.items c.push.new.self.items c.in_ok-word.word c.args.cells.now c.loop-place.place _
    c.in_ok-push.ensures.items c.loop-place-test.true (c.loop-place.invariant naming) (c.in_ok-word.ensures.word naming)

pub returns-clause-row : goal.returns-clause-row
returns-clause-row c = λ naming.
    c.loop-place.invariant naming
    ∙ ap (λ vs. map (word_of naming) (map seen vs)) (take_all c.loop-place.place c.args.cells.now (omega (arith, c.loop-place-test.false)))

pub returns-in_err-word-clause-fault : goal.returns-in_err-word-clause-fault
returns-in_err-word-clause-fault c =
    let p = err_from_is_err_and c.from_residual-in_err-word.result c.from_residual-in_err-word.ensures.1 in
    rw (p.1, p.2) (λ all. c.in_err-word.ensures.fault (of_images IsPlain seen c.args.cells.now all c.loop-place.place _ c.loop-place-test.true))
