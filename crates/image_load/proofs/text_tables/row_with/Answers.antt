use Rattle.std.proofs.Common.{List, map, sym, ap, subst, ◌∙◌}
use Rattle.std.specs.Prelude.{All}
use Rattle.std.proofs.lemmas.Result.{err_from_is_err_and}
use Rattle.c_tree.specs.Bare.{bare_kind}
use Rattle.c_semantics.specs.Values.{Value}
use Rattle.source_model.specs.Worlds as world
use Rattle.local_evaluation.specs.Values.{seen}
use Rattle.bytecode.specs.Words.{word_of}
use Rattle.image_load.specs.FirstCells.{IsPlain}
use Rattle.image_load.proofs.PlainCells.{cells_plain}
use Rattle.image_load.proofs.text_tables.row_with.Goals as goal

pub returns-in_err-first-clause-fault : goal.returns-in_err-first-clause-fault
returns-in_err-first-clause-fault c =
    let own = ap (map seen) c.as_slice.ensures.value ∙ ap (λ (x : world.Cells). x.cells) c.in_ok-made.ensures in
    let p = err_from_is_err_and c.from_residual-in_err-first.result c.from_residual-in_err-first.ensures.1 in
    rw (p.1, p.2) (c.in_err-first.ensures.fault (subst (λ (vs : List Value). All IsPlain vs) (sym own) (cells_plain (bare_kind c.args.kind.now))))

pub returns-clause-first : goal.returns-clause-first
returns-clause-first c = λ naming.
    c.in_ok-first.ensures.row naming
    ∙ ap (map (word_of naming)) (ap (map seen) c.as_slice.ensures.value ∙ ap (λ (x : world.Cells). x.cells) c.in_ok-made.ensures)
