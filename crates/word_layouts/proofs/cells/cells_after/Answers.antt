use Rattle.std.proofs.Common.{◌≡◌, ℕ, List, ◌-◌, ◌∷◌, [], ◌++◌, length, map, replicate, take, sym, ap, subst, ◌∙◌}
use Rattle.std.proofs.lemmas.Result.{IfOk-weaker}
use Rattle.code_runs.specs.CodeInstalls.{Transforms}
use Rattle.constant_values.specs.Kinds.{converted_to_kind}
use Rattle.versioned_structs.specs.Formulas.{value_in}
use Rattle.bytecode.specs.Words.{word_of}
use Rattle.word_layouts.specs.ChangedCells.{changed_cells}
use Rattle.word_layouts.specs.WordValues.{by_word, read_word}
use Rattle.word_layouts.proofs.CellWords.{cells_transform, no_words}
use Rattle.word_layouts.proofs.cells.cells_after.Goals as goal

pub returns-in-Given-clause-transforms : goal.returns-in-Given-clause-transforms
returns-in-Given-clause-transforms c = λ p q name before is was kind.
    let words = c.args.words.now in
    IfOk-weaker c.given.result
    (λ new. new.items ≡ word_of by_word (converted_to_kind c.in-Given.to (value_in (map (read_word c.args.kind) words) c.in-Given.formula)) ∷ [])
    (λ new. Transforms p q name before words new.items)
    (λ new e.
    subst (Transforms p q name before words) (sym (e ∙ ap (λ x. changed_cells c.args.kind x words) (sym c.in-Given.is)))
    (cells_transform p q name before c.args.change.now c.args.kind words is was kind))
    c.given.ensures

pub returns-in-Copied-clause-transforms : goal.returns-in-Copied-clause-transforms
returns-in-Copied-clause-transforms c = λ p q name before is was kind.
    let words = c.args.words.now in
    IfOk-weaker c.filled.result
    (λ new. new.items ≡ take c.in-Copied.count words ++ replicate (c.in-Copied.count - length words) 0)
    (λ new. Transforms p q name before words new.items)
    (λ new e.
    subst (Transforms p q name before words) (sym (e ∙ ap (λ x. changed_cells c.args.kind x words) (sym c.in-Copied.is)))
    (cells_transform p q name before c.args.change.now c.args.kind words is was kind))
    c.filled.ensures

pub returns-in-Zero-clause-transforms : goal.returns-in-Zero-clause-transforms
returns-in-Zero-clause-transforms c = λ p q name before is was kind.
    let words = c.args.words.now in
    IfOk-weaker c.filled-in-Zero.result
    (λ new. ◌≡◌ {A = List ℕ} new.items (take c.in-Zero.count [] ++ replicate (c.in-Zero.count - length {A = ℕ} []) 0))
    (λ new. Transforms p q name before words new.items)
    (λ new e.
    subst (Transforms p q name before words)
    (sym (e ∙ no_words c.in-Zero.count ∙ ap (λ x. changed_cells c.args.kind x words) (sym c.in-Zero.is)))
    (cells_transform p q name before c.args.change.now c.args.kind words is was kind))
    c.filled-in-Zero.ensures
