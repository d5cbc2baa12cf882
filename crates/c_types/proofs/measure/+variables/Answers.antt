use Rattle.std.proofs.Common.{min, map, sym, ap, ◌∙◌}
use Rattle.c_types.specs.Statements.{total, variables}
use Rattle.c_types.proofs.Measures.{capped_sum, variables_of_node}
use Rattle.c_types.proofs.measure.+variables.Goals as goal

pub variables_of-returns-in-For : goal.variables_of-returns-in-For
variables_of-returns-in-For t c =
    capped_sum _ _ _ (total (map variables c.in-For.first)) (variables c.in-For.body) c.together-in-For.ensures
    (c.variables-in-For.ensures ∙ ap (λ ss. min (total (map variables ss)) 65) c.as_slice-in-For.ensures)
    (c.variables_of-in-For.ensures ∙ ap (λ s. min (variables s) 65) c.get-in-For.ensures)
    ∙ ap (λ n. min n 65) (sym (variables_of_node c.args.stmt.now _ c.in-For.is))
