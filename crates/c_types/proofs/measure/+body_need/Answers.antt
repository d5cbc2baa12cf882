use Rattle.std.proofs.Common.{min, max, sym, ap, ◌∙◌}
use Rattle.c_expr_types.specs.Need.{body_need, optional_need, stmt_need}
use Rattle.c_types.proofs.Measures.{capped_max, need_of_node}
use Rattle.c_types.proofs.measure.+body_need.Goals as goal

pub stmt_need-returns-in-For : goal.stmt_need-returns-in-For
stmt_need-returns-in-For t c =
    let for = c.in-For in
    capped_max _ _ _ (body_need for.first) (max (optional_need for.test) (max (optional_need for.step) (stmt_need for.body)))
    c.max-in-For-2.ensures
    (c.body_need-in-For.ensures ∙ ap (λ ss. min (body_need ss) 65) c.as_slice-in-For.ensures)
    (capped_max _ _ _ (optional_need for.test) (max (optional_need for.step) (stmt_need for.body))
    c.max-of_parts.ensures c.optional_need-in-For.ensures
    (capped_max _ _ _ (optional_need for.step) (stmt_need for.body) c.max-in-For.ensures c.optional_need-in-For-2.ensures
    (c.stmt_need-in-For.ensures ∙ ap (λ s. min (stmt_need s) 65) c.get-in-For.ensures)))
    ∙ ap (λ n. min n 65) (sym (need_of_node c.args.stmt.now _ for.is))
