use Rattle.std.proofs.Common.{◌∙◌, ap, min, ltb, ◌++◌, ◌∷◌, [], take}
use Rattle.c_expr_types.specs.declared.fault.TypeKind.TheVariants.{OverLimit}
use Rattle.c_expr_types.specs.Faults.{first, unless}
use Rattle.c_types.specs.Definitions.{cells_of}
use Rattle.c_types.proofs.Counts.{taken_more, few}
use Rattle.c_types.proofs.context.Context.many_cells.Goals as goal

pub returns : goal.returns
returns c =
    let at = c.args.self.now in
    let cells = cells_of (take at.index at.known.now ++ at.definition.now ∷ []) in
    c.over_limit.ensures
    ∙ ap (λ n. first (unless (ltb n 65537) OverLimit at.definition.now.place))
    (at.cells_counted ∙ ap (λ ds. min (cells_of ds) 65537) (taken_more at.known.now at.index at.definition.now at.at_index))
    ∙ ap (λ b. first (unless b OverLimit at.definition.now.place)) (few cells)
