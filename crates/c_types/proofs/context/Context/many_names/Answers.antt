use Rattle.std.proofs.Common.{◌∙◌, ap, leb}
use Rattle.name_sets.specs.Limit.{most_names}
use Rattle.c_expr_types.specs.declared.fault.TypeKind.TheVariants.{OverLimit}
use Rattle.c_expr_types.specs.Faults.{first, unless}
use Rattle.c_types.specs.Definitions.{names_of}
use Rattle.c_types.proofs.Counts.{taken_more}
use Rattle.c_types.proofs.context.Context.many_names.Goals as goal

pub returns : goal.returns
returns c =
    let at = c.args.self.now in
    c.over_limit.ensures
    ∙ ap (λ n. first (unless (leb n most_names) OverLimit at.definition.now.place))
    (at.names_counted ∙ ap names_of (taken_more at.known.now at.index at.definition.now at.at_index))
