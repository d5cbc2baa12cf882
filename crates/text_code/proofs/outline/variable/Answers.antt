use Rattle.std.proofs.Common.{ap, ◌∙◌}
use Rattle.resolved_tree.specs.Nodes.{type_of}
use Rattle.c_tree.specs.BareDef.{BareBinding}
use Rattle.c_tree.specs.BareExpr.{Bytes, BareType}
use Rattle.name_resolution.proofs.Kept.{grows_trans}
use Rattle.text_code.proofs.outline.variable.Goals as goal

abbrev made : BareType → Bytes → BareBinding
made declared name = record { declared = declared; name = name }

pub returns-clause-variable : goal.returns-clause-variable
returns-clause-variable c = λ u g.
    let named = c.in_ok-name.ensures.word u (grows_trans _ _ u c.value_type.ensures.grows g) ∙ c.as_str.ensures in
    ap (made (type_of u c.in_ok-declared.declared)) named ∙ ap (λ d. made d c.args.declared.now.name.text) (c.in_ok-declared.ensures.declared u g)

pub returns-in_err-name-clause-grows : goal.returns-in_err-name-clause-grows
returns-in_err-name-clause-grows c = c.in_err-name.ensures.grows

pub returns-in_err-declared-clause-grows : goal.returns-in_err-declared-clause-grows
returns-in_err-declared-clause-grows c = grows_trans _ _ _ c.in_ok-name.ensures.grows c.in_err-declared.ensures.grows

pub returns-clause-grows : goal.returns-clause-grows
returns-clause-grows c = grows_trans _ _ _ c.in_ok-name.ensures.grows c.in_ok-declared.ensures.grows
