use Rattle.std.proofs.Common.{map, ◌∙◌}
use Rattle.c_tree.specs.Bare.{bare_binding}
use Rattle.resolved_tree.specs.Trees.{table}
use Rattle.name_resolution.proofs.Kept.{grows_refl, grows_trans}
use Rattle.source_programs.proofs.Defining.{struct_ok}
use Rattle.source_programs.proofs.resolved.struct_of.Goals as goal

pub returns-clause-made : goal.returns-clause-made
returns-clause-made c =
    let made = c.without_body.ensures in
    struct_ok (table c.without_body.new.trees) c.without_body.result c.in_ok-name-2.name c.args.tag.now c.in_ok-members.members.items (map bare_binding c.args.members.now)
    made.name made.parameters made.body made.result made.members
    (λ u g. c.in_ok-members.ensures.bindings u (grows_trans _ _ u made.grows g))
    (λ u g. c.in_ok-name-2.ensures.word u (grows_trans _ _ u c.bindings.ensures.grows (grows_trans _ _ u made.grows g)) ∙ c.as_str.ensures.value ∙ c.in_ok-name.ensures)

pub returns-in_err-name-clause-grows : goal.returns-in_err-name-clause-grows
returns-in_err-name-clause-grows c = grows_refl _

pub returns-in_err-name-2-clause-grows : goal.returns-in_err-name-2-clause-grows
returns-in_err-name-2-clause-grows c = c.in_err-name-2.ensures.grows

pub returns-in_err-members-clause-grows : goal.returns-in_err-members-clause-grows
returns-in_err-members-clause-grows c = grows_trans _ _ _ c.in_ok-name-2.ensures.grows c.in_err-members.ensures.grows

pub returns-clause-grows : goal.returns-clause-grows
returns-clause-grows c = grows_trans _ _ _ c.in_ok-name-2.ensures.grows (grows_trans _ _ _ c.in_ok-members.ensures.grows c.without_body.ensures.grows)
