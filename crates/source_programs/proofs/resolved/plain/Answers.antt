use Rattle.resolved_tree.specs.Trees.{table}
use Rattle.name_resolution.proofs.Kept.{grows_trans}
use Rattle.source_programs.proofs.Defining.{plain_ok}
use Rattle.source_programs.proofs.resolved.plain.Goals as goal

pub returns-clause-made : goal.returns-clause-made
returns-clause-made c =
    let made = c.without_body.ensures in
    plain_ok (table c.without_body.new.trees) c.without_body.result c.in_ok-name.name c.args.name.now c.new.result.items
    made.name made.parameters made.body made.result made.members c.new.ensures.items
    (λ u g. c.in_ok-name.ensures.word u (grows_trans _ _ u made.grows g))

pub returns-in_err-name-clause-grows : goal.returns-in_err-name-clause-grows
returns-in_err-name-clause-grows c = c.in_err-name.ensures.grows

pub returns-clause-grows : goal.returns-clause-grows
returns-clause-grows c = grows_trans _ _ _ c.in_ok-name.ensures.grows c.without_body.ensures.grows
