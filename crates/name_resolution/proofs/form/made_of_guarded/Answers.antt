use Rattle.resolved_tree.specs.Parts.{a_node}
use Rattle.name_resolution.proofs.Kept.{both_in, left_in, right_in}
use Rattle.name_resolution.proofs.form.made_of_guarded.Goals as goal

pub statement-requires-in-DoWhile : goal.statement-requires-in-DoWhile
statement-requires-in-DoWhile c =
    both_in _ (a_node c.args.body) (a_node c.args.test) (right_in _ (a_node c.args.test) (a_node c.args.body) c.requires)
    (left_in _ (a_node c.args.test) (a_node c.args.body) c.requires)
