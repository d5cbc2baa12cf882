use Rattle.std.proofs.Common.{ap, inl, inr, refl}
use Rattle.c_semantics.specs.Evaluation.{declared}
use Rattle.local_evaluation.specs.declared.work.Local.TheVariants.{Block, Variable}
use Rattle.resolved_tree.specs.Nodes.{word}
use Rattle.local_evaluation.specs.Work.{scopes_of}
use Rattle.local_evaluation.proofs.Variables.{scopes_push}
use Rattle.local_evaluation.proofs.scopes.enter.Goals as goal

pub returns-in_ok-push-in-Block : goal.returns-in_ok-push-in-Block
returns-in_ok-push-in-Block c = λ t.
    rw (c.in_ok-push-in-Block.ensures.items, scopes_push t c.args.scopes.now.items Block)
    (elim c.in-Block.is [ inl h ↦ rw h.1 refl | inr h ↦ rw h.4 refl ])

pub returns-in_ok-push-in-Declare : goal.returns-in_ok-push-in-Declare
returns-in_ok-push-in-Declare c = λ t.
    rw (c.in-Declare.is, c.in_ok-push-in-Declare.ensures.items, scopes_push t c.args.scopes.now.items (Variable c.in-Declare.name c.zero_of.result))
    (ap (λ v. declared (word t c.in-Declare.name) v (scopes_of t c.args.scopes.now.items)) (c.zero_of.ensures t))
