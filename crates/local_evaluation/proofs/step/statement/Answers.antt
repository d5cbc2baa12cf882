use Rattle.std.proofs.Common.{ap, sym, ◌∙◌, refl, arith}
use Rattle.c_semantics.specs.Resolved as tree
use Rattle.c_semantics.specs.Evaluation.{local}
use Rattle.local_evaluation.specs.declared.work.Jump.TheVariants.{Break, Continue}
use Rattle.local_evaluation.specs.declared.work.Work.{Work}
use Rattle.resolved_tree.specs.Nodes.{statement_of}
use Rattle.local_evaluation.specs.Pieces.{pending}
use Rattle.local_evaluation.specs.Steps.{statement_scopes}
use Rattle.resolved_tree.specs.Trees.{table}
use Rattle.local_evaluation.specs.Work.{newest, scopes_of}
use Rattle.local_evaluation.proofs.Following.{from_leave}
use Rattle.local_evaluation.proofs.Leaving.{no_jump}
use Rattle.local_evaluation.proofs.StepLaws.{statement_law, statement_falls}
use Rattle.local_evaluation.proofs.step.statement.Goals as goal

pub returns-in-Break : goal.returns-in-Break
returns-in-Break c = λ q.
    let old = c.args.work.now in
    let new : Work = record { pieces = c.leave.new.pieces; values = old.values; scopes = c.leave.new.scopes } in
    rw c.in-Break.is
    (from_leave (table c.args.trees.now) q tree.Break c.args.n Break old new c.leave.result refl (omega arith)
    c.leave.ensures.meaning c.leave.ensures.falls refl)

pub returns-in-Continue : goal.returns-in-Continue
returns-in-Continue c = λ q.
    let old = c.args.work.now in
    let new : Work = record { pieces = c.leave-in-Continue.new.pieces; values = old.values; scopes = c.leave-in-Continue.new.scopes } in
    rw c.in-Continue.is
    (from_leave (table c.args.trees.now) q tree.Continue c.args.n Continue old new c.leave-in-Continue.result refl (omega arith)
    c.leave-in-Continue.ensures.meaning c.leave-in-Continue.ensures.falls refl)

pub returns-in_ok-statement-in_default : goal.returns-in_ok-statement-in_default
returns-in_ok-statement-in_default c = λ q.
    let t = table c.args.trees.now in
    let s = statement_of t c.args.node in
    let rest = pending t c.args.work.now.pieces.items in
    let values = newest c.args.work.now.values.items in
    let scopes = scopes_of t c.args.work.now.scopes.items in
    record {
      meaning = statement_law s c.args.n rest values scopes (no_jump t c.args.node c.in_default.not-Break c.in_default.not-Continue)
          ∙ ap (λ ps. local ps values (statement_scopes s scopes)) (sym c.in_ok-statement-in_default.ensures)
          ∙ ap (local (pending t c.statement.new.pieces.items) values) (sym (c.in_ok-enter-in_default.ensures t));
      falls = λ _. rw c.in_ok-statement-in_default.ensures (statement_falls s c.args.n rest);
    }
