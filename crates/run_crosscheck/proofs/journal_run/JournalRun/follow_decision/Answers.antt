use Rattle.std.proofs.Common.{◌∙◌}
use Rattle.run_crosscheck.proofs.Follow.{answered_so, passed_over}
use Rattle.run_crosscheck.proofs.journal_run.JournalRun.follow_decision.Goals as goal

pub returns-then-was_installed : goal.returns-then-was_installed
returns-then-was_installed c = λ setup g names es rest same h.
    c.install.ensures setup g.answers es rest
    (answered_so setup g names c.args.given.now c.args.k h.patches.0 same h.patches.1 c.was_installed.result c.was_installed.ensures
    ∙ c.if-was_installed.true)
    h

pub returns-else-was_installed : goal.returns-else-was_installed
returns-else-was_installed c = λ setup g names es rest same h.
    passed_over setup g.answers es rest c.args.k c.args.self.now h
    (answered_so setup g names c.args.given.now c.args.k h.patches.0 same h.patches.1 c.was_installed.result c.was_installed.ensures
    ∙ c.if-was_installed.false)
