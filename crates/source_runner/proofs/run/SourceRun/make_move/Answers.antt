use Rattle.source_runner.proofs.Running.{cannot, done, made}
use Rattle.source_runner.proofs.run.SourceRun.make_move.Goals as goal

pub returns-else-branch-clause-stepped : goal.returns-else-branch-clause-stepped
returns-else-branch-clause-stepped c = λ texts limits moves h.
    cannot texts limits moves _ c.args.self.now (record c.args.self.now { machine = c.make.new.self }) _ c.if-branch.false
    c.in_ok-make.ensures.same h (c.in_ok-make.ensures.moves h.world h.stands).came

pub returns-then-branch-clause-stepped : goal.returns-then-branch-clause-stepped
returns-then-branch-clause-stepped c = λ texts limits moves h.
    let is = made c.make.new.self h.world c.args.slot _ c.if-branch.true (c.in_ok-make.ensures.moves h.world h.stands).came in
    done texts limits moves c.args.slot c.args.self.now (record c.args.self.now { machine = c.make.new.self }) h is c.in_ok-make.ensures.same
