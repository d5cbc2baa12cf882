use Rattle.std.proofs.Common.{arith, reverse}
use Rattle.c_scope.specs.declared.step.Step.TheVariants.{Enter}
use Rattle.c_scope.specs.Names.{texts_of}
use Rattle.c_scope.proofs.HistoryLemmas.{reverse-push, some_table}
use Rattle.c_scope.proofs.scopes.Scopes.enter.Goals as goal

pub returns-clause-nested : goal.returns-clause-nested
returns-clause-nested g c =
    let old = c.self.inside.steps.items in
    rw (c.in_ok-push.ensures.items, reverse-push old (Enter c.self.inside.start))
    (omega (arith, some_table (texts_of c.self.inside.names.entries) (reverse old)))
