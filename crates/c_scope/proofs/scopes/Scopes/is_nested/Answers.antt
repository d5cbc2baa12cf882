use Rattle.std.proofs.Common.{reverse}
use Rattle.std.proofs.lemmas.Bool.{ltb-true, lt-ltb}
use Rattle.c_scope.specs.Names.{texts_of}
use Rattle.c_scope.proofs.HistoryLemmas.{nested}
use Rattle.c_scope.proofs.scopes.Scopes.is_nested.Goals as goal

pub returns : goal.returns
returns g c =
    let n = nested (texts_of c.self.inside.names.entries) (reverse c.self.inside.steps.items) in
    rw (← c.self.view_is, c.self.invariant.1) (λ h. n.0 (ltb-true _ _ h), λ h. lt-ltb _ _ (n.1 h))
