use Rattle.std.proofs.Common.{◌≡◌, false}
use Rattle.std.specs.Vec.{vec_len}
use Rattle.resolved_tree.specs.Nodes.{Table}
use Rattle.local_evaluation.specs.Work.{scopes_of}
use Rattle.local_evaluation.proofs.Variables.{behind, is_open}
use Rattle.local_evaluation.proofs.scopes.close.Given as goal

abbrev pub invariant-loop-local : goal.invariant-loop-local
invariant-loop-local l = record {
  rest : (t : Table) → behind (scopes_of t l.scopes.items) ≡ behind (scopes_of t l.initial.scopes.items);
  some : (t : Table) → is_open l.variables (scopes_of t l.scopes.items) ≡ is_open false (scopes_of t l.initial.scopes.items);
}

abbrev pub decreases-loop-local : goal.decreases-loop-local
decreases-loop-local l = vec_len l.scopes
