use Rattle.std.proofs.Common.{◌≡◌, ◌<◌, drop, length, reverse}
use Rattle.c_scope.specs.Names.{texts_of, places_of}
use Rattle.c_scope.specs.History.{start_of, tables_of, AreKept}
use Rattle.c_scope.proofs.scopes.Scopes.leave.Given as goal

-- the tables around the innermost one stay
abbrev pub invariant-loop-self : goal.invariant-loop-self
invariant-loop-self g l = record {
  kept : AreKept (texts_of l.self-inside.names.entries) (places_of l.self-inside.names.entries) (reverse l.self-inside.steps.items);
  start : l.self-inside.start ≡ start_of (reverse l.self-inside.steps.items);
  outer : drop 1 (tables_of (texts_of l.self-inside.names.entries) (reverse l.self-inside.steps.items)) ≡ drop 1 l.fn.self;
  nested : 0 < l.self-inside.start;
}

abbrev pub decreases-loop-self : goal.decreases-loop-self
decreases-loop-self g l = length l.self-inside.steps.items
