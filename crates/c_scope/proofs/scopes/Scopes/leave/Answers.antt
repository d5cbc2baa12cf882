use Rattle.std.proofs.Common.{◌≤◌, arith, reverse, ap, drop, length}
use Rattle.c_scope.specs.Names.{texts_of}
use Rattle.c_scope.specs.History.{start_of}
use Rattle.c_scope.proofs.HistoryLemmas.{nested}
use Rattle.c_scope.proofs.KeptLemmas.{no_declaration}
use Rattle.c_scope.proofs.scopes.Scopes.leave.Goals as goal

pub loop-self-init : goal.loop-self-init
loop-self-init g c = record {
  kept = c.self.invariant.0;
  start = c.self.invariant.1;
  outer = ap (drop 1) c.self.view_is;
  nested = rw c.self.invariant.1 ((nested (texts_of c.self.inside.names.entries) (reverse c.self.inside.steps.items)).1 (rw c.self.view_is c.requires));
}

pub invariant_of-self-in-Some-Declare : goal.invariant_of-self-in-Some-Declare
invariant_of-self-in-Some-Declare g c =
    let steps = c.loop-self.self-inside.steps in
    let all : length steps.items ≤ start_of (reverse steps.items) = omega (arith, steps.ok.0, c.len.ensures, c.loop-self-test.false, c.loop-self.invariant.start) in
    absurd (no_declaration steps.items c.pop.new.self.items c.in-Some-Declare.field-0 c.in-Some-Declare.field-0-0 c.in-Some-Declare.ensures.items c.in-Some-Declare.field-0-is all)

pub returns-in-Some-Declare : goal.returns-in-Some-Declare
returns-in-Some-Declare g c =
    let steps = c.loop-self.self-inside.steps in
    let all : length steps.items ≤ start_of (reverse steps.items) = omega (arith, steps.ok.0, c.len.ensures, c.loop-self-test.false, c.loop-self.invariant.start) in
    absurd (no_declaration steps.items c.pop.new.self.items c.in-Some-Declare.field-0 c.in-Some-Declare.field-0-0 c.in-Some-Declare.ensures.items c.in-Some-Declare.field-0-is all)
