use Rattle.std.proofs.Common.{◌≡◌, ◌<◌, length, List}
use Rattle.c_tree.specs.declared.expr.Expr.{Expr}
use Rattle.c_parser.specs.TextPlans.{TextPlan, text_parsed}
use Rattle.c_parser.specs.Parts.{values_then}
use Rattle.c_parser.proofs.ListLoops.{more_values}
use Rattle.c_parser.proofs.global.initialisers.Given as goal

abbrev pub invariant-loop-behind : goal.invariant-loop-behind
invariant-loop-behind l = record {
  reads : (k : List Expr → TextPlan) → text_parsed (values_then k) l.tokens ≡ text_parsed (more_values l.list.items k) l.rest;
  within : length l.rest < length l.tokens;
}

abbrev pub decreases-loop-behind : goal.decreases-loop-behind
decreases-loop-behind l = length l.rest
