use Rattle.std.proofs.Common.{◌≡◌, ◌<◌, ◌++◌, length, List}
use Rattle.c_tree.specs.declared.stmt.Stmt.{Stmt}
use Rattle.c_expr_parser.specs.Statements.{declares}
use Rattle.c_parser.specs.TextPlans.{TextPlan, declaration_behind, text_parsed}
use Rattle.c_parser.proofs.ListLoops.{more_variables}
use Rattle.c_parser.proofs.declaration.declaration.Given as goal

abbrev pub invariant-loop-behind : goal.invariant-loop-behind
invariant-loop-behind l = record {
  reads : (k : List Stmt → TextPlan)
      → text_parsed (declaration_behind l.depth l.declared (λ ds. k (l.fn.before.items ++ declares l.start ds))) l.tokens
      ≡ text_parsed (more_variables l.depth l.declared l.start l.list.items k) l.rest;
  within : length l.rest < length l.tokens;
}

abbrev pub decreases-loop-behind : goal.decreases-loop-behind
decreases-loop-behind l = length l.rest
