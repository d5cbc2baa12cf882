use Rattle.std.proofs.Common.{◌≡◌, ◌≤◌, ◌++◌, length, List}
use Rattle.c_tree.specs.declared.def.DefKind.{DefKind}
use Rattle.c_expr_parser.specs.Definitions.{defs}
use Rattle.c_parser.specs.TextPlans.{text_parsed}
use Rattle.c_parser.specs.Parts.{globals_plan}
use Rattle.c_parser.proofs.ListLoops.{more_globals}
use Rattle.c_parser.proofs.global.globals.Given as goal

abbrev pub invariant-loop-behind : goal.invariant-loop-behind
invariant-loop-behind l = record {
  reads : (kinds : List DefKind) × (l.list.items ≡ l.fn.before.items ++ defs l.start kinds)
      × (text_parsed (globals_plan l.start l.declared l.fn.first) l.tokens ≡ text_parsed (more_globals l.start l.declared kinds) l.rest);
  within : length l.rest ≤ length l.tokens;
}

abbrev pub decreases-loop-behind : goal.decreases-loop-behind
decreases-loop-behind l = length l.rest
