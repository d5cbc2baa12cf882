use Rattle.std.proofs.Common.{◌≡◌, ◌<◌, ◌++◌, length, List}
use Rattle.c_tree.specs.declared.def.Binding.{Binding}
use Rattle.c_parser.specs.TextPlans.{TextPlan, text_parsed}
use Rattle.c_parser.specs.Parts.{names_then}
use Rattle.c_parser.proofs.ListLoops.{more_names}
use Rattle.c_parser.proofs.members.member_names.Given as goal

abbrev pub invariant-loop-after_comma : goal.invariant-loop-after_comma
invariant-loop-after_comma l = record {
  reads : (k : List Binding → TextPlan) → text_parsed (names_then l.depth l.declared (λ bs. k (l.fn.before.items ++ bs))) l.tokens
      ≡ text_parsed (more_names l.depth l.declared l.list.items k) l.rest;
  within : length l.rest < length l.tokens;
}

abbrev pub decreases-loop-after_comma : goal.decreases-loop-after_comma
decreases-loop-after_comma l = length l.rest
