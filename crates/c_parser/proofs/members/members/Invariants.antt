use Rattle.std.proofs.Common.{◌≡◌, ◌<◌, length, List}
use Rattle.c_tree.specs.declared.def.Binding.{Binding}
use Rattle.c_parser.specs.TextPlans.{TextPlan, text_parsed}
use Rattle.c_parser.specs.Parts.{members_then}
use Rattle.c_parser.proofs.ListLoops.{more_members}
use Rattle.c_parser.proofs.members.members.Given as goal

abbrev pub invariant-loop-alloc : goal.invariant-loop-alloc
invariant-loop-alloc l = record {
  reads : (k : List Binding → TextPlan) → text_parsed (members_then l.depth k) l.tokens ≡ text_parsed (more_members l.depth l.list.items k) l.rest;
  within : length l.rest < length l.tokens;
}

abbrev pub decreases-loop-alloc : goal.decreases-loop-alloc
decreases-loop-alloc l = length l.rest
