use Rattle.std.proofs.Common.{◌≡◌, ◌<◌, length}
use Rattle.c_parser.specs.TextPlans.{text_parsed}
use Rattle.c_parser.specs.Parts.{named_plan}
use Rattle.c_parser.proofs.ListLoops.{more_parameters}
use Rattle.c_parser.proofs.parameters.named.Given as goal

abbrev pub invariant-loop-behind : goal.invariant-loop-behind
invariant-loop-behind l = record {
  reads : text_parsed (named_plan l.depth l.fn.declared) l.tokens ≡ text_parsed (more_parameters l.depth l.list.items) l.rest;
  within : length l.rest < length l.tokens;
}

abbrev pub decreases-loop-behind : goal.decreases-loop-behind
decreases-loop-behind l = length l.rest
