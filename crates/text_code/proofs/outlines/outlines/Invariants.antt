use Rattle.std.proofs.Common.{◌≡◌, map, take}
use Rattle.c_tree.specs.Bare.{bare_def}
use Rattle.name_resolution.specs.Found.{Grows}
use Rattle.name_resolution.specs.Known.{known_of}
use Rattle.resolved_tree.specs.Nodes.{Table}
use Rattle.resolved_tree.specs.Trees.{table}
use Rattle.text_code.specs.Bodies.{outlined, outlines_of}
use Rattle.text_code.proofs.outlines.outlines.Given as goal

abbrev pub invariant-loop-definition : goal.invariant-loop-definition
invariant-loop-definition l = record {
  grows : Grows (table l.fn.trees) (table l.trees);
  made : (u : Table) → Grows (table l.trees) u
      → map (outlined u) l.outlines.items ≡ outlines_of (known_of l.known) (map bare_def (take l.definition-index l.text));
}
