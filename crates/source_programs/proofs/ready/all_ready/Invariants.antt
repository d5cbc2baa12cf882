use Rattle.std.proofs.Common.{◌≡◌, ◌++◌, length, map}
use Rattle.std.specs.Prelude.{All}
use Rattle.std.specs.Vec.Iter.{into_iter_items, into_iter_len}
use Rattle.name_resolution.specs.Found.{Grows}
use Rattle.resolved_tree.specs.Nodes.{Table}
use Rattle.resolved_tree.specs.Trees.{table}
use Rattle.source_programs.specs.Programs.{IsReady}
use Rattle.source_programs.proofs.ready.all_ready.Given as goal

abbrev pub invariant-loop-text : goal.invariant-loop-text
invariant-loop-text l = record {
  rest : l.fn.texts.items ≡ l.yielded ++ into_iter_items l.text-iterator;
  left : into_iter_len l.text-iterator ≡ length (into_iter_items l.text-iterator);
  grows : Grows (table l.fn.trees) (table l.trees);
  ready : (u : Table) → Grows (table l.trees) u → All (IsReady u) l.all.items;
  texts : map (λ r. r.text) l.all.items ≡ l.yielded;
}
