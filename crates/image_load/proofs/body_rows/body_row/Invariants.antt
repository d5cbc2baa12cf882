use Rattle.std.proofs.Common.{◌≤◌, length}
use Rattle.image_load.specs.MadeTexts.{HasBodies}
use Rattle.image_load.proofs.body_rows.body_row.Given as goal

abbrev pub invariant-loop-place : goal.invariant-loop-place
invariant-loop-place l = record {
  from : l.first ≤ l.place;
  to : l.place ≤ length l.functions;
  has : HasBodies l.run l.functions l.first l.place l.row.items;
}
