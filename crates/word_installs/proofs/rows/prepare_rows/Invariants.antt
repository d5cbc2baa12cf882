use Rattle.std.proofs.Common.{◌≡◌, List, map, All}
use Rattle.c_tree.specs.BareExpr.{Bytes}
use Rattle.c_tree.specs.BareDef.{BareDef}
use Rattle.type_transformers.specs.Changes.{IsChange, changing, name_of}
use Rattle.word_installs.specs.TextRows.{AreRowsOf}
use Rattle.word_installs.proofs.RowSteps.{Made}
use Rattle.word_installs.proofs.rows.prepare_rows.Given as goal

abbrev pub invariant-loop-n : goal.invariant-loop-n
invariant-loop-n l =
    (names : List Bytes) (p q : List BareDef) → AreRowsOf names p l.old → AreRowsOf names q l.new → map name_of l.changes ≡ changing p q
    → All (IsChange p q) l.changes → Made names p q l.shared l.rows.items l.n
