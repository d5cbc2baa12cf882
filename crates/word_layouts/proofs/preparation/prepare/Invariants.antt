use Rattle.std.proofs.Common.{◌≡◌, List, map, All}
use Rattle.c_tree.specs.BareExpr.{Bytes}
use Rattle.c_tree.specs.BareDef.{BareDef}
use Rattle.type_transformers.specs.Changes.{IsChange, changing, name_of}
use Rattle.word_layouts.specs.TextLayouts.{AreLayoutsOf}
use Rattle.word_layouts.proofs.Versions.{ArePrepared}
use Rattle.word_layouts.proofs.preparation.prepare.Given as goal

abbrev pub invariant-loop-place : goal.invariant-loop-place
invariant-loop-place l =
    (p q : List BareDef) (tags : List Bytes) → AreLayoutsOf tags p l.old → AreLayoutsOf tags q l.new → map name_of l.changes ≡ changing p q
    → All (IsChange p q) l.changes → ArePrepared p q tags l.place l.structs.items
