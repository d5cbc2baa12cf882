use Rattle.std.proofs.Common.{map, take}
use Rattle.std.specs.Prelude.{string_bytes}
use Rattle.c_tree.specs.Bare.{bare_def}
use Rattle.word_layouts.specs.TextLayouts.{IsLayoutOf}
use Rattle.image_load.specs.TextTables.{HaveRows}
use Rattle.image_load.proofs.text_tables.layouts_of.Given as goal

abbrev pub invariant-loop-tag : goal.invariant-loop-tag
invariant-loop-tag l = HaveRows (IsLayoutOf (map bare_def l.known)) (map string_bytes (take l.tag-index l.tags)) l.layouts.items
