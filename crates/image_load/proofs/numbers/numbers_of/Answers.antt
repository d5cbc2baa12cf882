use Rattle.std.proofs.Common.{List, map, subst}
use Rattle.c_tree.specs.BareExpr.{Bytes}
use Rattle.source_programs.specs.Programs.{text_in}
use Rattle.image_load.specs.Numbering.{IsTable}
use Rattle.image_load.proofs.NamesOfTexts.{cells_named}
use Rattle.image_load.proofs.numbers.numbers_of.Goals as goal

pub returns : goal.returns
returns c = record {
  cells = subst (λ (ns : List Bytes). IsTable ns c.in_ok-cells.cells) (cells_named (map text_in c.args.texts.now)) c.in_ok-cells.ensures;
  mutexes = c.in_ok-mutexes.ensures;
  tags = c.in_ok-tags.ensures;
}
