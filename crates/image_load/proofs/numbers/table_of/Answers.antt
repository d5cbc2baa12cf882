use Rattle.std.proofs.Common.{[]}
use Rattle.image_load.proofs.numbers.table_of.Goals as goal

pub returns : goal.returns
returns c = c.in_ok-add_texts.ensures [] c.new-table.ensures
