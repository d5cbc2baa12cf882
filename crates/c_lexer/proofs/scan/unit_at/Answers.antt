use Rattle.std.proofs.Common.{subst}
use Rattle.c_lexer.specs.Bytes.{starts_line}
use Rattle.c_lexer.specs.Units.{reading}
use Rattle.c_lexer.specs.Cut.{IsUnit}
use Rattle.c_lexer.proofs.scan.unit_at.Goals as goal

pub returns-else-rest-eq35 : goal.returns-else-rest-eq35
returns-else-rest-eq35 c =
    let starts = starts_line c.args.text.now c.args.at in
    subst (λ l. IsUnit (reading starts) l c.plain_unit.result.len c.plain_unit.result.reading) c.split_at.ensures.back (c.plain_unit.ensures starts)
