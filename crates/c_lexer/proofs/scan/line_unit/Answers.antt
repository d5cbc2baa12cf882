use Rattle.std.proofs.Common.{subst}
use Rattle.std.specs.List.{list_all}
use Rattle.c_lexer.specs.Bytes.{stays_in_line}
use Rattle.c_lexer.specs.Prefixes.{IsLongest}
use Rattle.c_lexer.proofs.UnitsByFirstBytes.{line_is}
use Rattle.c_lexer.proofs.scan.line_unit.Goals as goal

pub returns : goal.returns
returns c =
    rw c.line_reading-reading.ensures
    (line_is c.args.starts c.args.rest.now c.line_len-len.result c.requires.some c.requires.hash
    (subst (λ l. IsLongest (list_all stays_in_line) l c.line_len-len.result) c.split_at.ensures.back c.line_len-len.ensures))
