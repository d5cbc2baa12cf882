use Rattle.std.proofs.Common.{subst}
use Rattle.std.specs.List.{list_all}
use Rattle.c_lexer.specs.Bytes.{stays_in_line}
use Rattle.c_lexer.specs.Prefixes.{IsLongest}
use Rattle.c_lexer.proofs.UnitsByFirstBytes.{line_comment_is}
use Rattle.c_lexer.proofs.scan.line_comment_unit.Goals as goal

pub returns : goal.returns
returns c = λ starts.
    line_comment_is starts c.args.rest.now c.line_len.result c.requires.some c.requires.slash c.requires.second
    (subst (λ l. IsLongest (list_all stays_in_line) l c.line_len.result) c.split_at.ensures.back c.line_len.ensures)
