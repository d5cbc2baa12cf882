use Rattle.std.proofs.Common.{subst}
use Rattle.c_lexer.specs.Units.{read_comment}
use Rattle.c_lexer.specs.Cut.{IsUnit}
use Rattle.c_lexer.proofs.UnitsByFirstBytes.{comment_is}
use Rattle.c_lexer.proofs.scan.block_comment_unit.Goals as goal

pub returns : goal.returns
returns c = λ starts.
    let comment = c.comment_unit-comment.result in
    comment_is starts c.args.rest.now comment.len comment.reading c.requires.some c.requires.slash c.requires.second
    (subst (λ l. IsUnit read_comment l comment.len comment.reading) c.split_at.ensures.back c.comment_unit-comment.ensures)
