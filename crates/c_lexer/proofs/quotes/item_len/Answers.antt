use Rattle.std.proofs.Common.{sym, arith}
use Rattle.c_lexer.proofs.Strings.{plain_skips, strange_stops, escape_skips, strange_escape_stops}
use Rattle.c_lexer.proofs.quotes.item_len.Goals as goal
use Rattle.c_lexer.proofs.quotes.item_len.Goals.{else-rest-gt1-via-then-rest-gt1+else-is_escape, else-rest-gt1-via-else-rest-gt1}

pub returns-then-stands_in_string-clause-item : goal.returns-then-stands_in_string-clause-item
returns-then-stands_in_string-clause-item c = plain_skips c.args.rest.now c.requires.some c.requires.inside c.if-rest-ne92.true (sym c.if-stands_in_string.ensures)

pub returns-else-stands_in_string-clause-item : goal.returns-else-stands_in_string-clause-item
returns-else-stands_in_string-clause-item c = strange_stops c.args.rest.now c.requires.some c.requires.inside c.if-rest-ne92.true (sym c.if-stands_in_string.ensures)

pub returns-then-is_escape-clause-item : goal.returns-then-is_escape-clause-item
returns-then-is_escape-clause-item c = escape_skips c.args.rest.now (omega arith) c.if-rest-ne92.false (sym c.if-is_escape.ensures)

pub returns-else-rest-gt1-clause-item : goal.returns-else-rest-gt1-clause-item
returns-else-rest-gt1-clause-item c =
    strange_escape_stops c.args.rest.now c.requires.some c.if-rest-ne92.false
    (λ more. elim c.else-rest-gt1.branch [
      | else-rest-gt1-via-then-rest-gt1+else-is_escape w ↦ sym w.if-is_escape.ensures
      | else-rest-gt1-via-else-rest-gt1 w ↦ absurd (omega arith)
    ])
