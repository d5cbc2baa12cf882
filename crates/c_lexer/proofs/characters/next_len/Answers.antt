use Rattle.std.proofs.Common.{sym}
use Rattle.c_lexer.specs.Bytes.{continues_word}
use Rattle.c_lexer.proofs.Spelling.{next_passes, next_stops, next_some, first_char, other_char, no_char}
use Rattle.c_lexer.proofs.characters.next_len.Goals as goal

pub returns-then-continues_word-clause-next : goal.returns-then-continues_word-clause-next
returns-then-continues_word-clause-next c =
    let e = c.decode-first.ensures in
    next_passes continues_word c.args.rest.now c.in-Some.character c.decode-first.result.1
    (first_char c.args.rest.now c.decode-first.result.0 c.decode-first.result.1 c.in-Some.character e.char e.size c.in-Some.is) (sym c.if-continues_word.ensures)

pub returns-then-continues_word-clause-some : goal.returns-then-continues_word-clause-some
returns-then-continues_word-clause-some c =
    let e = c.decode-first.ensures in
    next_some c.args.rest.now c.in-Some.character c.decode-first.result.1
    (first_char c.args.rest.now c.decode-first.result.0 c.decode-first.result.1 c.in-Some.character e.char e.size c.in-Some.is)

pub returns-else-continues_word-clause-next : goal.returns-else-continues_word-clause-next
returns-else-continues_word-clause-next c =
    next_stops continues_word c.args.rest.now
    (other_char c.args.rest.now c.decode-first.result.0 continues_word c.in-Some.character c.decode-first.ensures.char c.in-Some.is (sym c.if-continues_word.ensures))

pub returns-in-None-clause-next : goal.returns-in-None-clause-next
returns-in-None-clause-next c =
    next_stops continues_word c.args.rest.now (no_char c.args.rest.now c.decode-first.result.0 continues_word c.decode-first.ensures.char c.in-None.is)
