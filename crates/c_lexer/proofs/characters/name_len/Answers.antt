use Rattle.std.proofs.Common.{sym, subst}
use Rattle.c_lexer.specs.Bytes.{starts_word, continues_word}
use Rattle.c_lexer.specs.Units.{consists_of}
use Rattle.c_lexer.specs.Prefixes.{IsLongest}
use Rattle.c_lexer.proofs.Spelling.{name_is, no_name, size_within, first_char, other_char, no_char}
use Rattle.c_lexer.proofs.characters.name_len.Goals as goal

pub returns-in-None : goal.returns-in-None
returns-in-None c = no_name c.args.rest.now (no_char c.args.rest.now c.decode-first.result.0 starts_word c.decode-first.ensures.char c.in-None.is)

pub split_at-requires : goal.split_at-requires
split_at-requires c =
    let e = c.decode-first.ensures in
    size_within c.args.rest.now c.in-Some.character c.decode-first.result.1
    (first_char c.args.rest.now c.decode-first.result.0 c.decode-first.result.1 c.in-Some.character e.char e.size c.in-Some.is)

pub returns-then-starts_word : goal.returns-then-starts_word
returns-then-starts_word c =
    let e = c.decode-first.ensures in
    name_is c.args.rest.now c.in-Some.character c.decode-first.result.1 c.continue_len.result
    (first_char c.args.rest.now c.decode-first.result.0 c.decode-first.result.1 c.in-Some.character e.char e.size c.in-Some.is)
    (sym c.if-starts_word.ensures) (subst (λ l. IsLongest (consists_of continues_word) l c.continue_len.result) c.split_at.ensures.back c.continue_len.ensures)

pub returns-else-starts_word : goal.returns-else-starts_word
returns-else-starts_word c =
    no_name c.args.rest.now (other_char c.args.rest.now c.decode-first.result.0 starts_word c.in-Some.character c.decode-first.ensures.char c.in-Some.is (sym c.if-starts_word.ensures))
