use Rattle.std.proofs.Common.{◌≡◌, ◌+◌, true, false, take, sym, subst, refl}
use Rattle.c_lexer.specs.declared.token.TokenKind.TheVariants.{Number}
use Rattle.c_lexer.specs.declared.unit.Reading.TheVariants.{Lexeme, Bad}
use Rattle.c_lexer.specs.declared.unit.Fault.TheVariants.{Literal}
use Rattle.c_lexer.specs.Bytes.{continues_word}
use Rattle.c_lexer.specs.Numbers.{is_number}
use Rattle.c_lexer.specs.Units.{reading, consists_of}
use Rattle.c_lexer.specs.Prefixes.{IsLongest}
use Rattle.c_lexer.specs.Cut.{IsUnit}
use Rattle.c_lexer.proofs.Utf8.{digits_utf8}
use Rattle.c_lexer.proofs.UnitsByFirstBytes.{digits_are, read_digits}
use Rattle.c_lexer.proofs.scan.digits_unit.Goals as goal

pub returns-then-is_number : goal.returns-then-is_number
returns-then-is_number c = λ starts.
    let n = c.continue_len-len.result in
    let word = take (n + 1) c.args.rest.now in
    let number : is_number word ≡ true = sym c.if-is_number.ensures in
    let is : read_digits word ≡ Lexeme Number = rw number refl in
    subst (λ r. IsUnit (reading starts) c.args.rest.now (n + 1) r) is
    (digits_are starts c.args.rest.now n c.requires.some c.requires.digit
    (subst (λ l. IsLongest (consists_of continues_word) l n) c.split_at.ensures.back c.continue_len-len.ensures))

pub returns-else-is_number : goal.returns-else-is_number
returns-else-is_number c = λ starts.
    let n = c.continue_len-len.result in
    let word = take (n + 1) c.args.rest.now in
    let number : is_number word ≡ false = sym c.if-is_number.ensures in
    let is : read_digits word ≡ Bad Literal = rw number refl in
    subst (λ r. IsUnit (reading starts) c.args.rest.now (n + 1) r) is
    (digits_are starts c.args.rest.now n c.requires.some c.requires.digit
    (subst (λ l. IsLongest (consists_of continues_word) l n) c.split_at.ensures.back c.continue_len-len.ensures))

pub is_number-requires : goal.is_number-requires
is_number-requires c =
    let n = c.continue_len-len.result in
    digits_utf8 c.args.rest.now n c.requires.some c.requires.digit
    (subst (λ l. consists_of continues_word (take n l) ≡ true) c.split_at.ensures.back c.continue_len-len.ensures.passes)
