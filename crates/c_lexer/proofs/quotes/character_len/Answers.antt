use Rattle.std.proofs.Common.{sym, refl, arith}
use Rattle.c_lexer.specs.Units.{closes_character}
use Rattle.c_lexer.proofs.LongestOfThree.{found_longest, found_none, character_short, no_single_character}
use Rattle.c_lexer.proofs.quotes.character_len.Goals as goal

pub returns-then-ends_character : goal.returns-then-ends_character
returns-then-ends_character c =
    found_longest closes_character character_short c.args.tail.now 3 (sym c.if-ends_character.ensures)
    (λ less. absurd (omega arith)) (λ less. absurd (omega arith)) (λ less. absurd (omega arith))

pub returns-then-ends_character-2 : goal.returns-then-ends_character-2
returns-then-ends_character-2 c =
    found_longest closes_character character_short c.args.tail.now 2 (sym c.if-ends_character-2.ensures)
    (λ less. absurd (omega arith)) (λ less. absurd (omega arith)) (λ _. sym c.if-ends_character.ensures)

pub returns-else-ends_character-2 : goal.returns-else-ends_character-2
returns-else-ends_character-2 c =
    found_none closes_character character_short refl c.args.tail.now (no_single_character c.args.tail.now) (sym c.if-ends_character-2.ensures) (sym c.if-ends_character.ensures)
