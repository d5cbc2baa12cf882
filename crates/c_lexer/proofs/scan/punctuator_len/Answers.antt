use Rattle.std.proofs.Common.{sym, arith}
use Rattle.c_lexer.specs.Units.{punctuators}
use Rattle.c_lexer.specs.Words.{is_one_of}
use Rattle.c_lexer.proofs.LongestOfThree.{found_longest, found_none, punctuators_short, no_empty_punctuator}
use Rattle.c_lexer.proofs.scan.punctuator_len.Goals as goal

pub returns-then-begins_punctuator : goal.returns-then-begins_punctuator
returns-then-begins_punctuator c =
    found_longest (is_one_of punctuators) punctuators_short c.args.rest.now 3 (sym c.if-begins_punctuator.ensures)
    (λ less. absurd (omega arith)) (λ less. absurd (omega arith)) (λ less. absurd (omega arith))

pub returns-then-begins_punctuator-2 : goal.returns-then-begins_punctuator-2
returns-then-begins_punctuator-2 c =
    found_longest (is_one_of punctuators) punctuators_short c.args.rest.now 2 (sym c.if-begins_punctuator-2.ensures)
    (λ less. absurd (omega arith)) (λ less. absurd (omega arith)) (λ _. sym c.if-begins_punctuator.ensures)

pub returns-then-begins_punctuator-3 : goal.returns-then-begins_punctuator-3
returns-then-begins_punctuator-3 c =
    found_longest (is_one_of punctuators) punctuators_short c.args.rest.now 1 (sym c.if-begins_punctuator-3.ensures)
    (λ less. absurd (omega arith)) (λ _. sym c.if-begins_punctuator-2.ensures) (λ _. sym c.if-begins_punctuator.ensures)

pub returns-else-begins_punctuator-3 : goal.returns-else-begins_punctuator-3
returns-else-begins_punctuator-3 c =
    found_none (is_one_of punctuators) punctuators_short no_empty_punctuator c.args.rest.now (sym c.if-begins_punctuator-3.ensures) (sym c.if-begins_punctuator-2.ensures) (sym c.if-begins_punctuator.ensures)
