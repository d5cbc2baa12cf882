use Rattle.std.proofs.Common.{drop, subst, arith, length-drop}
use Rattle.c_lexer.specs.Units.{closes_string}
use Rattle.c_lexer.specs.Prefixes.{IsOnly, NonePasses, Skips}
use Rattle.c_lexer.proofs.LongestPrefixes.{skips_more, only_past, none_past}
use Rattle.c_lexer.proofs.Strings.{quote_closes, string_ends}
use Rattle.c_lexer.proofs.quotes.closing_len.Goals as goal

pub returns-then-rest-eq34 : goal.returns-then-rest-eq34
returns-then-rest-eq34 c =
    let back = c.split_at.ensures.back in
    only_past closes_string c.args.tail.now c.loop-at.at 1 c.loop-at.invariant
    (subst (λ l. IsOnly closes_string l 1) back (quote_closes c.split_at.result.1.now (omega (arith, c.split_at.ensures.back_len)) c.if-rest-eq34.true))

pub returns-in-None : goal.returns-in-None
returns-in-None c =
    none_past closes_string c.args.tail.now c.loop-at.at c.loop-at.invariant (subst (λ l. NonePasses closes_string l) c.split_at.ensures.back c.in-None.ensures.item)

pub loop-at-preserved : goal.loop-at-preserved
loop-at-preserved c =
    skips_more closes_string c.args.tail.now c.loop-at.at c.in-Some.len c.loop-at.invariant (subst (λ l. Skips closes_string l c.in-Some.len) c.split_at.ensures.back c.in-Some.ensures.item)

pub returns : goal.returns
returns c =
    none_past closes_string c.args.tail.now c.loop-at.at c.loop-at.invariant (string_ends (drop c.loop-at.at c.args.tail.now) (omega (arith, length-drop c.loop-at.at c.args.tail.now)))
