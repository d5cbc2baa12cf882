use Rattle.std.proofs.Common.{ℕ, drop, List, subst, arith, length-drop, add-zero}
use Rattle.c_lexer.specs.Bytes.{continues_word}
use Rattle.c_lexer.specs.Units.{consists_of}
use Rattle.c_lexer.specs.Prefixes.{IsLongest, NoMorePasses, Passes}
use Rattle.c_lexer.proofs.LongestPrefixes.{passes_none, passes_more, longest_past, stops_here, none_at_end}
use Rattle.c_lexer.proofs.Spelling.{nothing_consists}
use Rattle.c_lexer.proofs.characters.continue_len.Goals as goal

-- what was passed is the longest, where nothing more passes
all_of_it : (bytes : List ℕ) (at : ℕ) → Passes (consists_of continues_word) bytes at → NoMorePasses (consists_of continues_word) (drop at bytes)
    → IsLongest (consists_of continues_word) bytes at
all_of_it bytes at passed none =
    subst (λ k. IsLongest (consists_of continues_word) bytes k) (add-zero at)
    (longest_past (consists_of continues_word) bytes at 0 passed (stops_here (consists_of continues_word) (drop at bytes) (nothing_consists continues_word) none))

pub returns-in-None : goal.returns-in-None
returns-in-None c =
    all_of_it c.args.bytes.now c.loop-at.at c.loop-at.invariant (subst (λ l. NoMorePasses (consists_of continues_word) l) c.split_at.ensures.back c.in-None.ensures.next)

pub loop-at-preserved : goal.loop-at-preserved
loop-at-preserved c =
    passes_more (consists_of continues_word) c.args.bytes.now c.loop-at.at c.in-Some.len c.loop-at.invariant
    (subst (λ l. Passes (consists_of continues_word) l c.in-Some.len) c.split_at.ensures.back c.in-Some.ensures.next)

pub returns : goal.returns
returns c =
    all_of_it c.args.bytes.now c.loop-at.at c.loop-at.invariant
    (none_at_end (consists_of continues_word) (drop c.loop-at.at c.args.bytes.now) (omega (arith, length-drop c.loop-at.at c.args.bytes.now)))

pub loop-at-init : goal.loop-at-init
loop-at-init c = passes_none (consists_of continues_word) c.args.bytes.now
