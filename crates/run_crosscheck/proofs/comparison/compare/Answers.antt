use Rattle.std.proofs.Common.{◌≡◌, ◌≢◌, ◌<◌, ◌≤◌, length, sym, ap, subst, slice_index_or, arith}
use Rattle.std.proofs.lemmas.Bool.Decides.{nat_tests}
use Rattle.run_crosscheck.specs.Comparisons.{comparison_of}
use Rattle.run_crosscheck.proofs.FirstDifferences.{SameBefore, differs_there, ends_at_shorter, same_to_the_end}
use Rattle.run_crosscheck.proofs.comparison.compare.Goals as goal

pub returns-then-output-place : goal.returns-then-output-place
returns-then-output-place c =
    let a = c.args.output.now in
    let b = c.args.bytes.now in
    let n = c.loop-place.place in
    let least = c.min-shorter.ensures in
    let below = c.loop-place-test.true in
    let within : n < length a = grind (arith, nat_tests, least, below) in
    let fits : n < length b = grind (arith, nat_tests, least, below) in
    let other : slice_index_or a n 0 ≢ slice_index_or b n 0 = grind (arith, nat_tests, c.if-output-place.true) in
    ap comparison_of (sym (differs_there a b n c.loop-place.invariant within fits other))

pub returns-then-output-bytes : goal.returns-then-output-bytes
returns-then-output-bytes c =
    let a = c.args.output.now in
    let b = c.args.bytes.now in
    let n = c.loop-place.place in
    let least = c.min-shorter.ensures in
    let below = c.loop-place-test.false in
    let at_end = c.loop-place.auto.place-end in
    let own : length a ≡ n = grind (arith, nat_tests, least, below, at_end, c.if-output-bytes.true) in
    let other : length b ≡ n = grind (arith, nat_tests, least, below, at_end, c.if-output-bytes.true) in
    ap comparison_of (sym (same_to_the_end a b n c.loop-place.invariant own other))

pub returns-else-output-bytes : goal.returns-else-output-bytes
returns-else-output-bytes c =
    let a = c.args.output.now in
    let b = c.args.bytes.now in
    let n = c.min-shorter.result in
    let least = c.min-shorter.ensures in
    let below = c.loop-place-test.false in
    let at_end = c.loop-place.auto.place-end in
    let is : c.loop-place.place ≡ n = grind (arith, nat_tests, below, at_end) in
    let within : n ≤ length a = grind (arith, nat_tests, least) in
    let fits : n ≤ length b = grind (arith, nat_tests, least) in
    let ends : n < length a → n < length b → ⊥ = grind (arith, nat_tests, least) in
    ap comparison_of
    (sym (ends_at_shorter a b n (subst (SameBefore a b) is c.loop-place.invariant) within fits ends c.if-output-bytes.false))
