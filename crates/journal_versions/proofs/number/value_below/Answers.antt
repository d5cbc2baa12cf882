use Rattle.std.proofs.Common.{rules, sym}
use Rattle.journal_versions.proofs.Numbers.{past_end}
use Rattle.journal_versions.proofs.number.value_below.Goals as goal

pub returns-then-end-n-clause-value : goal.returns-then-end-n-clause-value
returns-then-end-n-clause-value c =
    sym (past_end c.args.end c.loop-byte.n c.loop-byte.byte-index c.args.text.now c.loop-byte.invariant.same (search rules) (search rules) (search rules))
