use Rattle.std.proofs.Common.{◌≡◌}
use Rattle.word_installs.specs.NewRows.{with_rows}
use Rattle.word_installs.proofs.placing.put_rows.Given as goal

abbrev pub invariant-loop-row : goal.invariant-loop-row
invariant-loop-row l = with_rows l.row-iterator.rest.items l.shared ≡ with_rows l.fn.rows.items l.fn.shared
