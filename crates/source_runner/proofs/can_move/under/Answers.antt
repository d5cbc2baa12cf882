use Rattle.std.proofs.Common.{sym}
use Rattle.local_evaluation.specs.Values.{seen}
use Rattle.source_data.proofs.Newest.{drop_last}
use Rattle.source_runner.proofs.can_move.under.Goals as goal

pub returns-in-len1-up : goal.returns-in-len1-up
returns-in-len1-up c = sym (drop_last seen c.args.values.now 1)
