use Rattle.source_model.proofs.Journaled.{journal_is_a_run}
use Rattle.source_model.proofs.laws.journal_is_a_run.Goals as goal

pub returns : goal.returns
returns c = journal_is_a_run
