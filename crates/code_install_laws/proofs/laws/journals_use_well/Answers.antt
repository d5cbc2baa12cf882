use Rattle.code_install_laws.proofs.JournalMoves.{journals_use_well}
use Rattle.code_install_laws.proofs.laws.journals_use_well.Goals as goal

pub returns : goal.returns
returns c = journals_use_well c.accepted_runs_misuse_nothing.ensures
