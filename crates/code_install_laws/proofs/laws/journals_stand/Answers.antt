use Rattle.code_install_laws.proofs.JournalWorlds.{journals_stand}
use Rattle.code_install_laws.proofs.laws.journals_stand.Goals as goal

pub returns : goal.returns
returns c = journals_stand c.accepted_texts_are_coded.ensures c.journals_are_typed.ensures
