use Rattle.name_resolution.proofs.Kept.{grows_refl}
use Rattle.source_programs.proofs.programs.texts_and_main.Goals as goal

pub returns-clause-ready : goal.returns-clause-ready
returns-clause-ready c = c.in_ok-ready.ensures.ready _ c.in_ok-main.ensures.grows

pub returns-clause-main : goal.returns-clause-main
returns-clause-main c = c.in_ok-main.ensures.word _ (grows_refl _)
