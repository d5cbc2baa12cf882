use Rattle.sound_code.proofs.Execution.{executable}
use Rattle.sound_code.proofs.Tables.{names_do_not_matter}
use Rattle.sound_code.proofs.Whole.{verified_is_sound}
use Rattle.sound_code.proofs.laws.verified_code_is_sound.Goals as goal

pub returns-clause-sound : goal.returns-clause-sound
returns-clause-sound c = verified_is_sound

pub returns-clause-names : goal.returns-clause-names
returns-clause-names c = names_do_not_matter

pub returns-clause-bodies : goal.returns-clause-bodies
returns-clause-bodies c = executable
