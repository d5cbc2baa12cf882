use Rattle.code_install_laws.proofs.InstalledTexts.{accepted_texts_are_coded}
use Rattle.code_install_laws.proofs.laws.accepted_texts_are_coded.Goals as goal

pub returns : goal.returns
returns c = accepted_texts_are_coded c.accepted_functions_have_fine_code.ensures
