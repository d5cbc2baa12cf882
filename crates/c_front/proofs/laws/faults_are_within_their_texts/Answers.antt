use Rattle.c_front.proofs.TextsWithin
use Rattle.c_front.proofs.laws.faults_are_within_their_texts.Goals as goal

pub returns : goal.returns
returns c = TextsWithin.first_fault_within
