use Rattle.admission_laws.proofs.Induction.{each_is_good}
use Rattle.admission_laws.proofs.laws.nothing_is_misused.Goals as goal

pub returns : goal.returns
returns c = λ rules setup events g rows sound legal.
    (each_is_good c.frames_go_along_skeletons.ensures.along c.least_slot_refuses.ensures rules rows setup sound events g legal).unmarked
