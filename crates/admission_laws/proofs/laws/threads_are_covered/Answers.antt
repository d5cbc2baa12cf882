use Rattle.admission_laws.proofs.Covered.{each_thread_stands, each_point_is_covered, each_start_is_marked}
use Rattle.admission_laws.proofs.laws.threads_are_covered.Goals as goal

pub returns-clause-stands : goal.returns-clause-stands
returns-clause-stands c = each_thread_stands c.frames_go_along_skeletons.ensures.along c.least_slot_refuses.ensures

pub returns-clause-covered : goal.returns-clause-covered
returns-clause-covered c = each_point_is_covered c.frames_go_along_skeletons.ensures.along c.least_slot_refuses.ensures

pub returns-clause-started : goal.returns-clause-started
returns-clause-started c = each_start_is_marked c.frames_go_along_skeletons.ensures.along c.least_slot_refuses.ensures
