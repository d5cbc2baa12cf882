use Rattle.source_model.proofs.Soloing.{nothing_next}
use Rattle.source_model.proofs.Stuck.{stuck_by_state}
use Rattle.source_model.proofs.laws.solo_schedule_goes_to_the_end.Goals as goal

pub returns-clause-nothing_next : goal.returns-clause-nothing_next
returns-clause-nothing_next c = nothing_next

pub returns-clause-stuck : goal.returns-clause-stuck
returns-clause-stuck c = stuck_by_state
