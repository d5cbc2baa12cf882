use Rattle.source_model.proofs.Soloing.{next_can_happen, solo_is_legal, solo_is_prompt}
use Rattle.source_model.proofs.laws.solo_schedule_is_prompt.Goals as goal

pub returns-clause-next : goal.returns-clause-next
returns-clause-next c = next_can_happen

pub returns-clause-legal : goal.returns-clause-legal
returns-clause-legal c = solo_is_legal

pub returns-clause-prompt : goal.returns-clause-prompt
returns-clause-prompt c = solo_is_prompt
