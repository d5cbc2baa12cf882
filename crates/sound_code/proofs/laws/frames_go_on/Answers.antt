use Rattle.sound_code.proofs.Between.{back_edges_lead_back, check_ins_lead_on, entry_leads_on, stops_lead_on}
use Rattle.sound_code.proofs.laws.frames_go_on.Goals as goal

pub returns-clause-entry : goal.returns-clause-entry
returns-clause-entry c = entry_leads_on

pub returns-clause-stops : goal.returns-clause-stops
returns-clause-stops c = stops_lead_on

pub returns-clause-check_ins : goal.returns-clause-check_ins
returns-clause-check_ins c = check_ins_lead_on

pub returns-clause-back_edges : goal.returns-clause-back_edges
returns-clause-back_edges c = back_edges_lead_back
