use Rattle.fault_notes.proofs.ShownBytes.{all_stay}
use Rattle.fault_notes.proofs.lines.lines_end.Goals as goal

pub returns : goal.returns
returns c = all_stay
