use Rattle.progress_laws.proofs.Runs as proofs
use Rattle.progress_laws.proofs.laws.depths_add_up.Goals as goal

pub returns : goal.returns
returns c = proofs.runs_add_up c.frames_go_along_skeletons.ensures.depth
