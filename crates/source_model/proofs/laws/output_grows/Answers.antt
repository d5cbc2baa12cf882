use Rattle.source_model.proofs.Lawful.{output_grows}
use Rattle.source_model.proofs.laws.output_grows.Goals as goal

pub returns : goal.returns
returns c = output_grows
