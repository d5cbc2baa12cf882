use Rattle.source_runner.proofs.Looking.{none_waits_up, waits_up}
use Rattle.source_runner.proofs.queries.waiting_up.Goals as goal
