use Rattle.std.proofs.Common.{◌-◌, length}
use Rattle.threaded_vm.proofs.workers.+make_rounds_from.Given as goal

abbrev pub decreases-make_rounds_from : goal.decreases-make_rounds_from
decreases-make_rounds_from g l = length l.workers.now.items - l.at
