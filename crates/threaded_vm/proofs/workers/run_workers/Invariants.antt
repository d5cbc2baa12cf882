use Rattle.threaded_vm.specs.Opened.{GoesOn}
use Rattle.threaded_vm.proofs.workers.run_workers.Given as goal

abbrev pub ghosts-run_opened : goal.ghosts-run_opened
ghosts-run_opened g a =
    let e = g.E.Engine in
    record {
      opened = record {
        history = a.live.history.items;
        at = λ setup first. GoesOn e.is_at setup first a.live.history.items a.live.engine;
        told = e.told a.live.engine;
        faults = e.faults a.live.engine;
        left = a.live.left;
        room = a.room;
      };
    }
