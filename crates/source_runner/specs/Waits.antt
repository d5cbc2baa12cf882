-- What is reported of a thread that waits, as the definitions have it.
use Rattle.source_model.specs.Waits.{Waiting, ForMutex, ForThread}
use Rattle.source_runner.specs.declared.waits.SourceWait.{SourceWait}
use Rattle.source_runner.specs.declared.waits.SourceWait.TheVariants.{Mutex, Thread}

abbrev pub waiting_of : SourceWait → Waiting
waiting_of (Mutex name holder) = ForMutex name.now holder
waiting_of (Thread slot) = ForThread slot
