use Rattle.std.proofs.Common.{refl}
use Rattle.run_crosscheck.proofs.Follow.{starts}
use Rattle.run_crosscheck.proofs.journal_run.JournalRun.new.Goals as goal

pub returns : goal.returns
returns c = λ setup g events given journal.
    starts c.journal_is_a_run.ensures setup g c.args.texts.items c.args.objects events given journal _ c.in_ok-new.ensures.run
    c.in_ok-new.ensures.trees refl
