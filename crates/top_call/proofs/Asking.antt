-- Words that can't be read for lack of memory.
use Rattle.std.proofs.Common.{[], Some, refl, inr, arith}
use Rattle.dsu_io.specs.Causes.{FailedReads, NoneFailed}
use Rattle.dsu_cli.specs.declared.job.Detail.{Detail}
use Rattle.dsu_cli.specs.declared.job.Detail.TheVariants.{Plain, Explained}
use Rattle.dsu_cli.specs.declared.job.Job.{Job}
use Rattle.dsu_report.specs.declared.fault.FaultLine.TheVariants.{Memory}
use Rattle.job_answers.specs.Answers.{short}
use Rattle.job_answers.specs.Calls.{Call, Stopped}
use Rattle.job_answers.specs.Jobs.{Contents}
use Rattle.top_call.specs.Explained.{Responds}
use Rattle.top_call.specs.Explained.{short as unkept}

none_failed : (faults : FailedReads) → NoneFailed faults faults
none_failed faults = record { later = omega arith; same = refl }

-- the plain call that there was no memory for: it left standard output as the call did, and could keep no byte of its report
abbrev plain_of : Call → Call
plain_of call = record {
  status = 20;
  history = [];
  ending = call.ending;
  answers = call.answers;
  installed = call.installed;
  out = call.out;
  err = record { before = Some []; now = Some []; counted = 0; count = 1 };
}

-- words that can't be read for lack of memory ask for any job
pub out_of_memory : (detail : Detail) (job : Job) (content : Contents) (faults : FailedReads) (call : Call) → Stopped Memory [] call
    → Responds detail job content faults faults call
out_of_memory Plain job content faults call stopped = short (none_failed faults) stopped
out_of_memory Explained job content faults call stopped = record {
  plain = plain_of call;
  after = faults;
  answers = short (none_failed faults) (record {
    status = refl;
    history = refl;
    no_end = record { ending = stopped.no_end.ending; answers = stopped.no_end.answers; installed = stopped.no_end.installed };
    out = stopped.out;
    err = inr ((0, omega arith, refl), omega arith);
  });
  report = [];
  began = refl;
  kept = refl;
  reported = unkept (omega arith) (record { history = stopped.history; out = refl; no_end = stopped.no_end }) stopped.status stopped.err;
}
