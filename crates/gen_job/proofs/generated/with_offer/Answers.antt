use Rattle.std.proofs.Common.{codes}
use Rattle.gen_job.proofs.Generating.{named_fault, named_told}
use Rattle.gen_job.proofs.generated.with_offer.Goals as goal

pub returns-in-Err-clause-fault : goal.returns-in-Err-clause-fault
returns-in-Err-clause-fault c = named_fault c.args.offer.items (codes "generated offer") c.in-Err.line c.in-Err.ensures.fault

pub returns-in-Err-clause-first : goal.returns-in-Err-clause-first
returns-in-Err-clause-first c = λ line wrong. named_told (codes "generated offer") line c.in-Err.line (c.in-Err.ensures.first line wrong)

pub returns-in-Ok-clause-first : goal.returns-in-Ok-clause-first
returns-in-Ok-clause-first c = λ line wrong. c.in-Ok.ensures.first line wrong
