use Rattle.std.proofs.Common.{◌∙◌, ap, arith, inr, sym}
use Rattle.std.specs.Prelude.{◌≡◌, length}
use Rattle.dsu_cli.specs.declared.job.Job.TheVariants.{Gen}
use Rattle.job_answers.proofs.Stopping.{answered, excused}
use Rattle.gen_job.proofs.Generating.{told_stopped}
use Rattle.gen_job.proofs.Summing.{gen_answers, gen_done, no_file_failed}
use Rattle.gen_job.proofs.job.run_generated.Goals as goal

pub run_offered-requires-clause-equal : goal.run_offered-requires-clause-equal
run_offered-requires-clause-equal g c = ap length c.in-Ok.ensures.offer.programs ∙ sym (ap length c.in-Ok.ensures.offer.counts)

pub run_offered-requires-clause-few : goal.run_offered-requires-clause-few
run_offered-requires-clause-few g c =
    let one : length c.in-Ok.offers.lines.items ≡ 1 = ap length c.in-Ok.ensures.offer.counts in
    omega (arith, one)

pub run_offered-requires-clause-accepted : goal.run_offered-requires-clause-accepted
run_offered-requires-clause-accepted g c = (c.in-Ok.ensures.program.text, c.in-Ok.ensures.program.accepted)

pub returns-in-Ok-clause-answers : goal.returns-in-Ok-clause-answers
returns-in-Ok-clause-answers g c = λ engine content faults.
    let offer = c.in-Ok.ensures.offer in
    gen_answers c.args.seed c.args.size c.in-Ok.program offer.next _ engine content faults c.in-Ok.ensures.program offer.known
    (c.run_offered.ensures offer.next offer.programs)

pub returns-in-Ok-clause-complete : goal.returns-in-Ok-clause-complete
returns-in-Ok-clause-complete g c = λ engine content ready.
    let offer = c.in-Ok.ensures.offer in
    gen_done c.args.seed c.args.size c.in-Ok.program offer.next _ (c.run_offered.ensures offer.next offer.programs)

pub returns-in-Ok-clause-first : goal.returns-in-Ok-clause-first
returns-in-Ok-clause-first g c = λ engine content line file fault. absurd (c.in-Ok.ensures.first line file fault)

pub returns-in-Err-clause-answers : goal.returns-in-Err-clause-answers
returns-in-Err-clause-answers g c = λ engine content faults.
    answered (Gen c.args.seed c.args.size engine) content faults faults _ c.in-Err.line c.in-Err.file.now c.stop.ensures
    (no_file_failed faults c.in-Err.line c.in-Err.ensures.fault)

pub returns-in-Err-clause-complete : goal.returns-in-Err-clause-complete
returns-in-Err-clause-complete g c = λ engine content ready.
    inr (excused _ c.in-Err.line c.in-Err.file.now c.stop.ensures
    (inr (c.in-Err.ensures.complete ready.0.0 ready.1.0 ready.0.1 ready.1.1)))

pub returns-in-Err-clause-first : goal.returns-in-Err-clause-first
returns-in-Err-clause-first g c = λ engine content line file fault.
    told_stopped _ c.in-Err.line line c.in-Err.file.now file c.stop.ensures (c.in-Err.ensures.first line file fault)
