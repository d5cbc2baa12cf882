use Rattle.std.proofs.Common.{inr, subst, sym}
use Rattle.dsu_cli.specs.declared.job.Job.TheVariants.{Run}
use Rattle.input_files.specs.Sources.{HoldsProgram}
use Rattle.job_answers.specs.Jobs.{KnownOfferFault, KnownProgramFault}
use Rattle.job_answers.proofs.Stopping.{answered, at_program, first_before, or_else, program_excused}
use Rattle.run_jobs.proofs.RunAnswers.{fault_known_since, known_since, run_answers}
use Rattle.job_answers.proofs.Reading.{is_answered, later_fault, no_answer}
use Rattle.run_jobs.proofs.run.run_file.Goals as goal

pub run_with_offers-requires-clause-accepted : goal.run_with_offers-requires-clause-accepted
run_with_offers-requires-clause-accepted g c = (c.in-Ok.ensures.read.0, c.in-Ok.ensures.read.1.accepted)

pub returns-in-Ok-clause-answers : goal.returns-in-Ok-clause-answers
returns-in-Ok-clause-answers g c =
    let content = g.F.Files.content c.args.files.now in
    run_answers c.args.job.now content (g.F.Files.content c.program_of.new.files) _ _ _ _ c.in-Ok.program
    (subst (λ f. HoldsProgram (content f) c.in-Ok.program) c.as_str-file.ensures c.in-Ok.ensures.read)
    c.in-Ok.ensures.same c.in-Ok.ensures.none_failed c.run_with_offers.ensures.answers

pub returns-in-Ok-clause-complete : goal.returns-in-Ok-clause-complete
returns-in-Ok-clause-complete g c = λ ready.
    c.run_with_offers.ensures.complete ready.1.0
    (known_since c.args.job.now.offers (g.F.Files.content c.args.files.now) (g.F.Files.content c.program_of.new.files) ready.1.0
    c.in-Ok.ensures.same ready.1.1)

pub returns-in-Ok-clause-first : goal.returns-in-Ok-clause-first
returns-in-Ok-clause-first g c = λ line file fault.
    let content = g.F.Files.content c.args.files.now in
    let job = c.args.job.now in
    let later =
    later_fault fault (λ wrong. no_answer c.in-Ok.program line (c.in-Ok.ensures.first line
    (subst (λ f. KnownProgramFault (content f) line) (sym c.as_str-file.ensures) wrong.1))) in
    c.run_with_offers.ensures.first line file
    (fault_known_since job.offers content (g.F.Files.content c.program_of.new.files) line file c.in-Ok.ensures.same later.2)

pub returns-in-Err-clause-answers : goal.returns-in-Err-clause-answers
returns-in-Err-clause-answers g c =
    let content = g.F.Files.content c.args.files.now in
    let file = c.as_str-file.result.now in
    answered (Run c.args.job.now) content (g.F.Files.faults c.args.files.now) (g.F.Files.faults c.program_of.new.files) _ c.in-Err.line file c.stop.ensures
    (or_else (at_program content c.in-Err.line file c.args.job.now.file c.as_str-file.ensures _ _ c.in-Err.ensures.fault))

pub returns-in-Err-clause-complete : goal.returns-in-Err-clause-complete
returns-in-Err-clause-complete g c = λ ready.
    let content = g.F.Files.content c.args.files.now in
    let file = c.as_str-file.result.now in
    inr (program_excused content c.in-Err.line file c.args.job.now.file c.as_str-file.ensures _ c.stop.ensures c.in-Err.ensures.complete
    ready.0.0 ready.0.1)

pub returns-in-Err-clause-first : goal.returns-in-Err-clause-first
returns-in-Err-clause-first g c = λ line at fault.
    let content = g.F.Files.content c.args.files.now in
    let file = c.as_str-file.result.now in
    let job = c.args.job.now in
    first_before content c.in-Err.line file job.file c.as_str-file.ensures (KnownOfferFault job.offers content) _ c.stop.ensures
    c.in-Err.ensures.complete (λ known is. is_answered known c.in-Err.line (c.in-Err.ensures.first known is)) line at fault
