use Rattle.std.proofs.Common.{inr, subst, sym}
use Rattle.c_tree.specs.declared.def.Program.{Program}
use Rattle.source_model.specs.Journals.{IsLegal}
use Rattle.dsu_cli.specs.declared.job.Job.TheVariants.{Replay}
use Rattle.dsu_runs.specs.Replays.{events_of}
use Rattle.dsu_runs.specs.Setups.{setup_of}
use Rattle.input_files.specs.Sources.{HoldsProgram}
use Rattle.job_answers.specs.Jobs.{IsKnownJournal, IsKnownProgram, KnownProgramFault, KnownReplayFault, lines_of}
use Rattle.job_answers.proofs.Stopping.{answered, at_program, first_before, or_else, program_excused}
use Rattle.run_jobs.proofs.RunAnswers.{known_since, replay_answers, replay_known_since}
use Rattle.job_answers.proofs.Reading.{is_answered, later_fault, no_answer}
use Rattle.run_jobs.proofs.replay.replay_file.Goals as goal

pub replay_program-requires-clause-accepted : goal.replay_program-requires-clause-accepted
replay_program-requires-clause-accepted g c = (c.in-Ok.ensures.read.0, c.in-Ok.ensures.read.1.accepted)

pub returns-in-Ok-clause-answers : goal.returns-in-Ok-clause-answers
returns-in-Ok-clause-answers g c =
    let content = g.F.Files.content c.args.files.now in
    replay_answers c.args.job.now content (g.F.Files.content c.program_of.new.files) _ _ _ _ c.in-Ok.program
    (subst (λ f. HoldsProgram (content f) c.in-Ok.program) c.as_str-file.ensures c.in-Ok.ensures.read)
    c.in-Ok.ensures.same c.in-Ok.ensures.none_failed c.replay_program.ensures.answers

pub returns-in-Ok-clause-complete : goal.returns-in-Ok-clause-complete
returns-in-Ok-clause-complete g c = λ (program, known, lines, journal, programs, all, legal).
    let content = g.F.Files.content c.args.files.now in
    let job = c.args.job.now in
    let read = c.in-Ok.ensures.complete program (subst (λ f. IsKnownProgram (content f) program) (sym c.as_str-file.ensures) known) in
    c.replay_program.ensures.complete lines programs
    (subst (λ k. IsKnownJournal k lines) (sym (c.in-Ok.ensures.same job.journal)) journal)
    (known_since job.offers content (g.F.Files.content c.program_of.new.files) programs c.in-Ok.ensures.same all)
    (λ rules are.
    subst {A = Program} (λ p. IsLegal rules (setup_of p programs (lines_of job.offers) job.objects) (events_of lines)) (sym read) (legal rules are))

pub returns-in-Ok-clause-first : goal.returns-in-Ok-clause-first
returns-in-Ok-clause-first g c = λ line file fault.
    let content = g.F.Files.content c.args.files.now in
    let job = c.args.job.now in
    let later =
    later_fault fault (λ wrong. no_answer c.in-Ok.program line (c.in-Ok.ensures.first line
    (subst (λ f. KnownProgramFault (content f) line) (sym c.as_str-file.ensures) wrong.1))) in
    c.replay_program.ensures.first line file
    (replay_known_since job.journal job.offers content (g.F.Files.content c.program_of.new.files) line file c.in-Ok.ensures.same later.2)

pub returns-in-Err-clause-answers : goal.returns-in-Err-clause-answers
returns-in-Err-clause-answers g c =
    let content = g.F.Files.content c.args.files.now in
    let file = c.as_str-file.result.now in
    answered (Replay c.args.job.now) content (g.F.Files.faults c.args.files.now) (g.F.Files.faults c.program_of.new.files) _ c.in-Err.line file c.stop.ensures
    (or_else (at_program content c.in-Err.line file c.args.job.now.file c.as_str-file.ensures _ _ c.in-Err.ensures.fault))

pub returns-in-Err-clause-complete : goal.returns-in-Err-clause-complete
returns-in-Err-clause-complete g c = λ ready.
    let content = g.F.Files.content c.args.files.now in
    let file = c.as_str-file.result.now in
    inr (program_excused content c.in-Err.line file c.args.job.now.file c.as_str-file.ensures _ c.stop.ensures c.in-Err.ensures.complete
    ready.0 ready.1)

pub returns-in-Err-clause-first : goal.returns-in-Err-clause-first
returns-in-Err-clause-first g c = λ line at fault.
    let content = g.F.Files.content c.args.files.now in
    let file = c.as_str-file.result.now in
    let job = c.args.job.now in
    first_before content c.in-Err.line file job.file c.as_str-file.ensures (KnownReplayFault job.journal job.offers content) _ c.stop.ensures
    c.in-Err.ensures.complete (λ known is. is_answered known c.in-Err.line (c.in-Err.ensures.first known is)) line at fault
