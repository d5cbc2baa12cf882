use Rattle.std.proofs.Common.{◌∙◌, ℕ, List, inr, subst, sym}
use Rattle.run_types.specs.declared.run.Event.{Event}
use Rattle.source_model.specs.Journals.{IsLegal}
use Rattle.dsu_runs.specs.Replays.{events_of}
use Rattle.dsu_runs.specs.Setups.{setup_of}
use Rattle.input_files.specs.Journals.{HoldsEvents}
use Rattle.job_answers.specs.Jobs.{IsKnownJournal, KnownJournalFault, lines_of}
use Rattle.run_jobs.proofs.RunAnswers.{fault_known_since, journal_excused, journal_first, journal_runs, journal_stops, known_since}
use Rattle.job_answers.proofs.Reading.{is_answered, later_fault, no_answer}
use Rattle.run_jobs.proofs.replay.replay_program.Goals as goal

pub returns-in-Ok-clause-answers : goal.returns-in-Ok-clause-answers
returns-in-Ok-clause-answers g c =
    let content = g.F.Files.content c.args.files.now in
    journal_runs c.args.job.now content (g.F.Files.content c.events_of.new.files) _ _ _ _ c.args.program c.deref.result.now
    (subst {A = List (ℕ × Event)} (HoldsEvents (content c.args.job.now.journal)) (sym c.deref.ensures.value)
    (subst (λ f. HoldsEvents (content f) c.in-Ok.lines.items) c.as_str-file.ensures c.in-Ok.ensures.read))
    c.in-Ok.ensures.same c.in-Ok.ensures.none_failed c.replay_with_offers.ensures.answers

pub returns-in-Ok-clause-complete : goal.returns-in-Ok-clause-complete
returns-in-Ok-clause-complete g c = λ lines programs known all legal.
    let content = g.F.Files.content c.args.files.now in
    let job = c.args.job.now in
    let same =
    c.deref.ensures.value ∙ c.in-Ok.ensures.complete lines (subst (λ f. IsKnownJournal (content f) lines) (sym c.as_str-file.ensures) known) in
    c.replay_with_offers.ensures.complete programs
    (known_since job.offers content (g.F.Files.content c.events_of.new.files) programs c.in-Ok.ensures.same all)
    (λ rules are.
    subst {A = List (ℕ × Event)} (λ ls. IsLegal rules (setup_of c.args.program programs (lines_of job.offers) job.objects) (events_of ls)) (sym same)
    (legal rules are))

pub returns-in-Ok-clause-first : goal.returns-in-Ok-clause-first
returns-in-Ok-clause-first g c = λ line file fault.
    let content = g.F.Files.content c.args.files.now in
    let job = c.args.job.now in
    let later =
    later_fault fault (λ wrong. no_answer c.in-Ok.lines line (c.in-Ok.ensures.first line
    (subst (λ f. KnownJournalFault (content f) line) (sym c.as_str-file.ensures) wrong.1))) in
    c.replay_with_offers.ensures.first line file
    (fault_known_since job.offers content (g.F.Files.content c.events_of.new.files) line file c.in-Ok.ensures.same later.2)

pub returns-in-Err-clause-answers : goal.returns-in-Err-clause-answers
returns-in-Err-clause-answers g c =
    journal_stops c.args.job.now (g.F.Files.content c.args.files.now) _ _ _ c.args.program c.in-Err.line c.as_str-file.result.now
    c.as_str-file.ensures c.stop.ensures c.in-Err.ensures.fault

pub returns-in-Err-clause-complete : goal.returns-in-Err-clause-complete
returns-in-Err-clause-complete g c = λ lines programs known all legal.
    inr (journal_excused (g.F.Files.content c.args.files.now) c.in-Err.line c.as_str-file.result.now c.args.job.now.journal c.as_str-file.ensures _
    c.stop.ensures c.in-Err.ensures.complete lines known)

pub returns-in-Err-clause-first : goal.returns-in-Err-clause-first
returns-in-Err-clause-first g c = λ line file fault.
    journal_first (g.F.Files.content c.args.files.now) c.in-Err.line c.as_str-file.result.now c.args.job.now.journal c.as_str-file.ensures
    c.args.job.now.offers _ c.stop.ensures c.in-Err.ensures.complete
    (λ known is. is_answered known c.in-Err.line (c.in-Err.ensures.first known is)) line file fault
