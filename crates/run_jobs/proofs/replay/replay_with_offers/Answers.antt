use Rattle.std.proofs.Common.{◌⊎◌, ◌∙◌, List, false, ap, inr, subst, sym}
use Rattle.dsu_cli.specs.declared.job.Offer.{Offer}
use Rattle.job_answers.specs.Jobs.{AreKnownPrograms, AreSources, KnownOfferFault, OfferStops, OutOfMemory, lines_of}
use Rattle.job_answers.specs.Plans.{ByJournal}
use Rattle.reported_runs.proofs.Accepting.{texts_are_accepted}
use Rattle.job_answers.proofs.Stopping.{excused, first_stopped_at}
use Rattle.run_jobs.proofs.RunAnswers.{offers_run, offers_stop}
use Rattle.run_jobs.proofs.Outcomes.{replayed_done}
use Rattle.run_jobs.proofs.replay.replay_with_offers.Goals as goal

pub replay_events-requires-clause-accepted : goal.replay_events-requires-clause-accepted
replay_events-requires-clause-accepted g c =
    let offers = c.in-Ok.offers in
    texts_are_accepted c.texts_of_programs_are_accepted.ensures (g.F.Files.content c.args.files.now) c.args.program c.requires.accepted
    c.as_slice.result.now offers.texts.items offers.programs.items offers.lines.items c.args.job.now.objects c.in-Ok.ensures.read

pub returns-in-Ok-clause-answers : goal.returns-in-Ok-clause-answers
returns-in-Ok-clause-answers g c =
    let job = c.args.job.now in
    let offers = c.in-Ok.offers in
    let content = g.F.Files.content c.args.files.now in
    offers_run (ByJournal c.args.lines.now) content _ _ c.args.program job.offers job.objects false job.journal _
    offers.texts.items offers.programs.items offers.lines.items
    (subst {A = List Offer} (λ os. AreSources content os offers.texts.items offers.programs.items) c.as_slice.ensures c.in-Ok.ensures.read)
    (c.in-Ok.ensures.lines ∙ ap lines_of c.as_slice.ensures) c.in-Ok.ensures.none_failed c.replay_events.ensures

pub returns-in-Ok-clause-complete : goal.returns-in-Ok-clause-complete
returns-in-Ok-clause-complete g c = λ programs known legal.
    let job = c.args.job.now in
    let offers = c.in-Ok.offers in
    let content = g.F.Files.content c.args.files.now in
    let same =
    c.in-Ok.ensures.complete programs (subst {A = List Offer} (λ os. AreKnownPrograms content os programs) (sym c.as_slice.ensures) known) in
    replayed_done c.rules_exist.ensures c.args.lines.now c.args.program offers.programs.items programs offers.lines.items (lines_of job.offers)
    job.objects offers.texts.items false job.journal _ same (c.in-Ok.ensures.lines ∙ ap lines_of c.as_slice.ensures) legal c.replay_events.ensures

pub returns-in-Err-clause-answers : goal.returns-in-Err-clause-answers
returns-in-Err-clause-answers g c =
    let job = c.args.job.now in
    let content = g.F.Files.content c.args.files.now in
    let before = g.F.Files.faults c.args.files.now in
    let now = g.F.Files.faults c.offers_in.new.files in
    offers_stop (ByJournal c.args.lines.now) content before now c.args.program job.offers job.objects false job.journal _ c.in-Err.line
    c.in-Err.file.now c.stop.ensures
    (subst {A = List Offer} (λ os. OutOfMemory before now c.in-Err.line ⊎ OfferStops os content before now c.in-Err.line c.in-Err.file.now)
    c.as_slice.ensures c.in-Err.ensures.fault)

pub returns-in-Err-clause-complete : goal.returns-in-Err-clause-complete
returns-in-Err-clause-complete g c = λ programs known legal.
    inr (excused _ _ _ c.stop.ensures
    (c.in-Err.ensures.complete programs
    (subst {A = List Offer} (λ os. AreKnownPrograms (g.F.Files.content c.args.files.now) os programs) (sym c.as_slice.ensures) known)))

pub returns-in-Err-clause-first : goal.returns-in-Err-clause-first
returns-in-Err-clause-first g c = λ line file fault.
    first_stopped_at _ _ line _ file c.stop.ensures
    (c.in-Err.ensures.first line file
    (subst {A = List Offer} (λ os. KnownOfferFault os (g.F.Files.content c.args.files.now) line file) (sym c.as_slice.ensures) fault))
