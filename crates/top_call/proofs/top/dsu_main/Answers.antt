use Rattle.std.proofs.Common.{◌∙◌, ◌⊎◌, [], Err, sym, ap, subst, inl, inr}
use Rattle.std.proofs.lemmas.Option.{none-some, same_Some}
use Rattle.dsu_cli.specs.Words.{detail_of}
use Rattle.dsu_cli.specs.declared.job.Detail.{Detail}
use Rattle.dsu_cli.specs.declared.job.Job.{Job as Asked}
use Rattle.dsu_report.specs.declared.fault.FaultLine.{FaultLine}
use Rattle.job_answers.specs.Answers.{IsExcused}
use Rattle.job_answers.specs.Calls.{Stopped, call_of, output_of}
use Rattle.job_answers.specs.Jobs.{IsKnownFault, IsReady}
use Rattle.top_call.specs.Explained.{Responds, StoppedAs}
use Rattle.top_call.proofs.Asking.{out_of_memory}
use Rattle.top_call.proofs.top.dsu_main.Goals as goal

pub returns-in-Ok-clause-answers : goal.returns-in-Ok-clause-answers
returns-in-Ok-clause-answers g c = λ job is.
    let read = c.in-Ok in
    let content = g.F.Files.content c.args.files.now in
    let before = g.F.Files.faults c.args.files.now in
    let now = g.F.Files.faults c.respond.new.files in
    let call =
    call_of c.respond.result (output_of g.O.Sink.told g.O.Sink.faults c.args.out c.respond.result.out)
    (output_of g.E.Sink.told g.E.Sink.faults c.args.err.now c.respond.new.err) in
    subst {A = Detail} (λ d. Responds d job content before now call) (sym read.ensures.detail)
    (subst {A = Asked} (λ j. Responds read.request.detail j content before now call)
    (same_Some read.request.job job (sym read.ensures.job ∙ is)) c.respond.ensures.answers)

pub returns-in-Ok-clause-complete : goal.returns-in-Ok-clause-complete
returns-in-Ok-clause-complete g c = λ job is ready.
    let read = c.in-Ok in
    c.respond.ensures.complete (subst {A = Asked} (λ j. IsReady j (g.F.Files.content c.args.files.now))
    (same_Some job read.request.job (sym is ∙ read.ensures.job)) ready)

pub returns-in-Ok-clause-first : goal.returns-in-Ok-clause-first
returns-in-Ok-clause-first g c = λ job line file is fault.
    let read = c.in-Ok in
    let content = g.F.Files.content c.args.files.now in
    let call =
    call_of c.respond.result (output_of g.O.Sink.told g.O.Sink.faults c.args.out c.respond.result.out)
    (output_of g.E.Sink.told g.E.Sink.faults c.args.err.now c.respond.new.err) in
    subst {A = Detail} (λ d. IsExcused c.respond.result.status ⊎ StoppedAs d line file call) (sym read.ensures.detail)
    (c.respond.ensures.first line file (subst {A = Asked} (λ j. IsKnownFault j content line file)
    (same_Some job read.request.job (sym is ∙ read.ensures.job)) fault))

pub returns-in-Err-clause-answers : goal.returns-in-Err-clause-answers
returns-in-Err-clause-answers g c = λ job is.
    let content = g.F.Files.content c.args.files.now in
    let faults = g.F.Files.faults c.args.files.now in
    let call =
    call_of c.stop.result (output_of g.O.Sink.told g.O.Sink.faults c.args.out c.stop.result.out)
    (output_of g.E.Sink.told g.E.Sink.faults c.args.err.now c.stop.new.err) in
    elim c.in-Err.ensures.faults [
      | inl usage ↦ absurd (none-some job (sym (c.in-Err.ensures.usage (ap (λ (f : FaultLine). Err f) usage)) ∙ is))
      | inr memory ↦
          out_of_memory (detail_of c.args.words.now) job content faults call
          (subst {A = FaultLine} (λ f. Stopped f [] call) memory c.stop.ensures)
    ]
