use Rattle.source_model.specs.JournalLaws.{texts_of}
use Rattle.source_model.specs.Journals.{moves}
use Rattle.run_crosscheck.proofs.Follow.{is_checked}
use Rattle.run_crosscheck.proofs.journal_run.JournalRun.check.Goals as goal

pub returns : goal.returns
returns c = λ setup given es h.
    let texts = texts_of setup in
    let ms = moves given es in
    is_checked texts setup.limits ms c.args.bytes.now c.args.self.now.run h.at.recorded c.output.result.now _
    (c.output.ensures texts setup.limits ms (c.run.ensures.ran texts setup.limits ms h.at.recorded))
    (c.in_ok-spans.ensures texts setup.limits ms h.at.recorded) c.compare-comparison.ensures
