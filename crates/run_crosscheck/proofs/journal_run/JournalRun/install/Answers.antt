use Rattle.std.proofs.Common.{refl, subst}
use Rattle.source_model.specs.JournalLaws.{texts_of}
use Rattle.source_model.specs.Journals.{moves}
use Rattle.source_model.specs.Runs.{Install}
use Rattle.recorded_runs.specs.RecordedRuns.{CameBy}
use Rattle.run_crosscheck.proofs.Follow.{are_changes, are_some, can_install, installed}
use Rattle.run_crosscheck.proofs.journal_run.JournalRun.install.Goals as goal

pub returns-in_default : goal.returns-in_default
returns-in_default c = λ setup given es rest e h.
    are_some setup given es rest c.args.number c.args.self.now h e c.run.result.now c.run.ensures.same c.in_ok-changes.field-0
    c.in_ok-changes.ensures c.in_default.not-Some

pub returns-in-Done : goal.returns-in-Done
returns-in-Done c = λ setup given es rest e h.
    let old = c.args.self.now in
    let k = c.args.number in
    let texts = texts_of setup in
    let ms = moves given es in
    let are = are_changes setup given es rest k old h e c.run.result.now c.run.ensures.same c.in_ok-changes.field-0 c.in_ok-changes.ensures
    c.in-Some.changes c.in-Some.is c.deref.result.now c.deref.ensures.value in
    installed setup given es rest k old h e (record { run = c.install.new.self; text = k })
    (subst (CameBy texts setup.limits ms (Install k) c.install.new.self) c.in-Done.is
    (c.in_ok-install.ensures.made texts setup.limits ms h.at.recorded are.0 are.1))
    c.install.ensures.same refl

pub returns : goal.returns
returns c = λ setup given es rest e h.
    let old = c.args.self.now in
    let k = c.args.number in
    let texts = texts_of setup in
    let ms = moves given es in
    let are = are_changes setup given es rest k old h e c.run.result.now c.run.ensures.same c.in_ok-changes.field-0 c.in_ok-changes.ensures
    c.in-Some.changes c.in-Some.is c.deref.result.now c.deref.ensures.value in
    can_install setup given es rest k old h e c.install.new.self
    (subst (CameBy texts setup.limits ms (Install k) c.install.new.self) c.in-CannotMove.is
    (c.in_ok-install.ensures.made texts setup.limits ms h.at.recorded are.0 are.1))
