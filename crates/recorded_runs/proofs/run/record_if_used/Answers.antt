use Rattle.std.proofs.Common.{sym, ap, subst}
use Rattle.std.specs.Prelude.{OnOk, option_map}
use Rattle.source_programs.specs.Programs.{name_of}
use Rattle.source_runner.specs.SourceRuns.{words_of}
use Rattle.recorded_runs.specs.MoveRecords.{uses_by, with_uses}
use Rattle.recorded_runs.specs.RecordedRuns.{AreKept, changed_at}
use Rattle.recorded_runs.proofs.Runs.{nothing_used}
use Rattle.recorded_runs.proofs.run.record_if_used.Goals as goal

pub returns-in-Some-clause-kept : goal.returns-in-Some-clause-kept
returns-in-Some-clause-kept c = λ texts table slots closed is began defined within kept.
    let slot = c.args.slot in
    let t = words_of c.args.run.now in
    subst
    (λ o. OnOk c.record_use.result
    (AreKept table (changed_at slot (with_uses (uses_by table (option_map (name_of t) o)) (slots slot)) slots) closed c.record_use.new.records))
    (sym c.in-Some.is)
    (c.record_use.ensures.kept texts table slots closed is began (defined _ (ap (option_map (name_of t)) c.in-Some.is)) within kept)

pub returns-in-None-clause-kept : goal.returns-in-None-clause-kept
returns-in-None-clause-kept c = λ texts table slots closed is began defined within kept.
    let slot = c.args.slot in
    let t = words_of c.args.run.now in
    subst
    (λ o. AreKept table (changed_at slot (with_uses (uses_by table (option_map (name_of t) o)) (slots slot)) slots) closed c.args.records.now)
    (sym c.in-None.is) (nothing_used table slots closed c.args.records.now slot kept)
