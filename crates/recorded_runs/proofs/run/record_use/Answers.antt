use Rattle.std.proofs.Common.{[], ◌∷◌, sym, ap, subst, ◌∙◌}
use Rattle.std.specs.Prelude.{IsTrue, OnOk}
use Rattle.c_semantics.specs.Names.{struct_name}
use Rattle.source_model.specs.Uses.{use_of}
use Rattle.source_programs.specs.Programs.{name_of}
use Rattle.source_runner.specs.SourceRuns.{words_of}
use Rattle.version_spans.specs.Beginnings.{is_defined}
use Rattle.recorded_runs.specs.MoveRecords.{with_uses}
use Rattle.recorded_runs.specs.RecordedRuns.{AreKept, changed_at}
use Rattle.recorded_runs.proofs.run.record_use.Goals as goal

pub returns-in-Plain-clause-kept : goal.returns-in-Plain-clause-kept
returns-in-Plain-clause-kept c = λ texts table slots closed is began defined within kept.
    let slot = c.args.slot in
    let t = words_of c.args.run.now in
    subst
    (λ n. IsTrue (is_defined table n)
    → OnOk c.use_name.result (AreKept table (changed_at slot (with_uses (use_of table n ∷ []) (slots slot)) slots) closed c.use_name.new.self))
    (c.word.ensures ∙ sym (ap (name_of t) c.in-Plain.is))
    (λ d. c.use_name.ensures.kept texts table slots closed is began d within kept) defined

pub returns-in-Struct-clause-kept : goal.returns-in-Struct-clause-kept
returns-in-Struct-clause-kept c = λ texts table slots closed is began defined within kept.
    let slot = c.args.slot in
    let t = words_of c.args.run.now in
    subst
    (λ n. IsTrue (is_defined table n)
    → OnOk c.use_name-in-Struct.result
    (AreKept table (changed_at slot (with_uses (use_of table n ∷ []) (slots slot)) slots) closed c.use_name-in-Struct.new.self))
    (ap struct_name c.word-in-Struct.ensures ∙ sym (ap (name_of t) c.in-Struct.is))
    (λ d. c.use_name-in-Struct.ensures.kept texts table slots closed is began d within kept) defined
