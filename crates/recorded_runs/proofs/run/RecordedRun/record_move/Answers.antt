use Rattle.std.proofs.Common.{◌<◌, [], ◌∷◌, ◌++◌, true, false, Some, refl, sym, ap, subst, ◌∙◌}
use Rattle.std.specs.Prelude.{option_map}
use Rattle.std.proofs.lemmas.Result.{on_ok_weaker}
use Rattle.source_model.specs.Runs.{Move}
use Rattle.source_model.specs.Worlds.{in_slot}
use Rattle.version_laws.specs.Histories.{versions_by}
use Rattle.source_programs.specs.Programs.{name_of}
use Rattle.source_runner.specs.Queries.{use_due}
use Rattle.source_runner.specs.SourceRuns.{words_of}
use Rattle.recorded_runs.specs.MoveRecords.{use_made, uses_by, with_uses}
use Rattle.recorded_runs.specs.RecordedRuns.{AreKept, changed_at, open_in, stand_in}
use Rattle.recorded_runs.proofs.Runs.{after_move, answered, is_moved, settled, slot_within, stayed, table_is}
use Rattle.recorded_runs.proofs.run.RecordedRun.record_move.Goals as goal

pub returns-then-misused-clause-moved : goal.returns-then-misused-clause-moved
returns-then-misused-clause-moved c = λ texts limits moves before h g uses.
    let slot = c.args.slot in
    let later = moves ++ Move slot ∷ [] in
    let moved = is_moved texts limits moves slot before c.args.self.now.run h.run g in
    let misused = answered (λ x. x.misused) texts limits later c.args.self.now.run g true (c.misused.ensures texts limits later g ∙ ap Some c.if-misused.true) in
    after_move texts limits moves slot _ c.args.self.now h g
    (stayed h.run.world g.world c.args.self.now.records slot moved ((c.records_follow_moves.ensures h.run.world g.world slot moved).0 misused) h.records)
    refl refl refl

pub returns-clause-moved : goal.returns-clause-moved
returns-clause-moved c = λ texts limits moves before h g uses.
    let slot = c.args.slot in
    let run = c.args.self.now.run in
    let later = moves ++ Move slot ∷ [] in
    let w = h.run.world in
    let name = option_map (name_of (words_of run)) c.args.used in
    let moved = is_moved texts limits moves slot before run h.run g in
    let right = answered (λ x. x.misused) texts limits later run g false (c.misused.ensures texts limits later g ∙ ap Some c.if-misused.false) in
    let records = (c.records_follow_moves.ensures w g.world slot moved).1 right in
    let table = table_is c.tables_of_runs.ensures texts limits moves before h.run in
    let due = answered (λ x. use_due (in_slot x.world slot)) texts limits moves before h.run name uses in
    let below = slot_within w g.world c.args.self.now.records slot moved h.records in
    let used =
    subst (λ o. AreKept w.table (changed_at slot (with_uses (uses_by w.table o) (open_in w slot)) (open_in w)) w.closed c.record_if_used.new.records)
    (sym due)
    (c.in_ok-record_if_used.ensures.kept (versions_by texts moves) w.table (open_in w) w.closed table.0 h.began (λ n e. records.defined n (due ∙ e))
    below h.records.kept) in
    on_ok_weaker c.settle.result
    (λ kept. after_move texts limits moves slot _ _ h g
    (settled w g.world c.settle.new.self slot c.stand_of-stand.result moved records
    (answered (λ x. stand_in (in_slot x.world slot)) texts limits later run g c.stand_of-stand.result (c.stand_of-stand.ensures texts limits later g))
    (c.settle.ensures.count ∙ c.in_ok-record_if_used.ensures.count ∙ h.records.count) kept)
    (c.settle.ensures.count ∙ c.in_ok-record_if_used.ensures.count) refl refl)
    (c.settle.ensures.kept w.table (changed_at slot (with_uses (use_made w slot) (open_in w slot)) (open_in w)) w.closed table.1
    (subst (λ n. slot < n) (sym c.in_ok-record_if_used.ensures.count) below) used)
