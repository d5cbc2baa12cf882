use Rattle.std.proofs.Common.{[], not, refl, ap, subst, ◌∙◌}
use Rattle.std.specs.Prelude.{slice_get, slice_index_or}
use Rattle.source_model.specs.Runs.{Install}
use Rattle.version_laws.specs.Histories.{versions_by}
use Rattle.source_runner.specs.SourceRuns.{CameBy}
use Rattle.recorded_runs.specs.RecordedRuns.{open_in}
use Rattle.recorded_runs.proofs.Runs.{after_install, all_main, asked, cannot_install, main_at, no_text, on_err, some_text, table_is, texts_are, with_began, with_run}
use Rattle.recorded_runs.proofs.run.RecordedRun.install.Goals as goal

pub returns-then-is_none-clause-made : goal.returns-then-is_none-clause-made
returns-then-is_none-clause-made c = λ texts limits moves h named are.
    let run = c.args.self.now.run in (
      h,
      cannot_install texts limits moves c.args.number run h.run
          (no_text texts c.args.number c.text.result (asked texts limits moves run c.args.number c.text.result h.run c.text.ensures)
          (c.is_none.ensures ∙ ap not c.if-is_none.true)),
    )

pub returns-in_err-follow_texts-clause-stays : goal.returns-in_err-follow_texts-clause-stays
returns-in_err-follow_texts-clause-stays c =
    on_err c.from_residual.result
    (λ texts limits moves h. with_began texts limits moves c.args.self.now c.follow_texts.new.began h
    (c.in_err-follow_texts.ensures.stays (versions_by texts moves) h.began))

pub returns-in-Ok-Done-clause-made : goal.returns-in-Ok-Done-clause-made
returns-in-Ok-Done-clause-made c = λ texts limits moves h named are.
    let old = c.args.self.now in
    let k = c.args.number in
    let q = slice_index_or texts k [] in
    let w = h.run.world in
    let there = some_text texts k c.text.result (asked texts limits moves old.run k c.text.result h.run c.text.ensures)
    (c.is_none.ensures ∙ ap not c.if-is_none.false) in
    let same = texts_are texts limits moves old.run h.run in
    let began = c.in_ok-follow_texts.ensures.follows (versions_by texts moves) (ap (λ ts. slice_get ts old.text) same ∙ h.text) q
    (ap (λ ts. slice_get ts k) same ∙ there) h.began in
    let made = subst (CameBy texts limits moves (Install k) c.install.new.self) c.in-Ok-Done.field-0-is
    (c.in-Ok-Done.ensures.made texts limits moves h.run named are) in
    after_install texts limits moves k q old _ h made there
    (c.follow.ensures.kept (versions_by texts moves) q w.table (open_in w) w.closed
    (table_is c.tables_of_runs.ensures texts limits moves old.run h.run).0 (main_at texts k q (all_main texts limits moves old.run h.run) there) began
    h.records.kept)
    c.follow.ensures.count began refl

pub returns-in-Ok-CannotMove-clause-made : goal.returns-in-Ok-CannotMove-clause-made
returns-in-Ok-CannotMove-clause-made c = λ texts limits moves h named are.
    let old = c.args.self.now in
    let k = c.args.number in
    let q = slice_index_or texts k [] in
    let there = some_text texts k c.text.result (asked texts limits moves old.run k c.text.result h.run c.text.ensures)
    (c.is_none.ensures ∙ ap not c.if-is_none.false) in
    let same = texts_are texts limits moves old.run h.run in
    let began = c.in_ok-follow_texts.ensures.follows (versions_by texts moves) (ap (λ ts. slice_get ts old.text) same ∙ h.text) q
    (ap (λ ts. slice_get ts k) same ∙ there) h.began in
    let came = subst (CameBy texts limits moves (Install k) c.install.new.self) c.in-Ok-CannotMove.field-0-is
    (c.in-Ok-CannotMove.ensures.made texts limits moves h.run named are) in (
      with_began texts limits moves (record old { run = c.install.new.self }) c.forget_last.new.self
          (with_run texts limits moves old c.install.new.self h came.0) (c.forget_last.ensures (versions_by texts moves) q began),
      came.1,
    )

pub returns-in-Err-clause-stays : goal.returns-in-Err-clause-stays
returns-in-Err-clause-stays c = λ texts limits moves h.
    let old = c.args.self.now in
    let k = c.args.number in
    let q = slice_index_or texts k [] in
    let there = some_text texts k c.text.result (asked texts limits moves old.run k c.text.result h.run c.text.ensures)
    (c.is_none.ensures ∙ ap not c.if-is_none.false) in
    let same = texts_are texts limits moves old.run h.run in
    let began = c.in_ok-follow_texts.ensures.follows (versions_by texts moves) (ap (λ ts. slice_get ts old.text) same ∙ h.text) q
    (ap (λ ts. slice_get ts k) same ∙ there) h.began in
    with_began texts limits moves (record old { run = c.install.new.self }) c.forget_last-in-Err.new.self
    (with_run texts limits moves old c.install.new.self h (c.in-Err.ensures.stays texts limits moves h.run))
    (c.forget_last-in-Err.ensures (versions_by texts moves) q began)
