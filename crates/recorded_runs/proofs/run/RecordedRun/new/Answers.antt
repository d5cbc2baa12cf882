use Rattle.std.proofs.Common.{[], ◌∷◌, map, refl, subst, arith}
use Rattle.source_model.specs.Worlds.{Limits}
use Rattle.source_programs.specs.Programs.{text_in}
use Rattle.version_spans.specs.Kept.{AreBeginnings}
use Rattle.recorded_runs.proofs.Runs.{first_run, first_text}
use Rattle.recorded_runs.proofs.run.RecordedRun.new.Goals as goal

pub returns-clause-run : goal.returns-clause-run
returns-clause-run c =
    let limits : Limits = record { objects = c.args.objects; slots = c.args.slots } in
    let records = c.in_ok-records.ensures in
    first_run (map text_in c.args.texts.items) limits _ c.max.result c.in_ok-new.ensures.run records.0
    (omega (arith, c.max.ensures)) (omega (arith, c.ranges.slots.fits)) records.1
    (subst (λ t. AreBeginnings (t ∷ []) c.in_ok-began.began) (first_text c.args.texts.items c.index.result.now c.requires c.index.ensures) c.in_ok-began.ensures) refl
