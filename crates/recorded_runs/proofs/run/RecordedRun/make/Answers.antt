use Rattle.std.proofs.Common.{◌≡◌, refl, subst}
use borrow.Enum.Total.{values_d}
use Rattle.source_runner.specs.contracts.run.SourceMove.{enum}
use Rattle.source_runner.specs.declared.run.SourceMove.TheVariants.{Move}
use Rattle.recorded_runs.specs.RecordedRuns.{Steps}
use Rattle.recorded_runs.proofs.Runs.{by_slot}
use Rattle.recorded_runs.proofs.run.RecordedRun.make.Goals as goal

pub returns-clause-stepped : goal.returns-clause-stepped
returns-clause-stepped c = λ texts limits moves h.
    subst (λ m. Steps texts limits moves m c.make_move.new.self c.make_move.result)
    (by_slot (λ m. Move (values_d enum 0 (0, tt) m).0 ≡ m) (λ slot. refl) c.args.m) (c.make_move.ensures.stepped texts limits moves h)
