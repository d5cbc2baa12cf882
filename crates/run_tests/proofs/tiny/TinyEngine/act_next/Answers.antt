use Rattle.std.proofs.Common.{◌∙◌, ◌++◌, Some, ap, length, refl, sym}
use Rattle.run_types.specs.declared.run.Event.TheVariants.{Move, CheckIn}
use Rattle.source_model.specs.Guards.{Guard}
use Rattle.source_model.specs.Journals.{happens}
use Rattle.source_model.specs.Schedules.{act_of}
use Rattle.run_tests.specs.SmallRun.{guard_at}
use Rattle.run_tests.specs.declared.tiny.Stage.TheVariants.{Moved, Passed}
use Rattle.run_tests.proofs.OneSlot.{one_slot}
use Rattle.run_tests.proofs.tiny.TinyEngine.act_next.Goals as goal

pub returns-in-Start-clause-turned : goal.returns-in-Start-clause-turned
returns-in-Start-clause-turned c = λ asks setup g goes.
    let is = goes.there.1 ∙ ap guard_at c.in-Start.is in (
      sym (ap (λ (x : Guard). act_of x 0) (sym is) ∙ one_slot g c.args._last (ap (λ (x : Guard). length x.seats) is) goes.fits),
      record {
        after = guard_at Moved;
        happens = λ rules rows. ap (happens rules setup (Move 0)) is;
        there = (goes.there.0, refl);
        grew = λ before shown. shown ∙ ap (λ (x : Guard). Some (before ++ x.world.output)) is;
      },
    )

pub returns-in-Moved-clause-turned : goal.returns-in-Moved-clause-turned
returns-in-Moved-clause-turned c = λ asks setup g goes.
    let is = goes.there.1 ∙ ap guard_at c.in-Moved.is in (
      sym (ap (λ (x : Guard). act_of x 0) (sym is) ∙ one_slot g c.args._last (ap (λ (x : Guard). length x.seats) is) goes.fits),
      record {
        after = guard_at Passed;
        happens = λ rules rows. ap (happens rules setup (CheckIn 0)) is;
        there = (goes.there.0, refl);
        grew = λ before shown. shown ∙ ap (λ (x : Guard). Some (before ++ x.world.output)) is;
      },
    )

pub returns-in-Passed-clause-turned : goal.returns-in-Passed-clause-turned
returns-in-Passed-clause-turned c = λ asks setup g goes.
    let is = goes.there.1 ∙ ap guard_at c.in-Passed.is in (
      sym (ap (λ (x : Guard). act_of x 0) (sym is) ∙ one_slot g c.args._last (ap (λ (x : Guard). length x.seats) is) goes.fits),
      record { stays = goes.there; silent = refl },
    )
