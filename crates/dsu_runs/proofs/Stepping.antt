-- What came of an event, by what the engine answered.
use Rattle.std.proofs.Common.{◌≡◌, ℕ, List, Option, Result, Ok, Err, false, true, refl, ap}
use Rattle.std.specs.Prelude.{IfOk, OnErr}
use Rattle.run_types.specs.declared.run.Event.{Event}
use Rattle.run_types.specs.declared.run.Event.TheVariants.{Decide}
use Rattle.source_model.specs.Guards.{Guard, Setup}
use Rattle.source_model.specs.Schedules.{makes_move}
use Rattle.dsu_runs.specs.declared.engine.Made.{Made}
use Rattle.dsu_runs.specs.declared.engine.Made.TheVariants as made
use Rattle.dsu_runs.specs.declared.engine.Undecided.{Undecided}
use Rattle.dsu_runs.specs.declared.engine.Undecided.TheVariants as why
use Rattle.dsu_runs.specs.declared.running.Step.TheVariants as steps
use Rattle.dsu_runs.specs.Engines.{MakesAt}
use Rattle.dsu_runs.specs.Turns.{Steps, step_by}
use Rattle.dsu_runs.specs.UndefinedNames.{UsesUndefined}

module _ (at : Guard → Type 0) (setup : Setup) (e : Event) (g : Guard) (told now : Option (List ℕ)) where
  -- no move is a decision
  no_move : (k : ℕ) → e ≡ Decide k → makes_move e ≡ false
  no_move k is = ap makes_move is

  pub stepped : (r : Result Made Undecided) (P : Type 0) → (P → makes_move e ≡ false → at g)
      → IfOk r (MakesAt at setup e g told now) → OnErr r (now ≡ told) → OnErr r P
      → (r ≡ Err why.Misused → (k : ℕ) × (e ≡ Decide k)) → (r ≡ Err why.Misused → g.world.misused ≡ true)
      → (r ≡ Err why.UndefinedName → (k : ℕ) × (e ≡ Decide k))
      → (r ≡ Err why.UndefinedName → (k : ℕ) → e ≡ Decide k → UsesUndefined setup k)
      → Steps at setup e g told now (step_by r)
  stepped (Ok made.Done) P there makes silent stays decides misused offers undefined = makes
  stepped (Ok made.CannotHappen) P there makes silent stays decides misused offers undefined = makes
  stepped (Ok made.SinkFailed) P there makes silent stays decides misused offers undefined = makes
  stepped (Err why.Memory) P there makes silent stays decides misused offers undefined = silent
  stepped (Err why.Misused) P there makes silent stays decides misused offers undefined =
      let decision = decides refl in
      record {
        offer = decision.0;
        decides = decision.1;
        because = misused refl;
        stays = there stays (no_move decision.0 decision.1);
        silent = silent;
      }
  stepped (Err why.UndefinedName) P there makes silent stays decides misused offers undefined =
      let decision = offers refl in
      record {
        offer = decision.0;
        decides = decision.1;
        because = undefined refl decision.0 decision.1;
        stays = there stays (no_move decision.0 decision.1);
        silent = silent;
      }

-- out of memory the engine stays, where it says so
pub still_there : (r : Result Made Undecided) (P : Type 0) → OnErr r P → step_by r ≡ steps.Memory → P
still_there (Ok made.Done) P stays is = cc
still_there (Ok made.CannotHappen) P stays is = cc
still_there (Ok made.SinkFailed) P stays is = cc
still_there (Err why.Memory) P stays is = stays
still_there (Err why.Misused) P stays is = stays
still_there (Err why.UndefinedName) P stays is = stays
