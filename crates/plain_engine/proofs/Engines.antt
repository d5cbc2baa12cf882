-- The events of the engine: those of its state, with what the sink has.
use Rattle.std.proofs.Common.{◌≡◌, ℕ, ◌≤◌, Bool, true, false, List, [], ◌++◌, length, Option, Some, refl, sym, ◌∙◌, ap, subst, arith, length-append}
use Rattle.std.specs.Prelude.{◌≢◌, IfOk, Ok, Err, Result as Outcome, if◌then◌else◌}
use Rattle.std.proofs.lemmas.List.{append-nil}
use Rattle.run_types.specs.declared.run.Event.{Event}
use Rattle.c_tree.specs.BareDef.{BareDef}
use Rattle.source_model.specs.Worlds.{Limits}
use Rattle.source_model.specs.Runs.{SourceMove}
use Rattle.source_model.specs.Guards.{Guard, Setup, lines_written}
use Rattle.dsu_runs.specs.Engines.{Makes, MakesAt, Refuses}
use Rattle.dsu_runs.specs.declared.engine.Made.{Made}
use Rattle.dsu_runs.specs.declared.engine.Made.TheVariants.{Done, CannotHappen, SinkFailed}
use Rattle.source_model.specs.JournalLaws.{texts_of}
use Rattle.run_machine.specs.Machines.{IsSameRun, Shown}
use Rattle.plain_engine.specs.Plain.{IsEngineAt, IsStateAt, ShownState, Wrote, lines_among}
use Rattle.plain_engine.specs.Steps.{ComesTo, Happened, Stayed}
use Rattle.plain_engine.proofs.Moving.{unmoved}
use Rattle.plain_engine.proofs.Printing.{grew_all, grew_partly, some_printed}

-- an event that can't happen
pub refuses : (setup : Setup) (e : Event) (g : Guard) (old new : ShownState) (printed written : ℕ) (told : Option (List ℕ))
    → IsEngineAt setup g old printed written → Stayed setup e g new → new.run.kept ≡ old.run.kept
    → Refuses (λ x. IsEngineAt setup x new printed written) setup e g told told
refuses setup e g old new printed written told at h kept = record {
  never = h.never;
  stays = record {
    state = h.stays;
    kept = subst (λ n. n ≤ printed) (sym kept) at.kept;
    printed = at.printed;
    written = at.written;
  };
  silent = refl;
}

-- one that prints nothing
quietly : (setup : Setup) (e : Event) (g : Guard) (old new : ShownState) (printed written : ℕ) (told : Option (List ℕ))
    → IsEngineAt setup g old printed written → Happened setup e g new [] → new.run.kept ≡ old.run.kept
    → Makes (λ x. IsEngineAt setup x new printed written) setup e g told told
quietly setup e g old new printed written told at h kept = record {
  after = h.after;
  happens = h.happens;
  there = record {
    state = h.there;
    kept = subst (λ n. n ≤ printed) (sym kept) at.kept;
    printed = at.printed ∙ ap length (sym same);
    written = at.written ∙ ap lines_among (sym same);
  };
  grew = λ before is. is ∙ ap (λ o. Some (before ++ o)) (sym same);
}
  where
    same : h.after.world.output ≡ g.world.output
    same = h.grew ∙ append-nil g.world.output

pub comes : (setup : Setup) (e : Event) (g : Guard) (old new : ShownState) (printed written : ℕ) (told : Option (List ℕ)) (done : Bool)
    → IsEngineAt setup g old printed written → ComesTo setup e g new done → new.run.kept ≡ old.run.kept
    → MakesAt (λ x. IsEngineAt setup x new printed written) setup e g told told (if done then Done else CannotHappen)
comes setup e g old new printed written told true at h kept = quietly setup e g old new printed written told at h kept
comes setup e g old new printed written told false at h kept = refuses setup e g old new printed written told at h kept

-- a move, whose print was handed to the sink
pub moves : (setup : Setup) (e : Event) (g : Guard) (old mid new : ShownState) (printed written printed2 written2 : ℕ)
    (told now : Option (List ℕ)) (more : List ℕ) (answer : Made)
    → IsEngineAt setup g old printed written → (h : Happened setup e g mid more) → IsStateAt setup h.after new
    → (answer ≡ Done → new.run.kept ≤ printed2) → Wrote h.after.world.output printed told now printed2 answer
    → (answer ≡ Done → written2 ≡ lines_written h.after.world)
    → MakesAt (λ x. IsEngineAt setup x new printed2 written2) setup e g told now answer
moves setup e g old mid new printed written printed2 written2 told now more Done at h there kept wrote lines = record {
  after = h.after;
  happens = h.happens;
  there = record { state = there; kept = kept refl; printed = wrote.0; written = lines refl };
  grew = grew_all told now g.world.output more h.after.world.output printed h.grew at.printed wrote.1;
}
moves setup e g old mid new printed written printed2 written2 told now more SinkFailed at h there kept wrote lines = record {
  after = h.after;
  happens = h.happens;
  longer = some_printed g.world.output more h.after.world.output printed wrote.0 h.grew at.printed wrote.1;
  grew = grew_partly told now g.world.output more h.after.world.output printed wrote.0 h.grew at.printed wrote.1 wrote.2;
}
moves setup e g old mid new printed written printed2 written2 told now more CannotHappen at h there kept wrote lines = absurd wrote

-- what was printed is where the sink's bytes end, or after it
pub within : (setup : Setup) (e : Event) (g : Guard) (old mid : ShownState) (printed written : ℕ) (more : List ℕ)
    → IsEngineAt setup g old printed written → (h : Happened setup e g mid more) → printed ≤ length h.after.world.output
within setup e g old mid printed written more at h =
    let long = ap length h.grew ∙ length-append g.world.output more in let from = at.printed in omega (arith, from, long)

-- nothing is said of the sink
pub is_written : (done : Bool) (answer : Made) → answer ≡ (if done then Done else CannotHappen) → answer ≢ SinkFailed
is_written true answer is failed = let e = sym is ∙ failed in cc
is_written false answer is failed = let e = sym is ∙ failed in cc

pub is_written_ok : {E : Type 0} (done : Bool) (answer : Made) (r : Outcome Made E) → answer ≡ (if done then Done else CannotHappen)
    → r ≡ Ok answer → r ≢ Ok SinkFailed
is_written_ok done answer r is was failed = let e : answer ≡ SinkFailed = cc in is_written done answer is e

-- a machine that is the same runs
pub same_engine : (setup : Setup) (g : Guard) (s : ShownState) (printed written : ℕ) (run : Shown) → IsSameRun s.run run
    → IsEngineAt setup g s printed written → IsEngineAt setup g (record s { run = run }) printed written
same_engine setup g s printed written run same at = record {
  state = unmoved setup g s at.state run same.texts (same.run (texts_of setup) setup.limits at.state.run.moves at.state.run.run);
  kept = subst (λ n. n ≤ printed) (sym same.kept) at.kept;
  printed = at.printed;
  written = at.written;
}

-- room for the work of a machine is room for that of an engine over it
pub works_of : {W E : Type 0} (s : ShownState) (printed written : ℕ) (works : List (List BareDef) → W → Type 0) (r : Outcome W E)
    → IfOk r (λ w. (texts : List (List BareDef)) (limits : Limits) (moves : List SourceMove) → s.run.is_run texts limits moves
    → works texts w)
    → IfOk r (λ w. (setup : Setup) (g : Guard) → IsEngineAt setup g s printed written → works (texts_of setup) w)
works_of s printed written works (Ok w) is = λ setup g at. is (texts_of setup) setup.limits at.state.run.moves at.state.run.run
works_of s printed written works (Err e) is = tt
