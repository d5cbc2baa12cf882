-- What a step of the source machine came to, as of a machine.
use Rattle.std.specs.Prelude.{◌≡◌, ◌==◌, not, ℕ, Bool, false, List, [], ◌∷◌, ◌++◌, Result, Ok, Err, IfOk, Some, option_map}
use Rattle.std.proofs.Common.{sym, ap, subst, ◌∙◌, arith}
use Rattle.std.proofs.lemmas.Bool.Decides.{nat_tests}
use Rattle.std.specs.declared.alloc.AllocError.{AllocError}
use Rattle.c_tree.specs.BareDef.{BareDef}
use Rattle.source_model.specs.Guards.{move_leads}
use Rattle.source_model.specs.Worlds.{Limits, in_slot, is_over}
use Rattle.source_model.specs.Runs.{SourceMove, Move, source_run}
use Rattle.source_runner.specs.SourceRuns as source
use Rattle.source_runner.specs.declared.run.SourceRun.{SourceRun}
use Rattle.source_runner.specs.declared.run.Stepped.{Stepped}
use Rattle.source_runner.specs.declared.run.Stepped.TheVariants.{Done, CannotMove}
use Rattle.run_machine.specs.declared.machine.Moved.TheVariants as moved
use Rattle.run_machine.specs.Machines.{CameBy, MovedBy}
use Rattle.run_machine.specs.Sources.{source_shown}

module _ (texts : List (List BareDef)) (limits : Limits) (moves : List SourceMove) (m : SourceMove) (new : SourceRun) where
  came : (s : Stepped) → source.CameBy texts limits moves m new s → CameBy texts limits moves m (source_shown new) s
  came Done is = is
  came CannotMove is = is

  pub came_ok : (r : Result Stepped AllocError) → IfOk r (source.CameBy texts limits moves m new)
      → IfOk r (CameBy texts limits moves m (source_shown new))
  came_ok (Ok s) is = came s is
  came_ok (Err e) is = is

-- what the move of a thread came to, by its answer
module _ (texts : List (List BareDef)) (limits : Limits) (moves : List SourceMove) (slot : ℕ) (new : SourceRun)
    (r : Result Stepped AllocError) (is : IfOk r (source.CameBy texts limits moves (Move slot) new)) where
  came_by : (s : Stepped) → r ≡ Ok s → source.CameBy texts limits moves (Move slot) new s
  came_by s e = subst (λ x. IfOk x (source.CameBy texts limits moves (Move slot) new)) e is

  pub none_moved : r ≡ Ok CannotMove → MovedBy texts limits moves slot (source_shown new) moved.CannotMove
  none_moved e = came_by CannotMove e

  -- by how many threads were started before and after it
  pub one_moved : r ≡ Ok Done → (leads starts : Bool) (before after : ℕ)
      → (option_map (λ x. is_over x.world) (source_run texts limits moves) ≡ Some false
      → option_map (λ x. move_leads (in_slot x.world slot)) (source_run texts limits moves) ≡ Some leads)
      → option_map (λ x. x.world.threads) (source_run texts limits moves) ≡ Some before
      → (source.IsRun texts limits (moves ++ Move slot ∷ []) new
      → option_map (λ x. x.world.threads) (source_run texts limits (moves ++ Move slot ∷ [])) ≡ Some after)
      → (starts ≡ false → after ≡ before)
      → MovedBy texts limits moves slot (source_shown new) (moved.Done (record { leads = leads; starts = starts }))
  one_moved e leads starts before after led threads later same =
      let run = came_by Done e in record {
        run = run;
        leads = led;
        starts = λ none. later run ∙ ap Some (same none) ∙ sym threads;
      }

-- two numbers of which it isn't so that they differ
pub same_number : (a b : ℕ) → not (a == b) ≡ false → a ≡ b
same_number a b e = grind (arith, nat_tests, e)
