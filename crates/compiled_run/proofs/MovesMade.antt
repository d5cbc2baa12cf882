-- What is answered of a move that was made.
use Rattle.std.proofs.Common.{◌≡◌, ℕ, Bool, false, List, [], ◌∷◌, ◌++◌, Some, option_map, sym, subst, ap, ◌∙◌}
use Rattle.std.specs.Prelude.{IfOk, Ok, Err, Result}
use Rattle.std.specs.declared.alloc.AllocError.{AllocError}
use Rattle.c_tree.specs.BareDef.{BareDef}
use Rattle.source_model.specs.Guards.{move_leads}
use Rattle.source_model.specs.Runs.{SourceMove, Move, source_run}
use Rattle.source_model.specs.Worlds.{Limits, in_slot, is_over}
use Rattle.run_machine.specs.declared.machine.MoveMade.{MoveMade}
use Rattle.run_machine.specs.declared.machine.Moved.{Moved}
use Rattle.run_machine.specs.declared.machine.Moved.TheVariants.{Done, CannotMove}
use Rattle.run_machine.specs.Machines.{HasMoved}
use Rattle.code_machine.specs.Seen.{code_world}
use Rattle.compiled_run.specs.declared.run.CompiledRun.{CompiledRun}
use Rattle.compiled_run.specs.Compiled.{IsCompiledRun, IsMade, compiled_shown}
use Rattle.compiled_run.proofs.Asking.{threads_are}

-- what holds of each move that was made holds of the answer
pub each_made : (P : Moved → Type 0) (few : Type 0) (r : Result Moved AllocError) (leads : Bool) (before after : ℕ)
    → IfOk r (IsMade leads before after) → IfOk r (λ m. few)
    → ((made : MoveMade) → few → made.leads ≡ leads → (made.starts ≡ false → after ≡ before) → P (Done made)) → IfOk r P
each_made P few (Ok (Done made)) leads before after is within each = each made within is.0 is.1
each_made P few (Ok CannotMove) leads before after is within each = absurd is
each_made P few (Err e) leads before after is within each = is

pub was_made : (r : Result Moved AllocError) (leads : Bool) (before after : ℕ) → IfOk r (IsMade leads before after) → r ≡ Ok CannotMove → ⊥
was_made r leads before after is e = subst (λ (x : Result Moved AllocError). IfOk x (IsMade leads before after)) e is

-- a move was made, by what is known of the run before it and after it
pub has_moved : (texts : List (List BareDef)) (limits : Limits) (ms : List SourceMove) (t : ℕ) (old new : CompiledRun)
    → IsCompiledRun texts limits ms old → IsCompiledRun texts limits (ms ++ Move t ∷ []) new → (made : MoveMade) (leads : Bool)
    → (option_map (λ x. is_over x.world) (source_run texts limits ms) ≡ Some false
    → option_map (λ x. move_leads (in_slot x.world t)) (source_run texts limits ms) ≡ Some leads)
    → made.leads ≡ leads
    → (made.starts ≡ false → (code_world new.machine).threads ≡ (code_world old.machine).threads)
    → HasMoved texts limits ms t (compiled_shown new) made
has_moved texts limits ms t old new h now made leads led leads_is same = record {
  run = now;
  leads = λ going. led going ∙ ap Some (sym leads_is);
  starts = λ none.
      threads_are texts limits (ms ++ Move t ∷ []) new.machine new.tables.items new.kept now
      ∙ ap Some (same none)
      ∙ sym (threads_are texts limits ms old.machine old.tables.items old.kept h);
}
