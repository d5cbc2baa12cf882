-- A run whose machine is seen as before.
use Rattle.std.proofs.Common.{◌≡◌, ℕ, List, length, Result, Ok, Err, refl, sym, subst, ap, ◌∙◌, arith}
use Rattle.std.specs.Prelude.{IfOk}
use Rattle.std.specs.declared.alloc.AllocError.{AllocError}
use Rattle.c_tree.specs.BareDef.{BareDef}
use Rattle.source_model.specs.Worlds.{Limits}
use Rattle.source_model.specs.Runs.{SourceMove}
use Rattle.run_machine.specs.Machines.{IsSameRun}
use Rattle.code_image.specs.Images.{IsImage}
use Rattle.code_machine.specs.declared.machine.CodeMachine.{CodeMachine}
use Rattle.code_machine.specs.declared.work.Work.{Work}
use Rattle.code_machine.specs.Copies.{IsSameCode, work_image}
use Rattle.code_machine.specs.Seen.{image_of, output_of, words_of}
use Rattle.code_machine.specs.Working.{SameMachine}
use Rattle.compiled_run.specs.declared.run.CompiledRun.{CompiledRun}
use Rattle.compiled_run.specs.Compiled.{IsCompiledRun, Lasts, Spent, compiled_shown}
use Rattle.compiled_run.specs.Works.{WorksFor}
use Rattle.compiled_run.proofs.RunsAfter.{unchanged}

module _ (r : CompiledRun) (m : CodeMachine) (same : SameMachine r.machine m) where
  abbrev new : CompiledRun
  new = record r { machine = m }

  pub same_run : IsSameRun (compiled_shown r) (compiled_shown new)
  same_run = record {
    run = λ texts limits moves h. unchanged texts limits moves r.machine r.tables.items r.kept h m (same.run texts h.machine_is) same.versions same.world same.output;
    texts = (refl, ap words_of same.image, λ texts limits moves needs. needs);
    kept = refl;
  }

  pub still_spent : (n : ℕ) → Spent n r → Spent n new
  still_spent n s =
      let long : length (output_of m) ≡ length (output_of r.machine) = ap (λ (bytes : List ℕ). length bytes) same.output in
      let short = s.short in
      record {
        moves = s.moves;
        used = same.used s.moves s.used;
        within = s.within;
        short = omega (arith, long, short);
        works = s.works;
      }

  pub still_lasts : (n : ℕ) → Lasts n r → Lasts n new
  still_lasts n l = record { spent = still_spent n l.spent; emptied = same.output ∙ l.emptied }

-- the code of a work of a run is the run's
pub code_is : (r : CompiledRun) (w : Work)
    → (texts : List (List BareDef)) × (limits : Limits) × (moves : List SourceMove) × IsCompiledRun texts limits moves r × WorksFor texts w
    → IsSameCode (image_of r.machine) (work_image w)
code_is r w (texts, limits, moves, run, works) = record { texts = texts; first = run.machine_is.image_is; second = works }

-- and room for the work of a run is one
pub works : (r : CompiledRun) (made : Result Work AllocError) → IfOk made (λ w. work_image w ≡ image_of r.machine)
    → IfOk made (λ w. (texts : List (List BareDef)) (limits : Limits) (moves : List SourceMove) → IsCompiledRun texts limits moves r → WorksFor texts w)
works r (Ok w) same = λ texts limits moves h. subst (IsImage texts) (sym same) h.machine_is.image_is
works r (Err e) same = tt

-- a work with the same code is of the same texts
pub works_still : (old new : Work) → work_image new ≡ work_image old → (texts : List (List BareDef)) → WorksFor texts old → WorksFor texts new
works_still old new same texts works = subst (IsImage texts) (sym same) works
