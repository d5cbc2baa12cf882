-- What is said of a run of some texts by their code.
use Rattle.std.specs.Prelude.{◌≡◌, ℕ, ◌+◌, ◌*◌, ◌≤◌, Bool, false, List, [], length, Some}
use Rattle.std.specs.Arc.{arc_value}
use Rattle.std.proofs.Common.{ap, sym, ◌∙◌}
use Rattle.std.proofs.lemmas.Option.{same_Some}
use Rattle.c_tree.specs.BareDef.{BareDef}
use Rattle.source_model.specs.Versions.{current}
use Rattle.source_model.specs.Worlds.{World, Limits}
use Rattle.source_model.specs.Runs.{SourceMove}
use Rattle.version_laws.specs.Histories.{versions_by}
use Rattle.object_store.specs.Handles.{creation_limit}
use Rattle.source_runner.specs.Queries.{Place}
use Rattle.source_runner.specs.SourceRuns.{world_after}
use Rattle.run_machine.specs.declared.machine.Moved.{Moved}
use Rattle.run_machine.specs.declared.machine.Moved.TheVariants.{Done, CannotMove}
use Rattle.run_machine.specs.Machines.{Shown}
use Rattle.word_data.specs.Lengths.{most_printed}
use Rattle.code_machine.specs.Queries as asked
use Rattle.code_machine.specs.Queries.{IsSettled}
use Rattle.code_machine.specs.Seen.{image_of, output_of, words_of}
use Rattle.code_machine.specs.Used.{HasUsed}
use Rattle.compiled_run.specs.declared.run.CompiledRun.{CompiledRun}
use Rattle.compiled_run.specs.CodeOfRuns.{IsRunOf}
use Rattle.compiled_run.specs.Needs.{NeedsOf}

abbrev pub IsCompiledRun : List (List BareDef) → Limits → List SourceMove → CompiledRun → Type 0
IsCompiledRun texts limits moves r = IsRunOf texts limits moves r.machine r.tables.items r.kept

-- its current version is the last one that was installed
pub counted : (texts : List (List BareDef)) (limits : Limits) (moves : List SourceMove) (r : CompiledRun) (w : World)
    → IsCompiledRun texts limits moves r → world_after texts limits moves ≡ Some w → current w.table ≡ length (versions_by texts moves)
counted texts limits moves r w is reached =
    ap (λ (w : World). current w.table) (same_Some w is.world (sym reached ∙ is.ran))
    ∙ is.stands.of.history.count
    ∙ sym (ap length is.are)

abbrev pub compiled_shown : CompiledRun → Shown
compiled_shown r = record {
  is_run = λ texts limits moves. IsCompiledRun texts limits moves r;
  needs = NeedsOf;
  trees = (arc_value r.texts).items;
  words = words_of (image_of r.machine);
  kept = r.kept;
  reached = λ texts limits moves is. (is.world, is.ran);
  counted = λ texts limits moves w is reached. counted texts limits moves r w is reached;
}

-- ---- moves that want no memory

-- it works, and it has numbers for so many moves more: all its moves together are 2^32 - 1 at most. Each printed as much as one print may
-- at most
pub record Spent (n : ℕ) (r : CompiledRun) : Type 0 where
  pub moves : ℕ
  pub used : HasUsed moves r.machine.run
  pub within : moves + n ≤ creation_limit
  pub short : r.kept + length (output_of r.machine) ≤ moves * most_printed
  pub works : r.failed ≡ false

-- and its output is forgotten
pub record Lasts (n : ℕ) (r : CompiledRun) : Type 0 where
  pub spent : Spent n r
  pub emptied : output_of r.machine ≡ []

-- ---- private work

-- no thread has private work to do, and moves leave none
abbrev pub CanBeAsked : CompiledRun → Type 0
CanBeAsked r = IsSettled r.machine

-- ---- a move that was made

-- by whether it led to a check-in, and how many threads were started before and after it
abbrev pub IsMade : Bool → ℕ → ℕ → Moved → Type 0
IsMade leads before after (Done made) = (made.leads ≡ leads) × (made.starts ≡ false → after ≡ before)
IsMade leads before after CannotMove = ⊥

-- ---- what is asked of code, as of the source machine

abbrev pub seen_place : asked.Place → Place
seen_place p = record { function = p.function; version = p.version; point = p.point }
