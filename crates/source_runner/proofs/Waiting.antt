-- What a lock waits for.
use Rattle.std.proofs.Common.{◌≡◌, ℕ, Bool, Option, Some, None, if◌then◌else◌, sym, ap, ◌∙◌}
use Rattle.c_tree.specs.BareExpr.{Bytes}
use Rattle.source_model.specs.Waits.{ForMutex, Waiting, held_by}
use Rattle.source_model.specs.Worlds.{World, holder_of}
use Rattle.resolved_tree.specs.declared.words.Word.{Word}
use Rattle.source_runner.specs.declared.machine.Machine.{Machine}
use Rattle.source_runner.specs.Machines.{StandsFor}
use Rattle.resolved_tree.specs.Nodes.{Table, word}
use Rattle.source_programs.specs.Programs.{table_of}
use Rattle.source_data.specs.Stores.{with_store}
use Rattle.source_data.proofs.Performing.{other_number, same_number}

-- the holder that was found is the world's
pub holder_is : (m : Machine) (w : World) (t : Table) (name : Word) (holder : Option ℕ) → StandsFor m w → t ≡ table_of m.program
    → holder ≡ holder_of (with_store t m.store w) (word t name) → holder_of w (word (table_of m.program) name) ≡ holder
holder_is m w t name holder h same found =
    let at : Table → Option ℕ = λ u. holder_of (with_store u m.store w) (word u name) in
    let in_world : World → Option ℕ = λ v. holder_of v (word (table_of m.program) name) in
    ap in_world h.store ∙ sym (ap at same) ∙ sym found

-- another slot holds the mutex
pub others_hold : (name text : Bytes) (slot holder : ℕ) (found : Option ℕ) → text ≡ name → found ≡ Some holder
    → (holder ≡ slot → ⊥) → Some (ForMutex text holder) ≡ held_by name slot found
others_hold name text slot holder found same is apart =
    let by : Bool → Option Waiting = λ b. if b then None else Some (ForMutex name holder) in
    ap (λ n. Some (ForMutex n holder)) same ∙ sym (ap by (other_number holder slot apart)) ∙ ap (held_by name slot) (sym is)

-- the slot itself holds it
pub itself_holds : (name : Bytes) (slot holder : ℕ) (found : Option ℕ) → found ≡ Some holder → holder ≡ slot
    → None ≡ held_by name slot found
itself_holds name slot holder found is same =
    let by : Bool → Option Waiting = λ b. if b then None else Some (ForMutex name holder) in
    sym (ap by (same_number holder slot same)) ∙ ap (held_by name slot) (sym is)
