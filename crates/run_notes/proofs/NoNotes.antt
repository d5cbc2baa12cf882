-- No lines are notes.
use Rattle.std.proofs.Common.{ℕ, List, [], refl}
use Rattle.fault_notes.specs.Notes.{AreNotes}

pub no_notes : (mark : List ℕ) → AreNotes mark []
no_notes mark = record { lines = []; are = refl }
