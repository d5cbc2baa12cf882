-- One more line of notes.
use Rattle.std.proofs.Common.{◌≡◌, ◌∙◌, ◌++◌, ℕ, List, [], ◌∷◌, sym, ap, append-nil, append_assoc}
use Rattle.std.specs.List.{flat_map}
use Rattle.fault_notes.specs.Notes.{AreNotes, note_line}

flat_more : (f : List ℕ → List ℕ) (lines : List (List ℕ)) (one : List ℕ) → flat_map f (lines ++ one ∷ []) ≡ flat_map f lines ++ f one
flat_more f [] one = append-nil (f one)
flat_more f (line ∷ lines) one =
    ap (λ l. f line ++ l) (flat_more f lines one) ∙ sym (append_assoc (f line) (flat_map f lines) (f one))

pub notes_more : (mark text more bytes : List ℕ) → more ≡ text ++ note_line mark bytes → AreNotes mark text → AreNotes mark more
notes_more mark text more bytes is notes = record {
  lines = notes.lines ++ bytes ∷ [];
  are = is ∙ ap (λ l. l ++ note_line mark bytes) notes.are ∙ sym (flat_more (note_line mark) notes.lines bytes);
}
