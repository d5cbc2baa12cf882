-- Lines that explain another line. Each begins with a mark, by which a reader knows it.
use Rattle.std.specs.Prelude.{◌≡◌, ℕ, ◌==◌, nat_lt, not, Bool, ◌&&◌, ◌||◌, List, ◌++◌, map, codes, false, if◌then◌else◌}
use Rattle.std.specs.List.{flat_map, list_any}

-- a byte that a line can't show: one that controls a terminal, but for the tab
abbrev pub is_control : ℕ → Bool
is_control byte = (nat_lt byte 32 && not (byte == 9)) || (byte == 127)

-- a byte as a line shows it
abbrev pub shown : ℕ → ℕ
shown byte = if is_control byte then 63 else byte

-- a line with some bytes, after a mark
abbrev pub note_line : List ℕ → List ℕ → List ℕ
note_line mark bytes = mark ++ map shown bytes ++ codes "\n"

-- lines of notes, one after the other
pub record AreNotes (mark text : List ℕ) : Type 0 where
  pub lines : List (List ℕ)
  pub are : text ≡ flat_map (note_line mark) lines

-- a line of a note ends with the only newline that it has after its mark
abbrev pub LinesEnd : Type 0
LinesEnd = (bytes : List ℕ) → list_any (λ b. b == 10) (map shown bytes) ≡ false
