-- The lines of a text by its newlines.
use Rattle.std.proofs.Common.{◌≡◌, ℕ, zero, suc, ◌<◌, ◌≤◌, List, [], ◌∷◌, ◌++◌, length, get_or, take, drop, refl, arith, eqb, true, false}
use Rattle.std.proofs.lemmas.Bool.{false_from_ne_true}
use Rattle.dsu_journal.specs.Journals.{lines}

-- no byte is a newline
abbrev pub NoNewline : List ℕ → Type 0
NoNewline [] = Unit {0}
NoNewline (c ∷ cs) = (eqb c 10 ≡ false) × NoNewline cs

-- a line and its newline before more text
pub line_ends : (line rest : List ℕ) → NoNewline line → lines (line ++ (10 ∷ rest)) ≡ line ∷ lines rest
line_ends [] rest none = refl
line_ends (c ∷ cs) rest none = rw (none.0, line_ends cs rest none.1)

-- a text up to its first newline, and what comes after it
pub first_line_of : (xs : List ℕ) (k : ℕ) → ((j : ℕ) → 0 ≤ j → j < k → eqb (get_or xs j 0) 10 ≡ true → ⊥) → eqb (get_or xs k 0) 10 ≡ true
    → k < length xs → lines xs ≡ take k xs ∷ lines (drop (suc k) xs)
first_line_of [] k none here within = absurd (omega (arith, within))
first_line_of (x ∷ xs) zero none here within = rw here
first_line_of (x ∷ xs) (suc k) none here within =
    let other : eqb x 10 ≡ false = false_from_ne_true (eqb x 10) (none 0 (omega arith) (omega arith)) in
    let later = first_line_of xs k (λ j low below. none (suc j) (omega arith) (omega arith)) here (omega arith) in
    rw (other, later)

-- a text without a newline
pub only_line : (xs : List ℕ) → 0 < length xs → ((j : ℕ) → 0 ≤ j → j < length xs → eqb (get_or xs j 0) 10 ≡ true → ⊥) → lines xs ≡ xs ∷ []
only_line [] some none = absurd (omega (arith, some))
only_line (x ∷ []) some none =
    let other : eqb x 10 ≡ false = false_from_ne_true (eqb x 10) (none 0 (omega arith) (omega arith)) in rw other
only_line (x ∷ y ∷ xs) some none =
    let other : eqb x 10 ≡ false = false_from_ne_true (eqb x 10) (none 0 (omega arith) (omega arith)) in
    let later = only_line (y ∷ xs) (omega arith) (λ j low below. none (suc j) (omega arith) (omega arith)) in
    rw (other, later)
