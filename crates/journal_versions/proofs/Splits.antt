-- A text at the first of some byte: a newline ends a line, a space a word.
use Rattle.std.proofs.Common.{◌≡◌, ℕ, zero, suc, ◌<◌, ◌≤◌, List, [], ◌∷◌, ◌++◌, length, get_or, take, drop, refl, ap, ap₂, arith, eqb, leb, cond, Bool, true, false, Some, None}
use Rattle.std.specs.Char.{is_ascii_digit}
use Rattle.std.specs.Str.{all_ascii_digits}
use Rattle.std.proofs.lemmas.Bool.{and_parts, eqb-true, false_from_ne_true, leb-true, ne_eqb}
use Rattle.std.proofs.lemmas.Option.{none-some, same_Some}
use Rattle.journal_versions.specs.Journals.{after_word, first_word, lines}

-- no byte is b
abbrev pub Without : ℕ → List ℕ → Type 0
Without b [] = Unit {0}
Without b (c ∷ cs) = (eqb c b ≡ false) × Without b cs

pub Without-append : (b : ℕ) (xs ys : List ℕ) → Without b xs → Without b ys → Without b (xs ++ ys)
Without-append b [] ys none others = others
Without-append b (c ∷ cs) ys none others = (none.0, Without-append b cs ys none.1 others)

-- digits have no byte that is less than each of them
pub digits_without : (b : ℕ) → b < 48 → (ds : List ℕ) → all_ascii_digits ds ≡ true → Without b ds
digits_without b low [] all = tt
digits_without b low (c ∷ cs) all =
    let p = and_parts (is_ascii_digit c) (all_ascii_digits cs) all in
    let from = leb-true 48 c (and_parts (leb 48 c) (leb c 57) p.0).0 in
    (ne_eqb c b (λ e. omega (arith, e, from)), digits_without b low cs p.1)

-- ---- lines

-- a line and its newline before more text
pub line_ends : (line rest : List ℕ) → Without 10 line → lines (line ++ (10 ∷ rest)) ≡ line ∷ lines rest
line_ends [] rest none = refl
line_ends (c ∷ cs) rest none = rw (none.0, line_ends cs rest none.1)

-- a text up to its first newline, and what comes after it
pub first_line_of : (xs : List ℕ) (k : ℕ) → ((j : ℕ) → 0 ≤ j → j < k → eqb (get_or xs j 0) 10 ≡ true → ⊥) → eqb (get_or xs k 0) 10 ≡ true
    → k < length xs → lines xs ≡ take k xs ∷ lines (drop (suc k) xs)
first_line_of [] k none here within = absurd (omega (arith, within))
first_line_of (x ∷ xs) zero none here within = rw here
first_line_of (x ∷ xs) (suc k) none here within =
    let other : eqb x 10 ≡ false = false_from_ne_true (eqb x 10) (none 0 (omega arith) (omega arith)) in
    let later = first_line_of xs k (λ j low below. none (suc j) (omega arith) (omega arith)) here (omega arith) in
    rw (other, later)

-- a text without a newline
pub only_line : (xs : List ℕ) → 0 < length xs → ((j : ℕ) → 0 ≤ j → j < length xs → eqb (get_or xs j 0) 10 ≡ true → ⊥) → lines xs ≡ xs ∷ []
only_line [] some none = absurd (omega (arith, some))
only_line (x ∷ []) some none =
    let other : eqb x 10 ≡ false = false_from_ne_true (eqb x 10) (none 0 (omega arith) (omega arith)) in rw other
only_line (x ∷ y ∷ xs) some none =
    let other : eqb x 10 ≡ false = false_from_ne_true (eqb x 10) (none 0 (omega arith) (omega arith)) in
    let later = only_line (y ∷ xs) (omega arith) (λ j low below. none (suc j) (omega arith) (omega arith)) in
    rw (other, later)

-- ---- words

-- a text up to its first space, and what comes after it
pub first_word_of : (xs : List ℕ) (k : ℕ) → ((j : ℕ) → 0 ≤ j → j < k → eqb (get_or xs j 0) 32 ≡ true → ⊥) → eqb (get_or xs k 0) 32 ≡ true
    → k < length xs → (first_word xs ≡ take k xs) × (after_word xs ≡ Some (drop (suc k) xs))
first_word_of [] k none here within = absurd (omega (arith, within))
first_word_of (x ∷ xs) zero none here within = (rw here, rw here)
first_word_of (x ∷ xs) (suc k) none here within =
    let other : eqb x 32 ≡ false = false_from_ne_true (eqb x 32) (none 0 (omega arith) (omega arith)) in
    let later = first_word_of xs k (λ j low below. none (suc j) (omega arith) (omega arith)) here (omega arith) in
    (rw (other, later.0), rw (other, later.1))

-- a text without a space
pub only_word : (xs : List ℕ) → ((j : ℕ) → 0 ≤ j → j < length xs → eqb (get_or xs j 0) 32 ≡ true → ⊥) → after_word xs ≡ None
only_word [] none = refl
only_word (x ∷ xs) none =
    let other : eqb x 32 ≡ false = false_from_ne_true (eqb x 32) (none 0 (omega arith) (omega arith)) in
    let later = only_word xs (λ j low below. none (suc j) (omega arith) (omega arith)) in
    rw (other, later)

pub no_space : (xs : List ℕ) → Without 32 xs → after_word xs ≡ None
no_space [] none = refl
no_space (c ∷ cs) none = rw (none.0, no_space cs none.1)

-- a word and a space before more text
pub word_ends : (word rest : List ℕ) → Without 32 word → (first_word (word ++ (32 ∷ rest)) ≡ word) × (after_word (word ++ (32 ∷ rest)) ≡ Some rest)
word_ends [] rest none = (refl, refl)
word_ends (c ∷ cs) rest none =
    let later = word_ends cs rest none.1 in
    (rw (none.0, later.0), rw (none.0, later.1))

-- what has a space is a word, the space, and the text after it
pub word_is : (xs after : List ℕ) → after_word xs ≡ Some after → xs ≡ first_word xs ++ (32 ∷ after)
word_is [] after is = absurd (none-some after is)
word_is (c ∷ cs) after is = by (λ same. word_is cs after same) (eqb c 32) refl is
  where
    by : (after_word cs ≡ Some after → cs ≡ first_word cs ++ (32 ∷ after)) → (b : Bool) → eqb c 32 ≡ b
        → cond b (Some cs) (after_word cs) ≡ Some after → c ∷ cs ≡ cond b [] (c ∷ first_word cs) ++ (32 ∷ after)
    by later true here same = ap₂ (λ x y. x ∷ y) (eqb-true c 32 here) (same_Some cs after same)
    by later false here same = ap (λ r. c ∷ r) (later same)
