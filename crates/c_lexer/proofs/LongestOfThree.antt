-- The longest prefix of at most three bytes that passes is found by three tests.
use Rattle.std.proofs.Common.{◌≡◌, ℕ, suc, zero, ◌<◌, ◌≤◌, Bool, true, false, ◌&&◌, List, [], ◌∷◌, length, take, refl, ap, ⊎_elim, arith, length-take, le-leb}
use Rattle.std.specs.Prelude.{nat_le}
use Rattle.std.proofs.str.Laws.{order}
use Rattle.std.specs.List.{list_all}
use Rattle.std.specs.Str.{bytes_eq}
use Rattle.std.proofs.lemmas.Slice.Eq.{bytes_eq-Decides}
use Rattle.std.proofs.lemmas.Bool.{leb-true}
use Rattle.c_lexer.specs.Words.{is_one_of}
use Rattle.c_lexer.specs.Units.{punctuators, closes_character}
use Rattle.c_lexer.specs.Prefixes.{IsLongest, NonePasses}

-- the prefix of this length passes
abbrev pub tested : (List ℕ → Bool) → List ℕ → ℕ → Bool
tested test rest n = nat_le n (length rest) && test (take n rest)

pub both_true : (a b : Bool) → (a && b) ≡ true → (a ≡ true) × (b ≡ true)
both_true true b h = (refl, h)
both_true false b h = let k : false ≡ true = h in cc

one_false : (a b : Bool) → (a && b) ≡ false → a ≡ true → b ≡ false
one_false true b h a = h
one_false false b h a = let k : false ≡ true = a in cc

differs : (s t : List ℕ) → length t < length s → bytes_eq s t ≡ false
differs s t shorter = elim (bytes_eq s t) as (λ v. bytes_eq s t ≡ v → bytes_eq s t ≡ false) [
  | false ↦ λ e. e
  | true ↦ λ e. let same = (bytes_eq-Decides s t).0 e in absurd (omega (arith, ap length same))
] refl

longer_than_each : (texts : List (List ℕ)) (s : List ℕ) (n : ℕ) → n < length s → list_all (λ t. nat_le (length t) n) texts ≡ true → is_one_of texts s ≡ false
longer_than_each [] s n longer short = refl
longer_than_each (t ∷ texts) s n longer short =
    let h = both_true (nat_le (length t) n) (list_all (λ t. nat_le (length t) n) texts) short in
    let least : length t ≤ n = leb-true (length t) n h.0 in
    rw (differs s t (omega arith), longer_than_each texts s n longer h.1) refl

too_long : (s : List ℕ) → 3 < length s → is_one_of punctuators s ≡ false
unfolding punctuators
too_long s longer = longer_than_each punctuators s 3 longer refl

each_of_three : (P : ℕ → Type 0) (n m : ℕ) → n < m → m ≤ 3 → (n < 1 → P 1) → (n < 2 → P 2) → (n < 3 → P 3) → P m
each_of_three P n zero more least one two three = absurd (omega arith)
each_of_three P n (suc zero) more least one two three = one more
each_of_three P n (suc (suc zero)) more least one two three = two more
each_of_three P n (suc (suc (suc zero))) more least one two three = three more
each_of_three P n (suc (suc (suc (suc m)))) more least one two three = absurd (omega arith)

-- no text of more than three bytes passes
abbrev pub IsShort : (List ℕ → Bool) → Type 0
IsShort test = (s : List ℕ) → 3 < length s → test s ≡ false

-- a prefix fails where the three tests fail at the greater lengths
none_longer : (test : List ℕ → Bool) → IsShort test → (rest : List ℕ) (n : ℕ)
    → (n < 1 → tested test rest 1 ≡ false) → (n < 2 → tested test rest 2 ≡ false) → (n < 3 → tested test rest 3 ≡ false)
    → (m : ℕ) → n < m → m ≤ length rest → test (take m rest) ≡ false
none_longer test short rest n one two three m more least =
    ⊎_elim
    (λ long. short (take m rest) (omega (arith, length-take m rest)))
    (λ upto. one_false (nat_le m (length rest)) _ (each_of_three (λ k. tested test rest k ≡ false) n m more upto one two three) (le-leb m (length rest) least))
    (order 3 m)

pub found_longest : (test : List ℕ → Bool) → IsShort test → (rest : List ℕ) (n : ℕ) → tested test rest n ≡ true
    → (n < 1 → tested test rest 1 ≡ false) → (n < 2 → tested test rest 2 ≡ false) → (n < 3 → tested test rest 3 ≡ false) → IsLongest test rest n
found_longest test short rest n here one two three =
    let h = both_true (nat_le n (length rest)) (test (take n rest)) here in
    record { within = leb-true n (length rest) h.0; passes = h.1; longest = none_longer test short rest n one two three }

pub found_none : (test : List ℕ → Bool) → IsShort test → test [] ≡ false → (rest : List ℕ) → tested test rest 1 ≡ false → tested test rest 2 ≡ false → tested test rest 3 ≡ false
    → NonePasses test rest
found_none test short empty rest one two three zero least = empty
found_none test short empty rest one two three (suc m) least = none_longer test short rest 0 (λ _. one) (λ _. two) (λ _. three) (suc m) (omega arith) least

-- punctuators are short
pub punctuators_short : IsShort (is_one_of punctuators)
punctuators_short s longer = too_long s longer

pub no_empty_punctuator : is_one_of punctuators [] ≡ false
unfolding punctuators
no_empty_punctuator = refl

-- and so is the rest of a character
pub character_short : IsShort closes_character
character_short [] longer = absurd (omega arith)
character_short (b ∷ []) longer = absurd (omega arith)
character_short (b ∷ c ∷ []) longer = absurd (omega arith)
character_short (b ∷ c ∷ d ∷ []) longer = absurd (omega arith)
character_short (b ∷ c ∷ d ∷ e ∷ s) longer = refl

fails_anyway : (test : Bool) → (test && false) ≡ false
fails_anyway true = refl
fails_anyway false = refl

pub no_single_character : (rest : List ℕ) → tested closes_character rest 1 ≡ false
no_single_character [] = refl
no_single_character (b ∷ bs) = fails_anyway (nat_le 1 (length (b ∷ bs)))
