-- What is in a string, one byte or escape at a time.
use Rattle.std.proofs.Common.{◌≡◌, ◌≢◌, ℕ, suc, zero, ◌+◌, ◌<◌, ◌≤◌, true, false, ◌||◌, ◌==◌, List, [], ◌∷◌, length, take, get_or, refl, subst, arith}
use Rattle.std.specs.Prelude.{nat_le}
use Rattle.std.proofs.lemmas.Bool.{ne_eqb}
use Rattle.c_lexer.specs.Bytes.{is_plain, is_escape}
use Rattle.c_lexer.specs.Units.{closes_string}
use Rattle.c_lexer.specs.Prefixes.{IsOnly, NonePasses, Skips}

plain_first : (b : ℕ) (bs : List ℕ) → (b == 34) ≡ false → (b == 92) ≡ false → ((is_plain 34 b || (b == 9)) || nat_le 128 b) ≡ true → closes_string (b ∷ bs) ≡ closes_string bs
plain_first b [] quote slash plain = quote
plain_first b (c ∷ bs) quote slash plain = rw (plain, slash) refl

pub plain_skips : (rest : List ℕ) → 0 < length rest → get_or rest 0 0 ≢ 34 → get_or rest 0 0 ≢ 92 → ((is_plain 34 (get_or rest 0 0) || (get_or rest 0 0 == 9)) || nat_le 128 (get_or rest 0 0)) ≡ true
    → Skips closes_string rest 1
plain_skips [] some quote slash plain = absurd (omega arith)
plain_skips (b ∷ bs) some quote slash plain = record {
  passed = record {
    within = omega arith;
    beyond = λ m. let more : suc m ≡ 1 + m = omega arith in
        subst (λ k. closes_string (take k (b ∷ bs)) ≡ closes_string (take m bs)) more (plain_first b (take m bs) (ne_eqb b 34 quote) (ne_eqb b 92 slash) plain);
  };
  below = λ m less. let none : 0 ≡ m = omega arith in subst (λ k. closes_string (take k (b ∷ bs)) ≡ false) none refl;
}

-- a byte that can't be in a string
strange_first : (b : ℕ) (bs : List ℕ) → (b == 34) ≡ false → (b == 92) ≡ false → ((is_plain 34 b || (b == 9)) || nat_le 128 b) ≡ false → closes_string (b ∷ bs) ≡ false
strange_first b [] quote slash plain = quote
strange_first b (c ∷ bs) quote slash plain = rw (plain, slash) refl

pub strange_stops : (rest : List ℕ) → 0 < length rest → get_or rest 0 0 ≢ 34 → get_or rest 0 0 ≢ 92 → ((is_plain 34 (get_or rest 0 0) || (get_or rest 0 0 == 9)) || nat_le 128 (get_or rest 0 0)) ≡ false
    → NonePasses closes_string rest
strange_stops [] some quote slash plain = absurd (omega arith)
strange_stops (b ∷ bs) some quote slash plain = by_length
  where
    by_length : (m : ℕ) → m ≤ length (b ∷ bs) → closes_string (take m (b ∷ bs)) ≡ false
    by_length zero least = refl
    by_length (suc m) least = strange_first b (take m bs) (ne_eqb b 34 quote) (ne_eqb b 92 slash) plain

pub escape_skips : (rest : List ℕ) → 1 < length rest → get_or rest 0 0 ≡ 92 → is_escape (get_or rest 1 0) ≡ true → Skips closes_string rest 2
escape_skips [] some slash escape = absurd (omega arith)
escape_skips (b ∷ []) some slash escape = absurd (omega arith)
escape_skips (b ∷ c ∷ bs) some slash escape = record {
  passed = record {
    within = omega arith;
    beyond = λ m. let more : suc (suc m) ≡ 2 + m = omega arith in
        subst (λ k. closes_string (take k (b ∷ c ∷ bs)) ≡ closes_string (take m bs)) more (rw (slash, escape) refl);
  };
  below = by_length;
}
  where
    by_length : (m : ℕ) → m < 2 → closes_string (take m (b ∷ c ∷ bs)) ≡ false
    by_length zero less = refl
    by_length (suc zero) less = rw slash refl
    by_length (suc (suc m)) less = absurd (omega arith)

pub strange_escape_stops : (rest : List ℕ) → 0 < length rest → get_or rest 0 0 ≡ 92 → (1 < length rest → is_escape (get_or rest 1 0) ≡ false) → NonePasses closes_string rest
strange_escape_stops [] some slash escape = absurd (omega arith)
strange_escape_stops (b ∷ []) some slash escape = by_length
  where
    by_length : (m : ℕ) → m ≤ length (b ∷ []) → closes_string (take m (b ∷ [])) ≡ false
    by_length zero least = refl
    by_length (suc zero) least = rw slash refl
    by_length (suc (suc m)) least = absurd (omega arith)
strange_escape_stops (b ∷ c ∷ bs) some slash escape = by_length
  where
    by_length : (m : ℕ) → m ≤ length (b ∷ c ∷ bs) → closes_string (take m (b ∷ c ∷ bs)) ≡ false
    by_length zero least = refl
    by_length (suc zero) least = rw slash refl
    by_length (suc (suc m)) least = let none = escape (omega arith) in rw (slash, none) refl

pub quote_closes : (rest : List ℕ) → 0 < length rest → get_or rest 0 0 ≡ 34 → IsOnly closes_string rest 1
quote_closes [] some quote = absurd (omega arith)
quote_closes (b ∷ bs) some quote = record { within = omega arith; passes = rw quote refl; others = by_length }
  where
    longer : (bs : List ℕ) (m : ℕ) → suc m ≤ length bs → closes_string (b ∷ take (suc m) bs) ≡ false
    longer [] m least = absurd (omega arith)
    longer (c ∷ bs) m least = rw quote refl

    by_length : (m : ℕ) → m ≢ 1 → m ≤ length (b ∷ bs) → closes_string (take m (b ∷ bs)) ≡ false
    by_length zero other least = refl
    by_length (suc zero) other least = absurd (other refl)
    by_length (suc (suc m)) other least = longer bs m (omega arith)

pub string_ends : (rest : List ℕ) → length rest ≡ 0 → NonePasses closes_string rest
string_ends [] e = λ m least. let none : 0 ≡ m = omega arith in subst (λ k. closes_string (take k []) ≡ false) none refl
string_ends (b ∷ bs) e = absurd (omega arith)
