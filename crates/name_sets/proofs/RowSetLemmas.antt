-- Rows of words as sets of ids.
use Rattle.std.proofs.Common.{◌≡◌, ◌≢◌, ℕ, ◌+◌, ◌*◌, ◌/◌, ◌%◌, ◌^◌, ◌<◌, ◌≤◌, ◌⊎◌, ◌↔◌, inl, inr, Bool, true, false, true≢false, IsTrue, List, Option, length, get_or, eqb, bytes_eq, slice_index, set, bit_and, bit_or, refl, sym, ap, ◌∙◌, arith}
use Rattle.std.specs.Bool.{OnFalse}
use Rattle.std.specs.Int.{bit_at, trailing_zeros, w64}
use Rattle.std.proofs.lemmas.Bool.{cases_lt, cases_eq}
use Rattle.std.proofs.lemmas.Nat.{or_lt, and_le_l}
use Rattle.std.proofs.lemmas.Nat.Bits.{bit_at-zero, bit_at-trailing_zeros, bit_at_above, bit_at_set_same, bit_at_set_other, shr_and_one}
use Rattle.std.proofs.lemmas.List.{get_or_past, get_or-set_same, get_or-set_other, length-set}
use Rattle.std.proofs.lemmas.Bool.Decides.{Decides-eqb}
use Rattle.std.proofs.lemmas.Slice.Eq.{bytes_eq-Decides}
use Rattle.std.specs.Bool.{one_answer}
use Rattle.std.proofs.lemmas.Grind.{same_number_lists}
use Rattle.name_sets.specs.Row.{joined, words_of, IsRow, Unites, TellsGrowth, TellsCommon, word_union, word_common}
use Rattle.name_sets.specs.RowBack.{row_back}
use Rattle.name_sets.specs.IdSet.{Holds, HasIds, IsCommon}
use Rattle.name_sets.specs.Least.{TellsLeast}
use Rattle.name_sets.specs.Search.{TellsLeastBelow, ShowCommon}
use Rattle.name_sets.proofs.LeastLemmas.{least_same}
use Rattle.name_sets.proofs.SetLemmas.{Holds-or, Holds-and}
use Rattle.name_sets.proofs.RowLemmas.{bit_joined, bit_of_word}

-- the members of a row are ids
pub HasIds-row : (words : List ℕ) → IsRow words → HasIds (joined words)
HasIds-row words row id there = by (cases_lt id 2048)
  where
    by : (id < 2048) ⊎ (2048 ≤ id) → id < 2048
    by (inl below) = below
    by (inr above) =
        let zero_word : get_or words (id / 64) 0 ≡ 0 = get_or_past words (id / 64) 0 (omega (arith, row.many)) in
        let e = sym there ∙ bit_of_word words row.fit id ∙ ap (λ w. bit_at w (id % 64)) zero_word ∙ bit_at-zero (id % 64) in
        absurd (omega (arith, e))

-- rows with the same number are one
pub joined_same : (old new : List ℕ) → IsRow old → IsRow new → joined new ≡ joined old → new ≡ old
joined_same old new old_row new_row same = sym (row_back new new_row) ∙ ap (words_of 32) same ∙ row_back old old_row

module _ {old other new : List ℕ} (old_row : IsRow old) (other_row : IsRow other) (unites : Unites old other new) where
  pub IsRow-unites : length new ≡ 32 → IsRow new
  IsRow-unites many = record { many = many; fit = λ k. rw (unites k) (or_lt 64 (get_or old k 0) (get_or other k 0) (old_row.fit k) (other_row.fit k)) }

  pub members-unites : IsRow new → (id : ℕ) → Holds (joined new) id ↔ (Holds (joined old) id ⊎ Holds (joined other) id)
  members-unites new_row id =
      rw (bit_of_word new new_row.fit id, bit_of_word old old_row.fit id, bit_of_word other other_row.fit id, unites (id / 64))
      (Holds-or (get_or old (id / 64) 0) (get_or other (id / 64) 0) (id % 64))

  unchanged : IsRow new → ((k : ℕ) → word_union old other k ≡ slice_index old k) → new ≡ old
  unchanged new_row still = same_number_lists new old (new_row.many ∙ sym old_row.many) (λ k _. unites k ∙ still k)

  pub grew-unites : IsRow new → (grew : Bool) → TellsGrowth old other grew → IsTrue grew ↔ (joined new ≢ joined old)
  grew-unites new_row true tells = (λ _ same. tells.1 (sym (unites tells.0) ∙ ap (λ ws. get_or ws tells.0 0) (joined_same old new old_row new_row same)), λ _. refl)
  grew-unites new_row false tells = (λ no_. absurd (true≢false (sym no_)), λ changed. absurd (changed (ap joined (unchanged new_row tells))))

  pub same-unites : IsRow new → (grew : Bool) → TellsGrowth old other grew → OnFalse grew (joined new ≡ joined old)
  same-unites new_row true tells = tt
  same-unites new_row false tells = ap joined (unchanged new_row tells)

module _ {words other : List ℕ} (row : IsRow words) (other_row : IsRow other) where
  -- a bit that a word has in both rows is a common id
  common_id : (k : ℕ) → word_common words other k ≢ 0 → (id : ℕ) × IsCommon (joined words) (joined other) id
  common_id k some =
      let both = word_common words other k in
      let small : both < 2 ^ 64 = omega (arith, and_le_l (get_or words k 0) (get_or other k 0), row.fit k) in
      let lowest = bit_at-trailing_zeros w64 both (omega arith) small in
      let here = (Holds-and (get_or words k 0) (get_or other k 0) (trailing_zeros w64 both)).0 lowest.1 in (
        k * 64 + trailing_zeros w64 both,
        (
          bit_joined words row.fit k (trailing_zeros w64 both) lowest.0 ∙ here.0,
          bit_joined other other_row.fit k (trailing_zeros w64 both) lowest.0 ∙ here.1,
        ),
      )

  -- a common id is a bit that its word has in both rows
  common_word : (id : ℕ) → IsCommon (joined words) (joined other) id → word_common words other (id / 64) ≢ 0
  common_word id both none =
      let here = (Holds-and (get_or words (id / 64) 0) (get_or other (id / 64) 0) (id % 64)).1 (sym (bit_of_word words row.fit id) ∙ both.0, sym (bit_of_word other other_row.fit id) ∙ both.1) in
      let e = sym here ∙ ap (λ w. bit_at w (id % 64)) none ∙ bit_at-zero (id % 64) in
      omega (arith, e)

  pub answer-common : (meet : Bool) → TellsCommon words other meet → IsTrue meet ↔ ((id : ℕ) × IsCommon (joined words) (joined other) id)
  answer-common true tells = (λ _. common_id tells.0 tells.1, λ _. refl)
  answer-common false tells = (λ no_. absurd (true≢false (sym no_)), λ found. absurd (common_word found.0 found.1 (tells (found.0 / 64))))

-- ---- one id

-- the words once an id is put in
abbrev pub with_id : List ℕ → ℕ → List ℕ
with_id words id = set words (id / 64) (bit_or (get_or words (id / 64) 0) (1 * 2 ^ (id % 64) % 2 ^ 64))

module _ {words : List ℕ} (row : IsRow words) (id : ℕ) (small : id < 2048) where
  within : id / 64 < length words
  within = omega (arith, row.many)

  pub IsRow-add : IsRow (with_id words id)
  IsRow-add = record { many = length-set words (id / 64) _ ∙ row.many; fit = λ k. by k (cases_eq k (id / 64)) }
    where
      by : (k : ℕ) → (k ≡ id / 64) ⊎ (k ≡ id / 64 → ⊥) → get_or (with_id words id) k 0 < 2 ^ 64
      by k (inl same) = rw (same, get_or-set_same words (id / 64) (bit_or (get_or words (id / 64) 0) (1 * 2 ^ (id % 64) % 2 ^ 64)) 0 within)
          (or_lt 64 (get_or words (id / 64) 0) (1 * 2 ^ (id % 64) % 2 ^ 64) (row.fit (id / 64)) (omega arith))
      by k (inr other) = rw (get_or-set_other words (id / 64) k (bit_or (get_or words (id / 64) 0) (1 * 2 ^ (id % 64) % 2 ^ 64)) 0 other) (row.fit k)

  pub members-add : (other : ℕ) → Holds (joined (with_id words id)) other ↔ (Holds (joined words) other ⊎ (other ≡ id))
  members-add other = rw (bit_of_word (with_id words id) IsRow-add.fit other, bit_of_word words row.fit other) (by (cases_eq (other / 64) (id / 64)))
    where
      here : (other % 64 ≡ id % 64) ⊎ (other % 64 ≡ id % 64 → ⊥) → other / 64 ≡ id / 64 → (bit_at (get_or (with_id words id) (other / 64) 0) (other % 64) ≡ 1) ↔ ((bit_at (get_or words (other / 64) 0) (other % 64) ≡ 1) ⊎ (other ≡ id))
      here (inl bit) same =
          let e : other ≡ id = omega arith in
          (λ _. inr e, λ _. rw (same, bit, get_or-set_same words (id / 64) (bit_or (get_or words (id / 64) 0) (1 * 2 ^ (id % 64) % 2 ^ 64)) 0 within) (bit_at_set_same w64 (get_or words (id / 64) 0) (id % 64) (omega arith)))
      here (inr bit) same =
          let e : bit_at (get_or (with_id words id) (other / 64) 0) (other % 64) ≡ bit_at (get_or words (other / 64) 0) (other % 64)
          = rw (same, get_or-set_same words (id / 64) (bit_or (get_or words (id / 64) 0) (1 * 2 ^ (id % 64) % 2 ^ 64)) 0 within) (bit_at_set_other w64 (get_or words (id / 64) 0) (id % 64) (omega arith) (other % 64) bit) in
          (λ h. inl (sym e ∙ h), λ h. elim h [ inl there ↦ e ∙ there | inr one ↦ absurd (bit (ap (λ n. n % 64) one)) ])

      by : (other / 64 ≡ id / 64) ⊎ (other / 64 ≡ id / 64 → ⊥) → (bit_at (get_or (with_id words id) (other / 64) 0) (other % 64) ≡ 1) ↔ ((bit_at (get_or words (other / 64) 0) (other % 64) ≡ 1) ⊎ (other ≡ id))
      by (inl same) = here (cases_eq (other % 64) (id % 64)) same
      by (inr apart) = rw (get_or-set_other words (id / 64) (other / 64) (bit_or (get_or words (id / 64) 0) (1 * 2 ^ (id % 64) % 2 ^ 64)) 0 apart)
          (λ h. inl h, λ h. elim h [ inl there ↦ there | inr one ↦ absurd (apart (ap (λ n. n / 64) one)) ])

-- the test of one bit
pub answer-holds : (words : List ℕ) → IsRow words → (id : ℕ) → IsTrue (eqb (bit_and (get_or words (id / 64) 0 / 2 ^ (id % 64)) 1) 1) ↔ Holds (joined words) id
answer-holds words row id = rw (bit_of_word words row.fit id, shr_and_one (get_or words (id / 64) 0) (id % 64)) ((Decides-eqb (bit_at (get_or words (id / 64) 0) (id % 64)) 1).0, (Decides-eqb (bit_at (get_or words (id / 64) 0) (id % 64)) 1).1)

-- equal words are equal sets
pub answer-eq : (a b : List ℕ) → IsRow a → IsRow b → bytes_eq a b ≡ eqb (joined a) (joined b)
answer-eq a b row row' = one_answer (bytes_eq a b) (eqb (joined a) (joined b)) (bytes_eq-Decides a b)
    (λ h. joined_same b a row' row ((Decides-eqb (joined a) (joined b)).0 h), λ e. (Decides-eqb (joined a) (joined b)).1 (ap joined e))

-- ---- the ids of the words that two rows have in common

module _ {words other : List ℕ} (row : IsRow words) (other_row : IsRow other) where
  -- the set that those bits are
  pub show_common : ShowCommon words other (bit_and (joined words) (joined other))
  show_common k within j small =
      let place : 64 * k + j ≡ k * 64 + j = omega arith in
      let first : bit_at (joined words) (64 * k + j) ≡ bit_at (get_or words k 0) j = ap (bit_at (joined words)) place ∙ bit_joined words row.fit k j small in
      let second : bit_at (joined other) (64 * k + j) ≡ bit_at (get_or other k 0) j = ap (bit_at (joined other)) place ∙ bit_joined other other_row.fit k j small in
      let here = Holds-and (get_or words k 0) (get_or other k 0) j in
      let there = Holds-and (joined words) (joined other) (64 * k + j) in
      (λ h. let b = here.0 h in there.1 (first ∙ b.0, second ∙ b.1), λ h. let b = there.0 h in here.1 (sym first ∙ b.0, sym second ∙ b.1))

  pub common_known : (limit : ℕ) → ((id : ℕ) → IsCommon (joined words) (joined other) id → id < limit) → (k j : ℕ) → k < 32 → Holds (word_common words other k) j → 64 * k + j < limit
  common_known limit known k j within there = by (cases_lt j 64)
    where
      by : (j < 64) ⊎ (64 ≤ j) → 64 * k + j < limit
      by (inl small) = known (64 * k + j) ((Holds-and (joined words) (joined other) (64 * k + j)).0 ((show_common k within j small).0 there))
      by (inr above) =
          let small : word_common words other k < 2 ^ 64 = omega (arith, and_le_l (get_or words k 0) (get_or other k 0), row.fit k) in
          let e = sym there ∙ bit_at_above (word_common words other k) 64 j small above in
          absurd (omega (arith, e))

  pub tells_common : (texts : List (List ℕ)) (answer : Option ℕ) → ((set : ℕ) → ShowCommon words other set → TellsLeastBelow texts set 2048 answer) → TellsLeast texts (IsCommon (joined words) (joined other)) answer
  tells_common texts answer tells =
      least_same texts (λ id. Holds (bit_and (joined words) (joined other)) id × (id < 2048)) (IsCommon (joined words) (joined other)) answer
      (λ id h. (Holds-and (joined words) (joined other) id).0 h.0)
      (λ id h. ((Holds-and (joined words) (joined other) id).1 h, HasIds-row words row id h.0))
      (tells (bit_and (joined words) (joined other)) show_common)
