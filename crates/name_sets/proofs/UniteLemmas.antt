-- One turn of the union that goes eight words at a time.
use Rattle.std.proofs.Common.{◌≡◌, ◌≢◌, ℕ, ◌+◌, ◌-◌, ◌<◌, ◌≤◌, ◌⊎◌, inl, inr, Bool, true, false, ◌||◌, List, length, get_or, bit_or, bit_xor, sym, ap, subst, ◌∙◌, arith}
use Rattle.std.specs.Bool.{MatchBool}
use Rattle.std.proofs.lemmas.Bool.{cases_lt}
use Rattle.std.proofs.lemmas.List.{get_or_past}
use Rattle.std.proofs.lemmas.Simd.{length-chunk, get_or-chunk, get_or-zip2, length-zip2, get_or-put_chunk_below, get_or-put_chunk_at, get_or-put_chunk_above}
use lib.Lanes.{chunk, put_chunk, zip2}
use Rattle.name_sets.specs.Row.{word_union}
use Rattle.name_sets.proofs.RowLemmas.{get_or-zip_chunks, xor_zero, xor_same}

-- what is known in the turn whose eight words are those from `at` on: the words before it may be new, and the others are old
pub record Turn (old other words : List ℕ) (at : ℕ) (mine theirs : List ℕ) : Type 0 where
  pub mine_is : mine ≡ chunk at 8 words
  pub theirs_is : theirs ≡ chunk at 8 other
  pub long : length words ≡ 32
  pub long' : length other ≡ 32
  pub room : at ≤ 24
  pub rest : (j : ℕ) → at ≤ j → get_or words j 0 ≡ get_or old j 0

module _ {old other words : List ℕ} {at : ℕ} {mine theirs : List ℕ} (t : Turn old other words at mine theirs) where
  eight : length mine ≡ 8
  eight = ap length t.mine_is ∙ (let long = t.long in let room = t.room in length-chunk at 8 words (omega arith))

  eight' : length theirs ≡ 8
  eight' = ap length t.theirs_is ∙ (let long = t.long' in let room = t.room in length-chunk at 8 other (omega arith))

  both_eight : length (zip2 bit_or mine theirs) ≡ 8
  both_eight = length-zip2 bit_or mine theirs (eight ∙ sym eight') ∙ eight

  -- a word of the eight that are written
  both : (k : ℕ) → k < 8 → get_or (zip2 bit_or mine theirs) k 0 ≡ word_union old other (at + k)
  both k small =
      let first : at + 8 ≤ length words = omega (arith, t.long, t.room) in
      let second : at + 8 ≤ length other = omega (arith, t.long', t.room) in
      ap (λ xs. get_or (zip2 bit_or xs theirs) k 0) t.mine_is ∙ ap (λ ys. get_or (zip2 bit_or (chunk at 8 words) ys) k 0) t.theirs_is
      ∙ get_or-zip_chunks bit_or words other at k small first second
      ∙ ap (λ x. bit_or x (get_or other (at + k) 0)) (t.rest (at + k) (omega arith))

  mine_at : (k : ℕ) → k < 8 → get_or mine k 0 ≡ get_or old (at + k) 0
  mine_at k small = ap (λ xs. get_or xs k 0) t.mine_is ∙ get_or-chunk at 8 words k 0 small ∙ t.rest (at + k) (omega arith)

  pub new_done : ((j : ℕ) → j < at → get_or words j 0 ≡ word_union old other j) → (j : ℕ) → j < at + 8 → get_or (put_chunk at words (zip2 bit_or mine theirs)) j 0 ≡ word_union old other j
  new_done done j below = by (cases_lt j at)
    where
      by : (j < at) ⊎ (at ≤ j) → get_or (put_chunk at words (zip2 bit_or mine theirs)) j 0 ≡ word_union old other j
      by (inl before) = get_or-put_chunk_below at words (zip2 bit_or mine theirs) j 0 before ∙ done j before
      by (inr from) =
          let place : at + (j - at) ≡ j = omega arith in
          ap (λ i. get_or (put_chunk at words (zip2 bit_or mine theirs)) i 0) (sym place)
          ∙ get_or-put_chunk_at at words (zip2 bit_or mine theirs) (j - at) 0 (omega (arith, both_eight)) (omega (arith, both_eight, t.long, t.room))
          ∙ both (j - at) (omega arith) ∙ ap (word_union old other) place

  pub new_rest : (j : ℕ) → at + 8 ≤ j → get_or (put_chunk at words (zip2 bit_or mine theirs)) j 0 ≡ get_or old j 0
  new_rest j above = get_or-put_chunk_above at words (zip2 bit_or mine theirs) j 0 (omega (arith, both_eight)) ∙ t.rest j (omega arith)

  changes : (k : ℕ) → k < 8 → get_or (zip2 bit_xor (zip2 bit_or mine theirs) mine) k 0 ≡ bit_xor (word_union old other (at + k)) (get_or old (at + k) 0)
  changes k small =
      get_or-zip2 bit_xor (zip2 bit_or mine theirs) mine k 0 0 0 (omega (arith, both_eight)) (omega (arith, eight))
      ∙ ap (λ x. bit_xor x (get_or mine k 0)) (both k small) ∙ ap (bit_xor (word_union old other (at + k))) (mine_at k small)

  changes_eight : length (zip2 bit_xor (zip2 bit_or mine theirs) mine) ≡ 8
  changes_eight = length-zip2 bit_xor (zip2 bit_or mine theirs) mine (both_eight ∙ sym eight) ∙ both_eight

  pub new_grew : (before now : Bool)
      → MatchBool before ((j : ℕ) × (word_union old other j ≢ get_or old j 0)) ((j : ℕ) → j < at → word_union old other j ≡ get_or old j 0)
      → MatchBool now ((k : ℕ) × (get_or (zip2 bit_xor (zip2 bit_or mine theirs) mine) k 0 ≢ 0)) ((k : ℕ) → get_or (zip2 bit_xor (zip2 bit_or mine theirs) mine) k 0 ≡ 0)
      → MatchBool (before || now) ((j : ℕ) × (word_union old other j ≢ get_or old j 0)) ((j : ℕ) → j < at + 8 → word_union old other j ≡ get_or old j 0)
  new_grew true now grew told = grew
  new_grew false true still told = by (cases_lt told.0 8)
    where
      by : (told.0 < 8) ⊎ (8 ≤ told.0) → (j : ℕ) × (word_union old other j ≢ get_or old j 0)
      by (inl small) = (at + told.0, λ same. told.1 (changes told.0 small ∙ ap (λ x. bit_xor x (get_or old (at + told.0) 0)) same ∙ xor_same (get_or old (at + told.0) 0)))
      by (inr past) = absurd (told.1 (get_or_past (zip2 bit_xor (zip2 bit_or mine theirs) mine) told.0 0 (omega (arith, changes_eight))))
  new_grew false false still told = λ j below. by j below (cases_lt j at)
    where
      by : (j : ℕ) → j < at + 8 → (j < at) ⊎ (at ≤ j) → word_union old other j ≡ get_or old j 0
      by j below (inl before) = still j before
      by j below (inr from) =
          let place : at + (j - at) ≡ j = omega arith in
          let small : j - at < 8 = omega arith in
          subst (λ i. word_union old other i ≡ get_or old i 0) place (xor_zero (word_union old other (at + (j - at))) (get_or old (at + (j - at)) 0) (sym (changes (j - at) small) ∙ told (j - at)))
