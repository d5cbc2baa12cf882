-- That a row comes back from its number. It stands here because the members of a model may cite this folder alone.
use Rattle.std.proofs.Common.{◌≡◌, ℕ, zero, suc, ◌+◌, ◌*◌, ◌/◌, ◌%◌, ◌^◌, ◌<◌, List, [], ◌∷◌, length, get_or, refl, ap, ◌∙◌, arith}
use Rattle.std.proofs.lemmas.Nat.{mod-mul-add, div-mul-add}
use Rattle.name_sets.specs.Row.{joined, words_of, IsRow}

words_of-joined : (n : ℕ) (words : List ℕ) → length words ≡ n → ((k : ℕ) → get_or words k 0 < 2 ^ 64) → words_of n (joined words) ≡ words
unfolding words_of
words_of-joined zero [] long fit = refl
words_of-joined zero (word ∷ words) long fit = absurd (omega arith)
words_of-joined (suc n) [] long fit = absurd (omega arith)
words_of-joined (suc n) (word ∷ words) long fit =
    let small = fit 0 in
    let low : (joined words * 2 ^ 64 + word) % 2 ^ 64 ≡ word = mod-mul-add (joined words) (2 ^ 64) word small in
    let high : (joined words * 2 ^ 64 + word) / 2 ^ 64 ≡ joined words = div-mul-add (joined words) (2 ^ 64) word small in
    ap (λ w. w ∷ words_of n ((joined words * 2 ^ 64 + word) / 2 ^ 64)) low ∙ ap (λ m. word ∷ words_of n m) high ∙ ap (λ ws. word ∷ ws) (words_of-joined n words (omega arith) (λ k. fit (suc k)))

pub row_back : (words : List ℕ) → IsRow words → words_of 32 (joined words) ≡ words
row_back words row = words_of-joined 32 words row.many row.fit
