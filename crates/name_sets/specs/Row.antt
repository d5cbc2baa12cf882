-- How 32 words of 64 bits hold a set of ids: word k holds the ids from 64 * k on.
use Rattle.std.specs.Prelude.{◌≡◌, ◌≢◌, ℕ, zero, suc, ◌+◌, ◌*◌, ◌/◌, ◌%◌, ◌^◌, ◌<◌, List, [], ◌∷◌, length, slice_index, bit_and, bit_or, Bool}
use Rattle.std.specs.Bool.{MatchBool}

-- the words as one number, the first the lowest
abbrev pub joined : List ℕ → ℕ
joined [] = 0
joined (word ∷ words) = joined words * 2 ^ 64 + word

-- n words of a number, the lowest first
unfoldable pub words_of : ℕ → ℕ → List ℕ
words_of zero set = []
words_of (suc n) set = (set % 2 ^ 64) ∷ words_of n (set / 2 ^ 64)

-- 32 words of 64 bits
pub record IsRow (words : List ℕ) : Type 0 where
  pub many : length words ≡ 32
  pub fit : (k : ℕ) → slice_index words k < 2 ^ 64

-- word k of the one row with the bits of word k of the other
abbrev pub word_union : List ℕ → List ℕ → ℕ → ℕ
word_union words other k = bit_or (slice_index words k) (slice_index other k)

-- each new word has the bits of the old one and of the other
abbrev pub Unites : List ℕ → List ℕ → List ℕ → Type 0
Unites old other new = (k : ℕ) → slice_index new k ≡ word_union old other k

-- the answer is true where some word has got another bit, and false where none has
abbrev pub TellsGrowth : List ℕ → List ℕ → Bool → Type 0
TellsGrowth old other grew = MatchBool grew ((k : ℕ) × (word_union old other k ≢ slice_index old k)) ((k : ℕ) → word_union old other k ≡ slice_index old k)

-- the bits that word k has in both rows
abbrev pub word_common : List ℕ → List ℕ → ℕ → ℕ
word_common words other k = bit_and (slice_index words k) (slice_index other k)

-- the answer is true where some word has a bit in both rows, and false where none has
abbrev pub TellsCommon : List ℕ → List ℕ → Bool → Type 0
TellsCommon words other meet = MatchBool meet ((k : ℕ) × (word_common words other k ≢ 0)) ((k : ℕ) → word_common words other k ≡ 0)
