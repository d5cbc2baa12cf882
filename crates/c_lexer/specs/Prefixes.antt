-- The words in which the scanners' contracts speak of the prefixes of some bytes. The tokens' definition doesn't use them.
use Rattle.std.specs.Prelude.{◌≡◌, ◌≢◌, ℕ, ◌+◌, ◌<◌, ◌≤◌, Bool, true, false, List, length, take, drop}

-- the first n bytes are the longest prefix that passes
pub record IsLongest (test : List ℕ → Bool) (bytes : List ℕ) (n : ℕ) : Type 0 where
  pub within : n ≤ length bytes
  pub passes : test (take n bytes) ≡ true
  pub longest : (m : ℕ) → n < m → m ≤ length bytes → test (take m bytes) ≡ false

-- the first n bytes are the only front that passes
pub record IsOnly (test : List ℕ → Bool) (bytes : List ℕ) (n : ℕ) : Type 0 where
  pub within : n ≤ length bytes
  pub passes : test (take n bytes) ≡ true
  pub others : (m : ℕ) → m ≢ n → m ≤ length bytes → test (take m bytes) ≡ false

-- no prefix passes
abbrev pub NonePasses : (List ℕ → Bool) → List ℕ → Type 0
NonePasses test bytes = (m : ℕ) → m ≤ length bytes → test (take m bytes) ≡ false

-- no prefix but the empty one passes
abbrev pub NoMorePasses : (List ℕ → Bool) → List ℕ → Type 0
NoMorePasses test bytes = (m : ℕ) → 0 < m → m ≤ length bytes → test (take m bytes) ≡ false

-- of a prefix of n bytes and more, f says what it says of the part after the first n
pub record Passes {X : Type 0} (f : List ℕ → X) (bytes : List ℕ) (n : ℕ) : Type 0 where
  pub within : n ≤ length bytes
  pub beyond : (m : ℕ) → f (take (n + m) bytes) ≡ f (take m (drop n bytes))

-- the same, and no shorter prefix passes
pub record Skips (test : List ℕ → Bool) (bytes : List ℕ) (n : ℕ) : Type 0 where
  pub passed : Passes test bytes n
  pub below : (m : ℕ) → m < n → test (take m bytes) ≡ false
