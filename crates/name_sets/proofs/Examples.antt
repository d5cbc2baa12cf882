-- The definitions on small examples, by computing.
use Rattle.std.proofs.Common.{◌≡◌, ℕ, ◌+◌, ◌^◌, List, [], ◌∷◌, refl}
use Rattle.std.specs.Int.{bit_at}
use Rattle.name_sets.specs.Texts.{with_text, IsBefore}
use Rattle.name_sets.specs.IdSet.{Holds}
use Rattle.name_sets.specs.Row.{joined}

-- 2 ^ 0 + 2 ^ 2 + 2 ^ 2047 is the set of 0, 2 and 2047
holds_first : Holds (2 ^ 2047 + 5) 0
holds_first = refl

holds_third : Holds (2 ^ 2047 + 5) 2
holds_third = refl

holds_last : Holds (2 ^ 2047 + 5) 2047
holds_last = refl

lacks_second : bit_at (2 ^ 2047 + 5) 1 ≡ 0
lacks_second = refl

-- word 1 holds the ids from 64 on
row : joined (1 ∷ 2 ∷ []) ≡ 2 ^ 0 + 2 ^ 65
row = refl

-- the table of b, a and ab
table : List (List ℕ)
table = (98 ∷ []) ∷ (97 ∷ []) ∷ (97 ∷ 98 ∷ []) ∷ []

-- a is before b, and before its own continuation ab, which is before b
a_before_b : IsBefore table 1 0
unfolding table
a_before_b = refl

a_before_ab : IsBefore table 1 2
unfolding table
a_before_ab = refl

ab_before_b : IsBefore table 2 0
unfolding table
ab_before_b = refl

-- to add ab again changes nothing, and c goes last
ab_again : with_text table (97 ∷ 98 ∷ []) ≡ table
unfolding table
ab_again = refl

c_last : with_text table (99 ∷ []) ≡ (98 ∷ []) ∷ (97 ∷ []) ∷ (97 ∷ 98 ∷ []) ∷ (99 ∷ []) ∷ []
unfolding table
c_last = refl
