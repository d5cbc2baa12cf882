-- The definitions on small tables, by computing.
use Rattle.std.proofs.Common.{◌≡◌, ℕ, List, [], ◌∷◌, None, Some, refl}
use Rattle.c_scope.specs.Tables.{look_up_first, innermost, declared}

-- x is 1 in the outermost table and 2 in the innermost, y is 3 in the one between
tables : List (List (List ℕ × ℕ))
tables = ((120 ∷ [], 2) ∷ []) ∷ ((121 ∷ [], 3) ∷ []) ∷ ((120 ∷ [], 1) ∷ []) ∷ []

hides : innermost tables (120 ∷ []) ≡ Some 2
unfolding tables
hides = refl

shows : innermost tables (121 ∷ []) ≡ Some 3
unfolding tables
shows = refl

misses : innermost tables (120 ∷ 121 ∷ []) ≡ None
unfolding tables
misses = refl

-- the innermost table alone doesn't know y, and takes it
unknown : look_up_first tables (121 ∷ []) ≡ None
unfolding tables
unknown = refl

takes : declared tables (121 ∷ []) 4 ≡ ((120 ∷ [], 2) ∷ (121 ∷ [], 4) ∷ []) ∷ ((121 ∷ [], 3) ∷ []) ∷ ((120 ∷ [], 1) ∷ []) ∷ []
unfolding tables
takes = refl

then : innermost (declared tables (121 ∷ []) 4) (121 ∷ []) ≡ Some 4
unfolding tables
then = refl
