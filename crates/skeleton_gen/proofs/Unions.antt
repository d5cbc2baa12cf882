-- A union point by point, from the last one of the first set.
use Rattle.std.proofs.Common.{◌≡◌, ℕ, ◌+◌, ◌-◌, ◌<◌, ◌≤◌, List, [], ◌∷◌, ◌++◌, length, take, get_or, refl, sym, ap, ◌∙◌, arith}
use Rattle.std.proofs.lemmas.List.{take_more}
use Rattle.c_semantics.specs.Skeletons.{with_point, union}

union_last : (xs ms : List ℕ) (y : ℕ) → union (xs ++ y ∷ []) ms ≡ union xs (with_point y ms)
union_last [] ms y = refl
union_last (x ∷ xs) ms y = ap (with_point x) (union_last xs ms y)

pub union_from_last : (xs old new : List ℕ) (left : ℕ) → 0 < left → left ≤ length xs
    → new ≡ with_point (get_or xs (left - 1) 0) old → union (take (left - 1) xs) new ≡ union (take left xs) old
union_from_last xs old new left some within e =
    ap (union (take (left - 1) xs)) e ∙ sym (union_last (take (left - 1) xs) old (get_or xs (left - 1) 0))
    ∙ ap (λ ys. union ys old) (sym (take_more xs (left - 1) 0 (omega arith)))
    ∙ ap (λ n. union (take n xs) old) (let e : left - 1 + 1 ≡ left = omega arith in e)
