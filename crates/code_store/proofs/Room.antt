-- Where bodies that come to a store pass its limits.
use Rattle.std.proofs.Common.{◌≡◌, ℕ, ◌+◌, ◌<◌, ◌≤◌, Bool, true, false, List, ◌++◌, map, length, take, get_or, refl, sym, ap, ◌∙◌, arith, ltb}
use Rattle.std.specs.Prelude.{not, ◌||◌}
use Rattle.std.specs.List.{sum_by}
use Rattle.std.proofs.lemmas.List.{map_more, take-map}
use Rattle.std.proofs.lemmas.List.Sums.{sum_by-append, sum_by_push, sum_by-take-le}
use Rattle.std.proofs.lemmas.Bool.Decides.{nat_tests}
use Rattle.c_semantics.specs.Skeletons.{check_ins}
use Rattle.c_semantics.specs.Store.{Body, all_check_ins, all_tokens}
use Rattle.code_store.specs.Limits.{most_check_ins, most_function_tokens, are_too_many}

-- what bodies have up to one of them, and at it, is at most what all of them have
pub sum_at : {X Y : Type 0} (f : Y → ℕ) (m : X → Y) (xs : List X) (i : ℕ) (x : X) → i < length xs → x ≡ get_or xs i x
    → sum_by f (map m (take i xs)) + f (m x) ≤ sum_by f (map m xs)
sum_at f m xs i x l is =
    let more : sum_by f (map m (take (i + 1) xs)) ≡ sum_by f (map m (take i xs)) + f (m x) =
    ap (sum_by f) (map_more m xs i x l) ∙ sum_by_push f (map m (take i xs)) (m (get_or xs i x))
    ∙ ap (λ y. sum_by f (map m (take i xs)) + f (m y)) (sym is)
    in
    let part : sum_by f (map m (take (i + 1) xs)) ≡ sum_by f (take (i + 1) (map m xs)) = ap (sum_by f) (sym (take-map m (i + 1) xs)) in
    let most = sum_by-take-le f (map m xs) (i + 1) in
    omega arith

above : (m n : ℕ) → m < n → ltb m n ≡ true
above m n l = grind (arith, nat_tests)

first_of : (s t : Bool) → s ≡ true → false ≡ not (s || t)
first_of true t e = refl
first_of false t e = cc

second_of : (s t : Bool) → t ≡ true → false ≡ not (s || t)
second_of true t e = refl
second_of false true e = refl
second_of false false e = cc

pub past_check_ins : (old added : List Body) → most_check_ins < all_check_ins old + all_check_ins added
    → false ≡ not (are_too_many (old ++ added))
past_check_ins old added l =
    let all = sum_by-append (λ (b : Body). check_ins b.skeleton) old added in
    first_of (ltb most_check_ins (all_check_ins (old ++ added))) (ltb most_function_tokens (all_tokens (old ++ added)))
    (above most_check_ins (all_check_ins (old ++ added)) (omega arith))

pub past_tokens : (old added : List Body) → most_function_tokens < all_tokens old + all_tokens added
    → false ≡ not (are_too_many (old ++ added))
past_tokens old added l =
    let all = sum_by-append (λ (b : Body). b.tokens) old added in
    second_of (ltb most_check_ins (all_check_ins (old ++ added))) (ltb most_function_tokens (all_tokens (old ++ added)))
    (above most_function_tokens (all_tokens (old ++ added)) (omega arith))

-- bodies that fit pass neither limit
pub within : (bodies : List Body) → are_too_many bodies ≡ false → (all_check_ins bodies ≤ most_check_ins) × (all_tokens bodies ≤ most_function_tokens)
within bodies fit = by (ltb most_check_ins (all_check_ins bodies)) (ltb most_function_tokens (all_tokens bodies)) refl refl fit
  where
    at_most : (m n : ℕ) → ltb m n ≡ false → n ≤ m
    at_most m n e = grind (arith, nat_tests)

    by : (s t : Bool) → ltb most_check_ins (all_check_ins bodies) ≡ s → ltb most_function_tokens (all_tokens bodies) ≡ t → (s || t) ≡ false
        → (all_check_ins bodies ≤ most_check_ins) × (all_tokens bodies ≤ most_function_tokens)
    by false false few few_tokens e = (at_most most_check_ins (all_check_ins bodies) few, at_most most_function_tokens (all_tokens bodies) few_tokens)
    by false true few few_tokens e = cc
    by true t few few_tokens e = cc

pub not_too_many : (bodies : List Body) → all_check_ins bodies ≤ most_check_ins → all_tokens bodies ≤ most_function_tokens
    → are_too_many bodies ≡ false
not_too_many bodies few few_tokens =
    ap (λ s. s || ltb most_function_tokens (all_tokens bodies)) (below most_check_ins (all_check_ins bodies) few)
    ∙ below most_function_tokens (all_tokens bodies) few_tokens
  where
    below : (m n : ℕ) → n ≤ m → ltb m n ≡ false
    below m n l = grind (arith, nat_tests)
