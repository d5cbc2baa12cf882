-- Lists as they are seen, the last one first.
use Rattle.std.proofs.Common.{◌≡◌, ℕ, ◌+◌, ◌-◌, ◌≤◌, min, Bool, true, false, cond, List, [], ◌∷◌, ◌++◌, length, map, reverse, get_or, take, drop, set, filter, refl, sym, ap, ◌∙◌, arith}
use Rattle.std.proofs.lemmas.List.{take_more, take_more_set, take_all, take_at, drop_at, take_min, drop_min, take-append-drop, take-map, length-reverse, length-drop, length-map, length-set, length-take, get_or-take, take-take, map-append, append-nil, reverse-append, reverse-reverse}
use Rattle.std.proofs.lemmas.List.Elements.{filter-append}
use Rattle.c_semantics.specs.Values.{Value as Seen}
use Rattle.local_evaluation.specs.declared.value.Value.{Value as Held}
use Rattle.local_evaluation.specs.Values.{seen}
use Rattle.local_evaluation.specs.Work.{newest}

-- one more at either end
pub last_first : {X Y : Type 0} (f : X → Y) (xs : List X) (x : X) → map f (reverse (xs ++ x ∷ [])) ≡ f x ∷ map f (reverse xs)
last_first f xs x = ap (map f) (reverse-append xs (x ∷ []))

pub first_last : {X Y : Type 0} (f : X → Y) (x : X) (xs : List X) → map f (reverse (x ∷ xs)) ≡ map f (reverse xs) ++ f x ∷ []
first_last f x xs = ap (map f) (reverse-append (x ∷ []) xs) ∙ map-append f (reverse xs) (x ∷ [])

-- the last one, and the last one changed
pub last_seen : {X Y : Type 0} (f : X → Y) (xs : List X) (n : ℕ) (d : X) → n + 1 ≡ length xs
    → map f (reverse xs) ≡ f (get_or xs n d) ∷ map f (reverse (take n xs))
last_seen f xs n d h =
    ap (λ l. map f (reverse l)) (sym (take_all (n + 1) xs (omega arith)) ∙ take_more xs n d (omega arith))
    ∙ last_first f (take n xs) (get_or xs n d)

pub last_set : {X Y : Type 0} (f : X → Y) (xs : List X) (n : ℕ) (y : X) → n + 1 ≡ length xs
    → map f (reverse (set xs n y)) ≡ f y ∷ map f (reverse (take n xs))
last_set f xs n y h =
    let long = length-set xs n y in
    ap (λ l. map f (reverse l)) (sym (take_all (n + 1) (set xs n y) (omega arith)) ∙ take_more_set xs n y (omega arith))
    ∙ last_first f (take n xs) y

-- a filter
pub filtered : {X Y : Type 0} (f : X → Y) (p : Y → Bool) (xs : List X)
    → map f (reverse (filter (λ x. p (f x)) xs)) ≡ filter p (map f (reverse xs))
filtered f p [] = refl
filtered {X} {Y} f p (x ∷ xs) =
    by (p (f x)) (filter (λ x. p (f x)) xs)
    ∙ ap (λ l. l ++ filter p (f x ∷ [])) (filtered f p xs)
    ∙ sym (filter-append p (map f (reverse xs)) (f x ∷ []))
    ∙ ap (filter p) (sym (first_last f x xs))
  where
    by : (b : Bool) (ys : List X) → map f (reverse (cond b (x ∷ ys) ys)) ≡ map f (reverse ys) ++ cond b (f x ∷ []) []
    by true ys = first_last f x ys
    by false ys = sym (append-nil (map f (reverse ys)))

-- the last ones, and the others
pub take_last : {X Y : Type 0} (f : X → Y) (xs : List X) (n : ℕ)
    → reverse (take n (map f (reverse xs))) ≡ map f (drop (length xs - n) xs)
take_last f xs n =
    let k = length xs - n in
    let long = length-reverse xs in
    let longer = length-reverse (drop k xs) in
    let rest = length-drop k xs in
    let parts : reverse xs ≡ reverse (drop k xs) ++ reverse (take k xs) =
    ap reverse (sym (take-append-drop k xs)) ∙ reverse-append (take k xs) (drop k xs)
    in
    let taken : take n (reverse xs) ≡ reverse (drop k xs) =
    sym (take_min n (reverse xs)) ∙ ap (take (min n (length (reverse xs)))) parts
    ∙ take_at (reverse (drop k xs)) (reverse (take k xs)) (min n (length (reverse xs))) (omega arith)
    in
    ap reverse (take-map f n (reverse xs) ∙ ap (map f) taken)
    ∙ map_back f (drop k xs)
  where
    map_reverse : {X Y : Type 0} (f : X → Y) (xs : List X) → map f (reverse xs) ≡ reverse (map f xs)
    map_reverse f [] = refl
    map_reverse f (x ∷ xs) =
        first_last f x xs ∙ ap (λ l. l ++ f x ∷ []) (map_reverse f xs) ∙ sym (reverse-append (f x ∷ []) (map f xs))

    map_back : {X Y : Type 0} (f : X → Y) (xs : List X) → reverse (map f (reverse xs)) ≡ map f xs
    map_back f xs = ap reverse (map_reverse f xs) ∙ reverse-reverse (map f xs)

pub drop_last : {X Y : Type 0} (f : X → Y) (xs : List X) (n : ℕ)
    → drop n (map f (reverse xs)) ≡ map f (reverse (take (length xs - n) xs))
drop_last f xs n =
    let k = length xs - n in
    let long = length-reverse xs in
    let mapped = length-map (reverse xs) f in
    let longer = length-reverse (drop k xs) in
    let rest = length-drop k xs in
    let whole = length-map (reverse (drop k xs)) f in
    let parts : map f (reverse xs) ≡ map f (reverse (drop k xs)) ++ map f (reverse (take k xs)) =
    ap (map f) (ap reverse (sym (take-append-drop k xs)) ∙ reverse-append (take k xs) (drop k xs))
    ∙ map-append f (reverse (drop k xs)) (reverse (take k xs))
    in
    sym (drop_min n (map f (reverse xs))) ∙ ap (drop (min n (length (map f (reverse xs))))) parts
    ∙ drop_at (map f (reverse (drop k xs))) (map f (reverse (take k xs))) (min n (length (map f (reverse xs)))) (omega arith)

-- ---- values

-- the newest value, or that one changed
pub newest_is : (xs : List Held) (d v : Held) → 1 ≤ length xs → get_or xs (length xs - 1) d ≡ v
    → newest xs ≡ seen v ∷ newest (take (length xs - 1) xs)
newest_is xs d v some is =
    last_seen seen xs (length xs - 1) d (omega arith)
    ∙ ap (λ x. seen x ∷ newest (take (length xs - 1) xs)) is

pub newest_set : (xs : List Held) (v : Held) → 1 ≤ length xs
    → newest (set xs (length xs - 1) v) ≡ seen v ∷ newest (take (length xs - 1) xs)
newest_set xs v some = last_set seen xs (length xs - 1) v (omega arith)

-- the two newest ones
pub newest_two : (xs : List Held) (d e u v : Held) → 2 ≤ length xs
    → get_or xs (length xs - 2) d ≡ u → get_or xs (length xs - 1) e ≡ v
    → newest xs ≡ seen v ∷ seen u ∷ newest (take (length xs - 2) xs)
newest_two xs d e u v some under is =
    let n = length xs - 1 in
    let m = length xs - 2 in
    let ys = take n xs in
    let long = length-take n xs in
    newest_is xs e v (omega arith) is
    ∙ ap (λ l. seen v ∷ l)
    (last_seen seen ys m d (omega (arith, long))
    ∙ ap (λ x. seen x ∷ newest (take m ys)) (get_or-take n xs m d (omega arith) ∙ under)
    ∙ ap (λ l. seen u ∷ newest l) (take-take m n xs (omega arith)))

-- the value under the newest one taken
pub under_taken : (xs : List Held) (x : Held) (n : ℕ) (v under : Seen) (rest : List Seen) → n ≡ length xs - 1
    → newest (xs ++ x ∷ []) ≡ v ∷ under ∷ rest → newest (set xs n x) ≡ v ∷ rest
under_taken xs x n v under rest at is =
    let both : seen x ∷ newest xs ≡ v ∷ under ∷ rest = sym (last_first seen xs x) ∙ is in
    let left : newest xs ≡ under ∷ rest = cc in
    let long = ap length left in
    let mapped = length-map (reverse xs) seen in
    let turned = length-reverse xs in
    let some : n + 1 ≡ length xs = omega arith in
    let other : newest xs ≡ seen (get_or xs n x) ∷ newest (take n xs) = last_seen seen xs n x some in
    let changed : newest (set xs n x) ≡ seen x ∷ newest (take n xs) = last_set seen xs n x some in
    cc
