-- Rows of words: their parts, and their order.
use Rattle.std.proofs.Common.{◌≡◌, ℕ, zero, suc, ◌+◌, ◌<◌, ◌≤◌, List, [], ◌∷◌, ◌++◌, reverse, take, drop, refl, sym, ap, ◌∙◌, arith}
use Rattle.std.specs.Prelude.{slice_index}
use Rattle.std.proofs.lemmas.List.{reverse-append, reverse-reverse}
use Rattle.bytecode.specs.Meaning.{State}
use Rattle.thread_state.specs.Frames.{downward, state_at, upward}

-- a row that is as long as two
pub upward_append : (ws : List ℕ) (from m n k : ℕ) → k ≡ m + n → upward ws from k ≡ upward ws from m ++ upward ws (from + m) n
upward_append ws from zero n k e =
    let long : k ≡ n = omega arith in
    let at : from + zero ≡ from = omega arith in
    rw (long, at) refl
upward_append ws from (suc m) n k e =
    let long : k ≡ suc (m + n) = omega arith in
    let at : from + suc m ≡ suc from + m = omega arith in
    let rest : upward ws (suc from) (m + n) ≡ upward ws (suc from) m ++ upward ws (suc from + m) n = upward_append ws (suc from) m n (m + n) refl in
    rw (long, at, rest) refl

-- the two orders
pub downward_reverse : (ws : List ℕ) (from n : ℕ) → downward ws from n ≡ reverse (upward ws from n)
downward_reverse ws from zero = refl
downward_reverse ws from (suc n) =
    let long : suc n ≡ n + 1 = omega arith in
    let last : upward ws from (suc n) ≡ upward ws from n ++ slice_index ws (from + n) ∷ [] = upward_append ws from n 1 (suc n) long in
    let turned : reverse (upward ws from n ++ slice_index ws (from + n) ∷ []) ≡ slice_index ws (from + n) ∷ reverse (upward ws from n) = reverse-append (upward ws from n) (slice_index ws (from + n) ∷ []) in
    let rest : downward ws from n ≡ reverse (upward ws from n) = downward_reverse ws from n in
    ap (λ (xs : List ℕ). slice_index ws (from + n) ∷ xs) rest ∙ sym (ap reverse last ∙ turned)

-- the newest words of a stack, and the others
pub take_newest : (ws : List ℕ) (from d n h : ℕ) → h ≡ d + n → take n (downward ws from h) ≡ downward ws (from + d) n
take_newest ws from d zero h e = refl
take_newest ws from d (suc n) h e =
    let high : h ≡ suc (d + n) = omega arith in
    let at : from + (d + n) ≡ from + d + n = omega arith in
    let rest : take n (downward ws from (d + n)) ≡ downward ws (from + d) n = take_newest ws from d n (d + n) refl in
    rw (high, at, rest) refl

pub drop_newest : (ws : List ℕ) (from d n h : ℕ) → h ≡ d + n → drop n (downward ws from h) ≡ downward ws from d
drop_newest ws from d zero h e = let high : h ≡ d = omega arith in rw high refl
drop_newest ws from d (suc n) h e =
    let high : h ≡ suc (d + n) = omega arith in
    rw high (drop_newest ws from d n (d + n) refl)

-- words that are taken off a stack as arguments, in order
pub newest_in_order : (ws : List ℕ) (from d n h : ℕ) → h ≡ d + n → upward ws (from + d) n ≡ reverse (take n (downward ws from h))
newest_in_order ws from d n h e =
    sym (ap reverse (take_newest ws from d n h e ∙ downward_reverse ws (from + d) n) ∙ reverse-reverse (upward ws (from + d) n))

-- a row whose words are those of another in the other order
pub turned_row : (a b : List ℕ) (to from n : ℕ) → ((i j : ℕ) → to ≤ i → i < to + n → i + j + 1 ≡ to + from + n → slice_index a i ≡ slice_index b j) → upward a to n ≡ downward b from n
turned_row a b to from zero h = refl
turned_row a b to from (suc n) h =
    let here : slice_index a to ≡ slice_index b (from + n) = h to (from + n) (omega arith) (omega arith) (omega arith) in
    let rest : upward a (suc to) n ≡ downward b from n = turned_row a b (suc to) from n (λ i j p q e. h i j (omega arith) (omega arith) (omega arith)) in
    cc

pub reversed_row : (a b : List ℕ) (to from n : ℕ) → ((i j : ℕ) → to ≤ i → i < to + n → i + j + 1 ≡ to + from + n → slice_index a i ≡ slice_index b j) → upward a to n ≡ reverse (upward b from n)
reversed_row a b to from n h = turned_row a b to from n h ∙ downward_reverse b from n

-- rows with the same words at different places
same_up : (a b : List ℕ) (from to n : ℕ) → ((i : ℕ) → i < n → slice_index b (to + i) ≡ slice_index a (from + i)) → upward b to n ≡ upward a from n
same_up a b from to zero h = refl
same_up a b from to (suc n) h =
    let at : to + 0 ≡ to = omega arith in
    let there : from + 0 ≡ from = omega arith in
    let here : slice_index b to ≡ slice_index a from =
    ap (slice_index b) (sym at) ∙ h 0 (omega arith) ∙ ap (slice_index a) there in
    let next : (i : ℕ) → i < n → slice_index b (suc to + i) ≡ slice_index a (suc from + i) =
    λ i p.
    let one : suc to + i ≡ to + suc i = omega arith in
    let two : from + suc i ≡ suc from + i = omega arith in
    ap (slice_index b) one ∙ h (suc i) (omega arith) ∙ ap (slice_index a) two in
    let rest : upward b (suc to) n ≡ upward a (suc from) n = same_up a b (suc from) (suc to) n next in
    cc

same_down : (a b : List ℕ) (from to n : ℕ) → ((i : ℕ) → i < n → slice_index b (to + i) ≡ slice_index a (from + i)) → downward b to n ≡ downward a from n
same_down a b from to zero h = refl
same_down a b from to (suc n) h =
    let here : slice_index b (to + n) ≡ slice_index a (from + n) = h n (omega arith) in
    let rest : downward b to n ≡ downward a from n = same_down a b from to n (λ i p. h i (omega arith)) in
    cc

-- a frame whose words are at another place
pub copied_state : (a b : List ℕ) (from to many height : ℕ) → ((i : ℕ) → i < many + height → slice_index b (to + i) ≡ slice_index a (from + i))
    → (place : ℕ) → state_at b to many place height ≡ state_at a from many place height
copied_state a b from to many height h place =
    let locals : upward b to many ≡ upward a from many = same_up a b from to many (λ i p. h i (omega arith)) in
    let stack : downward b (to + many) height ≡ downward a (from + many) height =
    same_down a b (from + many) (to + many) height (λ i p.
    let one : to + many + i ≡ to + (many + i) = omega arith in
    let two : from + (many + i) ≡ from + many + i = omega arith in
    ap (slice_index b) one ∙ h (many + i) (omega arith) ∙ ap (slice_index a) two) in
    rw (locals, stack) refl
