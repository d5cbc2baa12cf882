-- The draws for one function more.
use Rattle.std.proofs.Common.{◌≡◌, ℕ, suc, ◌+◌, ◌*◌, max, List, [], ◌∷◌, ◌++◌, ap, ap₂, sym, ◌∙◌, arith, subst}
use Rattle.std.proofs.lemmas.List.FromFn.{map-range_with_len_more}
use Rattle.program_gen.specs.declared.functions.Function.{Function}
use Rattle.program_gen.specs.Generated.{next_state, number_below, state_after, callee, amount, partner}
use Rattle.program_gen.specs.Shown.{function_with, functions_with}

next_of : (seed n : ℕ) → state_after seed (n + 1) ≡ next_state (state_after seed n)
next_of seed n = let one : n + 1 ≡ suc n = omega arith in ap (state_after seed) one

-- the states after one, two and three draws more
pub state_1 : (seed n s t : ℕ) → s ≡ state_after seed n → t ≡ next_state s → t ≡ state_after seed (n + 1)
state_1 seed n s t before step = step ∙ ap next_state before ∙ sym (next_of seed n)

pub state_2 : (seed n s t u : ℕ) → s ≡ state_after seed n → t ≡ next_state s → u ≡ next_state t → u ≡ state_after seed (n + 2)
state_2 seed n s t u before first second =
    let k : n + 1 + 1 ≡ n + 2 = omega arith in
    state_1 seed (n + 1) t u (state_1 seed n s t before first) second ∙ ap (state_after seed) k

pub state_3 : (seed n s t u v : ℕ) → s ≡ state_after seed n → t ≡ next_state s → u ≡ next_state t → v ≡ next_state u → v ≡ state_after seed (n + 3)
state_3 seed n s t u v before first second third =
    let k : n + 2 + 1 ≡ n + 3 = omega arith in
    state_1 seed (n + 2) u v (state_2 seed n s t u before first second) third ∙ ap (state_after seed) k

-- three draws more are those of one function more
pub all_drawn : (seed i s t u v : ℕ) → s ≡ state_after seed (3 * i) → t ≡ next_state s → u ≡ next_state t → v ≡ next_state u
    → v ≡ state_after seed (3 * (i + 1))
all_drawn seed i s t u v before first second third =
    let n : 3 * i + 3 ≡ 3 * (i + 1) = omega arith in
    subst {A = ℕ} (λ k. v ≡ state_after seed k) n (state_3 seed (3 * i) s t u v before first second third)

abbrev drawn : ℕ → ℕ → ℕ → ℕ → Function
drawn i a k b = record { number = i; callee = a; amount = k; partner = b }

-- they are what is drawn for that function
pub drawn_is : (seed size i s t u v a k b m : ℕ) → s ≡ state_after seed (3 * i) → t ≡ next_state s → u ≡ next_state t → v ≡ next_state u
    → m ≡ max i 1 → a ≡ number_below m t → k ≡ number_below 9 u → b ≡ number_below size v
    → drawn i a k b ≡ function_with seed size (amount seed) i
drawn_is seed size i s t u v a k b m before first second third most calls adds beside =
    let p : a ≡ callee seed i = calls ∙ ap₂ number_below most (state_1 seed (3 * i) s t before first) in
    let q : k ≡ amount seed i = adds ∙ ap (number_below 9) (state_2 seed (3 * i) s t u before first second) in
    let r : b ≡ partner seed size i = beside ∙ ap (number_below size) (state_3 seed (3 * i) s t u v before first second third) in
    ap (λ x. drawn i x k b) p ∙ ap (λ x. drawn i (callee seed i) x b) q
    ∙ ap (λ x. drawn i (callee seed i) (amount seed i) x) r

-- the functions so far and one more
pub one_more : (seed size i : ℕ) (before after : List Function) (f : Function) → before ≡ functions_with seed size (amount seed) i
    → after ≡ before ++ f ∷ [] → f ≡ function_with seed size (amount seed) i → after ≡ functions_with seed size (amount seed) (i + 1)
one_more seed size i before after f had has is =
    has ∙ ap₂ (λ fs g. fs ++ g ∷ []) had is ∙ sym (map-range_with_len_more (function_with seed size (amount seed)) 0 i i (omega arith))
