-- The function in the middle, which adds one more in the offer.
use Rattle.std.proofs.Common.{◌≡◌, ◌≢◌, ℕ, ◌+◌, ◌*◌, ◌/◌, ◌<◌, ◌^◌, List, length, get_or, set, map, ap, sym, ◌∙◌, arith, subst, inl, inr}
use Rattle.std.specs.List.{range_with_len}
use Rattle.std.proofs.lemmas.Bool.{cases_eq}
use Rattle.std.proofs.lemmas.List.{get_or-set_same, get_or-set_other, length-set}
use Rattle.std.proofs.lemmas.List.FromFn.{length-map-range_with_len, get_or-map-range_with_len, fill_by_all}
use Rattle.std.proofs.lemmas.Nat.{mod_below}
use Rattle.program_gen.specs.declared.functions.Function.{Function}
use Rattle.program_gen.specs.Generated.{state_after, amount, changed_amount, callee, partner}
use Rattle.program_gen.specs.Shown.{function_with, functions_with}

pub all_functions : (seed size : ℕ) (amounts : ℕ → ℕ) → length (functions_with seed size amounts size) ≡ size
all_functions seed size amounts = length-map-range_with_len (function_with seed size amounts) 0 size

-- what is read at a place is the function of that number
function_is : (seed size j : ℕ) (items : List Function) (x : Function) → j < size → items ≡ functions_with seed size (amount seed) size
    → x ≡ get_or items j x → x ≡ function_with seed size (amount seed) j
function_is seed size j items x within are is =
    is ∙ ap (λ fs. get_or fs j x) are
    ∙ get_or-map-range_with_len (function_with seed size (amount seed)) 0 size j j x within (omega arith)

-- what it adds is small, so one more fits
pub amount_small : (seed size j : ℕ) (items : List Function) (x : Function) → j < size → items ≡ functions_with seed size (amount seed) size
    → x ≡ get_or items j x → x.amount < 9
amount_small seed size j items x within are is =
    subst {A = ℕ} (λ k. k < 9) (sym (ap (λ f. f.amount) (function_is seed size j items x within are is)))
    (mod_below (state_after seed (3 * j + 2) / 2 ^ 33) 9 (omega arith))

-- a list by its numbers of which one item changes
set_mapped : {X : Type 0} (f g : ℕ → X) (n j : ℕ) (x : X) → j < n → x ≡ g j → ((i : ℕ) → i ≢ j → f i ≡ g i)
    → set (map f (range_with_len 0 n)) j x ≡ map g (range_with_len 0 n)
set_mapped {X} f g n j x within is same =
    let xs : List X = map f (range_with_len 0 n) in
    let len : length xs ≡ n = length-map-range_with_len f 0 n in
    fill_by_all g (set xs j x) n x (length-set xs j x ∙ len) (λ i below.
    elim (cases_eq i j) [
      | inl e ↦ subst {A = ℕ} (λ k. get_or (set xs j x) k x ≡ g k) (sym e) (get_or-set_same xs j x x (omega (arith, len)) ∙ is)
      | inr d ↦ get_or-set_other xs j i x x d ∙ get_or-map-range_with_len f 0 n i i x below (omega arith) ∙ same i d
    ])

-- what the functions add in the offer
changed_there : (seed size : ℕ) → amount seed (size / 2) + 1 ≡ changed_amount seed size (size / 2)
changed_there seed size = grind arith

same_elsewhere : (seed size i : ℕ) → i ≢ size / 2 → amount seed i ≡ changed_amount seed size i
same_elsewhere seed size i other = grind arith

-- function i where it adds k, and a function that adds one more
abbrev adding : ℕ → ℕ → ℕ → ℕ → Function
adding seed size i k = record { number = i; callee = callee seed i; amount = k; partner = partner seed size i }

abbrev one_more : Function → Function
one_more f = record { number = f.number; callee = f.callee; amount = f.amount + 1; partner = f.partner }

-- the functions of the offer
pub changed : (seed size : ℕ) (items after : List Function) (x : Function) → 0 < size
    → items ≡ functions_with seed size (amount seed) size → x ≡ get_or items (size / 2) x
    → after ≡ set items (size / 2) (record { number = x.number; callee = x.callee; amount = x.amount + 1; partner = x.partner })
    → after ≡ functions_with seed size (changed_amount seed size) size
changed seed size items after x some are is has =
    let within : size / 2 < size = omega arith in
    let f : ℕ → Function = function_with seed size (amount seed) in
    let g : ℕ → Function = function_with seed size (changed_amount seed size) in
    has ∙ ap (λ fs. set fs (size / 2) (one_more x)) are
    ∙ set_mapped f g size (size / 2) (one_more x) within
    (ap one_more (function_is seed size (size / 2) items x within are is)
    ∙ ap (λ k. adding seed size (size / 2) k) (changed_there seed size))
    (λ i other. ap (λ k. adding seed size i k) (same_elsewhere seed size i other))
