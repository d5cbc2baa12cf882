-- The text of a generated program and that of its offer, for a seed and a number of functions.
use Rattle.std.specs.Prelude.{ℕ, zero, suc, ◌+◌, ◌*◌, ◌/◌, ◌%◌, ◌^◌, ◌==◌, if◌then◌else◌, max, List, ◌++◌, codes}
use Rattle.std.specs.Fmt.{decimal}
use Rattle.std.specs.List.{flat_map, range_with_len}

-- ---- what is drawn

-- the state after a state: one step of a linear congruential generator
abbrev pub next_state : ℕ → ℕ
next_state state = (state * 6364136223846793005 + 1442695040888963407) % 2 ^ 64

-- the number below a bound that a state gives
abbrev pub number_below : ℕ → ℕ → ℕ
number_below bound state = (state / 2 ^ 33) % bound

-- the state after so many draws, the seed before the first
abbrev pub state_after : ℕ → ℕ → ℕ
state_after seed zero = seed
state_after seed (suc draws) = next_state (state_after seed draws)

-- For each function, in order, three numbers are drawn. The first is the function that it calls, an earlier
-- one; the first function calls none.
abbrev pub callee : ℕ → ℕ → ℕ
callee seed i = number_below (max i 1) (state_after seed (3 * i + 1))

-- the second is what it adds to g
abbrev pub amount : ℕ → ℕ → ℕ
amount seed i = number_below 9 (state_after seed (3 * i + 2))

-- the third is the function that main calls beside it
abbrev pub partner : ℕ → ℕ → ℕ → ℕ
partner seed size i = number_below size (state_after seed (3 * i + 3))

-- ---- the texts

-- the line of the first function, by what it adds
abbrev pub first_line : ℕ → List ℕ
first_line added = codes "int f0(void) { g = g + " ++ decimal added ++ codes "; return 1; }\n"

-- the line of a later function i, by what it calls and what it adds
abbrev pub later_line : ℕ → ℕ → ℕ → List ℕ
later_line i called added =
    codes "int f" ++ decimal i ++ codes "(void) { int s = f" ++ decimal called ++ codes "(); g = g + "
    ++ decimal added ++ codes "; return s; }\n"

-- the line of function i
abbrev pub function_line : ℕ → ℕ → ℕ → List ℕ
function_line i called added = if i == 0 then first_line added else later_line i called added

-- the line of main that calls function i and another
abbrev pub call_line : ℕ → ℕ → List ℕ
call_line i other =
    codes "dsu_tx { printf(\"%d\\n\", f" ++ decimal i ++ codes "() + f" ++ decimal other ++ codes "()); }\n"

-- the text whose function i adds `amounts i`
abbrev pub text_with : ℕ → ℕ → (ℕ → ℕ) → List ℕ
text_with seed size amounts =
    codes "int g;\n" ++ flat_map (λ i. function_line i (callee seed i) (amounts i)) (range_with_len 0 size)
    ++ codes "int main(void) {\n" ++ flat_map (λ i. call_line i (partner seed size i)) (range_with_len 0 size)
    ++ codes "return 0; }\n"

-- the program
abbrev pub program_text : ℕ → ℕ → List ℕ
program_text seed size = text_with seed size (amount seed)

-- what function i adds in the offer: the one in the middle adds one more
abbrev pub changed_amount : ℕ → ℕ → ℕ → ℕ
changed_amount seed size i = if i == size / 2 then amount seed i + 1 else amount seed i

-- the offer
abbrev pub offer_text : ℕ → ℕ → List ℕ
offer_text seed size = text_with seed size (changed_amount seed size)
