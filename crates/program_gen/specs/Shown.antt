-- What a program's functions, as values, show of its text.
use Rattle.std.specs.Prelude.{ℕ, List, ◌++◌, map, codes}
use Rattle.std.specs.List.{flat_map, range_with_len}
use Rattle.program_gen.specs.declared.functions.Function.{Function}
use Rattle.program_gen.specs.Generated.{callee, partner, function_line, call_line}

-- function i, where it adds `amounts i`
abbrev pub function_with : ℕ → ℕ → (ℕ → ℕ) → ℕ → Function
function_with seed size amounts i =
    record { number = i; callee = callee seed i; amount = amounts i; partner = partner seed size i }

-- the functions so far
abbrev pub functions_with : ℕ → ℕ → (ℕ → ℕ) → ℕ → List Function
functions_with seed size amounts n = map (function_with seed size amounts) (range_with_len 0 n)

-- the line of a function
abbrev pub line_of : Function → List ℕ
line_of f = function_line f.number f.callee f.amount

-- the line of main that calls it
abbrev pub call_of : Function → List ℕ
call_of f = call_line f.number f.partner

-- the text of a program with these functions
abbrev pub text_of : List Function → List ℕ
text_of functions =
    codes "int g;\n" ++ flat_map line_of functions ++ codes "int main(void) {\n" ++ flat_map call_of functions
    ++ codes "return 0; }\n"
