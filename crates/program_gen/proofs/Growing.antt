-- The text of functions, and how it grows by their lines.
use Rattle.std.proofs.Common.{◌≡◌, ℕ, ◌+◌, ◌<◌, List, ◌++◌, length, take, get_or, ap, ap₂, ◌∙◌, sym}
use Rattle.std.proofs.lemmas.List.{take_more, flat_map_more}
use Rattle.std.proofs.lemmas.List.Folds.{flat_map-map}
use Rattle.std.specs.List.{flat_map, range_with_len}
use Rattle.std.specs.Prelude.{codes}
use Rattle.program_gen.specs.declared.functions.Function.{Function}
use Rattle.program_gen.specs.Generated.{text_with}
use Rattle.program_gen.specs.Shown.{function_with, functions_with, line_of, call_of, text_of}

-- the lines of the functions up to a place and of the one there
pub lines_more : (f : Function → List ℕ) (old mid new : List ℕ) (xs : List Function) (i : ℕ) (d : Function) → i < length xs
    → mid ≡ old ++ flat_map f (take i xs) → new ≡ mid ++ f (get_or xs i d) → new ≡ old ++ flat_map f (take (i + 1) xs)
lines_more f old mid new xs i d within had has =
    has ∙ ap (λ bytes. bytes ++ f (get_or xs i d)) had ∙ flat_map_more f old (take i xs) (get_or xs i d)
    ∙ ap (λ ys. old ++ flat_map f ys) (sym (take_more xs i d within))

-- the text of the functions is that by numbers
pub text_is : (seed size : ℕ) (amounts : ℕ → ℕ) (functions : List Function) → functions ≡ functions_with seed size amounts size
    → text_of functions ≡ text_with seed size amounts
text_is seed size amounts functions are =
    ap text_of are
    ∙ ap₂ (λ lines calls. codes "int g;\n" ++ lines ++ codes "int main(void) {\n" ++ calls ++ codes "return 0; }\n")
    (flat_map-map line_of (function_with seed size amounts) (range_with_len 0 size))
    (flat_map-map call_of (function_with seed size amounts) (range_with_len 0 size))
