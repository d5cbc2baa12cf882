-- A text that grows by what items show.
use Rattle.std.proofs.Common.{◌≡◌, ℕ, ◌+◌, ◌<◌, List, ◌++◌, length, take, get_or, ap, ◌∙◌, sym}
use Rattle.std.proofs.lemmas.List.{take_more, flat_map_more}
use Rattle.std.specs.List.{flat_map}

-- what the items up to a place show, and the one there
pub items_more : (f : ℕ → List ℕ) (old mid new : List ℕ) (xs : List ℕ) (i d : ℕ) → i < length xs
    → mid ≡ old ++ flat_map f (take i xs) → new ≡ mid ++ f (get_or xs i d) → new ≡ old ++ flat_map f (take (i + 1) xs)
items_more f old mid new xs i d within had has =
    has ∙ ap (λ bytes. bytes ++ f (get_or xs i d)) had ∙ flat_map_more f old (take i xs) (get_or xs i d)
    ∙ ap (λ ys. old ++ flat_map f ys) (sym (take_more xs i d within))
