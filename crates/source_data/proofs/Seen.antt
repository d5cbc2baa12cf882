-- Lists of values as the definitions have them.
use Rattle.std.proofs.Common.{◌≡◌, ℕ, ◌+◌, ◌<◌, List, ◌∷◌, length, drop, get_or, map, sym, ap, ◌∙◌}
use Rattle.std.proofs.lemmas.List.{drop-map, drop_more}
use Rattle.local_evaluation.specs.declared.value.Value.{Value as Held}
use Rattle.local_evaluation.specs.Values.{seen}

-- the values from one on, where there is one
pub from_one : (xs : List Held) (i : ℕ) (x : Held) → i < length xs → x ≡ get_or xs i x
    → drop i (map seen xs) ≡ seen x ∷ drop (i + 1) (map seen xs)
from_one xs i x within is =
    drop-map seen i xs
    ∙ ap (map seen) (drop_more xs i x within)
    ∙ ap (λ y. seen y ∷ map seen (drop (i + 1) xs)) (sym is)
    ∙ ap (λ ys. seen x ∷ ys) (sym (drop-map seen (i + 1) xs))
