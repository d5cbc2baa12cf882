-- Cells cut or filled to a number, as the definitions see them.
use Rattle.std.proofs.Common.{◌≡◌, ℕ, zero, suc, List, [], ◌∷◌, ◌++◌, map, take, replicate, refl, ap, ◌∙◌}
use Rattle.std.proofs.lemmas.List.{map-append}
use Rattle.c_semantics.specs.Values.{Value}
use Rattle.local_evaluation.specs.declared.value.Value.{Value as Held}
use Rattle.local_evaluation.specs.Values.{seen}

first_seen : (n : ℕ) (cells : List Held) → map seen (take n cells) ≡ take n (map seen cells)
first_seen zero [] = refl
first_seen zero (v ∷ cells) = refl
first_seen (suc n) [] = refl
first_seen (suc n) (v ∷ cells) = ap (λ l. seen v ∷ l) (first_seen n cells)

same_seen : (n : ℕ) (v : Held) → map seen (replicate n v) ≡ replicate n (seen v)
same_seen zero v = refl
same_seen (suc n) v = ap (λ l. seen v ∷ l) (same_seen n v)

pub filled_seen : (n k : ℕ) (cells : List Held) (v : Held) (w : Value) → seen v ≡ w
    → map seen (take n cells ++ replicate k v) ≡ take n (map seen cells) ++ replicate k w
filled_seen n k cells v w is =
    map-append seen (take n cells) (replicate k v)
    ∙ ap (λ l. l ++ map seen (replicate k v)) (first_seen n cells)
    ∙ ap (λ l. take n (map seen cells) ++ l) (same_seen k v ∙ ap (replicate k) is)
