-- Cells that are cut or filled, as the definitions have them.
use Rattle.std.proofs.Common.{◌≡◌, ℕ, ◌-◌, zero, suc, List, ◌∷◌, ◌++◌, length, take, replicate, map, refl, sym, ap, ◌∙◌}
use Rattle.std.proofs.lemmas.List.{map-append, length-map, take-map}
use Rattle.c_tree.specs.BareExpr.{BareType}
use Rattle.c_semantics.specs.Values.{Value, zero_of}
use Rattle.c_semantics.specs.Constants.{filled}
use Rattle.local_evaluation.specs.declared.value.Value.{Value as Held}
use Rattle.local_evaluation.specs.Values.{seen}

copies : (n : ℕ) (x : Held) → map seen (replicate n x) ≡ replicate n (seen x)
copies zero x = refl
copies (suc n) x = ap (λ ys. seen x ∷ ys) (copies n x)

-- cells that are cut or filled with zeros
pub filled_cells : (type : BareType) (n : ℕ) (cells more : List Held) (vs : List Value) (x : Held) → seen x ≡ zero_of type
    → map seen cells ≡ vs → more ≡ take n cells ++ replicate (n - length cells) x → map seen more ≡ filled type n vs
filled_cells type n cells more vs x zero_is cells_are is =
    ap (map seen) is
    ∙ map-append seen (take n cells) (replicate (n - length cells) x)
    ∙ ap (λ l. map seen (take n cells) ++ l) (copies (n - length cells) x ∙ ap (replicate (n - length cells)) zero_is)
    ∙ ap (λ l. l ++ replicate (n - length cells) (zero_of type)) (sym (take-map seen n cells))
    ∙ ap (λ k. take n (map seen cells) ++ replicate (n - k) (zero_of type)) (sym (length-map cells seen))
    ∙ ap (filled type n) cells_are
