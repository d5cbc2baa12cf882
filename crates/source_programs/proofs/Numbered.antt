-- The texts of versions, by number.
use Rattle.std.proofs.Common.{◌≡◌, ℕ, zero, suc, ◌-◌, ◌<◌, List, [], ◌∷◌, map, Option, None, Some, option_map, slice_get, unwrap_or, refl, sym, ap, subst, ◌∙◌, arith}
use Rattle.std.specs.Prelude.{All}
use Rattle.std.specs.Option.{option_map_or}
use Rattle.std.proofs.lemmas.Option.{slice_get-map, unwrap_or-slice_get}
use Rattle.c_tree.specs.BareDef.{BareDef}
use Rattle.version_laws.specs.Histories.{text_in}

mapped_or : {A B : Type 0} (f : A → B) (o : Option A) (d : B) → option_map_or f o d ≡ unwrap_or (option_map f o) d
mapped_or f None d = refl
mapped_or f (Some x) d = refl

-- the text that has the number of a version is the text of the version
pub text_of_version : (at : ℕ → List BareDef) (numbers : List ℕ) (version : ℕ) → (version ≡ 0 → ⊥)
    → option_map_or at (slice_get numbers (version - 1)) [] ≡ text_in (map at numbers) version
text_of_version at numbers zero some = absurd (some refl)
text_of_version at numbers (suc v) some =
    let before : suc v - 1 ≡ v = omega arith in
    ap (λ k. option_map_or at (slice_get numbers k) []) before
    ∙ mapped_or at (slice_get numbers v) []
    ∙ ap (λ o. unwrap_or o []) (sym (slice_get-map at numbers v))
    ∙ unwrap_or-slice_get (map at numbers) v []

-- the first text is one of some
pub first_within : (n : ℕ) (numbers : List ℕ) → numbers ≡ 0 ∷ [] → 0 < n → All (λ k. k < n) numbers
first_within n numbers e some = subst (All (λ k. k < n)) (sym e) first
  where
    first : All (λ k. k < n) (0 ∷ [])
    first zero d l = some
    first (suc k) d l = absurd (omega (arith, l))
