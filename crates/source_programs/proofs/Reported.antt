-- What is reported of some of a list's items, one after the other.
use Rattle.std.proofs.Common.{◌≡◌, List, [], ◌∷◌, ◌++◌, map, Option, Some, None, sym, ap, ◌∙◌}
use Rattle.std.specs.Prelude.{filter_map}
use Rattle.std.specs.List.{cons_option}
use Rattle.std.proofs.lemmas.List.{append-nil, map-append}
use Rattle.std.proofs.lemmas.List.Elements.{filter_map-append}

-- one more item of which something is reported
pub reported_some : {A B D : Type 0} (f : A → D) (h : B → Option D) (xs more : List A) (x : A) (ys zs : List B) (y : B)
    → more ≡ xs ++ x ∷ [] → zs ≡ ys ++ y ∷ [] → map f xs ≡ filter_map h ys → Some (f x) ≡ h y → map f more ≡ filter_map h zs
reported_some f h xs more x ys zs y e g before here =
    ap (map f) e ∙ map-append f xs (x ∷ []) ∙ ap (λ ds. ds ++ f x ∷ []) before
    ∙ ap (λ o. filter_map h ys ++ cons_option o []) here
    ∙ sym (ap (filter_map h) g ∙ filter_map-append h ys (y ∷ []))

-- one of which nothing is
pub reported_none : {A B D : Type 0} (f : A → D) (h : B → Option D) (xs : List A) (ys zs : List B) (y : B)
    → zs ≡ ys ++ y ∷ [] → map f xs ≡ filter_map h ys → None ≡ h y → map f xs ≡ filter_map h zs
reported_none f h xs ys zs y g before here =
    before ∙ sym (append-nil (filter_map h ys)) ∙ ap (λ o. filter_map h ys ++ cons_option o []) here
    ∙ sym (ap (filter_map h) g ∙ filter_map-append h ys (y ∷ []))
