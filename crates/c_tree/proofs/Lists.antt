-- Lists that are compared item by item under a function.
use Rattle.std.proofs.Common.{◌≡◌, ℕ, ◌<◌, List, length, get_or, map, sym, ◌∙◌, ap}
use Rattle.std.proofs.lemmas.List.{get_or-map}

-- lists that are equal under f are so at each place
pub equal_at : {A B : Type 0} (f : A → B) (xs ys : List A) (i : ℕ) (x y : A) → i < length xs → i < length ys →
    x ≡ get_or xs i x → y ≡ get_or ys i y → map f xs ≡ map f ys → f x ≡ f y
equal_at f xs ys i x y below also x_is y_is e =
    ap f x_is ∙ sym (get_or-map f xs i x (f x) below) ∙ ap (λ l. get_or l i (f x)) e ∙ get_or-map f ys i y (f x) also
    ∙ sym (ap f y_is)
