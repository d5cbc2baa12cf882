-- Two lists whose items are the same under a map, place by place.
use Rattle.std.proofs.Common.{◌≡◌, ℕ, ◌+◌, ◌≤◌, List, [], ◌∷◌, ◌++◌, Some, map, take, length, slice_get, sym, ap, ◌∙◌}
use Rattle.std.specs.Option.{option_map}
use Rattle.std.proofs.lemmas.List.{map_more, take_all}
use Rattle.std.proofs.lemmas.Option.{same_Some, slice_get-map, slice_get_within, get_or_from_slice_get}

module _ {A B : Type 0} (f : A → B) where
  -- with the items at one place more
  pub same_more : (xs ys : List A) (i : ℕ) (x y : A) → slice_get xs i ≡ Some x → slice_get ys i ≡ Some y → f x ≡ f y
      → map f (take i xs) ≡ map f (take i ys) → map f (take (i + 1) xs) ≡ map f (take (i + 1) ys)
  same_more xs ys i x y at_x at_y e so_far =
      with_item xs x at_x ∙ ap (λ zs. zs ++ f x ∷ []) so_far ∙ ap (λ z. map f (take i ys) ++ z ∷ []) e ∙ sym (with_item ys y at_y)
    where
      with_item : (zs : List A) (z : A) → slice_get zs i ≡ Some z → map f (take (i + 1) zs) ≡ map f (take i zs) ++ f z ∷ []
      with_item zs z at_z =
          map_more f zs i z (slice_get_within zs i z at_z)
          ∙ ap (λ w. map f (take i zs) ++ f w ∷ []) (get_or_from_slice_get zs i z z at_z)

  -- they are so at each place
  pub same_at : (xs ys : List A) (i : ℕ) (x y : A) → slice_get xs i ≡ Some x → slice_get ys i ≡ Some y → map f xs ≡ map f ys → f x ≡ f y
  same_at xs ys i x y at_x at_y e =
      same_Some (f x) (f y) (sym (mapped xs x at_x) ∙ ap (λ zs. slice_get zs i) e ∙ mapped ys y at_y)
    where
      mapped : (zs : List A) (z : A) → slice_get zs i ≡ Some z → slice_get (map f zs) i ≡ Some (f z)
      mapped zs z at_z = slice_get-map f zs i ∙ ap (option_map f) at_z

  -- the whole lists
  pub same_whole : (xs ys : List A) (i : ℕ) → length xs ≤ i → length ys ≤ i → map f (take i xs) ≡ map f (take i ys) → map f xs ≡ map f ys
  same_whole xs ys i long other e = ap (map f) (sym (take_all i xs long)) ∙ e ∙ ap (map f) (take_all i ys other)
