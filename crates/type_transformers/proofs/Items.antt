-- Two lists compared item by item, from a place on.
use Rattle.std.proofs.Common.{◌≡◌, ℕ, suc, ◌+◌, ◌<◌, ◌≤◌, Bool, true, false, ◌&&◌, List, [], ◌∷◌, map, length, get_or, drop, refl, sym, ap, ◌∙◌, arith, add-one, drop-cons}
use Rattle.std.proofs.Math.ListN.{drop_of_length-le}
use Rattle.c_semantics.specs.Same.{same_list}

item_at : {A : Type 0} (xs : List A) (i : ℕ) (x : A) → i < length xs → x ≡ get_or xs i x → drop i xs ≡ x ∷ drop (i + 1) xs
item_at xs i x within is =
    drop-cons xs i x within ∙ ap (λ y. y ∷ drop (suc i) xs) (sym is) ∙ ap (λ n. x ∷ drop n xs) (sym (add-one i))

and_false : (b c : Bool) → c ≡ false → (b && c) ≡ false
and_false true c e = e
and_false false c e = refl

module _ {A B : Type 0} (f : A → B) (same : B → B → Bool) where
  abbrev pub from : List A → List A → ℕ → Bool
  from xs ys i = same_list same (map f (drop i xs)) (map f (drop i ys))

  pub from_item : (xs ys : List A) (i : ℕ) (x y : A) → i < length xs → i < length ys → x ≡ get_or xs i x → y ≡ get_or ys i y
      → from xs ys i ≡ (same (f x) (f y) && from xs ys (i + 1))
  from_item xs ys i x y within also x_is y_is =
      ap (λ l. same_list same (map f l) (map f (drop i ys))) (item_at xs i x within x_is)
      ∙ ap (λ l. same_list same (map f (x ∷ drop (i + 1) xs)) (map f l)) (item_at ys i y also y_is)

  pub from_end : (xs ys : List A) (i : ℕ) → length xs ≤ i → length xs ≡ length ys → from xs ys i ≡ true
  from_end xs ys i past same_length =
      ap (λ l. same_list same (map f l) (map f (drop i ys))) (drop_of_length-le xs past)
      ∙ ap (λ l. same_list same [] (map f l)) (drop_of_length-le ys (omega arith))

  pub other_lengths : (xs ys : List A) → (length xs ≡ length ys → ⊥) → same_list same (map f xs) (map f ys) ≡ false
  other_lengths [] [] apart = absurd (apart refl)
  other_lengths [] (y ∷ ys) apart = refl
  other_lengths (x ∷ xs) [] apart = refl
  other_lengths (x ∷ xs) (y ∷ ys) apart =
      and_false (same (f x) (f y)) (same_list same (map f xs) (map f ys)) (other_lengths xs ys (λ e. apart (ap suc e)))
