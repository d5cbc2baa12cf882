-- Items of lists by their places.
use Rattle.std.proofs.Common.{◌≡◌, ◌≤◌, ◌<◌, ◌-◌, ℕ, zero, suc, List, [], ◌∷◌, ◌++◌, map, length, Option, Some, None, option_map, refl, sym, ap, subst, ◌∙◌, arith}
use Rattle.std.specs.Prelude.{All, Vec, slice_get}
use Rattle.std.specs.declared.alloc.Global.{Global}
use Rattle.std.proofs.lemmas.List.{get_or-map, length-map}
use Rattle.std.proofs.lemmas.Option.{same_Some, slice_get-get_or, slice_get-map, slice_get_within}

pub nothing : {X : Type 0} (x : X) → None ≡ Some x → ⊥
nothing x e = cc

-- what holds of each item of a list holds of what is found in it
pub found_in : {X : Type 0} (P : X → Type 0) (xs : List X) (n : ℕ) (x : X) → All P xs → slice_get xs n ≡ Some x → P x
found_in P xs n x all there =
    let within = slice_get_within xs n x there in
    subst P (same_Some _ _ (sym (slice_get-get_or xs n x within) ∙ there)) (all n x within)

-- what holds of each image of an item holds of the item by its image
pub of_images : {X Y : Type 0} (P : Y → Type 0) (f : X → Y) (xs : List X) → All P (map f xs) → All (λ x. P (f x)) xs
of_images P f xs all = λ k d within.
    subst P (get_or-map f xs k d (f d) within) (all k (f d) (omega (arith, within, length-map xs f)))

-- an item of a list at the place of an item with the same image
pub record Paired {X Y Z : Type 0} (f : X → Z) (g : Y → Z) (ys : List Y) (k : ℕ) (x : X) : Type 0 where
  pub item : Y
  pub there : slice_get ys k ≡ Some item
  pub same : f x ≡ g item

pub paired : {X Y Z : Type 0} (f : X → Z) (g : Y → Z) (xs : List X) (ys : List Y) (k : ℕ) (x : X) → map f xs ≡ map g ys → slice_get xs k ≡ Some x
    → Paired f g ys k x
paired {X} {Y} {Z} f g xs ys k x e at = by (slice_get ys k) refl
  where
    here : Some (f x) ≡ option_map g (slice_get ys k)
    here = sym (ap (option_map f) at) ∙ sym (slice_get-map f xs k) ∙ ap (λ zs. slice_get zs k) e ∙ slice_get-map g ys k

    by : (o : Option Y) → slice_get ys k ≡ o → Paired f g ys k x
    by None there = absurd (nothing (f x) (sym (here ∙ ap (option_map g) there)))
    by (Some y) there = record { item = y; there = there; same = same_Some _ _ (here ∙ ap (option_map g) there) }

-- ---- lists that follow one another

pub in_first : {X : Type 0} (xs ys : List X) (k : ℕ) (x : X) → slice_get xs k ≡ Some x → slice_get (xs ++ ys) k ≡ Some x
in_first [] ys k x e = absurd (nothing x e)
in_first (z ∷ zs) ys zero x e = e
in_first (z ∷ zs) ys (suc k) x e = in_first zs ys k x e

pub in_second : {X : Type 0} (xs ys : List X) (k : ℕ) → length xs ≤ k → slice_get (xs ++ ys) k ≡ slice_get ys (k - length xs)
in_second [] ys k l = let same : k - 0 ≡ k = omega arith in ap (slice_get ys) (sym same)
in_second (z ∷ zs) ys zero l = absurd (omega (arith, l))
in_second (z ∷ zs) ys (suc k) l =
    let same : suc k - suc (length zs) ≡ k - length zs = omega arith in
    in_second zs ys k (omega (arith, l)) ∙ ap (slice_get ys) (sym same)

-- ---- one item more

pub still_there : {X : Type 0} (xs ys : List X) (k : ℕ) → k < length xs → slice_get (xs ++ ys) k ≡ slice_get xs k
still_there [] ys k l = absurd (omega (arith, l))
still_there (z ∷ zs) ys zero l = refl
still_there (z ∷ zs) ys (suc k) l = still_there zs ys k (omega (arith, l))

pub is_last : {X : Type 0} (xs : List X) (y : X) (k : ℕ) → k ≡ length xs → slice_get (xs ++ y ∷ []) k ≡ Some y
is_last [] y zero e = refl
is_last [] y (suc k) e = absurd (omega (arith, e))
is_last (z ∷ zs) y zero e = absurd (omega (arith, e))
is_last (z ∷ zs) y (suc k) e = is_last zs y k (omega (arith, e))

-- ---- lists of lists

pub same_length : {X Y Z : Type 0} (f : X → Y) (g : Z → List Y) (zs : List Z) (parts : List (Vec X Global))
    → map (map f) (map (λ p. p.items) parts) ≡ map g zs → length parts ≡ length zs
same_length {X} f g zs parts same =
    let items : List (List X) = map (λ p. p.items) parts in
    sym (length-map parts (λ p. p.items)) ∙ sym (length-map items (map f)) ∙ ap length same ∙ length-map zs g
