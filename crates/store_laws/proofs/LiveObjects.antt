-- What lives in a store and in a world.
use Rattle.std.proofs.Common.{◌≡◌, ℕ, zero, suc, ◌+◌, ◌<◌, ◌==◌, not, cond, List, [], ◌∷◌, map, length, Some, None, is_some, count_by, get_or, slice_get, option_map, refl, sym, ap, ◌∙◌, arith}
use Rattle.std.proofs.lemmas.List.Sums.{sum_by-cons}
use Rattle.std.proofs.lemmas.Option.{slice_get-map}
use Rattle.source_model.specs.Worlds.{Object}
use Rattle.object_store.specs.Naming.{Objects}
use Rattle.object_store.proofs.NamedObjects.{creation_fails}
use Rattle.store_laws.specs.HandleLaws.{CreationsFailAlike, LeadsAlike}

-- lists that live alike have as many that live
as_many : (objects : Objects) (os : List Object) → map is_some objects ≡ map (λ o. o.live) os → count_by is_some objects ≡ count_by (λ o. o.live) os
as_many objects os alike = counts objects ∙ ap (count_by (λ b. b)) alike ∙ sym (counts_live os)
  where
    counts : (xs : Objects) → count_by is_some xs ≡ count_by (λ b. b) (map is_some xs)
    counts [] = refl
    counts (x ∷ xs) = sum_by-cons _ x xs ∙ ap (λ n. cond (is_some x) 1 0 + n) (counts xs) ∙ sym (sum_by-cons _ (is_some x) (map is_some xs))

    counts_live : (xs : List Object) → count_by (λ o. o.live) xs ≡ count_by (λ b. b) (map (λ o. o.live) xs)
    counts_live [] = refl
    counts_live (x ∷ xs) = sum_by-cons _ x xs ∙ ap (λ n. cond x.live 1 0 + n) (counts_live xs) ∙ sym (sum_by-cons _ x.live (map (λ o. o.live) xs))

pub creations_fail_alike : CreationsFailAlike
creations_fail_alike handle objects w s t object result named alike capacity made =
    creation_fails handle objects s t object result named made
    ∙ ap not (λ i. as_many objects w.objects alike i == capacity i)

pub leads_alike : LeadsAlike
leads_alike handle objects w s n named alike there =
    sym (slice_get-map (λ o. o.live) w.objects n) ∙ ap (λ bs. slice_get bs n) (sym alike) ∙ slice_get-map is_some objects n
    ∙ there_is objects n there ∙ ap (λ o. Some (is_some o)) (sym (named.leads n there))
  where
    there_is : (xs : Objects) (n : ℕ) → n < length xs → option_map is_some (slice_get xs n) ≡ Some (is_some (get_or xs n None))
    there_is [] n there = absurd (omega (arith, there))
    there_is (x ∷ xs) zero there = refl
    there_is (x ∷ xs) (suc n) there = there_is xs n (omega (arith, there))
