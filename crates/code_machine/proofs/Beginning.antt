-- The slots of a run that starts.
use Rattle.std.proofs.Common.{◌≡◌, ℕ, zero, suc, ◌+◌, ◌-◌, ◌≤◌, List, [], ◌∷◌, ◌++◌, map, replicate, Some, subst, ap, ◌∙◌, arith}
use Rattle.std.specs.Prelude.{slice_get}
use Rattle.std.proofs.lemmas.Option.{same_Some}
use Rattle.std.proofs.lemmas.List.{map-append, replicate-append-replicate}
use Rattle.code_runs.specs.CodeThreads.{CodeSlot, Free}
use Rattle.code_image.specs.declared.image.CodeImage.{CodeImage}
use Rattle.code_machine.specs.declared.running.Running.{Running}
use Rattle.code_machine.specs.declared.running.Stand.TheVariants.{Free as FreeStand}
use Rattle.code_machine.specs.Seen.{slot_by, slot_of}

-- what holds of all slots and of one more
pub one_fits : (P : Running → Type 0) (rs : List Running) (r : Running) → ((n : ℕ) (x : Running) → slice_get rs n ≡ Some x → P x) → P r
    → (n : ℕ) (x : Running) → slice_get (rs ++ r ∷ []) n ≡ Some x → P x
one_fits P [] r all one zero x e = subst P (same_Some r x e) one
one_fits P [] r all one (suc n) x e = absurd (cc)
one_fits P (s ∷ rs) r all one zero x e = all zero x e
one_fits P (s ∷ rs) r all one (suc n) x e = one_fits P rs r (λ k y. all (suc k) y) one n x e

-- one more free slot
pub one_more : (image : CodeImage) (rs : List Running) (first : CodeSlot) (r : Running) (n : ℕ) → 1 ≤ n → map (slot_of image) rs ≡ first ∷ replicate (n - 1) Free
    → r.stand ≡ FreeStand → map (slot_of image) (rs ++ r ∷ []) ≡ first ∷ replicate (n + 1 - 1) Free
one_more image rs first r n some before free =
    map-append (slot_of image) rs (r ∷ [])
    ∙ ap (λ (ss : List CodeSlot). ss ++ slot_of image r ∷ []) before
    ∙ ap (λ (s : CodeSlot). (first ∷ replicate (n - 1) Free) ++ s ∷ []) (ap (slot_by image r) free)
    ∙ ap (λ (ss : List CodeSlot). first ∷ ss) (replicate-append-replicate (n - 1) 1 Free ∙ ap (λ (k : ℕ). replicate k Free) (omega (arith, some)))
