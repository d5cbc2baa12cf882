-- What a map from numbers has after a change at one of them.
use Rattle.std.proofs.Common.{◌≡◌, ◌≢◌, ℕ, true, false, cond, Option, Some, None, is_some, IsSome, refl, sym, ap, ◌∙◌, inl, inr}
use Rattle.std.proofs.lemmas.Bool.{cases_eq, eq-eqb, ne_eqb, true≢false}
use Rattle.std.specs.Ordering.{nat_cmp, eq_by_cmp}
use Rattle.std.specs.Cmp.{nat_cmp_total, unsigned_tied}
use Rattle.std.specs.FinMap.{FinMap, get, insert, remove, get-insert, get-remove, same_map, nat_cmp-IsAntisymmetric}

pub alike : (a b : ℕ) → a ≡ b → eq_by_cmp nat_cmp a b ≡ true
alike a b same = unsigned_tied a b ∙ eq-eqb a b same

pub unlike : (a b : ℕ) → a ≢ b → eq_by_cmp nat_cmp a b ≡ false
unlike a b differs = unsigned_tied a b ∙ ne_eqb a b differs

-- an option that isn't one of a value is none
pub none_of : {X : Type 0} (o : Option X) → (IsSome o → ⊥) → o ≡ None
none_of None isnt = refl
none_of (Some x) isnt = absurd (isnt refl)

pub none_isnt : {X : Type 0} (o : Option X) → o ≡ None → IsSome o → ⊥
none_isnt o none there = true≢false (sym there ∙ ap is_some none)

module _ {X : Type 0} (m : FinMap nat_cmp X) (key : ℕ) where
  pub get_inserted : (x : X) → get (insert m key x) key ≡ Some x
  get_inserted x = get-insert nat_cmp_total m key x key ∙ ap (λ b. cond b (Some x) (get m key)) (alike key key refl)

  pub get_not_inserted : (x : X) (q : ℕ) → q ≢ key → get (insert m key x) q ≡ get m q
  get_not_inserted x q differs = get-insert nat_cmp_total m key x q ∙ ap (λ b. cond b (Some x) (get m q)) (unlike q key differs)

  pub get_removed : get (remove m key) key ≡ None
  get_removed = get-remove nat_cmp_total m key key ∙ ap (λ b. cond b None (get m key)) (alike key key refl)

  pub get_not_removed : (q : ℕ) → q ≢ key → get (remove m key) q ≡ get m q
  get_not_removed q differs = get-remove nat_cmp_total m key q ∙ ap (λ b. cond b None (get m q)) (unlike q key differs)

  -- to remove what isn't there changes nothing
  pub remove_none : get m key ≡ None → remove m key ≡ m
  remove_none none =
      same_map nat_cmp_total nat_cmp-IsAntisymmetric _ _ (λ q. elim (cases_eq q key) [
        | inl is ↦ rw is (get_removed ∙ sym none)
        | inr differs ↦ get_not_removed q differs
      ])
