-- Sets of ids by their members: what callers need of them.
use Rattle.std.proofs.Common.{◌≡◌, ◌≢◌, ℕ, ◌+◌, ◌-◌, ◌*◌, ◌/◌, ◌%◌, ◌^◌, ◌<◌, ◌≤◌, ◌⊎◌, ◌↔◌, inl, inr, bit_and, bit_or, sym, ap, subst, ◌∙◌, arith}
use Rattle.std.specs.Int.{bit_at}
use Rattle.std.specs.Int.Bits.{or_add_and}
use Rattle.std.proofs.lemmas.Nat.{and_le_r, pow_pos, shr-shr}
use Rattle.std.proofs.Math.Nat.{lt-div-mul-add}
use Rattle.std.proofs.lemmas.Nat.Bits.{bit_at-lt, same_from_bits, bit_at_or, bit_at_and, bit_at-zero}
use Rattle.std.proofs.lemmas.Bool.{cases_eq}
use Rattle.name_sets.specs.IdSet.{Holds, HasIds}

-- an id is in a set or not
pub Holds_or_not : (set id : ℕ) → Holds set id ⊎ (Holds set id → ⊥)
Holds_or_not set id = cases_eq (bit_at set id) 1

-- sets with the same members are one
pub same_set : (a b : ℕ) → ((id : ℕ) → Holds a id ↔ Holds b id) → a ≡ b
same_set a b same = same_from_bits a b (λ id. grind (arith, same id, bit_at-lt a id, bit_at-lt b id))

-- the members of `bit_or a b` are those of a and those of b
pub Holds-or : (a b id : ℕ) → Holds (bit_or a b) id ↔ (Holds a id ⊎ Holds b id)
Holds-or a b id = grind (arith, bit_at_or a b id, bit_at-lt a id, bit_at-lt b id)

-- the members of `bit_and a b` are the ids in both
pub Holds-and : (a b id : ℕ) → Holds (bit_and a b) id ↔ (Holds a id × Holds b id)
Holds-and a b id = grind (arith, bit_at_and a b id, bit_at-lt a id, bit_at-lt b id)

-- so a union is `bit_or`
pub union_is : (old other new : ℕ) → ((id : ℕ) → Holds new id ↔ (Holds old id ⊎ Holds other id)) → new ≡ bit_or old other
union_is old other new members = same_set new (bit_or old other) (λ id. (λ h. (Holds-or old other id).1 ((members id).0 h), λ h. (members id).1 ((Holds-or old other id).0 h)))

-- 0 has no members
pub Holds-none : (id : ℕ) → Holds 0 id → ⊥
Holds-none id there = let e = sym there ∙ bit_at-zero id in omega (arith, e)

-- a set that gets members and loses none gets a greater number
pub grown : (old new : ℕ) → ((id : ℕ) → Holds old id → Holds new id) → new ≢ old → old < new
grown old new keeps changed =
    let union : new ≡ bit_or old new = same_set new (bit_or old new) (λ id. (λ h. (Holds-or old new id).1 (inr h), λ h. elim ((Holds-or old new id).0 h) [ inl there ↦ keeps id there | inr there ↦ there ])) in
    let apart = changed in
    omega (arith, or_add_and old new, and_le_r old new)

below_from_bits : (set n : ℕ) → ((id : ℕ) → n ≤ id → bit_at set id ≡ 0) → set < 2 ^ n
below_from_bits set n high =
    let none : set / 2 ^ n ≡ 0 = same_from_bits (set / 2 ^ n) 0 (λ i. ap (λ m. m % 2) (shr-shr set n i) ∙ high (n + i) (omega arith) ∙ sym (bit_at-zero i)) in
    let bound : set < 0 * 2 ^ n + 2 ^ n = subst (λ m. set < m * 2 ^ n + 2 ^ n) none (lt-div-mul-add (pow_pos n)) in
    omega arith

-- what is left to a set of ids: the number by which its number can still grow
pub room : ℕ → ℕ
room set = 2 ^ 2048 - set

-- it falls while a set grows, so it is a measure for a loop that goes on while a union grows
pub room_falls : (old new : ℕ) → ((id : ℕ) → Holds old id → Holds new id) → HasIds new → new ≢ old → room new < room old
unfolding room
room_falls old new keeps ids changed = by (2 ^ 2048) (below_from_bits new 2048 (λ id above. by_bit id above (Holds_or_not new id))) (grown old new keeps changed)
  where
    by_bit : (id : ℕ) → 2048 ≤ id → Holds new id ⊎ (Holds new id → ⊥) → bit_at new id ≡ 0
    by_bit id above (inl there) = let h = ids id there in absurd (omega arith)
    by_bit id above (inr absent) = omega (arith, bit_at-lt new id)

    by : (most : ℕ) → new < most → old < new → most - new < most - old
    by most below more = omega arith
