-- Sets of ids of the names of a list.
use Rattle.std.proofs.Common.{◌≡◌, ℕ, zero, suc, ◌+◌, ◌<◌, ◌≤◌, ◌↔◌, ◌⊎◌, inl, inr, List, [], ◌∷◌, ◌++◌, length, take, get_or, Contains, Some, slice_get, sym, ap, subst, ◌∙◌, arith, add-one}
use Rattle.std.proofs.Math.Seq.{take-suc}
use Rattle.std.proofs.lemmas.List.{take_all}
use Rattle.std.proofs.lemmas.List.Elements.{Contains-append_left, Contains-append_cases, Contains-push}
use Rattle.std.proofs.lemmas.Option.{slice_get-get_or, get_or_from_slice_get}
use Rattle.name_sets.specs.IdSet.{Holds}
use Rattle.name_sets.specs.Texts.{IsTable, text_of}
use Rattle.c_tree.specs.BareExpr.{Bytes}
use Rattle.patch_build.specs.Sets.{AddsName}

-- a set has the ids of the names of a list
abbrev pub HasIdsOf : List Bytes → ℕ → List Bytes → Type 0
HasIdsOf names set list = (id : ℕ) → id < length names → Holds set id ↔ Contains list (text_of names id)

-- the id that was found is added
pub name_added : (names : List Bytes) (old new id : ℕ) (name : Bytes) → IsTable names → slice_get names id ≡ Some name
    → ((other : ℕ) → Holds new other ↔ (Holds old other ⊎ (other ≡ id))) → AddsName names old name new
name_added names old new id name table at members = λ other within. (
  λ h. by other ((members other).0 h),
  λ h. (members other).1 (back other within h),
)
  where
    by : (other : ℕ) → Holds old other ⊎ (other ≡ id) → Holds old other ⊎ (text_of names other ≡ name)
    by other (inl h) = inl h
    by other (inr e) = inr (ap (text_of names) e ∙ get_or_from_slice_get names id name [] at)

    back : (other : ℕ) → other < length names → Holds old other ⊎ (text_of names other ≡ name) → Holds old other ⊎ (other ≡ id)
    back other within (inl h) = inl h
    back other within (inr e) = inr (table.distinct other id name (slice_get-get_or names other [] within ∙ ap Some e) at)

none_there : (x : Bytes) → Contains [] x → ⊥
none_there x there = let within : there.0 < 0 = there.1 in absurd (omega arith)

pub ids_of_none : (names : List Bytes) (set : ℕ) → ((id : ℕ) → ¬ Holds set id) → HasIdsOf names set []
ids_of_none names set none = λ id within. ((λ h. absurd (none id h)), (λ there. absurd (none_there _ there)))

one_there : (x y : Bytes) → Contains (x ∷ []) y → y ≡ x
one_there x y there = by there.0 there.1 there.2
  where
    by : (i : ℕ) → i < 1 → get_or (x ∷ []) i y ≡ y → y ≡ x
    by zero l e = sym e
    by (suc i) l e = absurd (omega arith)

pub ids_of_more : (names list : List Bytes) (i old new : ℕ) (item name : Bytes) → i < length list → item ≡ get_or list i item → name ≡ item
    → HasIdsOf names old (take i list) → AddsName names old name new → HasIdsOf names new (take (i + 1) list)
ids_of_more names list i old new item name l is same has adds = λ id within. (
  λ h. subst (λ ns. Contains ns (text_of names id)) (sym parts) (there id within ((adds id within).0 h)),
  λ c. (adds id within).1 (back id within (Contains-append_cases (take i list) (name ∷ []) (text_of names id) (subst (λ ns. Contains ns (text_of names id)) parts c))),
)
  where
    parts : take (i + 1) list ≡ take i list ++ name ∷ []
    parts = ap (λ k. take k list) (add-one i) ∙ take-suc list i item l ∙ ap (λ n. take i list ++ n ∷ []) (sym (same ∙ is))

    there : (id : ℕ) → id < length names → Holds old id ⊎ (text_of names id ≡ name) → Contains (take i list ++ name ∷ []) (text_of names id)
    there id within (inl h) = Contains-append_left (take i list) (name ∷ []) (text_of names id) ((has id within).0 h)
    there id within (inr e) = subst (Contains (take i list ++ name ∷ [])) (sym e) (Contains-push (take i list) name)

    back : (id : ℕ) → id < length names → Contains (take i list) (text_of names id) ⊎ Contains (name ∷ []) (text_of names id) → Holds old id ⊎ (text_of names id ≡ name)
    back id within (inl c) = inl ((has id within).1 c)
    back id within (inr c) = inr (one_there name (text_of names id) c)

pub ids_of_all : (names list : List Bytes) (i set : ℕ) → length list ≤ i → HasIdsOf names set (take i list) → HasIdsOf names set list
ids_of_all names list i set l has = subst (HasIdsOf names set) (take_all i list l) has
