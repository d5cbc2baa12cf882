-- A decided family of names, all of them in a list, has a set.
use Rattle.std.proofs.Common.{◌≡◌, Bool, true, false, List, [], ◌∷◌, refl, sym, subst, ap, ◌∙◌, ◌⊎◌, inl, inr}
use Rattle.std.specs.Prelude.{bytes_eq, if◌then◌else◌}
use Rattle.std.proofs.lemmas.Slice.Eq.{bytes_eq-Decides}
use Rattle.name_sets.specs.NameLists.{precedes, is_among, with_name, name_set}
use Rattle.con_freeness.specs.Rows.{Names}
use Rattle.c_tree.specs.BareExpr.{Bytes}
use Rattle.effects.specs.Rows.{IsSet}
use Rattle.effects.proofs.Reachable.{Among}
use Rattle.effects.proofs.Decisions.{Decision}
use Rattle.effects.proofs.OneRow.{First, Ascending, not_itself, test, ascending_with, cases_of, among_itself, among_later}

-- an ordered set stays as it is
first_goes_first : (n : Bytes) (ns : List Bytes) → First n ns → with_name n ns ≡ n ∷ ns
first_goes_first n [] f = refl
first_goes_first n (k ∷ ks) f = by (bytes_eq n k) (precedes n k) refl (test n k f.0)
  where
    by : (s t : Bool) → bytes_eq n k ≡ s → t ≡ true
        → (if s then k ∷ ks else (if t then n ∷ k ∷ ks else k ∷ with_name n ks)) ≡ n ∷ k ∷ ks
    by true t e g = absurd (not_itself n k f.0 ((bytes_eq-Decides n k).0 e))
    by false true e g = refl
    by false false e g = cc

ordered : (ns : List Bytes) → Ascending ns → name_set ns ≡ ns
ordered [] a = refl
ordered (n ∷ ns) a = ap (with_name n) (ordered ns a.1) ∙ first_goes_first n ns a.0

-- what is among the names of a set
among_with : (n m : Bytes) (ns : List Bytes) → (m ≡ n) ⊎ (is_among ns m ≡ true) → is_among (with_name n ns) m ≡ true
among_with n m [] (inl e) = subst (λ x. is_among (n ∷ []) x ≡ true) (sym e) (among_itself n [])
among_with n m [] (inr e) = cc
among_with n m (k ∷ ks) x = by (bytes_eq n k) (precedes n k) refl (among_with n m ks)
  where
    later : ((m ≡ n) ⊎ (is_among ks m ≡ true) → is_among (with_name n ks) m ≡ true)
        → (m ≡ n) ⊎ ((m ≡ k) ⊎ (is_among ks m ≡ true)) → is_among (k ∷ with_name n ks) m ≡ true
    later rest (inl e) = among_later m k (with_name n ks) (rest (inl e))
    later rest (inr (inl e)) = subst (λ x. is_among (k ∷ with_name n ks) x ≡ true) (sym e) (among_itself k (with_name n ks))
    later rest (inr (inr e)) = among_later m k (with_name n ks) (rest (inr e))

    split : (m ≡ n) ⊎ (is_among (k ∷ ks) m ≡ true) → (m ≡ n) ⊎ ((m ≡ k) ⊎ (is_among ks m ≡ true))
    split (inl e) = inl e
    split (inr e) = inr (cases_of m k ks e)

    there : n ≡ k → (m ≡ n) ⊎ (is_among (k ∷ ks) m ≡ true) → is_among (k ∷ ks) m ≡ true
    there same (inl e) = subst (λ x. is_among (k ∷ ks) x ≡ true) (sym (e ∙ same)) (among_itself k ks)
    there same (inr e) = e

    front : (m ≡ n) ⊎ (is_among (k ∷ ks) m ≡ true) → is_among (n ∷ k ∷ ks) m ≡ true
    front (inl e) = subst (λ x. is_among (n ∷ k ∷ ks) x ≡ true) (sym e) (among_itself n (k ∷ ks))
    front (inr e) = among_later m n (k ∷ ks) e

    by : (s t : Bool) → bytes_eq n k ≡ s → ((m ≡ n) ⊎ (is_among ks m ≡ true) → is_among (with_name n ks) m ≡ true)
        → is_among (if s then k ∷ ks else (if t then n ∷ k ∷ ks else k ∷ with_name n ks)) m ≡ true
    by true t e rest = there ((bytes_eq-Decides n k).0 e) x
    by false true e rest = front x
    by false false e rest = later rest (split x)

with_among : (n m : Bytes) (ns : List Bytes) → is_among (with_name n ns) m ≡ true → (m ≡ n) ⊎ (is_among ns m ≡ true)
with_among n m [] e = cases_of m n [] e
with_among n m (k ∷ ks) e = by (bytes_eq n k) (precedes n k) (with_among n m ks) e
  where
    later : (is_among (with_name n ks) m ≡ true → (m ≡ n) ⊎ (is_among ks m ≡ true))
        → (m ≡ k) ⊎ (is_among (with_name n ks) m ≡ true) → (m ≡ n) ⊎ (is_among (k ∷ ks) m ≡ true)
    later rest (inl e) = inr (subst (λ x. is_among (k ∷ ks) x ≡ true) (sym e) (among_itself k ks))
    later rest (inr e) = elim (rest e) [ inl f ↦ inl f | inr f ↦ inr (among_later m k ks f) ]

    by : (s t : Bool) → (is_among (with_name n ks) m ≡ true → (m ≡ n) ⊎ (is_among ks m ≡ true))
        → is_among (if s then k ∷ ks else (if t then n ∷ k ∷ ks else k ∷ with_name n ks)) m ≡ true
        → (m ≡ n) ⊎ (is_among (k ∷ ks) m ≡ true)
    by true t rest e = inr e
    by false true rest e = cases_of m n (k ∷ ks) e
    by false false rest e = later rest (cases_of m k (with_name n ks) e)

-- those of a list of which P holds
abbrev with_if : {P : Type 0} → Bytes → Decision P → Names → Names
with_if z (inl p) names = with_name z names
with_if z (inr n) names = names

abbrev chosen : (In : Bytes → Type 0) → ((z : Bytes) → Decision (In z)) → List Bytes → Names
chosen In decide [] = []
chosen In decide (z ∷ zs) = with_if z (decide z) (chosen In decide zs)

chosen_is_in : (In : Bytes → Type 0) (decide : (z : Bytes) → Decision (In z)) (zs : List Bytes) (z : Bytes)
    → is_among (chosen In decide zs) z ≡ true → In z
chosen_is_in In decide [] z e = cc
chosen_is_in In decide (y ∷ zs) z e = by (decide y) (chosen_is_in In decide zs z) e
  where
    by : (d : Decision (In y)) → (is_among (chosen In decide zs) z ≡ true → In z)
        → is_among (with_if y d (chosen In decide zs)) z ≡ true → In z
    by (inl p) rest e =
        elim (with_among y z (chosen In decide zs) e) [ inl same ↦ subst In (sym same) p | inr f ↦ rest f ]
    by (inr n) rest e = rest e

is_chosen : (In : Bytes → Type 0) (decide : (z : Bytes) → Decision (In z)) (zs : List Bytes) (z : Bytes)
    → Among zs z → In z → is_among (chosen In decide zs) z ≡ true
is_chosen In decide [] z at p = absurd at
is_chosen In decide (y ∷ zs) z at p = by (decide y) (λ m. is_chosen In decide zs z m p) at
  where
    by : (d : Decision (In y)) → (Among zs z → is_among (chosen In decide zs) z ≡ true)
        → (y ≡ z) ⊎ Among zs z → is_among (with_if y d (chosen In decide zs)) z ≡ true
    by (inl q) rest (inl same) = among_with y z (chosen In decide zs) (inl (sym same))
    by (inl q) rest (inr m) = among_with y z (chosen In decide zs) (inr (rest m))
    by (inr n) rest (inl same) = absurd (n (subst In (sym same) p))
    by (inr n) rest (inr m) = rest m

chosen_ascends : (In : Bytes → Type 0) (decide : (z : Bytes) → Decision (In z)) (zs : List Bytes)
    → Ascending (chosen In decide zs)
chosen_ascends In decide [] = tt
chosen_ascends In decide (y ∷ zs) = by (decide y) (chosen_ascends In decide zs)
  where
    by : (d : Decision (In y)) → Ascending (chosen In decide zs) → Ascending (with_if y d (chosen In decide zs))
    by (inl p) a = ascending_with y (chosen In decide zs) a
    by (inr n) a = a

pub set_of : (In : Bytes → Type 0) → ((z : Bytes) → Decision (In z)) → (zs : List Bytes) → ((z : Bytes) → In z → Among zs z)
    → (names : Names) × IsSet names In
set_of In decide zs within = (
  chosen In decide zs,
  record {
    ordered = ordered (chosen In decide zs) (chosen_ascends In decide zs);
    same = λ z. (chosen_is_in In decide zs z, λ p. is_chosen In decide zs z (within z p) p);
  },
)
