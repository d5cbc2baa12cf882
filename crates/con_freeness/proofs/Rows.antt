-- What the test of rows says.
use Rattle.std.proofs.Common.{◌≡◌, ℕ, zero, suc, ◌+◌, ◌<◌, Bool, true, false, List, [], ◌∷◌, Option, Some, None, refl, sym, ◌∙◌, ap, subst, arith}
use Rattle.std.specs.Prelude.{not, ◌&&◌, ◌||◌, All, find, option_map, slice_get, if◌then◌else◌}
use Rattle.std.specs.Option.{is_none, option_or}
use Rattle.std.specs.List.{list_any}
use Rattle.std.proofs.lemmas.List.Elements.{All-nil, All-cons}
use Rattle.name_sets.specs.NameLists.{is_among, name_set}
use Rattle.con_freeness.specs.Verdicts.{Effect, Concrete, Pinned, Refusal, Verdict, Admitted, Refused}
use Rattle.con_freeness.specs.Rows.{Names, Row, InForce, meets, admits, least_common, both, across, obstacle, first_of, verdict_from}
use Rattle.con_freeness.proofs.NameOrder.{name_set_any}
use Rattle.con_freeness.specs.Laws.{AdmitsWithoutObstacle, Admits, IsVerdict, LeastSlotRefuses}

-- nothing is found exactly where nothing passes
found : (p : List ℕ → Bool) (names : Names) → is_none (find p names) ≡ not (list_any p names)
found p [] = refl
found p (x ∷ names) = by (p x) (found p names)
  where
    by : (b : Bool) → is_none (find p names) ≡ not (list_any p names)
        → is_none (if b then Some x else find p names) ≡ not (b || list_any p names)
    by true rest = refl
    by false rest = rest

-- two sets have a least common name exactly where they meet
none_common : (a b : Names) → is_none (least_common a b) ≡ not (meets a b)
none_common a b = found (is_among b) (name_set a) ∙ ap not (name_set_any (is_among b) a)

none_mapped : (f : List ℕ → Effect) (o : Option (List ℕ)) → is_none (option_map f o) ≡ is_none o
none_mapped f None = refl
none_mapped f (Some x) = refl

none_of_both : (a b : Option (List ℕ)) → is_none (both a b) ≡ (is_none b || is_none a)
none_of_both None None = refl
none_of_both None (Some z) = refl
none_of_both (Some y) None = refl
none_of_both (Some y) (Some z) = refl

none_or : (a b : Option Effect) → is_none (option_or a b) ≡ (is_none a && is_none b)
none_or None b = refl
none_or (Some e) b = refl

or_false : (a : Bool) → a ≡ (a || false)
or_false true = refl
or_false false = refl

none_across : (row : Row) (pinned : Bool) (changed : Names)
    → is_none (across row pinned changed) ≡ (not (meets changed row.future) || (not pinned && not (meets changed row.prior)))
none_across row true changed =
    none_mapped Pinned (least_common changed row.future) ∙ none_common changed row.future ∙ or_false (not (meets changed row.future))
none_across row false changed =
    none_of_both (least_common changed row.prior) (least_common changed row.future)
    ∙ ap (λ o. o || is_none (least_common changed row.prior)) (none_common changed row.future)
    ∙ ap (λ o. not (meets changed row.future) || o) (none_common changed row.prior)

none_obstacle : (row : Row) (pinned : Bool) (changed interface : Names)
    → is_none (obstacle row pinned changed interface) ≡ admits row pinned changed interface
none_obstacle row pinned changed interface =
    none_or (option_map Concrete (least_common interface row.concrete)) (across row pinned changed)
    ∙ ap (λ o. o && is_none (across row pinned changed))
    (none_mapped Concrete (least_common interface row.concrete) ∙ none_common interface row.concrete)
    ∙ ap (λ o. not (meets interface row.concrete) && o) (none_across row pinned changed)

pub admits_without_obstacle : AdmitsWithoutObstacle
admits_without_obstacle row pinned changed interface = sym (none_obstacle row pinned changed interface)

-- the least of the slots from n on that doesn't admit
record LeastFrom (n : ℕ) (slots : List InForce) (changed interface : Names) (r : Refusal) : Type 0 where
  place : ℕ
  at : r.slot ≡ n + place
  refusing : InForce
  there : slice_get slots place ≡ Some refusing
  why : obstacle refusing.row refusing.pinned changed interface ≡ Some r.effect
  least : (m : ℕ) (s : InForce) → m < place → slice_get slots m ≡ Some s → Admits changed interface s

abbrev VerdictFrom : ℕ → List InForce → Names → Names → Verdict → Type 0
VerdictFrom n slots changed interface Admitted = All (Admits changed interface) slots
VerdictFrom n slots changed interface (Refused r) = LeastFrom n slots changed interface r

-- without an obstacle a slot admits
slot_admits : (s : InForce) (changed interface : Names) → obstacle s.row s.pinned changed interface ≡ None → Admits changed interface s
slot_admits s changed interface e = admits_without_obstacle s.row s.pinned changed interface ∙ ap is_none e

none_below : (m : ℕ) → m < 0 → ⊥
none_below m h = omega (arith, h)

below_suc : (m n : ℕ) → suc m < suc n → m < n
below_suc m n h = omega (arith, h)

itself : (n : ℕ) → n ≡ n + 0
itself n = omega arith

further : (k n place : ℕ) → k ≡ suc n + place → k ≡ n + suc place
further k n place e = omega (arith, e)

same_some : (s t : InForce) → Some s ≡ Some t → s ≡ t
same_some s t e = cc

-- one slot before the others
behind_one : (n : ℕ) (s : InForce) (slots : List InForce) (changed interface : Names) (v : Verdict) → Admits changed interface s
    → VerdictFrom (suc n) slots changed interface v → VerdictFrom n (s ∷ slots) changed interface v
behind_one n s slots changed interface Admitted own all = All-cons (Admits changed interface) s slots own all
behind_one n s slots changed interface (Refused r) own later = record {
  place = suc later.place;
  at = further r.slot n later.place later.at;
  refusing = later.refusing;
  there = later.there;
  why = later.why;
  least = least;
}
  where
    least : (m : ℕ) (t : InForce) → m < suc later.place → slice_get (s ∷ slots) m ≡ Some t → Admits changed interface t
    least zero t h e = subst (Admits changed interface) (same_some s t e) own
    least (suc m) t h e = later.least m t (below_suc m later.place h) e

by_obstacle : (n : ℕ) (s : InForce) (slots : List InForce) (changed interface : Names) (o : Option Effect)
    → obstacle s.row s.pinned changed interface ≡ o
    → VerdictFrom (suc n) slots changed interface (verdict_from (suc n) slots changed interface)
    → VerdictFrom n (s ∷ slots) changed interface (first_of n o (verdict_from (suc n) slots changed interface))
by_obstacle n s slots changed interface None e later =
    behind_one n s slots changed interface (verdict_from (suc n) slots changed interface)
    (slot_admits s changed interface e) later
by_obstacle n s slots changed interface (Some effect) e later = record {
  place = 0;
  at = itself n;
  refusing = s;
  there = refl;
  why = e;
  least = λ m t h is. absurd (none_below m h);
}

from_slot : (n : ℕ) (slots : List InForce) (changed interface : Names)
    → VerdictFrom n slots changed interface (verdict_from n slots changed interface)
from_slot n [] changed interface = All-nil (Admits changed interface)
from_slot n (s ∷ slots) changed interface =
    by_obstacle n s slots changed interface (obstacle s.row s.pinned changed interface) refl (from_slot (suc n) slots changed interface)

from_first : (slots : List InForce) (changed interface : Names) (v : Verdict) → VerdictFrom 0 slots changed interface v
    → IsVerdict slots changed interface v
from_first slots changed interface Admitted all = all
from_first slots changed interface (Refused r) l = record {
  refusing = l.refusing;
  there = ap (slice_get slots) (l.at ∙ zero_more l.place) ∙ l.there;
  why = l.why;
  least = λ m s h is. l.least m s (subst (λ k. m < k) (l.at ∙ zero_more l.place) h) is;
}
  where
    zero_more : (k : ℕ) → 0 + k ≡ k
    zero_more k = omega arith

pub least_slot_refuses : LeastSlotRefuses
least_slot_refuses slots changed interface =
    from_first slots changed interface _ (from_slot 0 slots changed interface)
