-- Which nodes wait, and the order in which they are taken.
use Rattle.std.proofs.Common.{◌≡◌, ℕ, Option, Some, None, IfNone, ◌+◌, ◌<◌, ◌≤◌, ◌⊎◌, Bool, true, false, List, [], ◌∷◌, ◌++◌, length, get_or, slice_set, replicate, refl, sym, ap, subst, ◌∙◌, inl, inr, if◌then◌else◌, arith}
use Rattle.std.specs.List.{Contains, All}
use Rattle.std.proofs.lemmas.List.{length-replicate, get_or_past, get_or_default, get_or-replicate, get_or-set_other, length_push, get_or_push, get_or_append_left}
use Rattle.std.proofs.lemmas.List.Sums.{sum_by-set}
use Rattle.std.proofs.lemmas.Bool.{cases_eq, cases_lt, false≢true}
use Rattle.set_constraints.specs.Waiting.{NoneWaits, IsIn, IsOrder, RestFrom, AreListed, HasAll, waiting}

abbrev one_if : Bool → ℕ
one_if w = if w then 1 else 0

-- fewer nodes wait once one that has waited doesn't
pub fewer_wait : (waits : List Bool) (node : ℕ) → node < length waits → get_or waits node false ≡ true → waiting (slice_set waits node false) < waiting waits
fewer_wait waits node within waited =
    let sums : waiting (slice_set waits node false) + one_if (get_or waits node false) ≡ waiting waits + 0 = sum_by-set one_if waits node false false within in
    let one : one_if (get_or waits node false) ≡ 1 = ap one_if waited in
    omega (arith, sums, one)

-- at most one more waits once a node does
pub one_more_waits : (waits : List Bool) (node : ℕ) → node < length waits → waiting (slice_set waits node true) ≤ waiting waits + 1
one_more_waits waits node within =
    let sums : waiting (slice_set waits node true) + one_if (get_or waits node false) ≡ waiting waits + 1 = sum_by-set one_if waits node true false within in
    omega (arith, sums)

-- where no node of the order waits, none waits
pub none_waits : (waits : List Bool) (order : List ℕ) → IsOrder (length waits) order → RestFrom waits order 0 (length order) → NoneWaits waits
none_waits waits order is_order rest n = by (cases_lt n (length waits)) (get_or waits n false) refl
  where
    at : get_or waits n false ≡ true → Contains order n → ⊥
    at waits_there (k, inside, is) =
        let here : get_or order k 0 ≡ n = get_or_default order k 0 n inside ∙ is in
        let rests : get_or waits n false ≡ false = subst (λ (m : ℕ). get_or waits m false ≡ false) here (rest k (omega arith) inside) in
        false≢true (sym rests ∙ waits_there)

    by : (n < length waits) ⊎ (length waits ≤ n) → (w : Bool) → get_or waits n false ≡ w → get_or waits n false ≡ false
    by (inl below) false is = is
    by (inl below) true is = absurd (is_order.listed n below (at is))
    by (inr above) w is = get_or_past waits n false above

-- and so where none is found from the first place on
pub none_if_none : (waits : List Bool) (order : List ℕ) (found : Option ℕ) → IsOrder (length waits) order → IfNone found (RestFrom waits order 0 (length order)) → IfNone found (NoneWaits waits)
none_if_none waits order None is_order rest = none_waits waits order is_order rest
none_if_none waits order (Some place) is_order rest = rest

-- at a place of the order is a node
pub order_known : (order : List ℕ) (count k : ℕ) → All (λ (n : ℕ). n < count) order → k < length order → get_or order k 0 < count
order_known order count k known inside = known k 0 inside

-- one place more rests
pub rest_more : (waits : List Bool) (order : List ℕ) (from to : ℕ) → RestFrom waits order from to → get_or waits (get_or order to 0) false ≡ false → RestFrom waits order from (to + 1)
rest_more waits order from to rest here k from_here below = by (cases_lt k to)
  where
    by : (k < to) ⊎ (to ≤ k) → get_or waits (get_or order k 0) false ≡ false
    by (inl earlier) = rest k from_here earlier
    by (inr late) =
        let same : to ≡ k = omega arith in
        subst (λ (m : ℕ). get_or waits (get_or order m 0) false ≡ false) same here

-- a list with one more node has those before, and that one
pub has_before : (nodes : List ℕ) (node : ℕ) → HasAll nodes (nodes ++ node ∷ [])
has_before nodes node n is_in lacks = is_in among
  where
    among : Contains nodes n → ⊥
    among (k, inside, is) = lacks (k, omega (arith, inside, length_push nodes node), get_or_append_left nodes (node ∷ []) n k inside ∙ is)

pub has_last : (nodes : List ℕ) (node : ℕ) → IsIn (nodes ++ node ∷ []) node
has_last nodes node lacks = lacks (length nodes, omega (arith, length_push nodes node), get_or_push nodes node node (length nodes) refl)

-- at first no node is noted
pub listed_none : (nodes : List ℕ) (count : ℕ) → AreListed nodes (replicate count false)
listed_none nodes count n noted = absurd (false≢true (sym (by (cases_lt n count)) ∙ noted))
  where
    by : (n < count) ⊎ (count ≤ n) → get_or (replicate count false) n false ≡ false
    by (inl below) = get_or-replicate count n false false below
    by (inr above) = get_or_past (replicate count false) n false (omega (arith, length-replicate count false))

-- a node is added and noted
pub listed_more : (nodes : List ℕ) (noted : List Bool) (node : ℕ) → AreListed nodes noted → AreListed (nodes ++ node ∷ []) (slice_set noted node true)
listed_more nodes noted node listed n is_noted = by (cases_eq n node)
  where
    by : (n ≡ node) ⊎ (n ≡ node → ⊥) → IsIn (nodes ++ node ∷ []) n
    by (inl here) = subst (λ (m : ℕ). IsIn (nodes ++ node ∷ []) m) (sym here) (has_last nodes node)
    by (inr apart) = has_before nodes node n (listed n (sym (get_or-set_other noted node n true false apart) ∙ is_noted))

-- all nodes up to one more are in the list
pub listed_upto : (old new : List ℕ) (node : ℕ) → ((n : ℕ) → n < node → IsIn old n) → HasAll old new → IsIn new node → (n : ℕ) → n < node + 1 → IsIn new n
listed_upto old new node before keeps here n below = by (cases_lt n node)
  where
    by : (n < node) ⊎ (node ≤ n) → IsIn new n
    by (inl earlier) = keeps n (before n earlier)
    by (inr late) =
        let same : node ≡ n = omega arith in
        subst (λ (m : ℕ). IsIn new m) same here

-- at last it is an order
pub order_at_last : (count : ℕ) (nodes : List ℕ) (noted : List Bool) → length noted ≡ count → All (λ (n : ℕ). n < length noted) nodes → ((n : ℕ) → n < count → IsIn nodes n) → IsOrder count nodes
order_at_last count nodes noted many known listed = record {
  known = subst (λ (m : ℕ). All (λ (n : ℕ). n < m) nodes) many known;
  listed = listed;
}

-- and its number is below the count, as those before
pub known_more : (nodes : List ℕ) (node count : ℕ) → All (λ (n : ℕ). n < count) nodes → node < count → All (λ (n : ℕ). n < count) (nodes ++ node ∷ [])
known_more nodes node count known below k d inside = by (cases_lt k (length nodes))
  where
    by : (k < length nodes) ⊎ (length nodes ≤ k) → get_or (nodes ++ node ∷ []) k d < count
    by (inl earlier) = let e = get_or_append_left nodes (node ∷ []) d k earlier in omega (arith, e, known k d earlier)
    by (inr late) =
        let same : length nodes ≡ k = omega (arith, length_push nodes node) in
        let e = get_or_push nodes node d k same in omega (arith, e)
