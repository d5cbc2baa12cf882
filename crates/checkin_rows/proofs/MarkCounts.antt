-- A flow with few check-ins has few marks: each mark is there once, so there are no more starts than functions.
use Rattle.std.proofs.Common.{◌≡◌, ℕ, zero, suc, ◌+◌, ◌<◌, ◌≤◌, Bool, true, false, ◌||◌, List, [], ◌∷◌, ◌++◌, All, length, map, refl, sym, ap, subst, ◌∙◌, arith, if◌then◌else◌}
use Rattle.std.specs.Prelude.{◌==◌, cond}
use Rattle.std.specs.List.{list_any}
use Rattle.std.proofs.lemmas.Bool.Decides.{nat_tests}
use Rattle.std.proofs.lemmas.List.Elements.{All-head, All-tail}
use Rattle.std.proofs.lemmas.List.Folds.{list_any-append}
use Rattle.std.proofs.lemmas.List.Sums.{sum_by-cons}
use Rattle.name_sets.specs.Limit.{most_names}
use Rattle.c_semantics.specs.Skeletons.{is_check_in_kind}
use Rattle.skeletons.specs.Meaning.{kind_of}
use Rattle.effect_flow.specs.declared.flow.FlowPoint.{FlowPoint}
use Rattle.effect_flow.specs.Parts.{HasIdsBelow, check_ins_among}
use Rattle.contextual_effects.specs.Parts.{parts}
use Rattle.checkin_rows.specs.declared.row.Mark.{Mark}
use Rattle.checkin_rows.specs.declared.row.Mark.TheVariants.{Start, CheckIn}
use Rattle.checkin_rows.specs.declared.entries.Entry.{Entry}
use Rattle.checkin_rows.specs.Edges.{is_check_in}
use Rattle.checkin_rows.specs.Limits.{most_check_ins, most_rows}
use Rattle.checkin_rows.specs.Marks.{check_ins_before, check_ins_here, entries_of, same_mark, with_mark, with_marks, start_mark, check_in_mark, marks_at, marks_of}
use Rattle.checkin_rows.proofs.MarkLemmas.{num, itself, marks_of_entries}

-- how many marks are starts, and how many are check-ins
abbrev starts : List Mark → ℕ
starts [] = 0
starts (Start f ∷ ms) = suc (starts ms)
starts (CheckIn f g n ∷ ms) = starts ms

abbrev checks : List Mark → ℕ
checks [] = 0
checks (Start f ∷ ms) = checks ms
checks (CheckIn f g n ∷ ms) = suc (checks ms)

each_is_one : (ms : List Mark) → length ms ≡ starts ms + checks ms
each_is_one [] = refl
each_is_one (Start f ∷ ms) = let rest = each_is_one ms in omega (arith, rest)
each_is_one (CheckIn f g n ∷ ms) = let rest = each_is_one ms in omega (arith, rest)

starts_both : (ms ns : List Mark) → starts (ms ++ ns) ≡ starts ms + starts ns
starts_both [] ns = omega arith
starts_both (Start f ∷ ms) ns = let rest = starts_both ms ns in omega (arith, rest)
starts_both (CheckIn f g n ∷ ms) ns = starts_both ms ns

checks_both : (ms ns : List Mark) → checks (ms ++ ns) ≡ checks ms + checks ns
checks_both [] ns = omega arith
checks_both (Start f ∷ ms) ns = checks_both ms ns
checks_both (CheckIn f g n ∷ ms) ns = let rest = checks_both ms ns in omega (arith, rest)

-- ---- functions with a start

abbrev has_start : ℕ → List Mark → Bool
has_start f ms = list_any (same_mark (Start f)) ms

-- how many functions below a number have a start among some marks
abbrev started : ℕ → List Mark → ℕ
started zero ms = 0
started (suc n) ms = cond (has_start n ms) 1 0 + started n ms

one_at_most : (b : Bool) → cond b 1 0 ≤ 1
one_at_most true = omega arith
one_at_most false = omega arith

started_few : (n : ℕ) (ms : List Mark) → started n ms ≤ n
started_few zero ms = omega arith
started_few (suc n) ms = let rest = started_few n ms in let one = one_at_most (has_start n ms) in omega (arith, rest, one)

stays_so : (a b c : Bool) → c ≡ (a || b) → cond a 1 0 ≤ cond c 1 0
stays_so true b c e = subst (λ d. 1 ≤ cond d 1 0) (sym e) (omega arith)
stays_so false b c e = omega arith

started_grows : (n : ℕ) (ms : List Mark) (m : Mark) → started n ms ≤ started n (ms ++ m ∷ [])
started_grows zero ms m = omega arith
started_grows (suc n) ms m =
    let rest = started_grows n ms m in
    let here = stays_so (has_start n ms) (has_start n (m ∷ [])) (has_start n (ms ++ m ∷ [])) (list_any-append (same_mark (Start n)) ms (m ∷ [])) in
    omega (arith, rest, here)

below_unless : (f n : ℕ) → f < suc n → (n == f) ≡ false → f < n
below_unless f n l e = grind (arith, nat_tests)

or_true : (a b : Bool) → b ≡ true → (a || b) ≡ true
or_true true b e = refl
or_true false b e = e

has_own : (f : ℕ) (ms : List Mark) → has_start f (ms ++ Start f ∷ []) ≡ true
has_own f ms =
    list_any-append (same_mark (Start f)) ms (Start f ∷ [])
    ∙ or_true (has_start f ms) (has_start f (Start f ∷ [])) (ap (λ b. b || false) (itself f))

started_more : (n f : ℕ) (ms : List Mark) → f < n → has_start f ms ≡ false → suc (started n ms) ≤ started n (ms ++ Start f ∷ [])
started_more zero f ms l new = omega (arith, l)
started_more (suc n) f ms l new = by (n == f) refl (λ e. started_more n f ms (below_unless f n l e) new)
  where
    one_more : has_start n ms ≡ false → has_start n (ms ++ Start f ∷ []) ≡ true → suc (started (suc n) ms) ≤ started (suc n) (ms ++ Start f ∷ [])
    one_more before after =
        let rest = started_grows n ms (Start f) in
        let none : cond (has_start n ms) 1 0 ≡ 0 = ap {B = ℕ} (λ b. cond b 1 0) before in
        let one : cond (has_start n (ms ++ Start f ∷ [])) 1 0 ≡ 1 = ap {B = ℕ} (λ b. cond b 1 0) after in
        omega (arith, rest, none, one)

    by : (b : Bool) → (n == f) ≡ b → ((n == f) ≡ false → suc (started n ms) ≤ started n (ms ++ Start f ∷ []))
        → suc (started (suc n) ms) ≤ started (suc n) (ms ++ Start f ∷ [])
    by true e other =
        let same = num n f e in
        one_more (ap (λ k. has_start k ms) same ∙ new) (ap (λ k. has_start k (ms ++ Start f ∷ [])) same ∙ has_own f ms)
    by false e other =
        let rest = other e in
        let here =
        stays_so (has_start n ms) (has_start n (Start f ∷ [])) (has_start n (ms ++ Start f ∷ [])) (list_any-append (same_mark (Start n)) ms (Start f ∷ [])) in
        omega (arith, rest, here)

-- ---- marks of functions below a number

abbrev IsBelow : ℕ → Mark → Type 0
IsBelow n (Start f) = f < n
IsBelow n (CheckIn f g k) = Unit {0}

abbrev AreBelow : ℕ → List Mark → Type 0
AreBelow n [] = Unit {0}
AreBelow n (m ∷ ms) = IsBelow n m × AreBelow n ms

below_both : (n : ℕ) (ms ns : List Mark) → AreBelow n ms → AreBelow n ns → AreBelow n (ms ++ ns)
below_both n [] ns a b = b
below_both n (m ∷ ms) ns a b = (a.0, below_both n ms ns a.1 b)

-- no more starts than functions with a start
one_more_start : (n : ℕ) (ms : List Mark) (m : Mark) → IsBelow n m → starts ms ≤ started n ms → starts (with_mark ms m) ≤ started n (with_mark ms m)
one_more_start n ms m below few = by m below (list_any (same_mark m) ms) refl
  where
    by : (m : Mark) → IsBelow n m → (b : Bool) → list_any (same_mark m) ms ≡ b
        → starts (if b then ms else ms ++ m ∷ []) ≤ started n (if b then ms else ms ++ m ∷ [])
    by m l true e = few
    by (Start f) l false e =
        let sum = starts_both ms (Start f ∷ []) in let more = started_more n f ms l e in omega (arith, sum, more, few)
    by (CheckIn f g k) l false e =
        let sum = starts_both ms (CheckIn f g k ∷ []) in let more = started_grows n ms (CheckIn f g k) in omega (arith, sum, more, few)

few_starts : (n : ℕ) (ms more : List Mark) → AreBelow n more → starts ms ≤ started n ms → starts (with_marks ms more) ≤ n
few_starts n ms [] below few = let all = started_few n ms in omega (arith, all, few)
few_starts n ms (m ∷ more) below few = few_starts n (with_mark ms m) more below.1 (one_more_start n ms m below.0 few)

one_more_check : (ms : List Mark) (m : Mark) → checks (with_mark ms m) ≤ checks ms + checks (m ∷ [])
one_more_check ms m = by (list_any (same_mark m) ms)
  where
    by : (b : Bool) → checks (if b then ms else ms ++ m ∷ []) ≤ checks ms + checks (m ∷ [])
    by true = omega arith
    by false = let sum = checks_both ms (m ∷ []) in omega (arith, sum)

few_checks : (ms more : List Mark) → checks (with_marks ms more) ≤ checks ms + checks more
few_checks ms [] = omega arith
few_checks ms (m ∷ more) =
    let one = one_more_check ms m in
    let rest = few_checks (with_mark ms m) more in
    let sum = checks_both (m ∷ []) more in
    omega (arith, one, rest, sum)

-- ---- the marks of points

start_below : (n : ℕ) (x : FlowPoint) → x.function < n → AreBelow n (start_mark x)
start_below n x l = by (x.number == 0)
  where
    by : (b : Bool) → AreBelow n (if b then Start x.function ∷ [] else [])
    by true = (l, tt)
    by false = tt

check_below : (n k : ℕ) (x : FlowPoint) → AreBelow n (check_in_mark k x)
check_below n k x = by (is_check_in x.point.kind)
  where
    by : (b : Bool) → AreBelow n (if b then CheckIn x.function x.generation k ∷ [] else [])
    by true = (tt, tt)
    by false = tt

points_below : (n : ℕ) (xs : List FlowPoint) (i : ℕ) (ys : List FlowPoint) → All (HasIdsBelow n) ys → AreBelow n (parts (marks_at xs) i ys)
points_below n xs i [] all = tt
points_below n xs i (y ∷ ys) all =
    below_both n (marks_at xs i y) (parts (marks_at xs) (suc i) ys)
    (below_both n (start_mark y) (check_in_mark (check_ins_here (check_ins_before xs i) y) y)
    (start_below n y (All-head (HasIdsBelow n) y ys all).function)
    (check_below n (check_ins_here (check_ins_before xs i) y) y))
    (points_below n xs (suc i) ys (All-tail (HasIdsBelow n) y ys all))

no_checks : (x : FlowPoint) → checks (start_mark x) ≡ 0
no_checks x = by (x.number == 0)
  where
    by : (b : Bool) → checks (if b then Start x.function ∷ [] else []) ≡ 0
    by true = refl
    by false = refl

one_check : (k : ℕ) (x : FlowPoint) → checks (check_in_mark k x) ≡ cond (is_check_in x.point.kind) 1 0
one_check k x = by (is_check_in x.point.kind)
  where
    by : (b : Bool) → checks (if b then CheckIn x.function x.generation k ∷ [] else []) ≡ cond b 1 0
    by true = refl
    by false = refl

point_checks : (xs : List FlowPoint) (i : ℕ) (ys : List FlowPoint) → checks (parts (marks_at xs) i ys) ≡ check_ins_among ys
point_checks xs i [] = refl
point_checks xs i (y ∷ ys) =
    let k = check_ins_here (check_ins_before xs i) y in
    let both = checks_both (marks_at xs i y) (parts (marks_at xs) (suc i) ys) in
    let own = checks_both (start_mark y) (check_in_mark k y) in
    let none = no_checks y in
    let one = one_check k y in
    let rest = point_checks xs (suc i) ys in
    let all = sum_by-cons (λ (x : FlowPoint). cond (is_check_in_kind (kind_of [] x.point.kind)) 1 0) y ys in
    omega (arith, both, own, none, one, rest, all)

pub few_marks : (n : ℕ) (xs : List FlowPoint) → All (HasIdsBelow n) xs → n ≤ most_names → check_ins_among xs ≤ most_check_ins
    → length (marks_of xs) ≤ most_rows
few_marks n xs known names few =
    let all = parts (marks_at xs) 0 xs in
    let each = each_is_one (marks_of xs) in
    let first = few_starts n [] all (points_below n xs 0 xs known) (omega arith) in
    let second = few_checks [] all in
    let same = point_checks xs 0 xs in
    omega (arith, each, first, second, same, names, few)

-- and so have the marks of its entries
pub few_keys : (points n : ℕ) (xs : List FlowPoint) (es : List Entry) (keys : List Mark) → keys ≡ with_marks [] (map (λ e. e.mark) es)
    → es ≡ entries_of points n xs xs → All (HasIdsBelow n) xs → n ≤ most_names → check_ins_among xs ≤ most_check_ins
    → length keys ≤ most_rows
few_keys points n xs es keys marks entries known names few =
    subst {A = List Mark} (λ ms. length ms ≤ most_rows)
    (sym (marks ∙ ap (λ es. with_marks [] (map (λ e. e.mark) es)) entries ∙ marks_of_entries points n xs))
    (few_marks n xs known names few)
