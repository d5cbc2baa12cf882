-- The marks of a flow, one more at a time.
use Rattle.std.proofs.Common.{◌≡◌, ℕ, zero, suc, ◌+◌, ◌≤◌, Bool, true, false, ◌||◌, List, [], ◌∷◌, ◌++◌, map, Some, None, length, take, refl, sym, ap, subst, ◌∙◌, arith, if◌then◌else◌}
use Rattle.std.specs.Prelude.{◌==◌, ◌&&◌, slice_get}
use Rattle.std.specs.List.{list_any}
use Rattle.std.proofs.lemmas.Bool.Decides.{nat_tests}
use Rattle.std.proofs.lemmas.List.{map-append, append_assoc}
use Rattle.std.proofs.lemmas.Option.{slice_get_within}
use Rattle.effect_flow.proofs.Places.{item_at}
use Rattle.effect_flow.specs.declared.flow.FlowPoint.{FlowPoint}
use Rattle.contextual_effects.specs.Parts.{parts}
use Rattle.contextual_effects.proofs.Concatenations.{parts_take, parts-append}
use Rattle.checkin_rows.specs.declared.row.Mark.{Mark}
use Rattle.checkin_rows.specs.declared.row.Mark.TheVariants.{Start, CheckIn}
use Rattle.checkin_rows.specs.declared.entries.Entry.{Entry}
use Rattle.checkin_rows.specs.Marks.{check_ins_here, check_ins_to, check_ins_before, start_at, check_in_at, there, entries_at, entries_of, same_mark, with_mark, with_marks, start_mark, check_in_mark, marks_at, marks_of}
use Rattle.checkin_rows.specs.Edges.{is_check_in}
use Rattle.checkin_rows.proofs.Lists.{take_more, at_front}
use Rattle.checkin_rows.proofs.Inserting.{IsSameness, inserted}

pub num : (a b : ℕ) → (a == b) ≡ true → a ≡ b
num a b e = grind (arith, nat_tests)

pub itself : (a : ℕ) → (a == a) ≡ true
itself a = grind (arith, nat_tests)

pub both : (a b : Bool) → (a && b) ≡ true → (a ≡ true) × (b ≡ true)
both true b e = (refl, e)
both false b e = cc

pub and_true : (a b : Bool) → a ≡ true → b ≡ true → (a && b) ≡ true
and_true true b d e = e
and_true false b d e = cc

-- `same_mark` is equality
pub marks_same : IsSameness same_mark
marks_same = record { same = same; itself = own }
  where
    same : (x y : Mark) → same_mark x y ≡ true → x ≡ y
    same (Start f) (Start g) e = ap Start (num f g e)
    same (Start f) (CheckIn g n j) e = cc
    same (CheckIn f m i) (Start g) e = cc
    same (CheckIn f m i) (CheckIn g n j) e =
        let p = both (f == g) (m == n && i == j) e in
        let q = both (m == n) (i == j) p.1 in
        ap (λ f. CheckIn f m i) (num f g p.0) ∙ ap (λ m. CheckIn g m i) (num m n q.0) ∙ ap (CheckIn g n) (num i j q.1)

    own : (x : Mark) → same_mark x x ≡ true
    own (Start f) = itself f
    own (CheckIn f m i) = and_true (f == f) (m == m && i == i) (itself f) (and_true (m == m) (i == i) (itself m) (itself i))

-- two tests of equality are one
same_tests : {A : Type 0} (p q : A → A → Bool) → IsSameness p → IsSameness q → (x y : A) → p x y ≡ q x y
same_tests p q s t x y = by (p x y) (q x y) (λ e. ap (q x) (sym (s.same x y e)) ∙ t.itself x) (λ e. ap (p x) (sym (t.same x y e)) ∙ s.itself x)
  where
    by : (a b : Bool) → (a ≡ true → b ≡ true) → (b ≡ true → a ≡ true) → a ≡ b
    by true b to from = sym (to refl)
    by false true to from = from refl
    by false false to from = refl

any_same : {A : Type 0} (p q : A → Bool) → ((x : A) → p x ≡ q x) → (xs : List A) → list_any p xs ≡ list_any q xs
any_same p q same [] = refl
any_same p q same (x ∷ xs) = ap (λ b. b || list_any p xs) (same x) ∙ ap (λ b. q x || b) (any_same p q same xs)

with_mark_is : (eq : Mark → Mark → Bool) → IsSameness eq → (marks : List Mark) (m : Mark) → inserted eq marks m ≡ with_mark marks m
with_mark_is eq s marks m = ap (λ b. if b then marks else marks ++ m ∷ []) (any_same (eq m) (same_mark m) (same_tests eq same_mark s marks_same m) marks)

pub with_marks_push : (marks ms : List Mark) (m : Mark) → with_marks marks (ms ++ m ∷ []) ≡ with_mark (with_marks marks ms) m
with_marks_push marks [] m = refl
with_marks_push marks (x ∷ ms) m = with_marks_push (with_mark marks x) ms m

-- the marks of one entry more
pub marks_more : (eq : Mark → Mark → Bool) → IsSameness eq → (marks new : List Mark) (es : List Entry) (i : ℕ) (e : Entry)
    → new ≡ inserted eq marks e.mark → marks ≡ with_marks [] (map (λ e. e.mark) (take i es)) → slice_get es i ≡ Some e
    → new ≡ with_marks [] (map (λ e. e.mark) (take (i + 1) es))
marks_more eq s marks new es i e is before at =
    is
    ∙ with_mark_is eq s marks e.mark
    ∙ ap (λ ms. with_mark ms e.mark) before
    ∙ sym (with_marks_push [] (map (λ e. e.mark) (take i es)) e.mark)
    ∙ ap (with_marks []) (sym (map-append (λ e. e.mark) (take i es) (e ∷ [])))
    ∙ ap (λ es. with_marks [] (map (λ e. e.mark) es)) (sym (take_more es i e at))

-- the number of check-ins up to one point more
pub check_ins_more : (xs : List FlowPoint) (i : ℕ) (x : FlowPoint) (n : ℕ) → n ≡ check_ins_before xs i → slice_get xs i ≡ Some x
    → check_ins_to n (Some x) ≡ check_ins_before xs (i + 1)
check_ins_more xs i x n is at =
    let next : suc i ≡ i + 1 = omega arith in
    ap (λ n. check_ins_to n (Some x)) is ∙ ap (check_ins_to (check_ins_before xs i)) (sym at) ∙ ap (check_ins_before xs) next

-- the entries of one point more
pub entries_more : (points ids : ℕ) (xs : List FlowPoint) (i : ℕ) (x : FlowPoint) (n : ℕ) (old first new : List Entry)
    → n ≡ check_ins_before xs i → slice_get xs i ≡ Some x → first ≡ old ++ there (start_at points ids x)
    → new ≡ first ++ there (check_in_at (check_ins_here n x) i x) → old ≡ entries_of points ids xs (take i xs)
    → new ≡ entries_of points ids xs (take (i + 1) xs)
entries_more points ids xs i x n old first new is at starts checks before =
    let zero : i ≡ 0 + i = omega arith in
    checks
    ∙ ap (λ es. es ++ there (check_in_at (check_ins_here n x) i x)) starts
    ∙ append_assoc old (there (start_at points ids x)) (there (check_in_at (check_ins_here n x) i x))
    ∙ ap (λ n. old ++ (there (start_at points ids x) ++ there (check_in_at (check_ins_here n x) i x))) is
    ∙ ap (λ es. es ++ entries_at points ids xs i x) before
    ∙ ap (λ n. parts (entries_at points ids xs) 0 (take i xs) ++ entries_at points ids xs n x) zero
    ∙ sym (parts_take (entries_at points ids xs) 0 xs i x at)

-- ---- the marks of entries

start_there : (points ids : ℕ) (x : FlowPoint) → map (λ e. e.mark) (there (start_at points ids x)) ≡ start_mark x
start_there points ids x = by (x.number == 0)
  where
    by : (b : Bool) → map (λ e. e.mark) (there (if b then Some (record { mark = Start x.function; node = points + points + ids + x.function }) else None))
        ≡ (if b then Start x.function ∷ [] else [])
    by true = refl
    by false = refl

check_there : (n i : ℕ) (x : FlowPoint) → map (λ e. e.mark) (there (check_in_at n i x)) ≡ check_in_mark n x
check_there n i x = by (is_check_in x.point.kind)
  where
    by : (b : Bool) → map (λ e. e.mark) (there (if b then Some (record { mark = CheckIn x.function x.generation n; node = i }) else None))
        ≡ (if b then CheckIn x.function x.generation n ∷ [] else [])
    by true = refl
    by false = refl

-- the marks of the entries of some points are those of the points
entry_marks : (points ids : ℕ) (xs : List FlowPoint) (i : ℕ) (ys : List FlowPoint) → map (λ e. e.mark) (parts (entries_at points ids xs) i ys) ≡ parts (marks_at xs) i ys
entry_marks points ids xs i [] = refl
entry_marks points ids xs i (y ∷ ys) =
    map-append (λ e. e.mark) (entries_at points ids xs i y) (parts (entries_at points ids xs) (suc i) ys)
    ∙ ap (λ ms. ms ++ map (λ e. e.mark) (parts (entries_at points ids xs) (suc i) ys)) here
    ∙ ap (λ ms. marks_at xs i y ++ ms) (entry_marks points ids xs (suc i) ys)
  where
    here : map (λ e. e.mark) (entries_at points ids xs i y) ≡ marks_at xs i y
    here =
        map-append (λ e. e.mark) (there (start_at points ids y)) (there (check_in_at (check_ins_here (check_ins_before xs i) y) i y))
        ∙ ap (λ ms. ms ++ map (λ e. e.mark) (there (check_in_at (check_ins_here (check_ins_before xs i) y) i y))) (start_there points ids y)
        ∙ ap (λ ms. start_mark y ++ ms) (check_there (check_ins_here (check_ins_before xs i) y) i y)

pub marks_of_entries : (points ids : ℕ) (xs : List FlowPoint) → with_marks [] (map (λ e. e.mark) (entries_of points ids xs xs)) ≡ marks_of xs
marks_of_entries points ids xs = ap (with_marks []) (entry_marks points ids xs 0 xs)

-- ---- a flow that goes on

same_parts : {A : Type 0} (f g : ℕ → FlowPoint → List A) (i : ℕ) (xs : List FlowPoint)
    → ((k : ℕ) (x : FlowPoint) → slice_get xs k ≡ Some x → f (i + k) x ≡ g (i + k) x) → parts f i xs ≡ parts g i xs
same_parts f g i [] same = refl
same_parts f g i (x ∷ xs) same =
    let here : i + 0 ≡ i = omega arith in
    ap (λ ys. ys ++ parts f (suc i) xs) (subst (λ n. f n x ≡ g n x) here (same 0 x refl))
    ∙ ap (λ ys. g i x ++ ys) (same_parts f g (suc i) xs (λ k y at. further k y (same (suc k) y at)))
  where
    further : (k : ℕ) (y : FlowPoint) → f (i + suc k) y ≡ g (i + suc k) y → f (suc i + k) y ≡ g (suc i + k) y
    further k y e = let place : i + suc k ≡ suc i + k = omega arith in subst (λ n. f n y ≡ g n y) place e

check_ins_stay : (xs ys : List FlowPoint) (i : ℕ) → i ≤ length xs → check_ins_before (xs ++ ys) i ≡ check_ins_before xs i
check_ins_stay xs ys zero l = refl
check_ins_stay xs ys (suc i) l =
    let at = item_at xs i (omega arith) in
    ap (λ n. check_ins_to n (slice_get (xs ++ ys) i)) (check_ins_stay xs ys i (omega arith))
    ∙ ap (check_ins_to (check_ins_before xs i)) (at_front xs ys i at.0 at.1 ∙ sym at.1)

with_marks_append : (marks ms ns : List Mark) → with_marks marks (ms ++ ns) ≡ with_marks (with_marks marks ms) ns
with_marks_append marks [] ns = refl
with_marks_append marks (m ∷ ms) ns = with_marks_append (with_mark marks m) ms ns

with_marks_stay : (ms marks : List Mark) (k : ℕ) (n : Mark) → slice_get marks k ≡ Some n → slice_get (with_marks marks ms) k ≡ Some n
with_marks_stay [] marks k n at = at
with_marks_stay (m ∷ ms) marks k n at = with_marks_stay ms (with_mark marks m) k n (by (list_any (same_mark m) marks))
  where
    by : (b : Bool) → slice_get (if b then marks else marks ++ m ∷ []) k ≡ Some n
    by true = at
    by false = at_front marks (m ∷ []) k n at

pub numbers_stay : (xs ys : List FlowPoint) (m : Mark) (k : ℕ) → slice_get (marks_of xs) k ≡ Some m → slice_get (marks_of (xs ++ ys)) k ≡ Some m
numbers_stay xs ys m k at =
    subst (λ ms. slice_get ms k ≡ Some m) (sym split)
    (with_marks_stay (parts (marks_at (xs ++ ys)) (0 + length xs) ys) (marks_of xs) k m at)
  where
    front : parts (marks_at (xs ++ ys)) 0 xs ≡ parts (marks_at xs) 0 xs
    front = same_parts (marks_at (xs ++ ys)) (marks_at xs) 0 xs
        (λ i x found. ap (λ n. start_mark x ++ check_in_mark (check_ins_here n x) x)
        (check_ins_stay xs ys (0 + i) (let l = slice_get_within xs i x found in omega arith)))

    split : marks_of (xs ++ ys) ≡ with_marks (marks_of xs) (parts (marks_at (xs ++ ys)) (0 + length xs) ys)
    split =
        ap (with_marks []) (parts-append (marks_at (xs ++ ys)) 0 xs ys)
        ∙ with_marks_append [] (parts (marks_at (xs ++ ys)) 0 xs) (parts (marks_at (xs ++ ys)) (0 + length xs) ys)
        ∙ ap (λ ms. with_marks (with_marks [] ms) (parts (marks_at (xs ++ ys)) (0 + length xs) ys)) front
