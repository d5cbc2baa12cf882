-- The line of a place is the number of lines that begin at or before it.
use Rattle.std.proofs.Common.{◌≡◌, ℕ, zero, suc, ◌+◌, ◌-◌, ◌<◌, ◌≤◌, ◌==◌, Bool, true, false, leb, leb-true, leb-false, List, [], ◌∷◌, ◌++◌, length, refl, sym, ap, subst, ◌∙◌, arith, slice_index, if◌then◌else◌, ◌⊎◌, inl, inr, append-nil, append_assoc, length-append, le_refl, add-one}
use Rattle.std.specs.Prelude.{All}
use Rattle.std.specs.List.Sorted.{IsNonDecreasing, IsPartitionPoint}
use Rattle.std.proofs.Math.ListN.{get_or-eq_default}
use Rattle.std.proofs.Math.Seq.{get_or-append_seam}
use Rattle.std.proofs.lemmas.Bool.{cases_order}
use Rattle.std.proofs.lemmas.List.{get_or_append_left, get_or-append_right}
use Rattle.std.proofs.lemmas.List.Elements.{All-nil, All-cons, All-append}
use Rattle.std.proofs.lemmas.List.Sorted.{IsNonDecreasingBy-short, IsNonDecreasingBy-push}
use Rattle.dsu_report.specs.Places.{line_at, column_at}
use Rattle.check_in_places.specs.LineStarts.{start_if, starts_to, line_starts, IsLineAt}

abbrev start_when : Bool → ℕ → List ℕ
start_when b next = if b then next ∷ [] else []

length_push : (s : List ℕ) (x : ℕ) → length (s ++ x ∷ []) ≡ length s + 1
length_push s x = length-append s (x ∷ [])

-- the last of some numbers
abbrev last : List ℕ → ℕ
last s = slice_index s (length s - 1)

last_push : (s : List ℕ) (x : ℕ) → last (s ++ x ∷ []) ≡ x
last_push s x =
    let n : length (s ++ x ∷ []) - 1 ≡ length s = omega (arith, length_push s x) in
    ap (slice_index (s ++ x ∷ [])) n ∙ get_or-append_seam s x [] 0

-- ---- the lines that begin at or before a place

line_is_count : (text : List ℕ) (at : ℕ) → line_at text at ≡ length (starts_to text at)
line_is_count text zero = refl
line_is_count text (suc at) = by (slice_index text at == 10) (starts_to text at) (line_at text at) (suc at) (line_is_count text at)
  where
    by : (b : Bool) (s : List ℕ) (line next : ℕ) → line ≡ length s → (if b then line + 1 else line) ≡ length (s ++ start_when b next)
    by true s line next e = ap (λ n. n + 1) e ∙ sym (length_push s next)
    by false s line next e = e ∙ sym (ap length (append-nil s))

column_from_last : (text : List ℕ) (at : ℕ) → column_at text at + last (starts_to text at) ≡ at + 1
column_from_last text zero = refl
column_from_last text (suc at) = by (slice_index text at == 10) (starts_to text at) (column_at text at) at (column_from_last text at)
  where
    by : (b : Bool) (s : List ℕ) (column at : ℕ) → column + last s ≡ at + 1
        → (if b then 1 else column + 1) + last (s ++ start_when b (suc at)) ≡ suc at + 1
    by true s column at e = let same = last_push s (suc at) in omega (arith, same)
    by false s column at e = let same = ap last (append-nil s) in omega (arith, same, e)

-- there is at least one, and no more than the bytes before the place and one
count_bounds : (text : List ℕ) (at : ℕ) → (0 < length (starts_to text at)) × (length (starts_to text at) ≤ at + 1)
count_bounds text zero = (omega arith, omega arith)
count_bounds text (suc at) = by (slice_index text at == 10) (starts_to text at) at (count_bounds text at)
  where
    by : (b : Bool) (s : List ℕ) (at : ℕ) → (0 < length s) × (length s ≤ at + 1)
        → (0 < length (s ++ start_when b (suc at))) × (length (s ++ start_when b (suc at)) ≤ suc at + 1)
    by true s at e =
        let more = length_push s (suc at) in
        let low = e.0 in
        let high = e.1 in
        (omega (arith, more, low), omega (arith, more, high))
    by false s at e =
        let same = ap length (append-nil s) in
        let low = e.0 in
        let high = e.1 in
        (omega (arith, same, low), omega (arith, same, high))

all_when : (P : ℕ → Type 0) (b : Bool) (next : ℕ) → P next → All P (start_when b next)
all_when P true next p = All-cons P next [] p (All-nil P)
all_when P false next p = All-nil P

starts_below : (text : List ℕ) (at : ℕ) → All (λ start. start ≤ at) (starts_to text at)
starts_below text zero = All-cons (λ start. start ≤ 0) 0 [] (omega arith) (All-nil (λ start. start ≤ 0))
starts_below text (suc at) =
    All-append (λ start. start ≤ suc at) (starts_to text at) (start_if (slice_index text at) (suc at))
    (λ k d within. let below = starts_below text at k d within in omega (arith, below))
    (all_when (λ start. start ≤ suc at) (slice_index text at == 10) (suc at) (le_refl (suc at)))

starts_ascend : (text : List ℕ) (at : ℕ) → IsNonDecreasing (starts_to text at)
starts_ascend text zero = IsNonDecreasingBy-short (λ start. start) (0 ∷ []) (omega arith)
starts_ascend text (suc at) = by (slice_index text at == 10) (starts_to text at) at (starts_below text at) (starts_ascend text at)
  where
    by : (b : Bool) (s : List ℕ) (at : ℕ) → All (λ start. start ≤ at) s → IsNonDecreasing s → IsNonDecreasing (s ++ start_when b (suc at))
    by true s at below rise =
        IsNonDecreasingBy-push (λ start. start) s (suc at) rise
        (λ d some. let low = below (length s - 1) d (omega arith) in omega (arith, low))
    by false s at below rise = subst {A = List ℕ} (λ l. IsNonDecreasing l) (sym (append-nil s)) rise

-- the lines of a text ascend
pub lines_ascend : (text starts : List ℕ) → starts ≡ line_starts text → IsNonDecreasing starts
lines_ascend text starts all = subst {A = List ℕ} (λ l. IsNonDecreasing l) (sym all) (starts_ascend text (length text))

-- those up to the next place
pub starts_more : (text : List ℕ) (at : ℕ)
    → starts_to text at ++ start_if (slice_index text at) (at + 1) ≡ starts_to text (at + 1)
starts_more text at =
    ap (λ next. starts_to text at ++ start_if (slice_index text at) next) (add-one at) ∙ sym (ap (starts_to text) (add-one at))

-- ---- those that begin after it

-- so many places after one
abbrev place_after : ℕ → ℕ → ℕ
place_after at zero = at
place_after at (suc k) = suc (place_after at k)

place_after_is_sum : (at k : ℕ) → place_after at k ≡ at + k
place_after_is_sum at zero = omega arith
place_after_is_sum at (suc k) = let same = place_after_is_sum at k in omega (arith, same)

abbrev starts_after : List ℕ → ℕ → ℕ → List ℕ
starts_after text at zero = []
starts_after text at (suc k) = starts_after text at k ++ start_if (slice_index text (place_after at k)) (suc (place_after at k))

starts_parted : (text : List ℕ) (at k : ℕ) → starts_to text (place_after at k) ≡ starts_to text at ++ starts_after text at k
starts_parted text at zero = sym (append-nil (starts_to text at))
starts_parted text at (suc k) =
    let more = start_if (slice_index text (place_after at k)) (suc (place_after at k)) in
    ap (λ s. s ++ more) (starts_parted text at k) ∙ append_assoc (starts_to text at) (starts_after text at k) more

starts_above : (text : List ℕ) (at k : ℕ) → All (λ start. at < start) (starts_after text at k)
starts_above text at zero = All-nil (λ start. at < start)
starts_above text at (suc k) =
    let same = place_after_is_sum at k in
    All-append (λ start. at < start) (starts_after text at k) (start_if (slice_index text (place_after at k)) (suc (place_after at k)))
    (starts_above text at k)
    (all_when (λ start. at < start) (slice_index text (place_after at k) == 10) (suc (place_after at k)) (omega (arith, same)))

-- ---- no line begins after the end

none_after : (text : List ℕ) (at k : ℕ) → length text ≤ at → starts_after text at k ≡ []
none_after text at zero past = refl
none_after text at (suc k) past =
    let same = place_after_is_sum at k in
    let none : slice_index text (place_after at k) ≡ 0 = get_or-eq_default text 0 (omega (arith, same, past)) in
    ap (λ byte. starts_after text at k ++ start_if byte (suc (place_after at k))) none
    ∙ append-nil (starts_after text at k) ∙ none_after text at k past

-- all lines: those that begin at or before a place, and those that begin after it
record Parted (text : List ℕ) (at : ℕ) : Type 0 where
  more : List ℕ
  all : line_starts text ≡ starts_to text at ++ more
  above : All (λ start. at < start) more

parted : (text : List ℕ) (at : ℕ) → Parted text at
parted text at = by (cases_order at (length text))
  where
    inside : at ≤ length text → Parted text at
    inside place =
        let k = length text - at in
        let sum = place_after_is_sum at k in
        let size : length text ≡ place_after at k = omega (arith, place, sum) in
        record {
          more = starts_after text at k;
          all = ap (starts_to text) size ∙ starts_parted text at k;
          above = starts_above text at k;
        }

    outside : length text < at → Parted text at
    outside place =
        let k = at - length text in
        let sum = place_after_is_sum (length text) k in
        let same : at ≡ place_after (length text) k = omega (arith, place, sum) in
        let none = none_after text (length text) k (le_refl (length text)) in
        let is : starts_to text at ≡ line_starts text =
        ap (starts_to text) same ∙ starts_parted text (length text) k ∙ ap (λ more. line_starts text ++ more) none
        ∙ append-nil (line_starts text)
        in
        record {
          more = [];
          all = sym is ∙ sym (append-nil (starts_to text at));
          above = All-nil (λ start. at < start);
        }

    by : ((at ≡ length text) ⊎ ((at < length text) ⊎ (length text < at))) → Parted text at
    by (inl e) = inside (omega (arith, e))
    by (inr (inl less)) = inside (omega (arith, less))
    by (inr (inr more)) = outside more

-- ---- the place between both

abbrev pub IsPoint : List ℕ → ℕ → ℕ → Type 0
IsPoint starts at i = IsPartitionPoint (λ start. leb start at ≡ true) (λ start. leb start at ≡ false) starts i

point_is_length : (s t : List ℕ) (at i : ℕ) → All (λ start. start ≤ at) s → All (λ start. at < start) t
    → i ≤ length (s ++ t) → IsPoint (s ++ t) at i → i ≡ length s
point_is_length s t at i low high within point = by (cases_order i (length s))
  where
    total : length (s ++ t) ≡ length s + length t
    total = length-append s t

    by : ((i ≡ length s) ⊎ ((i < length s) ⊎ (length s < i))) → i ≡ length s
    by (inl e) = e
    by (inr (inl less)) =
        let above = leb-false _ _ (point.1 i 0 (le_refl i) (omega (arith, total, less))) in
        let same = get_or_append_left s t 0 i less in
        let below = low i 0 less in
        absurd (omega (arith, above, same, below))
    by (inr (inr more)) =
        let below = leb-true _ _ (point.0 (length s) 0 (omega arith) more) in
        let same = get_or-append_right s t (length s) (length s) 0 refl (le_refl (length s)) in
        let above = high (length s - length s) 0 (omega (arith, total, more, within)) in
        absurd (omega (arith, below, same, above))

pub point_is_line : (text starts : List ℕ) (at line : ℕ) → starts ≡ line_starts text → line ≤ length starts
    → IsPoint starts at line → IsLineAt text at line
point_is_line text starts at line are within point =
    let s = starts_to text at in
    let cut = parted text at in
    let bounds = count_bounds text at in
    let some = bounds.0 in
    let is : line ≡ length s =
    point_is_length s cut.more at line (starts_below text at) cut.above
    (subst {A = List ℕ} (λ l. line ≤ length l) (are ∙ cut.all) within) (subst {A = List ℕ} (λ l. IsPoint l at line) (are ∙ cut.all) point)
    in
    let start : slice_index (line_starts text) (line - 1) ≡ last s =
    ap (λ l. slice_index l (line - 1)) cut.all ∙ ap (λ n. slice_index (s ++ cut.more) (n - 1)) is
    ∙ get_or_append_left s cut.more 0 (length s - 1) (omega (arith, some))
    in
    let begun : last s ≤ at = starts_below text at (length s - 1) 0 (omega (arith, some)) in
    let column = column_from_last text at in
    record {
      number = is ∙ sym (line_is_count text at);
      some = omega (arith, is, some);
      within = subst {A = List ℕ} (λ l. line ≤ length l) are within;
      before = omega (arith, start, begun);
      column = ap (λ n. column_at text at + n) start ∙ column;
    }
