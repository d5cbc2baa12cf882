-- Lists of records.
use Rattle.std.proofs.Common.{◌≡◌, ℕ, zero, suc, ◌+◌, ◌<◌, ◌≤◌, ◌⊎◌, inl, inr, Bool, true, false, List, [], ◌∷◌, ◌++◌, map, length, drop, Option, Some, None, refl, sym, ap, subst, ◌∙◌, arith}
use Rattle.std.proofs.lemmas.Bool.{cases_eq, cases_lt}
use Rattle.std.proofs.lemmas.Bool.Decides.{nat_tests}
use Rattle.std.proofs.lemmas.List.{append_assoc, map-append, get_or_past, get_or-set_other, get_or-set_same}
use Rattle.std.proofs.lemmas.Option.{slice_get-get_or}
use Rattle.std.specs.Prelude.{◌==◌, slice_get, slice_index_or, slice_set, if◌then◌else◌}
use Rattle.c_semantics.specs.Threads.{Record}
use Rattle.source_model.specs.Versions.{Table}
use Rattle.source_model.specs.Worlds.{Closed, Slot, Free, Live, Over}
use Rattle.source_model.specs.Runs.{open_of, open_of_thread}
use Rattle.source_model.specs.Spans.{Span, open_span, span, span_in, spans_from}
use Rattle.version_spans.specs.declared.record.Record.{Record as Kept}
use Rattle.version_spans.specs.declared.record.Span.{Span as Listed}
use Rattle.version_spans.specs.Kept.{IsKept, span_of}
use Rattle.recorded_runs.specs.declared.records.ClosedRecord.{ClosedRecord}
use Rattle.recorded_runs.specs.MoveRecords.{closed_by}
use Rattle.recorded_runs.specs.RecordedRuns.{IsOpen, IsClosed, AreClosed, changed_at}

pub plus_one : (n : ℕ) → suc n ≡ n + 1
plus_one n = omega arith

-- a record that is kept still is
pub open_follows : (table next : Table) (old new : Kept) (uses : Option Record) → ((u : Record) → IsKept table u old → IsKept next u new)
    → IsOpen table (Some old) uses → IsOpen next (Some new) uses
open_follows table next old new None follows is = absurd is
open_follows table next old new (Some uses) follows is = follows uses is

-- ---- closed records

-- one more
pub one_more : (table : Table) (kept : List ClosedRecord) (own : List Closed) (c : ClosedRecord) (o : Closed)
    → AreClosed table kept own → IsClosed table c o → AreClosed table (kept ++ c ∷ []) (own ++ o ∷ [])
one_more table [] [] c o are is = (is, tt)
one_more table (k ∷ kept) (w ∷ own) c o are is = (are.0, one_more table kept own c o are.1 is)
one_more table (k ∷ kept) [] c o are is = absurd are
one_more table [] (w ∷ own) c o are is = absurd are

-- a record that leaves its slot is closed
pub closed_more : (table : Table) (kept : List ClosedRecord) (own : List Closed) (slot : ℕ) (left : Kept) (uses : Option Record)
    → IsOpen table (Some left) uses → AreClosed table kept own
    → AreClosed table (kept ++ record { slot = slot; kept = left } ∷ []) (closed_by true slot uses own)
closed_more table kept own slot left None is are = absurd is
closed_more table kept own slot left (Some uses) is are =
    one_more table kept own (record { slot = slot; kept = left }) (record { slot = slot; uses = uses }) are (refl, is)

-- no record leaves
pub closed_none : (table : Table) (kept : List ClosedRecord) (own : List Closed) (slot : ℕ) (b : Bool) (uses : Option Record)
    → IsOpen table None uses → AreClosed table kept own → AreClosed table kept (closed_by b slot uses own)
closed_none table kept own slot b None is are = are
closed_none table kept own slot b (Some uses) is are = absurd is

-- the first records are those of another table already
abbrev pub Between : ℕ → Table → Table → List ClosedRecord → List Closed → Type 0
Between zero table next kept own = AreClosed table kept own
Between (suc n) table next [] [] = Unit {0}
Between (suc n) table next (k ∷ kept) (w ∷ own) = IsClosed next k w × Between n table next kept own
Between (suc n) table next (k ∷ kept) [] = ⊥
Between (suc n) table next [] (w ∷ own) = ⊥

pub all_between : (n : ℕ) (table next : Table) (kept : List ClosedRecord) (own : List Closed) → length kept ≤ n
    → Between n table next kept own → AreClosed next kept own
all_between zero table next [] [] long are = tt
all_between zero table next [] (w ∷ own) long are = absurd are
all_between zero table next (k ∷ kept) own long are = absurd (omega (arith, long))
all_between (suc n) table next [] [] long are = tt
all_between (suc n) table next [] (w ∷ own) long are = absurd are
all_between (suc n) table next (k ∷ kept) [] long are = absurd are
all_between (suc n) table next (k ∷ kept) (w ∷ own) long are = (are.0, all_between n table next kept own (omega (arith, long)) are.1)

-- one record more is
between_more : (n : ℕ) (table next : Table) (kept : List ClosedRecord) (own : List Closed) (c new : ClosedRecord)
    → slice_get kept n ≡ Some c → new.slot ≡ c.slot → ((uses : Record) → IsKept table uses c.kept → IsKept next uses new.kept)
    → Between n table next kept own → Between (suc n) table next (slice_set kept n new) own
between_more zero table next [] own c new at same follows are = absurd (no at)
  where
    no : None ≡ Some c → ⊥
    no e = cc
between_more zero table next (k ∷ kept) [] c new at same follows are = absurd are
between_more zero table next (k ∷ kept) (w ∷ own) c new at same follows are =
    ((are.0.0 ∙ ap (λ x. x.slot) (is at) ∙ sym same, follows w.uses (subst (λ x. IsKept table w.uses x.kept) (is at) are.0.1)), are.1)
  where
    is : Some k ≡ Some c → k ≡ c
    is e = cc
between_more (suc n) table next [] own c new at same follows are = absurd (no at)
  where
    no : None ≡ Some c → ⊥
    no e = cc
between_more (suc n) table next (k ∷ kept) [] c new at same follows are = absurd are
between_more (suc n) table next (k ∷ kept) (w ∷ own) c new at same follows are =
    (are.0, between_more n table next kept own c new at same follows are.1)

pub between_next : (n : ℕ) (table next : Table) (kept : List ClosedRecord) (own : List Closed) (c new : ClosedRecord)
    → slice_get kept n ≡ Some c → new.slot ≡ c.slot → ((uses : Record) → IsKept table uses c.kept → IsKept next uses new.kept)
    → Between n table next kept own → Between (n + 1) table next (slice_set kept n new) own
between_next n table next kept own c new at same follows are =
    subst (λ m. Between m table next (slice_set kept n new) own) (plus_one n)
    (between_more n table next kept own c new at same follows are)

-- ---- spans

-- that of the record with a number
pub closed_at : (table : Table) (kept : List ClosedRecord) (own : List Closed) (n : ℕ) (c : ClosedRecord) (s : Span)
    → AreClosed table kept own → slice_get kept n ≡ Some c → ((uses : Record) → IsKept table uses c.kept → span table c.slot uses ≡ s)
    → map (λ c. span table c.slot c.uses) (drop n own) ≡ s ∷ map (λ c. span table c.slot c.uses) (drop (suc n) own)
closed_at table [] own zero c s are at is = absurd (no at)
  where
    no : None ≡ Some c → ⊥
    no e = cc
closed_at table [] own (suc n) c s are at is = absurd (no at)
  where
    no : None ≡ Some c → ⊥
    no e = cc
closed_at table (k ∷ kept) [] n c s are at is = absurd are
closed_at table (k ∷ kept) (w ∷ own) zero c s are at is =
    ap (λ x. x ∷ map (λ c. span table c.slot c.uses) own)
    (ap (λ n. span table n w.uses) (are.0.0 ∙ ap (λ x. x.slot) (same at))
    ∙ is w.uses (subst (λ x. IsKept table w.uses x.kept) (same at) are.0.1))
  where
    same : Some k ≡ Some c → k ≡ c
    same e = cc
closed_at table (k ∷ kept) (w ∷ own) (suc n) c s are at is = closed_at table kept own n c s are.1 at is

-- after the last one
pub closed_end : (table : Table) (kept : List ClosedRecord) (own : List Closed) (n : ℕ) → AreClosed table kept own → length kept ≤ n
    → drop n own ≡ []
closed_end table [] [] zero are long = refl
closed_end table [] [] (suc n) are long = refl
closed_end table (k ∷ kept) (w ∷ own) zero are long = absurd (omega (arith, long))
closed_end table (k ∷ kept) (w ∷ own) (suc n) are long = closed_end table kept own n are.1 (omega (arith, long))
closed_end table (k ∷ kept) [] n are long = absurd are
closed_end table [] (w ∷ own) n are long = absurd are

-- the span of a slot is that of its open record
abbrev opt_span : Table → ℕ → Option Record → List Span
opt_span table n None = []
opt_span table n (Some uses) = span table n uses ∷ []

span_in_is : (table : Table) (n : ℕ) (s : Slot) → span_in table n s ≡ opt_span table n (open_of s)
span_in_is table n Free = refl
span_in_is table n (Over serial result) = refl
span_in_is table n (Live th) = by th.depth
  where
    by : (d : ℕ) → open_span table n th.uses d ≡ opt_span table n (open_of_thread th d)
    by zero = refl
    by (suc d) = refl

-- the spans from a slot on, whatever number it has
slots_at : (table : Table) (slots : List Slot) (p k : ℕ) → k < length slots
    → spans_from table p (drop k slots)
    ≡ opt_span table p (open_of (slice_index_or slots k Free)) ++ spans_from table (suc p) (drop (suc k) slots)
slots_at table [] p k below = absurd (omega (arith, below))
slots_at table (s ∷ slots) p zero below = ap (λ xs. xs ++ spans_from table (suc p) slots) (span_in_is table p s)
slots_at table (s ∷ slots) p (suc k) below = slots_at table slots p k (omega (arith, below))

-- that of a slot whose record is kept, and of one that has none
pub kept_at : (table : Table) (slots : List Slot) (p k : ℕ) (kept : Kept) (s : Span) → k < length slots
    → IsOpen table (Some kept) (open_of (slice_index_or slots k Free)) → ((uses : Record) → IsKept table uses kept → span table p uses ≡ s)
    → spans_from table p (drop k slots) ≡ s ∷ spans_from table (suc p) (drop (suc k) slots)
kept_at table slots p k kept s below is spans =
    slots_at table slots p k below ∙ ap (λ xs. xs ++ spans_from table (suc p) (drop (suc k) slots)) (by (open_of (slice_index_or slots k Free)) is)
  where
    by : (o : Option Record) → IsOpen table (Some kept) o → opt_span table p o ≡ s ∷ []
    by None is = absurd is
    by (Some uses) is = ap (λ x. x ∷ []) (spans uses is)

pub none_at : (table : Table) (slots : List Slot) (p k : ℕ) → k < length slots
    → IsOpen table None (open_of (slice_index_or slots k Free))
    → spans_from table p (drop k slots) ≡ spans_from table (suc p) (drop (suc k) slots)
none_at table slots p k below is =
    slots_at table slots p k below ∙ ap (λ xs. xs ++ spans_from table (suc p) (drop (suc k) slots)) (by (open_of (slice_index_or slots k Free)) is)
  where
    by : (o : Option Record) → IsOpen table None o → opt_span table p o ≡ []
    by None is = refl
    by (Some uses) is = absurd is

-- a span that was pushed is the first of those that were to come
pub pushed : (old new : List Listed) (s : Listed) (rest all : List Span) → new ≡ old ++ s ∷ []
    → map span_of old ++ span_of s ∷ rest ≡ all → map span_of new ++ rest ≡ all
pushed old new s rest all e is =
    ap (λ xs. map span_of xs ++ rest) e
    ∙ ap (λ xs. xs ++ rest) (map-append span_of old (s ∷ []))
    ∙ append_assoc (map span_of old) (span_of s ∷ []) rest
    ∙ is

-- ---- places in lists

-- an item that was read
pub item_at : {A : Type 0} (xs : List A) (i : ℕ) (x d : A) → i < length xs → x ≡ slice_index_or xs i x → slice_index_or xs i d ≡ x
item_at [] i x d below e = absurd (omega (arith, below))
item_at (y ∷ ys) zero x d below e = sym e
item_at (y ∷ ys) (suc i) x d below e = item_at ys i x d (omega (arith, below)) e

pub got_at : {A : Type 0} (xs : List A) (i : ℕ) (x : A) → i < length xs → x ≡ slice_index_or xs i x → slice_get xs i ≡ Some x
got_at xs i x below e = slice_get-get_or xs i x below ∙ ap Some (sym e)

-- where no record is kept none is of a later table either
pub none_follows : (table next : Table) (uses : Option Record) → IsOpen table None uses → IsOpen next None uses
none_follows table next None is = is
none_follows table next (Some uses) is = absurd is

-- open records, of which the first are those of another table already, with one more
below_less : (k place : ℕ) → k < place + 1 → (k ≡ place → ⊥) → k < place
below_less k place below apart = by (cases_lt k place)
  where
    by : (k < place) ⊎ (place ≤ k) → k < place
    by (inl less) = less
    by (inr more) = absurd (apart (omega (arith, more, below)))

module _ (table next : Table) (slots : ℕ → Option Record) (records : List (Option Kept)) (place : ℕ) (new : Option Kept) where
  pub one_follows : place < length records → IsOpen next new (slots place)
      → ((k : ℕ) → k < place → IsOpen next (slice_index_or records k None) (slots k))
      → (k : ℕ) → k < place + 1 → IsOpen next (slice_index_or (slice_set records place new) k None) (slots k)
  one_follows within is before k below = by (cases_eq k place)
    where
      less : (k ≡ place → ⊥) → k < place
      less apart = below_less k place below apart

      by : (k ≡ place) ⊎ (k ≡ place → ⊥) → IsOpen next (slice_index_or (slice_set records place new) k None) (slots k)
      by (inl same) =
          subst (λ n. IsOpen next (slice_index_or (slice_set records place new) n None) (slots n)) (sym same)
          (subst (λ o. IsOpen next o (slots place)) (sym (get_or-set_same records place new None within)) is)
      by (inr apart) =
          subst (λ o. IsOpen next o (slots k)) (sym (get_or-set_other records place k new None apart)) (before k (less apart))

pub later_place : (place k : ℕ) → place + 1 ≤ k → (k ≡ place → ⊥) × (place ≤ k)
later_place place k later = (λ same. omega (arith, same, later), omega (arith, later))

-- what holds of the places before one and of those from it on holds of each
pub split_at : (P : ℕ → Type 0) (place : ℕ) → ((n : ℕ) → n < place → P n) → ((n : ℕ) → place ≤ n → P n) → (n : ℕ) → P n
split_at P place before later n = by (cases_lt n place)
  where
    by : (n < place) ⊎ (place ≤ n) → P n
    by (inl less) = before n less
    by (inr more) = later n more

-- a place past the end has no record
pub past_follows : (table next : Table) (records : List (Option Kept)) (k : ℕ) (uses : Option Record) → length records ≤ k
    → IsOpen table (slice_index_or records k None) uses → IsOpen next (slice_index_or records k None) uses
past_follows table next records k uses past is =
    subst (λ o. IsOpen next o uses) (sym (get_or_past records k None past))
    (none_follows table next uses (subst (λ o. IsOpen table o uses) (get_or_past records k None past) is))

-- what isn't a record is none
pub none_is : (table : Table) (o : Option Kept) (uses : Option Record) → ((r : Kept) → o ≡ Some r → ⊥) → IsOpen table o uses
    → IsOpen table None uses
none_is table None uses isnt is = is
none_is table (Some r) uses isnt is = absurd (isnt r refl)

-- ---- the record of one slot changes

pub same_number : (k n : ℕ) → (k == n) ≡ true → k ≡ n
same_number k n e = grind (arith, nat_tests, e)

pub other_number : (k n : ℕ) → (k == n) ≡ false → k ≡ n → ⊥
other_number k n e same = grind (arith, nat_tests, e, same)

pub set_open : (table : Table) (slots : ℕ → Option Record) (records : List (Option Kept)) (slot : ℕ) (new : Option Kept) (uses : Option Record)
    → slot < length records → IsOpen table new uses → ((k : ℕ) → IsOpen table (slice_index_or records k None) (slots k))
    → (k : ℕ) → IsOpen table (slice_index_or (slice_set records slot new) k None) (changed_at slot uses slots k)
set_open table slots records slot new uses within is each k = by (k == slot) refl
  where
    by : (b : Bool) → (k == slot) ≡ b → IsOpen table (slice_index_or (slice_set records slot new) k None) (if b then uses else slots k)
    by true e =
        subst (λ o. IsOpen table o uses)
        (sym
        (ap (λ n. slice_index_or (slice_set records slot new) n None) (same_number k slot e) ∙ get_or-set_same records slot new None within)) is
    by false e = subst (λ o. IsOpen table o (slots k)) (sym (get_or-set_other records slot k new None (other_number k slot e))) (each k)
