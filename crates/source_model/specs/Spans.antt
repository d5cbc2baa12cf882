-- Of each transaction's record the versions that its definitions share.
use Rattle.std.specs.Prelude.{ℕ, zero, suc, ◌==◌, Bool, false, List, [], ◌∷◌, ◌++◌, map, filter, slice_get}
use Rattle.std.specs.Option.{option_map_or}
use Rattle.std.specs.List.{list_any, list_all, range_with_len}
use Rattle.c_semantics.specs.Threads.{Use, Record}
use Rattle.source_model.specs.Versions.{Table, entries_of, current, greatest_of}
use Rattle.source_model.specs.Worlds.{World, Slot, Free, Live, Over}

-- the least and the greatest version to which all entries of a record belong, with the slot of its thread; both are 0
-- where the entries share none
pub record Span : Type 0 where
  pub slot : ℕ
  pub first : ℕ
  pub last : ℕ

-- whether the entry of a use belongs to version v
abbrev pub has_version : Table → ℕ → Use → Bool
has_version table v use_made =
    option_map_or (λ e. list_any (λ n. v == n) e.versions) (slice_get (entries_of table use_made.name) use_made.entry) false

-- the versions to which all entries of a record belong, in order; a record without an entry has all versions so far
abbrev pub shared : Table → Record → List ℕ
shared table uses = filter (λ v. list_all (has_version table v) uses) (range_with_len 1 (current table))

-- the first of some numbers
abbrev pub first_of : List ℕ → ℕ
first_of [] = 0
first_of (n ∷ ns) = n

abbrev pub span : Table → ℕ → Record → Span
span table slot uses =
    let versions = shared table uses in record { slot = slot; first = first_of versions; last = greatest_of versions }

-- the spans of the records that are open, by slot; the first of these slots has number n
abbrev pub open_span : Table → ℕ → Record → ℕ → List Span
open_span table n uses zero = []
open_span table n uses (suc depth) = span table n uses ∷ []

abbrev pub span_in : Table → ℕ → Slot → List Span
span_in table n Free = []
span_in table n (Over serial result) = []
span_in table n (Live th) = open_span table n th.uses th.depth

abbrev pub spans_from : Table → ℕ → List Slot → List Span
spans_from table n [] = []
spans_from table n (s ∷ ss) = span_in table n s ++ spans_from table (suc n) ss

-- the spans of all records: those that were closed, the first first, then those that are open
abbrev pub spans : World → List Span
spans w = map (λ c. span w.table c.slot c.uses) w.closed ++ spans_from w.table 0 w.slots
