-- The current entry of a name has the versions since its definition began, in each table of a run.
use Rattle.std.proofs.Common.{◌≡◌, ℕ, zero, suc, ◌+◌, ◌≤◌, ◌<◌, ◌⊎◌, inl, inr, ◌==◌, Bool, true, false, not, ◌&&◌, ◌||◌, List, [], ◌∷◌, ◌++◌, map, length, length-append, find, position, cond, option_map, is_some, unwrap_or, Option, Some, None, refl, sym, ap, ap₂, subst, ◌∙◌, arith, if◌then◌else◌}
use Rattle.std.specs.Prelude.{nat_lt, nat_le}
use Rattle.std.specs.List.{list_any, position_or_len}
use Rattle.std.proofs.lemmas.Bool.{false≢true}
use Rattle.std.proofs.lemmas.Bool.Decides.{nat_tests}
use Rattle.std.proofs.lemmas.List.{length-map}
use Rattle.std.proofs.lemmas.List.Folds.{list_any-append}
use Rattle.c_tree.specs.BareExpr.{Bytes}
use Rattle.c_tree.specs.BareDef.{BareDef}
use Rattle.c_semantics.specs.Texts.{definition}
use Rattle.c_semantics.specs.Changes.{agree, same_definition}
use Rattle.source_model.specs.Versions.{Entry, Table, entries_of, belongs, entry_in, in_version, current, first_table, Stays, New, fate, fate_of, extended, followed, next_table}
use Rattle.source_model.specs.Worlds.{World, Limits, first_world}
use Rattle.source_model.specs.Uses.{use_of}
use Rattle.source_model.specs.Spans.{has_version}
use Rattle.source_model.specs.Moves.{move}
use Rattle.source_model.specs.Installs.{installed}
use Rattle.source_model.specs.JournalLaws.{HasMain}
use Rattle.version_laws.specs.Histories.{Alike, IsHistory, last_text, text_in, versions_by}
use Rattle.version_laws.proofs.DefinedNames.{stays_where_same}
use Rattle.version_laws.proofs.NextVersions.{entries_next, none_later, first_is_next}
use Rattle.version_laws.proofs.TableHistories.{next_history, last_as_current, last_is_next, one_longer}
use Rattle.version_laws.proofs.MovesSustain.{moves_sustain}
use Rattle.version_laws.proofs.RunHistories.{holds_in_runs, has_main_at}
use Rattle.version_spans.specs.Beginnings.{IsTableOf, is_defined, is_entry, since}
use Rattle.version_spans.specs.SpanLaws.{TablesFollow, TablesOfRuns}
use Rattle.version_spans.proofs.Numbers.{itself, or_true, le_true}
use Rattle.version_spans.proofs.NextEntries.{has_at, fresh, versions_stay, next_version}
use Rattle.version_spans.proofs.Beginning.{since_next, since_at_most, differ_where}

-- ---- the current entry of a name that a text leaves

none_of : (o : Option Entry) → option_map (λ (e : Entry). e.definition) o ≡ None → o ≡ None
none_of None h = refl
none_of (Some e) h = cc

first_none : (b : Bool) (x : Entry) (o : Option Entry) → cond b (Some x) o ≡ None → (b ≡ false) × (o ≡ None)
first_none true x o h = cc
first_none false x o h = (refl, h)

extended_belongs : (n : ℕ) (e : Entry) → belongs (suc n) e ≡ false → belongs (suc n) (extended n e) ≡ belongs n e
extended_belongs n e before = by (belongs n e)
  where
    by : (b : Bool) → belongs (suc n) (if b then record e { versions = e.versions ++ suc n ∷ [] } else e) ≡ b
    by true =
        list_any-append (λ x. suc n == x) e.versions (suc n ∷ [])
        ∙ ap (λ b. list_any (λ x. suc n == x) e.versions || (b || false)) (itself (suc n))
        ∙ or_true (list_any (λ x. suc n == x) e.versions)
    by false = before

same_place : (n : ℕ) (es : List Entry) → find (belongs (suc n)) es ≡ None
    → position_or_len (belongs (suc n)) (map (extended n) es) ≡ position_or_len (belongs n) es
same_place n [] none = refl
same_place n (e ∷ es) none =
    let parts = first_none (belongs (suc n) e) e (find (belongs (suc n)) es) none in
    let test : not (belongs (suc n) (extended n e)) ≡ not (belongs n e) = ap not (extended_belongs n e parts.0) in
    let rest : position_or_len (belongs (suc n)) (map (extended n) es) ≡ position_or_len (belongs n) es = same_place n es parts.1 in
    cc

above : (n : ℕ) → n < suc n
above n = omega arith

none_has_next : (table : Table) (name : Bytes) → find (belongs (suc (current table))) (entries_of table name) ≡ None
none_has_next table name = none_of (find (belongs (suc (current table))) (entries_of table name)) (none_later table (suc (current table)) name (above (current table)))

pub use_stays : (p q : List BareDef) (table : Table) (name : Bytes) → fate p q name ≡ Stays
    → current (next_table (current table) p q table) ≡ suc (current table)
    → use_of (next_table (current table) p q table) name ≡ use_of table name
use_stays p q table name stays count =
    ap (λ i. record { name = name; entry = unwrap_or i 0 })
    (ap (λ v. entry_in (next_table (current table) p q table) v name) count
    ∙ ap (position (belongs (suc n))) (entries_next n p q table name ∙ ap (λ f. followed n f es) stays)
    ∙ ap₂ (λ i k. cond (nat_lt i k) (Some i) None) (same_place n es (none_has_next table name)) (length-map es (extended n)))
  where
    n : ℕ
    n = current table

    es : List Entry
    es = entries_of table name

-- ---- the current entry of a name that is defined

zero_less : (n : ℕ) → nat_lt 0 (suc n) ≡ true
zero_less n = grind (arith, nat_tests)

one_less : (k n : ℕ) → nat_lt k n ≡ true → nat_lt (1 + k) (suc n) ≡ true
one_less k n h = grind (arith, nat_tests, h)

position_within : (test : Entry → Bool) (es : List Entry) → is_some (option_map (λ (e : Entry). e.definition) (find test es)) ≡ true
    → nat_lt (position_or_len test es) (length es) ≡ true
position_within test [] h = absurd (false≢true h)
position_within test (x ∷ es) h = by (test x) (position_within test es) h
  where
    by : (b : Bool) → (is_some (option_map (λ (e : Entry). e.definition) (find test es)) ≡ true → nat_lt (position_or_len test es) (length es) ≡ true)
        → is_some (option_map (λ (e : Entry). e.definition) (cond b (Some x) (find test es))) ≡ true
        → nat_lt (cond (not b) (1 + position_or_len test es) 0) (suc (length es)) ≡ true
    by true rest i = zero_less (length es)
    by false rest i = one_less (position_or_len test es) (length es) (rest i)

-- it is there
pub entry_there : (table : Table) (name : Bytes) → is_defined table name ≡ true → is_entry table (use_of table name) ≡ true
entry_there table name now =
    let es = entries_of table name in
    let test = belongs (current table) in
    let within = position_within test es now in
    ap (λ b. nat_lt (unwrap_or (cond b (Some (position_or_len test es)) None) 0) (length es)) within ∙ within

-- ---- the current entry of a name that a text begins

new_place : (n : ℕ) (d : BareDef) (es : List Entry) → find (belongs (suc n)) es ≡ None
    → position_or_len (belongs (suc n)) (es ++ fresh n d ∷ []) ≡ length es
new_place n d [] none = let is = ap (λ b. b || false) (itself (suc n)) in cc
new_place n d (e ∷ es) none =
    let parts = first_none (belongs (suc n) e) e (find (belongs (suc n)) es) none in
    ap₂ (λ b k. cond (not b) (1 + k) 0) parts.0 (new_place n d es parts.1) ∙ one_more (length es)
  where
    one_more : (k : ℕ) → 1 + k ≡ suc k
    one_more k = omega arith

use_begins : (p q : List BareDef) (table : Table) (name : Bytes) (d : BareDef) → fate p q name ≡ New d
    → current (next_table (current table) p q table) ≡ suc (current table)
    → use_of (next_table (current table) p q table) name ≡ record { name = name; entry = length (entries_of table name) }
use_begins p q table name d new count =
    ap (λ i. record { name = name; entry = unwrap_or i 0 })
    (ap (λ v. entry_in (next_table (current table) p q table) v name) count
    ∙ ap (position (belongs (suc n))) (entries_next n p q table name ∙ ap (λ f. followed n f es) new)
    ∙ ap₂ (λ i k. cond (nat_lt i k) (Some i) None) (new_place n d es (none_has_next table name)) (length-append es (fresh n d ∷ []))
    ∙ ap (λ b. cond b (Some (length es)) None) (one_more (length es)))
  where
    n : ℕ
    n = current table

    es : List Entry
    es = entries_of table name

    one_more : (k : ℕ) → nat_lt k (k + 1) ≡ true
    one_more k = grind (arith, nat_tests)

has_last : (v : ℕ) (es : List Entry) (e : Entry) → has_at v (es ++ e ∷ []) (length es) ≡ belongs v e
has_last v [] e = refl
has_last v (x ∷ es) e = has_last v es e

only_next : (n v : ℕ) → v ≤ suc n → ((v == suc n) || false) ≡ nat_le (suc n) v
only_next n v h = grind (arith, nat_tests, h)

-- ---- the next table

defined_alike : (o u : Option BareDef) → Alike o u → is_some o ≡ is_some u
defined_alike None None h = refl
defined_alike (Some a) (Some b) h = refl
defined_alike None (Some b) h = absurd h
defined_alike (Some a) None h = absurd h

-- a name is defined where the last text defines it
pub defined_by_text : (texts : List (List BareDef)) (table : Table) → IsHistory texts table → (name : Bytes)
    → is_defined table name ≡ is_some (definition (last_text texts) name)
defined_by_text texts table h name =
    defined_alike (in_version table (current table) name) (definition (last_text texts) name) (last_as_current texts table h name)

agree_defines : (o u : Option BareDef) → agree same_definition o u ≡ true → is_some o ≡ true
agree_defines (Some a) u h = refl
agree_defines None u h = absurd (false≢true h)

-- what becomes of a name that the newer text defines
pub fate_is : (p q : List BareDef) (name : Bytes) (d : BareDef) → definition q name ≡ Some d
    → fate p q name ≡ (if agree same_definition (definition p name) (definition q name) then Stays else New d)
fate_is p q name d e = ap₂ fate_of (stays_where_same p q name) e

pub the_definition : (o : Option BareDef) → is_some o ≡ true → (d : BareDef) × (o ≡ Some d)
the_definition None h = absurd (false≢true h)
the_definition (Some d) h = (d, refl)

pub where_it_lies : (v n : ℕ) → v ≤ suc n → (v ≤ n) ⊎ (v ≡ suc n)
where_it_lies zero n h = inl (omega arith)
where_it_lies (suc v) zero h = inr (omega (arith, h))
where_it_lies (suc v) (suc n) h = by (where_it_lies v n (omega (arith, h)))
  where
    by : (v ≤ n) ⊎ (v ≡ suc n) → (suc v ≤ suc n) ⊎ (suc v ≡ suc (suc n))
    by (inl le) = inl (omega (arith, le))
    by (inr is) = inr (ap suc is)

-- it is as many versions as texts
pub next_count : (texts : List (List BareDef)) (table : Table) (q : List BareDef) → IsTableOf texts table → HasMain q
    → current (next_table (current table) (last_text texts) q table) ≡ suc (current table)
next_count texts table q h main =
    (next_history texts table q h.history main).count ∙ one_longer texts q ∙ ap suc (sym h.history.count)

pub tables_follow : TablesFollow
tables_follow texts table q h main = record { history = next_history texts table q h.history main; entries = each }
  where
    n : ℕ
    n = current table

    p : List BareDef
    p = last_text texts

    next : Table
    next = next_table n p q table

    count : current next ≡ suc n
    count = next_count texts table q h main

    begun : (name : Bytes) (b : Bool) → agree same_definition (definition p name) (definition q name) ≡ b → is_some (definition q name) ≡ true
        → since (texts ++ q ∷ []) name ≡ (if not b then suc (length texts) else since texts name)
    begun name b e there =
        since_next texts q name
        ∙ ap (λ x. if x then suc (length texts) else since texts name)
        (differ_where (definition p name) (definition q name) there ∙ ap not e)

    stays : (name : Bytes) (v : ℕ) (d : BareDef) → definition q name ≡ Some d
        → agree same_definition (definition p name) (definition q name) ≡ true → (v ≤ n) ⊎ (v ≡ suc n)
        → has_version next v (use_of next name) ≡ nat_le (since (texts ++ q ∷ []) name) v
    stays name v d is same lies =
        ap (has_version next v) (use_stays p q table name (fate_is p q name d is ∙ ap (λ b. if b then Stays else New d) same) count)
        ∙ by lies
        ∙ ap (λ s. nat_le s v) (sym (begun name true same (ap is_some is)))
      where
        now : is_defined table name ≡ true
        now = defined_by_text texts table h.history name ∙ agree_defines (definition p name) (definition q name) same

        there : has_version table n (use_of table name) ≡ true
        there = h.entries name n now (omega arith) ∙ le_true (since texts name) n (subst (λ m. since texts name ≤ m) (sym h.history.count) (since_at_most texts name))

        later : (s m : ℕ) → s ≤ m → nat_le s (suc m) ≡ true
        later s m g = le_true s (suc m) (omega (arith, g))

        by : (v ≤ n) ⊎ (v ≡ suc n) → has_version next v (use_of table name) ≡ nat_le (since texts name) v
        by (inl le) = versions_stay p q table v (use_of table name) le ∙ h.entries name v now le
        by (inr at) =
            ap (λ k. has_version next k (use_of table name)) at
            ∙ next_version p q table (use_of table name) (entry_there table name now)
            ∙ ap₂ (λ a b. a && b) there same
            ∙ sym (ap (nat_le (since texts name)) at ∙ later (since texts name) n (subst (λ m. since texts name ≤ m) (sym h.history.count) (since_at_most texts name)))

    begins : (name : Bytes) (v : ℕ) (d : BareDef) → definition q name ≡ Some d
        → agree same_definition (definition p name) (definition q name) ≡ false → v ≤ suc n
        → has_version next v (use_of next name) ≡ nat_le (since (texts ++ q ∷ []) name) v
    begins name v d is other le =
        ap (has_version next v) (use_begins p q table name d new count)
        ∙ ap (λ es. has_at v es (length (entries_of table name))) (entries_next n p q table name ∙ ap (λ f. followed n f (entries_of table name)) new)
        ∙ has_last v (entries_of table name) (fresh n d)
        ∙ only_next n v le
        ∙ ap (λ s. nat_le s v) (sym (begun name false other (ap is_some is) ∙ ap suc (sym h.history.count)))
      where
        new : fate p q name ≡ New d
        new = fate_is p q name d is ∙ ap (λ b. if b then Stays else New d) other

    each : (name : Bytes) (v : ℕ) → is_defined next name ≡ true → v ≤ current next
        → has_version next v (use_of next name) ≡ nat_le (since (texts ++ q ∷ []) name) v
    each name v defined le =
        by (the_definition (definition q name) (ap (λ t. is_some (definition t name)) (sym (last_is_next texts q)) ∙ sym (defined_by_text (texts ++ q ∷ []) next (next_history texts table q h.history main) name) ∙ defined))
        (agree same_definition (definition p name) (definition q name)) refl
      where
        within : v ≤ suc n
        within = subst (λ m. v ≤ m) count le

        by : (d : BareDef) × (definition q name ≡ Some d) → (b : Bool) → agree same_definition (definition p name) (definition q name) ≡ b
            → has_version next v (use_of next name) ≡ nat_le (since (texts ++ q ∷ []) name) v
        by (d, is) true e = stays name v d is e (where_it_lies v n within)
        by (d, is) false e = begins name v d is e within

-- ---- the tables of a run

-- before the first text there are no versions
no_table : IsTableOf [] []
no_table = record { history = none; entries = λ name v h le. absurd (false≢true h) }
  where
    none : IsHistory [] []
    none = record { count = refl; alike = by }
      where
        by : (n : ℕ) (name : Bytes) → Alike None (definition (text_in [] n) name)
        by zero name = tt
        by (suc n) name = tt

pub first_table_is : (text : List BareDef) → HasMain text → IsTableOf (text ∷ []) (first_table text)
first_table_is text main = subst (IsTableOf (text ∷ [])) (sym (first_is_next text)) (tables_follow [] [] text no_table main)

-- the table of a world is that of some texts, of which the last is its text
record Stands (texts : List (List BareDef)) (w : World) : Type 0 where
  pub table : IsTableOf texts w.table
  pub last : w.text ≡ last_text texts
  pub some : 0 < length texts

first_stands : (text : List BareDef) (limits : Limits) → HasMain text → Stands (text ∷ []) (first_world text limits)
first_stands text limits main = record { table = first_table_is text main; last = refl; some = omega arith }

move_stands : (before : List (List BareDef)) (w after : World) (t : ℕ) → move w t ≡ Some after → Stands before w → Stands before after
move_stands before w after t e h =
    let kept = moves_sustain w after t e in
    record { table = subst (IsTableOf before) (sym kept.same_table) h.table; last = kept.same_text ∙ h.last; some = h.some }

install_stands : (before : List (List BareDef)) (w : World) (q : List BareDef) → HasMain q → Stands before w
    → Stands (before ++ q ∷ []) (installed q w)
install_stands before w q main h = record {
  table = subst (λ p. IsTableOf (before ++ q ∷ []) (next_table (current w.table) p q w.table)) (sym h.last) (tables_follow before w.table q h.table main);
  last = sym (last_is_next before q);
  some = let more = one_longer before q in omega (arith, more);
}

pub tables_of_runs : TablesOfRuns
tables_of_runs texts limits ms w main e = (stands.table, subst (λ n. 0 < n) (sym stands.table.history.count) stands.some)
  where
    stands : Stands (versions_by texts ms) w
    stands =
        holds_in_runs texts limits Stands (λ text is. first_stands text limits (has_main_at texts 0 text main is)) move_stands
        (λ before w k q is h. install_stands before w q (has_main_at texts k q main is) h) ms w e
