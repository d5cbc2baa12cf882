-- What is kept of a record where a newer text is installed.
use Rattle.std.proofs.Common.{◌≡◌, ℕ, zero, suc, ◌+◌, ◌≤◌, ◌<◌, ◌⊎◌, inl, inr, Bool, true, false, not, ◌&&◌, ◌||◌, List, [], ◌∷◌, length, length-append, find, cond, option_map, is_some, Option, Some, None, refl, sym, ap, ap₂, subst, ◌∙◌, bytes_eq, arith, if◌then◌else◌}
use Rattle.std.specs.Prelude.{nat_le, nat_lt, All, IfSome, unwrap_or}
use Rattle.std.specs.List.{list_any, list_all}
use Rattle.std.proofs.lemmas.Bool.{false≢true}
use Rattle.std.proofs.lemmas.Bool.Decides.{nat_tests}
use Rattle.std.proofs.lemmas.List.{length-map}
use Rattle.std.proofs.lemmas.Option.{none-some}
use Rattle.std.proofs.lemmas.Slice.Eq.{bytes_eq-Decides}
use Rattle.std.proofs.lemmas.List.Elements.{All-nil, All-cons, All-head, All-tail}
use Rattle.c_tree.specs.BareExpr.{Bytes}
use Rattle.c_tree.specs.BareDef.{BareDef}
use Rattle.name_sets.specs.NameLists.{is_among}
use Rattle.c_semantics.specs.Texts.{definition}
use Rattle.c_semantics.specs.Changes.{agree, same_definition}
use Rattle.c_semantics.specs.Threads.{Use, Record}
use Rattle.source_model.specs.Versions.{Entry, Table, entries_of, belongs, current, Fate, Stays, New, Gone, fate, extended, followed, next_table}
use Rattle.source_model.specs.Uses.{use_of}
use Rattle.source_model.specs.Spans.{has_version}
use Rattle.source_model.specs.JournalLaws.{HasMain}
use Rattle.version_laws.specs.Histories.{last_text}
use Rattle.version_laws.proofs.NextVersions.{entries_next}
use Rattle.version_spans.specs.declared.names.NameSet.{NameSet}
use Rattle.version_spans.specs.declared.record.Record.{Record as Kept}
use Rattle.version_spans.specs.Beginnings.{IsTableOf, differ, differ_by, is_defined, is_entry}
use Rattle.version_spans.specs.Kept.{IsKept, names_in}
use Rattle.version_spans.proofs.Numbers.{le_true, le_false, and_false}
use Rattle.version_spans.proofs.Intervals.{both_pass}
use Rattle.version_spans.proofs.Beginning.{differ_of_old}
use Rattle.version_spans.proofs.NextEntries.{has_at, fresh, versions_stay, next_version}
use Rattle.version_spans.proofs.Tables.{defined_by_text, fate_is, next_count, use_stays, the_definition, where_it_lies}
use Rattle.version_spans.proofs.AmongTexts.{text_is}
use Rattle.version_spans.proofs.KeptNames.{used}

-- ---- tests of all uses

all_alike : (f g : Use → Bool) → ((u : Use) → f u ≡ g u) → (uses : Record) → list_all f uses ≡ list_all g uses
all_alike f g same [] = refl
all_alike f g same (u ∷ uses) = ap₂ (λ a b. a && b) (same u) (all_alike f g same uses)

-- tests that are alike of those that pass another
all_alike_where : (h f g : Use → Bool) → ((u : Use) → h u ≡ true → f u ≡ g u) → (uses : Record) → list_all h uses ≡ true → list_all f uses ≡ list_all g uses
all_alike_where h f g same [] all = refl
all_alike_where h f g same (u ∷ uses) all =
    let parts = both_pass (h u) (list_all h uses) all in
    ap₂ (λ a b. a && b) (same u parts.0) (all_alike_where h f g same uses parts.1)

one_fails : (f g : Use → Bool) (uses : Record) → list_all f uses ≡ false → list_all (λ u. f u && g u) uses ≡ false
one_fails f g [] h = h
one_fails f g (u ∷ uses) h = by (f u) (one_fails f g uses) h
  where
    by : (b : Bool) → (list_all f uses ≡ false → list_all (λ u. f u && g u) uses ≡ false) → (b && list_all f uses) ≡ false
        → ((b && g u) && list_all (λ u. f u && g u) uses) ≡ false
    by true rest i = ap (λ t. g u && t) (rest i) ∙ and_false (g u)
    by false rest i = refl

-- ---- the names that differ

agree_fails : (o u : Option BareDef) → differ_by o u ≡ true → agree same_definition o u ≡ false
agree_fails None None h = absurd (false≢true h)
agree_fails None (Some d) h = refl
agree_fails (Some a) u h = by (agree same_definition (Some a) u) h
  where
    by : (b : Bool) → not b ≡ true → b ≡ false
    by true i = absurd (false≢true i)
    by false i = refl

agree_holds : (o u : Option BareDef) → is_some o ≡ true → differ_by o u ≡ false → agree same_definition o u ≡ true
agree_holds o u there h = by (agree same_definition o u) (sym (differ_of_old o u there) ∙ h)
  where
    by : (b : Bool) → not b ≡ false → b ≡ true
    by true i = refl
    by false i = absurd (false≢true (sym i))

-- a name of which some passes a test is there
a_name : (f : Bytes → Bool) (names : List Bytes) → list_any f names ≡ true → (x : Bytes) × (f x ≡ true) × (is_among names x ≡ true)
a_name f [] h = absurd (false≢true h)
a_name f (n ∷ names) h = by (f n) refl (a_name f names) h
  where
    same_text : bytes_eq n n ≡ true
    same_text = (bytes_eq-Decides n n).1 refl

    or_true : (b : Bool) → (b || true) ≡ true
    or_true true = refl
    or_true false = refl

    by : (b : Bool) → f n ≡ b → (list_any f names ≡ true → (x : Bytes) × (f x ≡ true) × (is_among names x ≡ true)) → (b || list_any f names) ≡ true
        → (x : Bytes) × (f x ≡ true) × (is_among (n ∷ names) x ≡ true)
    by true e rest i = (n, e, ap (λ b. b || is_among names n) same_text)
    by false e rest i = let found = rest i in (found.0, found.1, ap (λ b. bytes_eq found.0 n || b) found.2 ∙ or_true (bytes_eq found.0 n))

no_name : (f : Bytes → Bool) (names : List Bytes) (x : Bytes) → list_any f names ≡ false → is_among names x ≡ true → f x ≡ false
no_name f [] x h i = absurd (false≢true i)
no_name f (n ∷ names) x h i = by (f n) refl h (bytes_eq x n) refl i (no_name f names x)
  where
    by : (t : Bool) → f n ≡ t → (t || list_any f names) ≡ false → (b : Bool) → bytes_eq x n ≡ b → (b || is_among names x) ≡ true
        → (list_any f names ≡ false → is_among names x ≡ true → f x ≡ false) → f x ≡ false
    by true t g b e j rest = absurd (false≢true (sym g))
    by false t g true e j rest = ap f (text_is x n e) ∙ t
    by false t g false e j rest = rest g j

-- a use of a name for which a test fails
a_use_fails : (g : Bytes → Bool) (f : Use → Bool) (x : Bytes) → g x ≡ false → (uses : Record) → is_among (used uses) x ≡ true
    → list_all (λ u. f u && g u.name) uses ≡ false
a_use_fails g f x fails [] h = absurd (false≢true h)
a_use_fails g f x fails (u ∷ uses) h = by (bytes_eq x u.name) refl h (a_use_fails g f x fails uses)
  where
    by : (b : Bool) → bytes_eq x u.name ≡ b → (b || is_among (used uses) x) ≡ true
        → (is_among (used uses) x ≡ true → list_all (λ u. f u && g u.name) uses ≡ false)
        → ((f u && g u.name) && list_all (λ u. f u && g u.name) uses) ≡ false
    by true e i rest =
        ap (λ b. (f u && b) && list_all (λ u. f u && g u.name) uses) (ap g (sym (text_is x u.name e)) ∙ fails)
        ∙ ap (λ b. b && list_all (λ u. f u && g u.name) uses) (and_false (f u))
    by false e i rest = ap (λ b. (f u && g u.name) && b) (rest i) ∙ and_false (f u && g u.name)

-- ---- entries

-- an entry is there after an install too
kept_length : (n : ℕ) (f : Fate) (es : List Entry) (i : ℕ) → nat_lt i (length es) ≡ true → nat_lt i (length (followed n f es)) ≡ true
kept_length n Stays es i h = ap (nat_lt i) (length-map es (extended n)) ∙ h
kept_length n (New d) es i h = ap (nat_lt i) (length-append es (fresh n d ∷ [])) ∙ more i (length es) h
  where
    more : (k m : ℕ) → nat_lt k m ≡ true → nat_lt k (m + 1) ≡ true
    more k m g = grind (arith, nat_tests, g)
kept_length n Gone es i h = h

entry_stays : (n : ℕ) (p q : List BareDef) (table : Table) (u : Use) → is_entry table u ≡ true → is_entry (next_table n p q table) u ≡ true
entry_stays n p q table u h =
    ap (λ es. nat_lt u.entry (length es)) (entries_next n p q table u.name)
    ∙ kept_length n (fate p q u.name) (entries_of table u.name) u.entry h

-- a name whose entry has the current version is defined
some_belongs : (n : ℕ) (es : List Entry) (i : ℕ) → has_at n es i ≡ true
    → is_some (option_map (λ (x : Entry). x.definition) (find (belongs n) es)) ≡ true
some_belongs n [] i h = absurd (false≢true h)
some_belongs n (x ∷ es) zero h = ap (λ t. is_some (option_map (λ (y : Entry). y.definition) (cond t (Some x) (find (belongs n) es)))) h
some_belongs n (x ∷ es) (suc i) h = by (belongs n x) (some_belongs n es i h)
  where
    by : (t : Bool) → is_some (option_map (λ (y : Entry). y.definition) (find (belongs n) es)) ≡ true
        → is_some (option_map (λ (y : Entry). y.definition) (cond t (Some x) (find (belongs n) es))) ≡ true
    by true rest = refl
    by false rest = rest

now_defined : (table : Table) (u : Use) → has_version table (current table) u ≡ true → is_defined table u.name ≡ true
now_defined table u h = some_belongs (current table) (entries_of table u.name) u.entry h

agree_defines : (o u : Option BareDef) → agree same_definition o u ≡ true → is_some u ≡ true
agree_defines o (Some d) h = refl
agree_defines None None h = absurd (false≢true h)
agree_defines (Some a) None h = absurd (false≢true h)

-- ---- a record after an install

module _ (texts : List (List BareDef)) (q : List BareDef) (table : Table) (h : IsTableOf texts table) (main : HasMain q) where
  abbrev next : Table
  next = next_table (current table) (last_text texts) q table

  abbrev same : Bytes → Bool
  same name = agree same_definition (definition (last_text texts) name) (definition q name)

  so_far : (v : ℕ) (uses : Record) → v ≤ current table → list_all (has_version next v) uses ≡ list_all (has_version table v) uses
  so_far v uses le = all_alike (has_version next v) (has_version table v) (λ u. versions_stay (last_text texts) q table v u le) uses

  in_next : (uses : Record) → list_all (is_entry table) uses ≡ true
      → list_all (has_version next (suc (current table))) uses ≡ list_all (λ u. has_version table (current table) u && same u.name) uses
  in_next uses there =
      all_alike_where (is_entry table) (has_version next (suc (current table))) (λ u. has_version table (current table) u && same u.name)
      (λ u is. next_version (last_text texts) q table u is) uses there

  entries_stay : (uses : Record) → list_all (is_entry table) uses ≡ true → list_all (is_entry next) uses ≡ true
  entries_stay [] there = refl
  entries_stay (u ∷ uses) there =
      let parts = both_pass (is_entry table u) (list_all (is_entry table) uses) there in
      ap₂ (λ a b. a && b) (entry_stays (current table) (last_text texts) q table u parts.0) (entries_stay uses parts.1)

  count : current next ≡ suc (current table)
  count = next_count texts table q h main

  -- a name of a current entry on which the texts don't differ stays
  stays : (u : Use) → has_version table (current table) u ≡ true → differ (last_text texts) q u.name ≡ false → same u.name ≡ true
  stays u has no_difference =
      agree_holds (definition (last_text texts) u.name) (definition q u.name)
      (sym (defined_by_text texts table h.history u.name) ∙ now_defined table u has) no_difference

  newest_stays : (u : Use) → u ≡ use_of table u.name → same u.name ≡ true → u ≡ use_of next u.name
  newest_stays u is agreed =
      let d = the_definition (definition q u.name) (agree_defines (definition (last_text texts) u.name) (definition q u.name) agreed) in
      is
      ∙ sym
      (use_stays (last_text texts) q table u.name
      (fate_is (last_text texts) q u.name d.0 d.1 ∙ ap (λ b. if b then Stays else New d.0) agreed) count)

  -- where each entry of a record is current and the texts don't differ on its names, each is current afterwards
  all_stay : (uses : Record) → list_all (has_version table (current table)) uses ≡ true
      → ((x : Bytes) → is_among (used uses) x ≡ true → differ (last_text texts) q x ≡ false)
      → list_all (λ u. has_version table (current table) u && same u.name) uses ≡ true
  all_stay [] all none = refl
  all_stay (u ∷ uses) all none =
      let parts = both_pass (has_version table (current table) u) (list_all (has_version table (current table)) uses) all in
      ap₂ (λ a b. a && b) (ap₂ (λ a b. a && b) parts.0 (stays u parts.0 (none u.name (ap (λ b. b || is_among (used uses) u.name) ((bytes_eq-Decides u.name u.name).1 refl)))))
      (all_stay uses parts.1 (λ x there. none x (later (bytes_eq x u.name) (is_among (used uses) x) there)))
    where
      later : (a b : Bool) → b ≡ true → (a || b) ≡ true
      later true b i = refl
      later false b i = i

  all_newest : (uses : Record) → list_all (λ u. has_version table (current table) u && same u.name) uses ≡ true
      → All (λ u. u ≡ use_of table u.name) uses → All (λ u. u ≡ use_of next u.name) uses
  all_newest [] all newest = All-nil (λ (u : Use). u ≡ use_of next u.name)
  all_newest (u ∷ uses) all newest =
      let parts = both_pass (has_version table (current table) u && same u.name) (list_all (λ u. has_version table (current table) u && same u.name) uses) all in
      All-cons (λ (v : Use). v ≡ use_of next v.name) u uses
      (newest_stays u (All-head (λ (v : Use). v ≡ use_of table v.name) u uses newest) (both_pass (has_version table (current table) u) (same u.name) parts.0).1)
      (all_newest uses parts.1 (All-tail (λ (v : Use). v ≡ use_of table v.name) u uses newest))

  -- where no entry has ended, all are current
  current_all : (uses : Record) (r : Kept) → IsKept table uses r → r.last ≡ None → list_all (has_version table (current table)) uses ≡ true
  current_all uses r k none =
      k.shared (current table) (positive r.first (current table) k.begins.0 k.begins.1) (itself (current table))
      ∙ ap₂ (λ a b. a && b) (le_true r.first (current table) k.begins.1)
      (ap (λ o. nat_le (current table) (unwrap_or o (current table))) none ∙ le_true (current table) (current table) (itself (current table)))
    where
      positive : (f n : ℕ) → 1 ≤ f → f ≤ n → 1 ≤ n
      positive f n a b = omega (arith, a, b)

      itself : (n : ℕ) → n ≤ n
      itself n = omega arith

  begins_still : (f n m : ℕ) → (1 ≤ f) × (f ≤ n) → m ≡ suc n → (1 ≤ f) × (f ≤ m)
  begins_still f n m b is = (b.0, let most = b.1 in omega (arith, most, is))

  -- the versions shared after the install: those before, and the next one by a test
  shared_next : (uses : Record) (first last v : ℕ) → 1 ≤ v → v ≤ current next
      → ((k : ℕ) → 1 ≤ k → k ≤ current table → list_all (has_version table k) uses ≡ (nat_le first k && nat_le k last))
      → list_all (has_version next (suc (current table))) uses ≡ (nat_le first (suc (current table)) && nat_le (suc (current table)) last)
      → list_all (has_version next v) uses ≡ (nat_le first v && nat_le v last)
  shared_next uses first last v low high old new = by (where_it_lies v (current table) (subst (λ n. v ≤ n) count high))
    where
      by : (v ≤ current table) ⊎ (v ≡ suc (current table)) → list_all (has_version next v) uses ≡ (nat_le first v && nat_le v last)
      by (inl le) = so_far v uses le ∙ old v low le
      by (inr is) = ap (λ k. list_all (has_version next k) uses) is ∙ new ∙ ap (λ k. nat_le first k && nat_le k last) (sym is)

  past : (first n l : ℕ) → l ≤ n → (nat_le first (suc n) && nat_le (suc n) l) ≡ false
  past first n l h = ap (λ b. nat_le first (suc n) && b) (le_false (suc n) l (omega (arith, h))) ∙ and_false (nat_le first (suc n))

  -- an entry has ended before
  pub kept_ended : (uses : Record) (r : Kept) (l : ℕ) → IsKept table uses r → r.last ≡ Some l → IsKept next uses r
  kept_ended uses r l k is = record {
    begins = begins_still r.first (current table) (current next) k.begins count;
    ended = subst (λ o. IfSome o (λ v. v < current next)) (sym is) (later l (current table) (current next) before count);
    shared = λ v low high.
        shared_next uses r.first l v low high
        (λ i a b. k.shared i a b ∙ ap (λ o. nat_le r.first i && nat_le i (unwrap_or o (current table))) is)
        (none ∙ sym (past r.first (current table) l (under l (current table) before)))
        ∙ sym (ap (λ o. nat_le r.first v && nat_le v (unwrap_or o (current next))) is);
    entries = entries_stay uses k.entries;
    newest = λ e. absurd (none-some l (sym e ∙ is));
    names = λ e. absurd (none-some l (sym e ∙ is));
  }
    where
      before : l < current table
      before = subst (λ o. IfSome o (λ v. v < current table)) is k.ended

      later : (a n m : ℕ) → a < n → m ≡ suc n → a < m
      later a n m b e = omega (arith, b, e)

      under : (a n : ℕ) → a < n → a ≤ n
      under a n b = omega (arith, b)

      some : (f n : ℕ) → (1 ≤ f) × (f ≤ n) → 1 ≤ n
      some f n b = let first = b.0 in let most = b.1 in omega (arith, first, most)

      itself : (n : ℕ) → n ≤ n
      itself n = omega arith

      none : list_all (has_version next (suc (current table))) uses ≡ false
      none =
          in_next uses k.entries
          ∙ one_fails (has_version table (current table)) (λ u. same u.name) uses
          (k.shared (current table) (some r.first (current table) k.begins) (itself (current table))
          ∙ ap (λ o. nat_le r.first (current table) && nat_le (current table) (unwrap_or o (current table))) is
          ∙ ap (λ b. nat_le r.first (current table) && b) (le_false (current table) l before)
          ∙ and_false (nat_le r.first (current table)))

  changed_here : (uses : Record) (r : Kept) (names : NameSet) → IsKept table uses r → r.last ≡ None
      → list_any (differ (last_text texts) q) (names_in r.names) ≡ true
      → IsKept next uses (record { first = r.first; last = Some (current table); names = names })
  changed_here uses r names k is changed = record {
    begins = begins_still r.first (current table) (current next) k.begins count;
    ended = before (current table) (current next) count;
    shared = λ v low high.
        shared_next uses r.first (current table) v low high
        (λ i a b. k.shared i a b ∙ ap (λ o. nat_le r.first i && nat_le i (unwrap_or o (current table))) is)
        (none ∙ sym (past r.first (current table) (current table) (itself (current table))));
    entries = entries_stay uses k.entries;
    newest = λ e. absurd (none-some (current table) (sym e));
    names = λ e. absurd (none-some (current table) (sym e));
  }
    where
      before : (n m : ℕ) → m ≡ suc n → n < m
      before n m e = omega (arith, e)

      itself : (n : ℕ) → n ≤ n
      itself n = omega arith

      none : list_all (has_version next (suc (current table))) uses ≡ false
      none =
          let found = a_name (differ (last_text texts) q) (names_in r.names) changed in
          in_next uses k.entries
          ∙ a_use_fails same (has_version table (current table)) found.0
          (agree_fails (definition (last_text texts) found.0) (definition q found.0) found.1) uses (sym (k.names is found.0) ∙ found.2)

  -- the text changes one of the names
  pub kept_changed : (uses : Record) (r : Kept) (m : ℕ) (names : NameSet) → IsKept table uses r → r.last ≡ None
      → list_any (differ (last_text texts) q) (names_in r.names) ≡ true → m ≡ current table
      → IsKept next uses (record { first = r.first; last = Some m; names = names })
  kept_changed uses r m names k is changed at =
      subst (λ n. IsKept next uses (record { first = r.first; last = Some n; names = names })) (sym at) (changed_here uses r names k is changed)

  -- the text leaves all names
  pub kept_unchanged : (uses : Record) (r : Kept) → IsKept table uses r → r.last ≡ None
      → list_any (differ (last_text texts) q) (names_in r.names) ≡ false → IsKept next uses r
  kept_unchanged uses r k is unchanged = record {
    begins = begins_still r.first (current table) (current next) k.begins count;
    ended = subst (λ o. IfSome o (λ v. v < current next)) (sym is) tt;
    shared = λ v low high.
        shared_next uses r.first (suc (current table)) v low high
        (λ i a b. k.shared i a b
        ∙ ap (λ o. nat_le r.first i && nat_le i (unwrap_or o (current table))) is
        ∙ ap (λ t. nat_le r.first i && t) (le_true i (current table) b ∙ sym (le_true i (suc (current table)) (one_more i (current table) b))))
        (in_next uses k.entries ∙ all
        ∙ sym (ap₂ (λ a b. a && b) (le_true r.first (suc (current table)) (one_more r.first (current table) k.begins.1))
        (le_true (suc (current table)) (suc (current table)) (itself (suc (current table))))))
        ∙ sym (ap (λ o. nat_le r.first v && nat_le v (unwrap_or o (current next))) is ∙ ap (λ n. nat_le r.first v && nat_le v n) count);
    entries = entries_stay uses k.entries;
    newest = λ e. all_newest uses all (k.newest e);
    names = k.names;
  }
    where
      one_more : (a n : ℕ) → a ≤ n → a ≤ suc n
      one_more a n b = omega (arith, b)

      itself : (n : ℕ) → n ≤ n
      itself n = omega arith

      all : list_all (λ u. has_version table (current table) u && same u.name) uses ≡ true
      all =
          all_stay uses (current_all uses r k is)
          (λ x there. no_name (differ (last_text texts) q) (names_in r.names) x unchanged (k.names is x ∙ there))
