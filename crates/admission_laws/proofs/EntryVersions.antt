-- What becomes of the entries of recorded uses where a text follows.
use Rattle.std.proofs.Common.{◌≡◌, ℕ, zero, suc, ◌<◌, Bool, true, false, not, ◌&&◌, ◌||◌, ◌==◌, List, [], ◌∷◌, ◌++◌, map, length, find, position, slice_get, Contains, cond, is_some, option_map, unwrap_or, Option, Some, None, refl, sym, ap, ap₂, subst, ◌∙◌, arith, if◌then◌else◌}
use Rattle.std.specs.Prelude.{nat_lt}
use Rattle.std.specs.List.{list_any, position_or_len}
use Rattle.std.proofs.lemmas.Bool.{false≢true, or_left, or_right, cond-true, lt-ltb}
use Rattle.std.proofs.lemmas.Bool.Decides.{nat_tests}
use Rattle.std.proofs.lemmas.List.{length-map}
use Rattle.std.proofs.lemmas.List.Elements.{Contains-append_left, Contains-push}
use Rattle.std.proofs.lemmas.List.Folds.{find_at}
use Rattle.std.proofs.lemmas.Option.{none-some, same_Some, slice_get-map, slice_get_within}
use Rattle.c_tree.specs.BareExpr.{Bytes}
use Rattle.c_tree.specs.BareDef.{BareDef}
use Rattle.c_semantics.specs.Changes.{changed, same_definition, agree}
use Rattle.c_semantics.specs.Texts.{definition, names}
use Rattle.c_semantics.specs.Threads.{Use}
use Rattle.name_sets.specs.NameLists.{is_among}
use Rattle.source_model.specs.Versions.{Entry, Table, Fate, Stays, New, Gone, entries_of, belongs, entry_in, in_version, current, fate, fate_of, followed, extended, next_table}
use Rattle.source_model.specs.Uses.{HasVersion, use_of}
use Rattle.definition_laws.proofs.Names.{among_names}
use Rattle.version_laws.proofs.DefinedNames.{stays_where_same}
use Rattle.version_laws.proofs.NextVersions.{entries_next, none_later}

-- ---- versions of an entry, by the test

same_number : (v n : ℕ) → n ≡ v → (v == n) ≡ true
same_number v n h = grind (arith, nat_tests, h)

equal_numbers : (v n : ℕ) → (v == n) ≡ true → n ≡ v
equal_numbers v n h = grind (arith, nat_tests, h)

none_below : (k : ℕ) → k < 0 → ⊥
none_below k h = omega (arith, h)

less_by_one : (k n : ℕ) → suc k < suc n → k < n
less_by_one k n h = omega (arith, h)

more_by_one : (k n : ℕ) → k < n → suc k < suc n
more_by_one k n h = omega (arith, h)

positive : (n : ℕ) → 0 < suc n
positive n = omega arith

test_of : (v : ℕ) (ns : List ℕ) → Contains ns v → list_any (λ n. v == n) ns ≡ true
test_of v [] (k, below, is) = absurd (none_below k below)
test_of v (n ∷ ns) (zero, below, is) = or_left (v == n) _ (same_number v n is)
test_of v (n ∷ ns) (suc k, below, is) = or_right (v == n) _ (test_of v ns (k, less_by_one k (length ns) below, is))

contained : (v : ℕ) (ns : List ℕ) → list_any (λ n. v == n) ns ≡ true → Contains ns v
contained v [] h = absurd (false≢true h)
contained v (n ∷ ns) h = by (v == n) refl (contained v ns) h
  where
    by : (b : Bool) → (v == n) ≡ b → (list_any (λ n. v == n) ns ≡ true → Contains ns v) → (b || list_any (λ n. v == n) ns) ≡ true
        → Contains (n ∷ ns) v
    by true is rest i = (0, positive (length ns), equal_numbers v n is)
    by false is rest i = let r = rest i in (suc r.0, more_by_one r.0 (length ns) r.1, r.2)

-- ---- entries stay, and their versions with them

get_kept : (xs ys : List Entry) (i : ℕ) (e : Entry) → slice_get xs i ≡ Some e → slice_get (xs ++ ys) i ≡ Some e
get_kept [] ys i e h = absurd (none-some e h)
get_kept (x ∷ xs) ys zero e h = h
get_kept (x ∷ xs) ys (suc i) e h = get_kept xs ys i e h

-- an entry among some, with a version
abbrev EntryHas : List Entry → ℕ → ℕ → Type 0
EntryHas es i v = (e : Entry) × (slice_get es i ≡ Some e) × Contains e.versions v

extended_has : (n v : ℕ) (e : Entry) → Contains e.versions v → Contains (extended n e).versions v
extended_has n v e h = by (belongs n e)
  where
    by : (b : Bool) → Contains (if b then record e { versions = e.versions ++ suc n ∷ [] } else e).versions v
    by true = Contains-append_left e.versions (suc n ∷ []) v h
    by false = h

followed_has : (n : ℕ) (f : Fate) (es : List Entry) (i v : ℕ) → EntryHas es i v → EntryHas (followed n f es) i v
followed_has n Stays es i v (e, at, has) = (extended n e, slice_get-map (extended n) es i ∙ ap (option_map (extended n)) at, extended_has n v e has)
followed_has n (New d) es i v (e, at, has) = (e, get_kept es _ i e at, has)
followed_has n Gone es i v (e, at, has) = (e, at, has)

-- a recorded use keeps its versions
pub version_stays : (n : ℕ) (p q : List BareDef) (table : Table) (v : ℕ) (u : Use) → HasVersion table v u
    → HasVersion (next_table n p q table) v u
version_stays n p q table v u h =
    subst (λ es. EntryHas es u.entry v) (sym (entries_next n p q table u.name))
    (followed_has n (fate p q u.name) (entries_of table u.name) u.entry v h)

-- ---- a name that a text leaves

-- a name that is defined and that a text doesn't change stays
pub stays_by : (p q : List BareDef) (name : Bytes) → is_some (definition p name) ≡ true → is_among (changed p q) name ≡ false
    → fate p q name ≡ Stays
stays_by p q name defined unchanged =
    ap (λ b. fate_of b (definition q name)) kept ∙ by (definition q name) (sym (stays_where_same p q name) ∙ kept)
  where
    kept : (is_among (names p) name && not (is_among (changed p q) name)) ≡ true
    kept = ap₂ (λ a b. a && not b) (among_names p name ∙ defined) unchanged

    none : (o : Option BareDef) → agree same_definition o None ≡ false
    none None = refl
    none (Some d) = refl

    by : (o : Option BareDef) → agree same_definition (definition p name) o ≡ true → fate_of true o ≡ Stays
    by None h = absurd (false≢true (sym (none (definition p name)) ∙ h))
    by (Some d) h = refl

newly_extended : (n : ℕ) (e : Entry) → Contains e.versions n → Contains (extended n e).versions (suc n)
newly_extended n e h =
    subst (λ b. Contains (if b then record e { versions = e.versions ++ suc n ∷ [] } else e).versions (suc n)) (sym (test_of n e.versions h))
    (Contains-push e.versions (suc n))

stays_has : (n : ℕ) (es : List Entry) (i : ℕ) → EntryHas es i n → EntryHas (followed n Stays es) i (suc n)
stays_has n es i (e, at, has) =
    (extended n e, slice_get-map (extended n) es i ∙ ap (option_map (extended n)) at, newly_extended n e has)

-- the entry of its use in the version before has the next version too
pub version_follows : (n : ℕ) (p q : List BareDef) (table : Table) (u : Use) → fate p q u.name ≡ Stays → HasVersion table n u
    → HasVersion (next_table n p q table) (suc n) u
version_follows n p q table u stays h =
    subst (λ es. EntryHas es u.entry (suc n))
    (sym (entries_next n p q table u.name ∙ ap (λ f. followed n f (entries_of table u.name)) stays))
    (stays_has n (entries_of table u.name) u.entry h)

-- ---- the current entry

passes_there : (test : Entry → Bool) (es : List Entry) (e : Entry) → find test es ≡ Some e → test e ≡ true
passes_there test [] e h = absurd (none-some e h)
passes_there test (x ∷ es) e h = by (test x) refl h (passes_there test es e)
  where
    by : (b : Bool) → test x ≡ b → cond b (Some x) (find test es) ≡ Some e → (find test es ≡ Some e → test e ≡ true) → test e ≡ true
    by true is i rest = subst (λ y. test y ≡ true) (same_Some _ _ i) is
    by false is i rest = rest i

there : (o : Option Entry) → is_some (option_map (λ e. e.definition) o) ≡ true → (e : Entry) × (o ≡ Some e)
there None h = absurd (false≢true h)
there (Some e) h = (e, refl)

position_is : (test : Entry → Bool) (es : List Entry) (e : Entry) → find test es ≡ Some e → position test es ≡ Some (position_or_len test es)
position_is test es e h =
    cond-true (nat_lt (position_or_len test es) (length es)) (Some (position_or_len test es)) None
    (lt-ltb (position_or_len test es) (length es) (slice_get_within es (position_or_len test es) e (sym (find_at test es) ∙ h)))

-- the current entry of a name that is defined has the current version
pub current_has : (table : Table) (name : Bytes) → is_some (in_version table (current table) name) ≡ true
    → HasVersion table (current table) (use_of table name)
current_has table name defined =
    let es = entries_of table name in
    let test = belongs (current table) in
    let found = there (find test es) defined in
    let i = position_or_len test es in
    subst (λ k. EntryHas es k (current table)) (sym (ap (λ o. unwrap_or o 0) (position_is test es found.0 found.1)))
    (found.0, sym (find_at test es) ∙ found.1, contained (current table) found.0.versions (passes_there test es found.0 found.1))

-- no entry has the next version yet
abbrev NoneNext : ℕ → List Entry → Type 0
NoneNext n es = find (belongs (suc n)) es ≡ None

none_of : (o : Option Entry) → option_map (λ e. e.definition) o ≡ None → o ≡ None
none_of None h = refl
none_of (Some e) h = cc

any_after : (test : ℕ → Bool) (xs ys : List ℕ) → list_any test ys ≡ true → list_any test (xs ++ ys) ≡ true
any_after test [] ys h = h
any_after test (x ∷ xs) ys h = or_right (test x) _ (any_after test xs ys h)

extended_belongs : (n : ℕ) (e : Entry) → belongs (suc n) e ≡ false → belongs (suc n) (extended n e) ≡ belongs n e
extended_belongs n e not_yet = by (belongs n e)
  where
    by : (b : Bool) → belongs (suc n) (if b then record e { versions = e.versions ++ suc n ∷ [] } else e) ≡ b
    by true = any_after (λ v. suc n == v) e.versions (suc n ∷ []) (or_left (suc n == suc n) false (same_number (suc n) (suc n) refl))
    by false = not_yet

first_none : (b : Bool) (x : Entry) (o : Option Entry) → cond b (Some x) o ≡ None → (b ≡ false) × (o ≡ None)
first_none true x o h = cc
first_none false x o h = (refl, h)

same_place : (n : ℕ) (es : List Entry) → NoneNext n es
    → position_or_len (belongs (suc n)) (map (extended n) es) ≡ position_or_len (belongs n) es
same_place n [] none = refl
same_place n (e ∷ es) none =
    let parts = first_none (belongs (suc n) e) e (find (belongs (suc n)) es) none in
    let test : not (belongs (suc n) (extended n e)) ≡ not (belongs n e) = ap not (extended_belongs n e parts.0) in
    let rest : position_or_len (belongs (suc n)) (map (extended n) es) ≡ position_or_len (belongs n) es = same_place n es parts.1 in
    cc

-- the current entry of a name that a text leaves stays the current one
pub use_stays : (p q : List BareDef) (table : Table) (name : Bytes) → fate p q name ≡ Stays
    → current (next_table (current table) p q table) ≡ suc (current table)
    → use_of (next_table (current table) p q table) name ≡ use_of table name
use_stays p q table name stays count =
    ap (λ i. record { name = name; entry = unwrap_or i 0 })
    (ap (λ v. entry_in (next_table (current table) p q table) v name) count
    ∙ ap (position (belongs (suc n))) (entries_next n p q table name ∙ ap (λ f. followed n f es) stays)
    ∙ ap₂ (λ i k. cond (nat_lt i k) (Some i) None)
    (same_place n es (none_of (find (belongs (suc n)) es) (none_later table (suc n) name (one_above n)))) (length-map es (extended n)))
  where
    n : ℕ
    n = current table

    es : List Entry
    es = entries_of table name

    one_above : (m : ℕ) → m < suc m
    one_above m = omega arith

-- ---- a name whose entry has the current version is defined

some_belongs : (n : ℕ) (es : List Entry) (i : ℕ) (e : Entry) → slice_get es i ≡ Some e → belongs n e ≡ true
    → is_some (option_map (λ (x : Entry). x.definition) (find (belongs n) es)) ≡ true
some_belongs n [] i e h b = absurd (none-some e h)
some_belongs n (x ∷ es) zero e h b =
    ap (λ t. is_some (option_map (λ (y : Entry). y.definition) (cond t (Some x) (find (belongs n) es))))
    (ap (belongs n) (same_Some x e h) ∙ b)
some_belongs n (x ∷ es) (suc i) e h b = by (belongs n x) (some_belongs n es i e h b)
  where
    by : (t : Bool) → is_some (option_map (λ (y : Entry). y.definition) (find (belongs n) es)) ≡ true
        → is_some (option_map (λ (y : Entry). y.definition) (cond t (Some x) (find (belongs n) es))) ≡ true
    by true rest = refl
    by false rest = rest

pub current_defined : (table : Table) (u : Use) → HasVersion table (current table) u → is_some (in_version table (current table) u.name) ≡ true
current_defined table u (e, at, has) =
    some_belongs (current table) (entries_of table u.name) u.entry e at (test_of (current table) e.versions has)
