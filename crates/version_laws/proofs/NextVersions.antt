-- What the next table says: of an older version what the table said, of the next version what the newer text says, and of
-- a later one nothing.
use Rattle.std.proofs.Common.{◌≡◌, ℕ, suc, ◌<◌, ◌≤◌, max, ◌==◌, Bool, true, false, not, ◌&&◌, ◌||◌, List, [], ◌∷◌, ◌++◌, map, find, filter, cond, option_map, is_some, Option, Some, None, refl, sym, ap, ap₂, subst, ◌∙◌, bytes_eq, arith, if◌then◌else◌}
use Rattle.std.specs.List.{list_any}
use Rattle.std.specs.Option.{option_map_or, option_or}
use Rattle.std.proofs.lemmas.Bool.Decides.{nat_tests}
use Rattle.std.proofs.lemmas.List.Folds.{find-append, list_any-append}
use Rattle.std.proofs.lemmas.Option.{none-some, same_Some}
use Rattle.std.proofs.lemmas.Slice.Eq.{bytes_eq-Decides}
use Rattle.c_tree.specs.BareExpr.{Bytes}
use Rattle.c_tree.specs.BareDef.{BareDef}
use Rattle.name_sets.specs.NameLists.{name_set, is_among}
use Rattle.c_semantics.specs.Texts.{definition, names}
use Rattle.c_semantics.specs.Changes.{agree, changed, same_definition}
use Rattle.source_model.specs.Versions.{Entry, Versioned, Table, entries_of, belongs, in_version, greatest_of, latest, current, Fate, Stays, New, Gone, fate, fate_of, first_entry, first_table, extended, followed, next_line, table_names, next_table}
use Rattle.version_laws.specs.Histories.{Alike}
use Rattle.definition_laws.proofs.Tests.{no}
use Rattle.version_laws.proofs.SameDefinitions.{alike_through, alike_where_agreed}
use Rattle.definition_laws.proofs.Names.{among_names, among_set, among_filtered}
use Rattle.version_laws.proofs.DefinedNames.{alike_itself, stays_where_same}

-- ---- the entries of a name in the next table

-- the line of a name
abbrev line_of : Table → Bytes → Option Versioned
line_of table name = find (λ v. bytes_eq name v.name) table

abbrev entries_at : Option Versioned → List Entry
entries_at o = option_map_or (λ v. v.entries) o []

-- the line of a name that a table doesn't have
abbrev empty_line : Bytes → Versioned
empty_line name = record { name = name; entries = [] }

line_named : (table : Table) (name : Bytes) (v : Versioned) → line_of table name ≡ Some v → name ≡ v.name
line_named [] name v h = absurd (none-some v h)
line_named (x ∷ xs) name v h = by (bytes_eq name x.name) refl (line_named xs name v) h
  where
    by : (b : Bool) → bytes_eq name x.name ≡ b → (line_of xs name ≡ Some v → name ≡ v.name)
        → cond b (Some x) (line_of xs name) ≡ Some v → name ≡ v.name
    by true e rest g = (bytes_eq-Decides name x.name).0 e ∙ ap (λ (y : Versioned). y.name) (same_Some x v g)
    by false e rest g = rest g

-- a table has a line of a name where it has the name
line_among : (table : Table) (name : Bytes) → is_some (line_of table name) ≡ is_among (table_names table) name
line_among [] name = refl
line_among (v ∷ vs) name = by (bytes_eq name v.name) (line_among vs name)
  where
    by : (b : Bool) → is_some (line_of vs name) ≡ is_among (table_names vs) name
        → is_some (cond b (Some v) (line_of vs name)) ≡ (b || is_among (table_names vs) name)
    by true rest = refl
    by false rest = rest

line_mapped : (n : ℕ) (p q : List BareDef) (name : Bytes) (table : Table)
    → line_of (map (next_line n p q) table) name ≡ option_map (next_line n p q) (line_of table name)
line_mapped n p q name [] = refl
line_mapped n p q name (v ∷ vs) = by (bytes_eq name v.name) (line_mapped n p q name vs)
  where
    by : (b : Bool) → line_of (map (next_line n p q) vs) name ≡ option_map (next_line n p q) (line_of vs name)
        → cond b (Some (next_line n p q v)) (line_of (map (next_line n p q) vs) name)
        ≡ option_map (next_line n p q) (cond b (Some v) (line_of vs name))
    by true rest = refl
    by false rest = rest

-- the line of a name among new lines
empty_among : (ns : List Bytes) (name : Bytes)
    → line_of (map empty_line ns) name ≡ (if is_among ns name then Some (empty_line name) else None)
empty_among [] name = refl
empty_among (n ∷ ns) name = by (bytes_eq name n) refl (empty_among ns name)
  where
    by : (b : Bool) → bytes_eq name n ≡ b → line_of (map empty_line ns) name ≡ (if is_among ns name then Some (empty_line name) else None)
        → cond b (Some (empty_line n)) (line_of (map empty_line ns) name)
        ≡ (if b || is_among ns name then Some (empty_line name) else None)
    by true e rest = ap (λ z. Some (empty_line z)) (sym ((bytes_eq-Decides name n).0 e))
    by false e rest = rest

-- the names that the newer text brings
abbrev brought_names : List BareDef → Table → List Bytes
brought_names q table = filter (λ name. not (is_among (table_names table) name)) (name_set (names q))

-- nothing follows no entries where the text doesn't define the name
nothing_follows : (n : ℕ) (stays : Bool) (o : Option BareDef) → is_some o ≡ false → followed n (fate_of stays o) [] ≡ []
nothing_follows n stays None e = refl
nothing_follows n stays (Some d) e = absurd (no (sym e))

pub entries_next : (n : ℕ) (p q : List BareDef) (table : Table) (name : Bytes)
    → entries_of (next_table n p q table) name ≡ followed n (fate p q name) (entries_of table name)
entries_next n p q table name =
    ap entries_at (line_mapped n p q name (table ++ map empty_line (brought_names q table)))
    ∙ ap (λ o. entries_at (option_map (next_line n p q) o))
    (find-append (λ v. bytes_eq name v.name) table (map empty_line (brought_names q table))
    ∙ ap (option_or (line_of table name)) (empty_among (brought_names q table) name))
    ∙ by (line_of table name) refl
  where
    new : (b : Bool) → is_some (definition q name) ≡ b
        → entries_at (option_map (next_line n p q) (if b then Some (empty_line name) else None)) ≡ followed n (fate p q name) []
    new true e = refl
    new false e = sym (nothing_follows n _ (definition q name) e)

    -- a name that the table doesn't have is brought where the text defines it
    is_brought : line_of table name ≡ None → is_among (brought_names q table) name ≡ is_some (definition q name)
    is_brought e =
        among_filtered (λ z. not (is_among (table_names table) z)) (name_set (names q)) name
        ∙ ap₂ (λ a b. not a && b) (sym (line_among table name) ∙ ap is_some e) (among_set (names q) name ∙ among_names q name)

    by : (o : Option Versioned) → line_of table name ≡ o
        → entries_at (option_map (next_line n p q) (option_or o (if is_among (brought_names q table) name then Some (empty_line name) else None)))
        ≡ followed n (fate p q name) (entries_at o)
    by None e =
        ap (λ b. entries_at (option_map (next_line n p q) (if b then Some (empty_line name) else None))) (is_brought e)
        ∙ new (is_some (definition q name)) refl
    by (Some v) e = ap (λ z. followed n (fate p q z) v.entries) (sym (line_named table name v e))

-- ---- the versions of entries

-- the definition in a version among some entries
abbrev found : ℕ → List Entry → Option BareDef
found n es = option_map (λ e. e.definition) (find (belongs n) es)

in_list : (n : ℕ) (ns : List ℕ) → list_any (λ v. n == v) ns ≡ true → n ≤ greatest_of ns
in_list n [] h = absurd (no h)
in_list n (m ∷ ns) h = by (n == m) refl (in_list n ns) h
  where
    here : (a b c : ℕ) → (a == b) ≡ true → a ≤ max b c
    here a b c e = let same : a ≡ b = grind (arith, nat_tests, e) in omega (arith, same)

    later : (a b c : ℕ) → a ≤ c → a ≤ max b c
    later a b c e = omega (arith, e)

    by : (b : Bool) → (n == m) ≡ b → (list_any (λ v. n == v) ns ≡ true → n ≤ greatest_of ns) → (b || list_any (λ v. n == v) ns) ≡ true
        → n ≤ max m (greatest_of ns)
    by true is rest i = here n m (greatest_of ns) is
    by false is rest i = later n m (greatest_of ns) (rest i)

-- a version that an entry belongs to is at most the latest
found_by_latest : (n : ℕ) (es : List Entry) → is_some (found n es) ≡ true → n ≤ latest es
found_by_latest n [] h = absurd (no h)
found_by_latest n (e ∷ es) h = by (belongs n e) refl (found_by_latest n es) h
  where
    left : (a b c : ℕ) → a ≤ b → a ≤ max b c
    left a b c i = omega (arith, i)

    right : (a b c : ℕ) → a ≤ c → a ≤ max b c
    right a b c i = omega (arith, i)

    by : (b : Bool) → belongs n e ≡ b → (is_some (found n es) ≡ true → n ≤ latest es)
        → is_some (option_map (λ (x : Entry). x.definition) (cond b (Some e) (find (belongs n) es))) ≡ true
        → n ≤ max (greatest_of e.versions) (latest es)
    by true is rest i = left n (greatest_of e.versions) (latest es) (in_list n e.versions is)
    by false is rest i = right n (greatest_of e.versions) (latest es) (rest i)

entries_by_current : (table : Table) (name : Bytes) → latest (entries_of table name) ≤ current table
entries_by_current [] name = omega arith
entries_by_current (v ∷ vs) name = by (bytes_eq name v.name) (entries_by_current vs name)
  where
    by : (b : Bool) → latest (entries_of vs name) ≤ current vs
        → latest (entries_at (cond b (Some v) (line_of vs name))) ≤ max (latest v.entries) (current vs)
    by true rest = omega arith
    by false rest = omega (arith, rest)

-- a version in which something is defined is at most the current one
pub defined_by_current : (table : Table) (n : ℕ) (name : Bytes) → is_some (in_version table n name) ≡ true → n ≤ current table
defined_by_current table n name h =
    let found_at = found_by_latest n (entries_of table name) h in
    let all = entries_by_current table name in
    omega (arith, found_at, all)

-- later than the current version nothing is defined
pub none_later : (table : Table) (n : ℕ) (name : Bytes) → current table < n → in_version table n name ≡ None
none_later table n name h = by (in_version table n name) refl
  where
    by : (o : Option BareDef) → in_version table n name ≡ o → o ≡ None
    by None e = refl
    by (Some d) e = let most = defined_by_current table n name (ap is_some e) in absurd (omega (arith, h, most))

none_belongs : (n : ℕ) (es : List Entry) → latest es < n → found n es ≡ None
none_belongs n es h = by (found n es) refl
  where
    by : (o : Option BareDef) → found n es ≡ o → o ≡ None
    by None e = refl
    by (Some d) e = let most = found_by_latest n es (ap is_some e) in absurd (omega (arith, h, most))

-- ---- older versions

another : (v n : ℕ) → v ≤ n → (v == suc n) ≡ false
another v n h = grind (arith, nat_tests, h)

or_false : (b : Bool) → (b || false) ≡ b
or_false true = refl
or_false false = refl

belongs_still : (v n : ℕ) (e : Entry) → v ≤ n → belongs v (extended n e) ≡ belongs v e
belongs_still v n e h = by (belongs n e)
  where
    by : (b : Bool) → belongs v (if b then record e { versions = e.versions ++ suc n ∷ [] } else e) ≡ belongs v e
    by true =
        list_any-append (λ x. v == x) e.versions (suc n ∷ [])
        ∙ ap (λ b. list_any (λ x. v == x) e.versions || (b || false)) (another v n h)
        ∙ or_false (list_any (λ x. v == x) e.versions)
    by false = refl

defined_still : (n : ℕ) (e : Entry) → (extended n e).definition ≡ e.definition
defined_still n e = by (belongs n e)
  where
    by : (b : Bool) → (if b then record e { versions = e.versions ++ suc n ∷ [] } else e).definition ≡ e.definition
    by true = refl
    by false = refl

-- what is found where the first entry is another one with the same definition
found_first : (b c : Bool) (x y : Entry) (o u : Option Entry) → b ≡ c → x.definition ≡ y.definition
    → option_map (λ (e : Entry). e.definition) o ≡ option_map (λ (e : Entry). e.definition) u
    → option_map (λ (e : Entry). e.definition) (cond b (Some x) o) ≡ option_map (λ (e : Entry). e.definition) (cond c (Some y) u)
found_first b c x y o u alike same rest =
    ap (λ z. option_map (λ (e : Entry). e.definition) (cond z (Some x) o)) alike ∙ by c
  where
    by : (z : Bool)
        → option_map (λ (e : Entry). e.definition) (cond z (Some x) o) ≡ option_map (λ (e : Entry). e.definition) (cond z (Some y) u)
    by true = ap Some same
    by false = rest

extended_still : (v n : ℕ) (es : List Entry) → v ≤ n → found v (map (extended n) es) ≡ found v es
extended_still v n [] h = refl
extended_still v n (e ∷ es) h =
    found_first (belongs v (extended n e)) (belongs v e) (extended n e) e (find (belongs v) (map (extended n) es)) (find (belongs v) es)
    (belongs_still v n e h) (defined_still n e) (extended_still v n es h)

or_none : (o : Option Entry) → option_or o None ≡ o
or_none None = refl
or_none (Some e) = refl

-- an entry of the next version alone
abbrev fresh : ℕ → BareDef → Entry
fresh n d = record { definition = d; versions = suc n ∷ [] }

followed_still : (v n : ℕ) (f : Fate) (es : List Entry) → v ≤ n → found v (followed n f es) ≡ found v es
followed_still v n Stays es h = extended_still v n es h
followed_still v n (New d) es h =
    ap (option_map (λ (e : Entry). e.definition))
    (find-append (belongs v) es (fresh n d ∷ [])
    ∙ ap (λ b. option_or (find (belongs v) es) (cond (b || false) (Some (fresh n d)) None)) (another v n h)
    ∙ or_none (find (belongs v) es))
followed_still v n Gone es h = refl

pub older_as_before : (n : ℕ) (p q : List BareDef) (table : Table) (v : ℕ) (name : Bytes) → v ≤ n
    → in_version (next_table n p q table) v name ≡ in_version table v name
older_as_before n p q table v name h =
    ap (found v) (entries_next n p q table name) ∙ followed_still v n (fate p q name) (entries_of table name) h

-- ---- the next version

itself : (n : ℕ) → (n == n) ≡ true
itself n = grind (arith, nat_tests)

or_true : (b : Bool) → (b || true) ≡ true
or_true true = refl
or_true false = refl

-- an entry of versions up to n belongs to the next one where it belonged to version n
belongs_next : (n : ℕ) (e : Entry) → belongs (suc n) e ≡ false → belongs (suc n) (extended n e) ≡ belongs n e
belongs_next n e before = by (belongs n e)
  where
    by : (b : Bool) → belongs (suc n) (if b then record e { versions = e.versions ++ suc n ∷ [] } else e) ≡ b
    by true =
        list_any-append (λ x. suc n == x) e.versions (suc n ∷ [])
        ∙ ap (λ b. list_any (λ x. suc n == x) e.versions || (b || false)) (itself (suc n))
        ∙ or_true (list_any (λ x. suc n == x) e.versions)
    by false = before

not_yet : (n : ℕ) (vs : List ℕ) → greatest_of vs ≤ n → list_any (λ v. suc n == v) vs ≡ false
not_yet n vs h = by (list_any (λ v. suc n == v) vs) refl
  where
    by : (b : Bool) → list_any (λ v. suc n == v) vs ≡ b → b ≡ false
    by true e = let most = in_list (suc n) vs e in absurd (omega (arith, h, most))
    by false e = refl

extended_next : (n : ℕ) (es : List Entry) → latest es ≤ n → found (suc n) (map (extended n) es) ≡ found n es
extended_next n [] h = refl
extended_next n (e ∷ es) h =
    found_first (belongs (suc n) (extended n e)) (belongs n e) (extended n e) e (find (belongs (suc n)) (map (extended n) es))
    (find (belongs n) es) (belongs_next n e (not_yet n e.versions (first (greatest_of e.versions) (latest es) h))) (defined_still n e)
    (extended_next n es (rest (greatest_of e.versions) (latest es) h))
  where
    first : (a b : ℕ) → max a b ≤ n → a ≤ n
    first a b i = omega (arith, i)

    rest : (a b : ℕ) → max a b ≤ n → b ≤ n
    rest a b i = omega (arith, i)

added_next : (n : ℕ) (d : BareDef) (es : List Entry) → latest es ≤ n → found (suc n) (es ++ fresh n d ∷ []) ≡ Some d
added_next n d es h =
    ap (option_map (λ (e : Entry). e.definition)) (find-append (belongs (suc n)) es (fresh n d ∷ []))
    ∙ by (find (belongs (suc n)) es) (none_belongs (suc n) es (after (latest es) h))
    ∙ ap (λ b. option_map (λ (e : Entry). e.definition) (cond (b || false) (Some (fresh n d)) None)) (itself (suc n))
  where
    after : (a : ℕ) → a ≤ n → a < suc n
    after a i = omega (arith, i)

    by : (o : Option Entry) → option_map (λ (e : Entry). e.definition) o ≡ None
        → option_map (λ (e : Entry). e.definition) (option_or o (find (belongs (suc n)) (fresh n d ∷ [])))
        ≡ option_map (λ (e : Entry). e.definition) (find (belongs (suc n)) (fresh n d ∷ []))
    by None e = refl
    by (Some x) e = absurd (none-some x.definition (sym e))

-- the next version has what the newer text defines, where version n has what the older one does
followed_next : (n : ℕ) (p q : List BareDef) (name : Bytes) (es : List Entry) → latest es ≤ n
    → Alike (found n es) (definition p name) → Alike (found (suc n) (followed n (fate p q name) es)) (definition q name)
followed_next n p q name es h before =
    by (definition q name) refl (is_among (names p) name && not (is_among (changed p q) name)) (stays_where_same p q name)
  where
    none : (o : Option BareDef) → o ≡ None → Alike o None
    none o e = subst (λ u. Alike u None) (sym e) tt

    after : (a : ℕ) → a ≤ n → a < suc n
    after a i = omega (arith, i)

    by : (o : Option BareDef) → definition q name ≡ o → (stays : Bool) → stays ≡ agree same_definition (definition p name) o
        → Alike (found (suc n) (followed n (fate_of stays o) es)) o
    by None is stays e = none _ (none_belongs (suc n) es (after (latest es) h))
    by (Some d) is true e =
        subst (λ u. Alike u (Some d)) (sym (extended_next n es h))
        (alike_through (found n es) (definition p name) (Some d) before (alike_where_agreed (definition p name) (Some d) (sym e)))
    by (Some d) is false e =
        subst (λ u. Alike u (Some d)) (sym (added_next n d es h)) (subst (λ u. Alike u u) is (alike_itself q name))

pub newest_as_text : (p q : List BareDef) (table : Table) (name : Bytes) → Alike (in_version table (current table) name) (definition p name)
    → Alike (in_version (next_table (current table) p q table) (suc (current table)) name) (definition q name)
newest_as_text p q table name before =
    subst (λ es. Alike (found (suc (current table)) es) (definition q name)) (sym (entries_next (current table) p q table name))
    (followed_next (current table) p q name (entries_of table name) (entries_by_current table name) before)

-- ---- the current version

-- no version of the next table is above the next one
greatest_pushed : (m : ℕ) (vs : List ℕ) (n : ℕ) → greatest_of vs ≤ m → n ≤ m → greatest_of (vs ++ n ∷ []) ≤ m
greatest_pushed m [] n h i = omega (arith, i)
greatest_pushed m (v ∷ vs) n h i =
    let rest = greatest_pushed m vs n (omega (arith, h)) i in
    omega (arith, h, rest)

extended_most : (m n : ℕ) (e : Entry) → greatest_of e.versions ≤ m → suc n ≤ m → greatest_of (extended n e).versions ≤ m
extended_most m n e h i = by (belongs n e)
  where
    by : (b : Bool) → greatest_of (if b then record e { versions = e.versions ++ suc n ∷ [] } else e).versions ≤ m
    by true = greatest_pushed m e.versions (suc n) h i
    by false = h

latest_extended : (m n : ℕ) (es : List Entry) → latest es ≤ m → suc n ≤ m → latest (map (extended n) es) ≤ m
latest_extended m n [] h i = h
latest_extended m n (e ∷ es) h i =
    let first = extended_most m n e (omega (arith, h)) i in
    let rest = latest_extended m n es (omega (arith, h)) i in
    omega (arith, first, rest)

latest_pushed : (m : ℕ) (es : List Entry) (e : Entry) → latest es ≤ m → greatest_of e.versions ≤ m → latest (es ++ e ∷ []) ≤ m
latest_pushed m [] e h i = omega (arith, i)
latest_pushed m (x ∷ es) e h i =
    let rest = latest_pushed m es e (omega (arith, h)) i in
    omega (arith, h, rest)

latest_followed : (m n : ℕ) (f : Fate) (es : List Entry) → latest es ≤ m → suc n ≤ m → latest (followed n f es) ≤ m
latest_followed m n Stays es h i = latest_extended m n es h i
latest_followed m n (New d) es h i = latest_pushed m es (fresh n d) h (omega (arith, i))
latest_followed m n Gone es h i = h

current_mapped : (m n : ℕ) (p q : List BareDef) (table : Table) → current table ≤ m → suc n ≤ m → current (map (next_line n p q) table) ≤ m
current_mapped m n p q [] h i = h
current_mapped m n p q (v ∷ vs) h i =
    let first = latest_followed m n (fate p q v.name) v.entries (omega (arith, h)) i in
    let rest = current_mapped m n p q vs (omega (arith, h)) i in
    omega (arith, first, rest)

-- new lines have no versions
current_with_empty : (table : Table) (ns : List Bytes) → current (table ++ map empty_line ns) ≡ current table
current_with_empty [] [] = refl
current_with_empty [] (n ∷ ns) = let rest = current_with_empty [] ns in omega (arith, rest)
current_with_empty (v ∷ vs) ns = ap (max (latest v.entries)) (current_with_empty vs ns)

pub current_at_most : (p q : List BareDef) (table : Table) → current (next_table (current table) p q table) ≤ suc (current table)
current_at_most p q table =
    let same = current_with_empty table (brought_names q table) in
    current_mapped (suc (current table)) (current table) p q (table ++ map empty_line (brought_names q table)) (omega (arith, same)) (omega arith)

-- ---- the table of a first text

-- it is the table that follows an empty one
pub first_is_next : (text : List BareDef) → first_table text ≡ next_table 0 [] text []
first_is_next text = by (name_set (names text))
  where
    entries : (o : Option BareDef) → option_map_or (λ d. record { definition = d; versions = 1 ∷ [] } ∷ []) o [] ≡ followed 0 (fate_of false o) []
    entries None = refl
    entries (Some d) = refl

    by : (ns : List Bytes)
        → map (λ name. record { name = name; entries = first_entry text name }) ns
        ≡ map (next_line 0 [] text) (map empty_line (filter (λ name. not (is_among (table_names []) name)) ns))
    by [] = refl
    by (n ∷ ns) = ap₂ (◌∷◌) (ap (λ es. record { name = n; entries = es }) (entries (definition text n))) (by ns)
