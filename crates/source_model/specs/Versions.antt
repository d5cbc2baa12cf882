-- Definitions by name and version: each entry of a name is a definition with the versions to which it belongs
-- (Contextual Effects for Version-Consistent Dynamic Software Updating, POPL 2008).
use Rattle.std.specs.Prelude.{ℕ, suc, ◌==◌, max, Bool, not, ◌&&◌, List, [], ◌∷◌, ◌++◌, map, filter, position, find, Contains, Option, Some, None, option_map, bytes_eq, if◌then◌else◌}
use Rattle.std.specs.Option.{option_map_or}
use Rattle.std.specs.List.{list_any}
use Rattle.c_tree.specs.BareExpr.{Bytes}
use Rattle.c_tree.specs.BareDef.{BareDef}
use Rattle.name_sets.specs.NameLists.{name_set, is_among}
use Rattle.c_semantics.specs.Texts.{Definitions, definition, names}
use Rattle.c_semantics.specs.Changes.{changed}

-- a definition with its versions
pub record Entry : Type 0 where
  pub definition : BareDef
  pub versions : List ℕ

-- a name with its entries, the oldest first
pub record Versioned : Type 0 where
  pub name : Bytes
  pub entries : List Entry

-- the versioned definitions
abbrev pub Table : Type 0
Table = List Versioned

-- the entries of a name
abbrev pub entries_of : Table → Bytes → List Entry
entries_of table name = option_map_or (λ v. v.entries) (find (λ v. bytes_eq name v.name) table) []

-- whether an entry belongs to version n
abbrev pub belongs : ℕ → Entry → Bool
belongs n entry = list_any (λ v. n == v) entry.versions

-- the number of a name's entry in version n
abbrev pub entry_in : Table → ℕ → Bytes → Option ℕ
entry_in table n name = position (belongs n) (entries_of table name)

-- the definitions in version n
abbrev pub in_version : Table → ℕ → Definitions
in_version table n name = option_map (λ e. e.definition) (find (belongs n) (entries_of table name))

-- the greatest of some numbers
abbrev pub greatest_of : List ℕ → ℕ
greatest_of [] = 0
greatest_of (n ∷ ns) = max n (greatest_of ns)

-- the greatest version of an entry, of a name, of all
abbrev pub latest : List Entry → ℕ
latest [] = 0
latest (e ∷ es) = max (greatest_of e.versions) (latest es)

-- the current version
abbrev pub current : Table → ℕ
current [] = 0
current (v ∷ vs) = max (latest v.entries) (current vs)

-- the table of a first text: each definition belongs to version 1
abbrev pub first_entry : List BareDef → Bytes → List Entry
first_entry text name = option_map_or (λ d. record { definition = d; versions = 1 ∷ [] } ∷ []) (definition text name) []

abbrev pub first_table : List BareDef → Table
first_table text = map (λ name. record { name = name; entries = first_entry text name }) (name_set (names text))

-- what becomes of a name where a text follows another
pub data Fate : Type 0 where
  Stays : Fate
  New : BareDef → Fate
  Gone : Fate

-- it stays where both texts have it and it isn't changed
abbrev pub fate_of : Bool → Option BareDef → Fate
fate_of stays None = Gone
fate_of stays (Some d) = if stays then Stays else New d

abbrev pub fate : List BareDef → List BareDef → Bytes → Fate
fate p q name = fate_of (is_among (names p) name && not (is_among (changed p q) name)) (definition q name)

-- version n + 1 added to the entry that belongs to version n
abbrev pub extended : ℕ → Entry → Entry
extended n e = if belongs n e then record e { versions = e.versions ++ suc n ∷ [] } else e

-- the entries of a name where version n + 1 follows version n
abbrev pub followed : ℕ → Fate → List Entry → List Entry
followed n Stays entries = map (extended n) entries
followed n (New d) entries = entries ++ record { definition = d; versions = suc n ∷ [] } ∷ []
followed n Gone entries = entries

-- a name's line in the next table
abbrev pub next_line : ℕ → List BareDef → List BareDef → Versioned → Versioned
next_line n p q v = record v { entries = followed n (fate p q v.name) v.entries }

-- the names of a table
abbrev pub table_names : Table → List Bytes
table_names = map (λ v. v.name)

-- the table where text q follows text p, which is that of version n; a name that was never there begins without entries
abbrev pub next_table : ℕ → List BareDef → List BareDef → Table → Table
next_table n p q table =
    map (next_line n p q)
    (table ++ map (λ name. record { name = name; entries = [] }) (filter (λ name. not (is_among (table_names table) name)) (name_set (names q))))

-- two entries have no version in common
abbrev pub Disjoint : Entry → Entry → Type 0
Disjoint a b = (n : ℕ) → Contains a.versions n → Contains b.versions n → ⊥

-- nor has one with any of some
abbrev pub DisjointFrom : Entry → List Entry → Type 0
DisjointFrom a [] = Unit {0}
DisjointFrom a (b ∷ bs) = Disjoint a b × DisjointFrom a bs

-- no two of some entries have a version in common
abbrev pub Apart : List Entry → Type 0
Apart [] = Unit {0}
Apart (e ∷ es) = DisjointFrom e es × Apart es

-- no two entries of a name have
abbrev pub AllApart : Table → Type 0
AllApart table = (name : Bytes) → Apart (entries_of table name)
