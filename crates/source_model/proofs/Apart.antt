-- The entries of a name have no version in common: so it is at the start, and each move and each install keeps it so.
use Rattle.std.proofs.Common.{◌≡◌, ℕ, zero, suc, ◌<◌, ◌≤◌, Bool, true, false, ◌⊎◌, inl, inr, List, [], ◌∷◌, ◌++◌, Option, Some, None, refl, sym, arith}
use Rattle.std.specs.Prelude.{◌==◌, ◌||◌, not, max, Contains, find, filter, cond, map, length, bytes_eq, if◌then◌else◌}
use Rattle.std.specs.Option.{option_map_or}
use Rattle.std.specs.List.{list_any}
use Rattle.std.proofs.Math.Nat.{le-max_left, le-max_right, le_trans}
use Rattle.std.proofs.lemmas.Bool.Decides.{nat_tests}
use Rattle.c_tree.specs.BareExpr.{Bytes}
use Rattle.c_tree.specs.BareDef.{BareDef}
use Rattle.name_sets.specs.NameLists.{name_set, is_among}
use Rattle.c_semantics.specs.Texts.{definition, names}
use Rattle.source_model.specs.Versions.{Entry, Versioned, Table, Disjoint, DisjointFrom, Apart, AllApart, belongs, greatest_of, latest, current, first_entry, first_table, Fate, Stays, New, Gone, fate, extended, followed, next_line, table_names, next_table}
use Rattle.source_model.proofs.Greatest.{among_greatest, none_below_zero, less_by_one}

suc_below : (k n : ℕ) → k < n → suc k < suc n
suc_below k n h = omega (arith, h)

-- what is in a list with an item after it is in the list, or is the item
one_further : (x : ℕ) (xs : List ℕ) (y v : ℕ) → Contains xs v ⊎ (v ≡ y) → Contains (x ∷ xs) v ⊎ (v ≡ y)
one_further x xs y v (inl (j, h, e)) = inl (suc j, suc_below j (length xs) h, e)
one_further x xs y v (inr e) = inr e

zero_below : (n : ℕ) → 0 < suc n
zero_below n = omega arith

in_pushed : (xs : List ℕ) (y v : ℕ) → Contains (xs ++ y ∷ []) v → Contains xs v ⊎ (v ≡ y)
in_pushed [] y v (zero, below, is) = inr (sym is)
in_pushed [] y v (suc k, below, is) = absurd (none_below_zero k (less_by_one k 0 below))
in_pushed (x ∷ xs) y v (zero, below, is) = inl (zero, zero_below (length xs), is)
in_pushed (x ∷ xs) y v (suc k, below, is) =
    one_further x xs y v (in_pushed xs y v (k, less_by_one k (length (xs ++ y ∷ [])) below, is))

-- an entry that belongs to a version has it in its list
equal_numbers : (n v : ℕ) → (n == v) ≡ true → n ≡ v
equal_numbers n v h = grind (arith, nat_tests, h)

belongs_here : (n v : ℕ) (vs : List ℕ) (b : Bool) → (n == v) ≡ b → (b || list_any (λ x. n == x) vs) ≡ true
    → (list_any (λ x. n == x) vs ≡ true → Contains vs n) → Contains (v ∷ vs) n
belongs_here n v vs true e h rest = (zero, zero_below (length vs), sym (equal_numbers n v e))
belongs_here n v vs false e h rest = shifted (rest h)
  where
    shifted : Contains vs n → Contains (v ∷ vs) n
    shifted (k, below, is) = (suc k, suc_below k (length vs) below, is)

in_versions : (n : ℕ) (vs : List ℕ) → list_any (λ x. n == x) vs ≡ true → Contains vs n
in_versions n [] h = absurd (no h)
  where
    no : false ≡ true → ⊥
    no e = cc
in_versions n (v ∷ vs) h = belongs_here n v vs (n == v) refl h (in_versions n vs)

-- what an entry belongs to after the next version
in_extended_by : (n v : ℕ) (e : Entry) (b : Bool) → belongs n e ≡ b
    → Contains (if b then record e { versions = e.versions ++ suc n ∷ [] } else e).versions v
    → Contains e.versions v ⊎ ((v ≡ suc n) × Contains e.versions n)
in_extended_by n v e true has h = by (in_pushed e.versions (suc n) v h)
  where
    by : Contains e.versions v ⊎ (v ≡ suc n) → Contains e.versions v ⊎ ((v ≡ suc n) × Contains e.versions n)
    by (inl old) = inl old
    by (inr new) = inr (new, in_versions n e.versions has)
in_extended_by n v e false has h = inl h

in_extended : (n v : ℕ) (e : Entry) → Contains (extended n e).versions v
    → Contains e.versions v ⊎ ((v ≡ suc n) × Contains e.versions n)
in_extended n v e h = in_extended_by n v e (belongs n e) refl h

-- all versions of an entry are at most n
abbrev Below : ℕ → Entry → Type 0
Below n e = (v : ℕ) → Contains e.versions v → v ≤ n

abbrev AllBelow : ℕ → List Entry → Type 0
AllBelow n [] = Unit {0}
AllBelow n (e ∷ es) = Below n e × AllBelow n es

too_great : (n v : ℕ) → v ≡ suc n → v ≤ n → ⊥
too_great n v e h = omega (arith, e, h)

extended_disjoint : (n : ℕ) (a b : Entry) → Disjoint a b → Below n a → Below n b → Disjoint (extended n a) (extended n b)
extended_disjoint n a b apart below_a below_b v in_a in_b = by (in_extended n v a in_a) (in_extended n v b in_b)
  where
    by : Contains a.versions v ⊎ ((v ≡ suc n) × Contains a.versions n)
        → Contains b.versions v ⊎ ((v ≡ suc n) × Contains b.versions n) → ⊥
    by (inl x) (inl y) = apart v x y
    by (inl x) (inr (e, y)) = too_great n v e (below_a v x)
    by (inr (e, x)) (inl y) = too_great n v e (below_b v y)
    by (inr (e, x)) (inr (f, y)) = apart n x y

extended_from : (n : ℕ) (a : Entry) (es : List Entry) → DisjointFrom a es → Below n a → AllBelow n es
    → DisjointFrom (extended n a) (map (extended n) es)
extended_from n a [] apart below all = tt
extended_from n a (b ∷ bs) (here, there) below (below_b, all) =
    (extended_disjoint n a b here below below_b, extended_from n a bs there below all)

extended_apart : (n : ℕ) (es : List Entry) → Apart es → AllBelow n es → Apart (map (extended n) es)
extended_apart n [] apart all = tt
extended_apart n (e ∷ es) (here, there) (below, all) = (extended_from n e es here below all, extended_apart n es there all)

-- an entry of the next version alone
abbrev fresh : ℕ → BareDef → Entry
fresh n d = record { definition = d; versions = suc n ∷ [] }

fresh_disjoint : (n : ℕ) (d : BareDef) (a : Entry) → Below n a → Disjoint a (fresh n d)
fresh_disjoint n d a below v in_a (zero, h, is) = too_great n v (sym is) (below v in_a)
fresh_disjoint n d a below v in_a (suc k, h, is) = none_below_zero k (less_by_one k 0 h)

from_pushed : (n : ℕ) (d : BareDef) (a : Entry) (es : List Entry) → DisjointFrom a es → Below n a
    → DisjointFrom a (es ++ fresh n d ∷ [])
from_pushed n d a [] apart below = (fresh_disjoint n d a below, tt)
from_pushed n d a (b ∷ bs) (here, there) below = (here, from_pushed n d a bs there below)

pushed_apart : (n : ℕ) (d : BareDef) (es : List Entry) → Apart es → AllBelow n es → Apart (es ++ fresh n d ∷ [])
pushed_apart n d [] apart all = (tt, tt)
pushed_apart n d (e ∷ es) (here, there) (below, all) =
    (from_pushed n d e es here below, pushed_apart n d es there all)

followed_apart : (n : ℕ) (f : Fate) (es : List Entry) → Apart es → AllBelow n es → Apart (followed n f es)
followed_apart n Stays es apart all = extended_apart n es apart all
followed_apart n (New d) es apart all = pushed_apart n d es apart all
followed_apart n Gone es apart all = apart

-- the versions of entries are at most a number that is at least the latest
all_below : (n : ℕ) (es : List Entry) → latest es ≤ n → AllBelow n es
all_below n [] h = tt
all_below n (e ∷ es) h = (
  λ v is_in. le_trans (among_greatest e.versions v is_in) (le_trans (le-max_left (greatest_of e.versions) (latest es)) h),
  all_below n es (le_trans (le-max_right (greatest_of e.versions) (latest es)) h),
)

-- a line of the table is good: its entries are apart, and at most n
abbrev Good : ℕ → Versioned → Type 0
Good n v = Apart v.entries × AllBelow n v.entries

abbrev GoodLine : ℕ → Option Versioned → Type 0
GoodLine n None = Unit {0}
GoodLine n (Some v) = Good n v

-- the line of a name in a table whose latest version is at most n
abbrev line_of : Table → Bytes → Option Versioned
line_of table name = find (λ v. bytes_eq name v.name) table

abbrev ApartLine : Option Versioned → Type 0
ApartLine None = Unit {0}
ApartLine (Some v) = Apart v.entries

line_apart : (o : Option Versioned) → Apart (option_map_or (λ v. v.entries) o []) → ApartLine o
line_apart None h = tt
line_apart (Some v) h = h

apart_line : (o : Option Versioned) → ApartLine o → Apart (option_map_or (λ v. v.entries) o [])
apart_line None h = tt
apart_line (Some v) h = h

-- the line's latest version is at most the table's
abbrev LatestAt : ℕ → Option Versioned → Type 0
LatestAt n None = Unit {0}
LatestAt n (Some v) = latest v.entries ≤ n

latest_up : (m n : ℕ) (o : Option Versioned) → m ≤ n → LatestAt m o → LatestAt n o
latest_up m n None le h = tt
latest_up m n (Some v) le h = le_trans h le

latest_first : (b : Bool) (v : Versioned) (n : ℕ) (o : Option Versioned) → LatestAt n o
    → LatestAt (max (latest v.entries) n) (cond b (Some v) o)
latest_first true v n o h = le-max_left (latest v.entries) n
latest_first false v n o h = latest_up n (max (latest v.entries) n) o (le-max_right (latest v.entries) n) h

latest_line : (table : Table) (name : Bytes) → LatestAt (current table) (line_of table name)
latest_line [] name = tt
latest_line (v ∷ vs) name = latest_first (bytes_eq name v.name) v (current vs) (line_of vs name) (latest_line vs name)

good_line : (n : ℕ) (o : Option Versioned) → ApartLine o → LatestAt n o → GoodLine n o
good_line n None a l = tt
good_line n (Some v) a l = (a, all_below n v.entries l)

-- a line found in two tables one after the other
find_after : (n : ℕ) (name : Bytes) (xs ys : Table) → GoodLine n (line_of xs name) → GoodLine n (line_of ys name)
    → GoodLine n (line_of (xs ++ ys) name)
find_after n name [] ys good other = other
find_after n name (x ∷ xs) ys good other = by (bytes_eq name x.name) good (find_after n name xs ys)
  where
    by : (b : Bool) → GoodLine n (cond b (Some x) (line_of xs name))
        → (GoodLine n (line_of xs name) → GoodLine n (line_of ys name) → GoodLine n (line_of (xs ++ ys) name))
        → GoodLine n (cond b (Some x) (line_of (xs ++ ys) name))
    by true g rest = g
    by false g rest = rest g other

-- lines without entries are good
no_entries : (n : ℕ) (name : Bytes) (names : List Bytes)
    → GoodLine n (line_of (map (λ z. record { name = z; entries = [] }) names) name)
no_entries n name [] = tt
no_entries n name (z ∷ zs) = by (bytes_eq name z) (line_of (map (λ y. record { name = y; entries = [] }) zs) name) (no_entries n name zs)
  where
    by : (b : Bool) (o : Option Versioned) → GoodLine n o → GoodLine n (cond b (Some (record { name = z; entries = [] })) o)
    by true o g = (tt, tt)
    by false o g = g

-- the next line of a good one has its entries apart
next_apart : (n : ℕ) (p q : List BareDef) (name : Bytes) (table : Table) → GoodLine n (line_of table name)
    → ApartLine (line_of (map (next_line n p q) table) name)
next_apart n p q name [] good = tt
next_apart n p q name (v ∷ vs) good = by (bytes_eq name v.name) good (next_apart n p q name vs)
  where
    by : (b : Bool) → GoodLine n (cond b (Some v) (line_of vs name))
        → (GoodLine n (line_of vs name) → ApartLine (line_of (map (next_line n p q) vs) name))
        → ApartLine (cond b (Some (next_line n p q v)) (line_of (map (next_line n p q) vs) name))
    by true (apart, below) rest = followed_apart n (fate p q v.name) v.entries apart below
    by false g rest = rest g

pub next_table_apart : (p q : List BareDef) (table : Table) → AllApart table → AllApart (next_table (current table) p q table)
next_table_apart p q table apart name =
    apart_line _ (next_apart (current table) p q name _
    (find_after (current table) name table _
    (good_line (current table) (line_of table name) (line_apart (line_of table name) (apart name)) (latest_line table name))
    (no_entries (current table) name (filter (λ z. not (is_among (table_names table) z)) (name_set (names q))))))

-- the first table
first_apart_by : (d : Option BareDef) → Apart (option_map_or (λ d. record { definition = d; versions = 1 ∷ [] } ∷ []) d [])
first_apart_by None = tt
first_apart_by (Some d) = (tt, tt)

first_line_apart : (text : List BareDef) (name : Bytes) (names : List Bytes)
    → ApartLine (line_of (map (λ z. record { name = z; entries = first_entry text z }) names) name)
first_line_apart text name [] = tt
first_line_apart text name (z ∷ zs) =
    by (bytes_eq name z) (line_of (map (λ y. record { name = y; entries = first_entry text y }) zs) name) (first_line_apart text name zs)
  where
    by : (b : Bool) (o : Option Versioned) → ApartLine o
        → ApartLine (cond b (Some (record { name = z; entries = first_entry text z })) o)
    by true o g = first_apart_by (definition text z)
    by false o g = g

pub first_table_apart : (text : List BareDef) → AllApart (first_table text)
first_table_apart text name = apart_line _ (first_line_apart text name (name_set (names text)))
