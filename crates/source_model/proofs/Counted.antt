-- Which versions the entries of a table have: none above the current one and no version 0; and the current one is that of
-- main.
use Rattle.std.proofs.Common.{◌≡◌, ℕ, suc, ◌≤◌, Bool, true, false, List, [], ◌∷◌, ◌++◌, Option, Some, None, refl, sym, ◌∙◌, ap, subst, arith}
use Rattle.std.specs.Prelude.{◌==◌, ◌&&◌, ◌||◌, max, not, nat_lt, codes, filter, length, map, bytes_eq, if◌then◌else◌}
use Rattle.std.specs.Option.{is_some, option_map_or}
use Rattle.std.specs.List.{cons_option, list_any}
use Rattle.std.proofs.lemmas.Bool.Decides.{nat_tests}
use Rattle.std.proofs.lemmas.Slice.Eq.{bytes_eq-Decides}
use Rattle.run_types.specs.declared.run.Event.{Event}
use Rattle.c_tree.specs.BareExpr.{Bytes}
use Rattle.c_tree.specs.BareDef.{BareDef}
use Rattle.name_sets.specs.NameLists.{precedes, is_among, with_name, name_set}
use Rattle.c_semantics.specs.Texts.{defined, definition, names}
use Rattle.c_semantics.specs.Changes.{changed}
use Rattle.source_model.specs.Versions.{Entry, Versioned, Table, Fate, Stays, New, Gone, belongs, current, extended, fate, fate_of, first_entry, first_table, followed, greatest_of, latest, next_line, next_table, table_names}
use Rattle.source_model.specs.Moves.{move}
use Rattle.source_model.specs.Installs.{installed}
use Rattle.source_model.specs.Worlds.{World}
use Rattle.source_model.specs.Guards.{Guard, Setup, Rules, first_guard}
use Rattle.source_model.specs.JournalLaws.{AllHaveMain, HasMain, VersionsAreCounted}
use Rattle.source_model.proofs.Moved.{Keeps, move_keeps}
use Rattle.source_model.proofs.Moved as moved
use Rattle.source_model.proofs.Events.{Handles, in_each_guard}

not_so : false ≡ true → ⊥
not_so e = cc

-- ---- no version of a table passes a test

abbrev in_entries : (ℕ → Bool) → List Entry → Bool
in_entries p es = list_any (λ e. list_any p e.versions) es

abbrev pub in_table : (ℕ → Bool) → Table → Bool
in_table p table = list_any (λ v. in_entries p v.entries) table

neither : (a b : Bool) → (a || b) ≡ false → (a ≡ false) × (b ≡ false)
neither true b h = absurd (not_so (sym h))
neither false b h = (refl, h)

none_of : (a b : Bool) → a ≡ false → b ≡ false → (a || b) ≡ false
none_of true b h i = h
none_of false b h i = i

none_appended : {A : Type 0} (p : A → Bool) (xs ys : List A) → list_any p xs ≡ false → list_any p ys ≡ false → list_any p (xs ++ ys) ≡ false
none_appended p [] ys h i = i
none_appended p (x ∷ xs) ys h i =
    none_of (p x) (list_any p (xs ++ ys)) (neither (p x) (list_any p xs) h).0
    (none_appended p xs ys (neither (p x) (list_any p xs) h).1 i)

none_mapped : {A : Type 0} (p q : A → Bool) (f : A → A) → ((x : A) → p x ≡ false → q (f x) ≡ false) → (xs : List A)
    → list_any p xs ≡ false → list_any q (map f xs) ≡ false
none_mapped p q f each [] h = refl
none_mapped p q f each (x ∷ xs) h =
    none_of (q (f x)) (list_any q (map f xs)) (each x (neither (p x) (list_any p xs) h).0)
    (none_mapped p q f each xs (neither (p x) (list_any p xs) h).1)

extended_none : (p : ℕ → Bool) (n : ℕ) → p (suc n) ≡ false → (e : Entry) → list_any p e.versions ≡ false
    → list_any p (extended n e).versions ≡ false
extended_none p n next e h = by (belongs n e)
  where
    by : (b : Bool) → list_any p (if b then record e { versions = e.versions ++ suc n ∷ [] } else e).versions ≡ false
    by true = none_appended p e.versions (suc n ∷ []) h (none_of (p (suc n)) false next refl)
    by false = h

followed_none : (p : ℕ → Bool) (n : ℕ) → p (suc n) ≡ false → (f : Fate) (es : List Entry) → in_entries p es ≡ false
    → in_entries p (followed n f es) ≡ false
followed_none p n next Stays es h = none_mapped (λ e. list_any p e.versions) (λ e. list_any p e.versions) (extended n) (extended_none p n next) es h
followed_none p n next (New d) es h =
    none_appended (λ e. list_any p e.versions) es _ h (none_of (list_any p (suc n ∷ [])) false (none_of (p (suc n)) false next refl) refl)
followed_none p n next Gone es h = h

fresh_lines : (p : ℕ → Bool) (ns : List Bytes) → in_table p (map (λ name. record { name = name; entries = [] }) ns) ≡ false
fresh_lines p [] = refl
fresh_lines p (n ∷ ns) = fresh_lines p ns

pub next_none : (p : ℕ → Bool) (n : ℕ) (old new : List BareDef) (table : Table) → p (suc n) ≡ false → in_table p table ≡ false
    → in_table p (next_table n old new table) ≡ false
next_none p n old new table next h =
    none_mapped (λ v. in_entries p v.entries) (λ v. in_entries p v.entries) (next_line n old new)
    (λ v. followed_none p n next (fate old new v.name) v.entries)
    (table ++ map (λ name. record { name = name; entries = [] }) (filter (λ name. not (is_among (table_names table) name)) (name_set (names new))))
    (none_appended (λ v. in_entries p v.entries) table _ h (fresh_lines p (filter (λ name. not (is_among (table_names table) name)) (name_set (names new)))))

first_entries_none : (p : ℕ → Bool) → p 1 ≡ false → (d : Option BareDef)
    → in_entries p (option_map_or (λ d. record { definition = d; versions = 1 ∷ [] } ∷ []) d []) ≡ false
first_entries_none p one None = refl
first_entries_none p one (Some d) = none_of (list_any p (1 ∷ [])) false (none_of (p 1) false one refl) refl

pub first_none : (p : ℕ → Bool) → p 1 ≡ false → (text : List BareDef) (ns : List Bytes)
    → in_table p (map (λ name. record { name = name; entries = first_entry text name }) ns) ≡ false
first_none p one text [] = refl
first_none p one text (n ∷ ns) =
    none_of (in_entries p (first_entry text n)) _ (first_entries_none p one (definition text n)) (first_none p one text ns)

-- ---- the greatest version

at_most : (m v : ℕ) → nat_lt m v ≡ false → v ≤ m
at_most m v h = grind (arith, nat_tests, h)

not_more : (m v : ℕ) → v ≤ m → nat_lt m v ≡ false
not_more m v h = grind (arith, nat_tests, h)

least : (m : ℕ) → 0 ≤ m
least m = omega arith

max_most : (a b m : ℕ) → a ≤ m → b ≤ m → max a b ≤ m
max_most a b m h i = omega (arith, h, i)

left_most : (a b m : ℕ) → max a b ≤ m → a ≤ m
left_most a b m h = omega (arith, h)

right_most : (a b m : ℕ) → max a b ≤ m → b ≤ m
right_most a b m h = omega (arith, h)

greatest_most : (m : ℕ) (ns : List ℕ) → list_any (nat_lt m) ns ≡ false → greatest_of ns ≤ m
greatest_most m [] h = least m
greatest_most m (n ∷ ns) h =
    max_most n (greatest_of ns) m (at_most m n (neither (nat_lt m n) _ h).0) (greatest_most m ns (neither (nat_lt m n) _ h).1)

latest_most : (m : ℕ) (es : List Entry) → in_entries (nat_lt m) es ≡ false → latest es ≤ m
latest_most m [] h = least m
latest_most m (e ∷ es) h =
    max_most (greatest_of e.versions) (latest es) m (greatest_most m e.versions (neither (list_any (nat_lt m) e.versions) _ h).0)
    (latest_most m es (neither (list_any (nat_lt m) e.versions) _ h).1)

pub current_most : (m : ℕ) (table : Table) → in_table (nat_lt m) table ≡ false → current table ≤ m
current_most m [] h = least m
current_most m (v ∷ vs) h =
    max_most (latest v.entries) (current vs) m (latest_most m v.entries (neither (in_entries (nat_lt m) v.entries) _ h).0)
    (current_most m vs (neither (in_entries (nat_lt m) v.entries) _ h).1)

none_greater : (m : ℕ) (ns : List ℕ) → greatest_of ns ≤ m → list_any (nat_lt m) ns ≡ false
none_greater m [] h = refl
none_greater m (n ∷ ns) h =
    none_of (nat_lt m n) _ (not_more m n (left_most n (greatest_of ns) m h)) (none_greater m ns (right_most n (greatest_of ns) m h))

none_later : (m : ℕ) (es : List Entry) → latest es ≤ m → in_entries (nat_lt m) es ≡ false
none_later m [] h = refl
none_later m (e ∷ es) h =
    none_of (list_any (nat_lt m) e.versions) _ (none_greater m e.versions (left_most (greatest_of e.versions) (latest es) m h))
    (none_later m es (right_most (greatest_of e.versions) (latest es) m h))

pub none_above : (m : ℕ) (table : Table) → current table ≤ m → in_table (nat_lt m) table ≡ false
none_above m [] h = refl
none_above m (v ∷ vs) h =
    none_of (in_entries (nat_lt m) v.entries) _ (none_later m v.entries (left_most (latest v.entries) (current vs) m h))
    (none_above m vs (right_most (latest v.entries) (current vs) m h))

-- ---- an entry of main belongs to a version

abbrev main_is : Bytes → Bool
main_is name = bytes_eq (codes "main") name

abbrev has_main : ℕ → Table → Bool
has_main n table = list_any (λ v. main_is v.name && list_any (belongs n) v.entries) table

first_of : (a b : Bool) → (a && b) ≡ true → a ≡ true
first_of true b h = refl
first_of false b h = h

second_of : (a b : Bool) → (a && b) ≡ true → b ≡ true
second_of true b h = h
second_of false b h = absurd (not_so h)

and_holds : (a b : Bool) → a ≡ true → b ≡ true → (a && b) ≡ true
and_holds true b h i = i
and_holds false b h i = h

or_left : (a b : Bool) → a ≡ true → (a || b) ≡ true
or_left true b h = refl
or_left false b h = absurd (not_so h)

or_right : (a b : Bool) → b ≡ true → (a || b) ≡ true
or_right true b h = refl
or_right false b h = h

either_way : (a b c : Bool) → (b ≡ true → c ≡ true) → (a || b) ≡ true → (a || c) ≡ true
either_way true b c rest h = refl
either_way false b c rest h = rest h

any_appended : {A : Type 0} (p : A → Bool) (xs ys : List A) → list_any p xs ≡ true → list_any p (xs ++ ys) ≡ true
any_appended p [] ys h = absurd (not_so h)
any_appended p (x ∷ xs) ys h = either_way (p x) (list_any p xs) (list_any p (xs ++ ys)) (any_appended p xs ys) h

any_after : {A : Type 0} (p : A → Bool) (xs ys : List A) → list_any p ys ≡ true → list_any p (xs ++ ys) ≡ true
any_after p [] ys h = h
any_after p (x ∷ xs) ys h = or_right (p x) _ (any_after p xs ys h)

each_way : (a b c d : Bool) → (a ≡ true → c ≡ true) → (b ≡ true → d ≡ true) → (a || b) ≡ true → (c || d) ≡ true
each_way true b c d first rest h = or_left c d (first refl)
each_way false b c d first rest h = or_right c d (rest h)

any_mapped : {A : Type 0} (p q : A → Bool) (f : A → A) → ((x : A) → p x ≡ true → q (f x) ≡ true) → (xs : List A)
    → list_any p xs ≡ true → list_any q (map f xs) ≡ true
any_mapped p q f each [] h = h
any_mapped p q f each (x ∷ xs) h = each_way (p x) (list_any p xs) (q (f x)) (list_any q (map f xs)) (each x) (any_mapped p q f each xs) h

same_number : (n : ℕ) → (n == n) ≡ true
same_number n = grind (arith, nat_tests)

newest_here : (n : ℕ) (vs : List ℕ) → list_any (λ v. n == v) (vs ++ n ∷ []) ≡ true
newest_here n vs = any_after (λ v. n == v) vs (n ∷ []) (or_left (n == n) false (same_number n))

extended_belongs : (n : ℕ) (e : Entry) → belongs n e ≡ true → belongs (suc n) (extended n e) ≡ true
extended_belongs n e h = ap (λ b. belongs (suc n) (if b then record e { versions = e.versions ++ suc n ∷ [] } else e)) h ∙ newest_here (suc n) e.versions

-- main's entries after an install of a text that defines it
main_followed : (n : ℕ) (stays : Bool) (d : BareDef) (es : List Entry) → list_any (belongs n) es ≡ true
    → list_any (belongs (suc n)) (followed n (fate_of stays (Some d)) es) ≡ true
main_followed n true d es h = any_mapped (belongs n) (belongs (suc n)) (extended n) (extended_belongs n) es h
main_followed n false d es h = any_after (belongs (suc n)) es _ (or_left _ false (newest_here (suc n) []))

main_line : (n : ℕ) (p q : List BareDef) (d : BareDef) → definition q (codes "main") ≡ Some d → (v : Versioned)
    → (main_is v.name && list_any (belongs n) v.entries) ≡ true
    → (main_is (next_line n p q v).name && list_any (belongs (suc n)) (next_line n p q v).entries) ≡ true
main_line n p q d is v h =
    and_holds (main_is v.name) _ (first_of (main_is v.name) _ h)
    (subst (λ o. list_any (belongs (suc n)) (followed n (fate_of (is_among (names p) v.name && not (is_among (changed p q) v.name)) o) v.entries) ≡ true)
    (sym (ap (definition q) (sym named) ∙ is))
    (main_followed n (is_among (names p) v.name && not (is_among (changed p q) v.name)) d v.entries (second_of (main_is v.name) _ h)))
  where
    named : codes "main" ≡ v.name
    named = (bytes_eq-Decides (codes "main") v.name).0 (first_of (main_is v.name) _ h)

abbrev added_lines : List BareDef → Table → Table
added_lines q table =
    map (λ name. record { name = name; entries = [] }) (filter (λ name. not (is_among (table_names table) name)) (name_set (names q)))

next_has_main : (n : ℕ) (p q : List BareDef) (d : BareDef) (table : Table) → definition q (codes "main") ≡ Some d
    → has_main n table ≡ true → has_main (suc n) (next_table n p q table) ≡ true
next_has_main n p q d table is h =
    any_mapped (λ v. main_is v.name && list_any (belongs n) v.entries) (λ v. main_is v.name && list_any (belongs (suc n)) v.entries)
    (next_line n p q) (main_line n p q d is) (table ++ added_lines q table)
    (any_appended (λ v. main_is v.name && list_any (belongs n) v.entries) table (added_lines q table) h)

-- so it is at most the current version
greatest_least : (n : ℕ) (ns : List ℕ) → list_any (λ v. n == v) ns ≡ true → n ≤ greatest_of ns
greatest_least n [] h = absurd (not_so h)
greatest_least n (m ∷ ns) h = by (n == m) refl (greatest_least n ns) h
  where
    here : (a b c : ℕ) → (a == b) ≡ true → a ≤ max b c
    here a b c e = le_left b c a (equal a b e)
      where
        equal : (x y : ℕ) → (x == y) ≡ true → x ≤ y
        equal x y i = grind (arith, nat_tests, i)

        le_left : (x y z : ℕ) → z ≤ x → z ≤ max x y
        le_left x y z i = omega (arith, i)

    later : (a b c : ℕ) → a ≤ c → a ≤ max b c
    later a b c e = omega (arith, e)

    by : (b : Bool) → (n == m) ≡ b → (list_any (λ v. n == v) ns ≡ true → n ≤ greatest_of ns) → (b || list_any (λ v. n == v) ns) ≡ true
        → n ≤ max m (greatest_of ns)
    by true is rest i = here n m (greatest_of ns) is
    by false is rest i = later n m (greatest_of ns) (rest i)

max_left : (a b n : ℕ) → n ≤ a → n ≤ max a b
max_left a b n h = omega (arith, h)

max_right : (a b n : ℕ) → n ≤ b → n ≤ max a b
max_right a b n h = omega (arith, h)

latest_least : (n : ℕ) (es : List Entry) → list_any (belongs n) es ≡ true → n ≤ latest es
latest_least n [] h = absurd (not_so h)
latest_least n (e ∷ es) h = by (belongs n e) refl (latest_least n es) h
  where
    by : (b : Bool) → belongs n e ≡ b → (list_any (belongs n) es ≡ true → n ≤ latest es) → (b || list_any (belongs n) es) ≡ true
        → n ≤ max (greatest_of e.versions) (latest es)
    by true is rest i = max_left (greatest_of e.versions) (latest es) n (greatest_least n e.versions is)
    by false is rest i = max_right (greatest_of e.versions) (latest es) n (rest i)

current_least : (n : ℕ) (table : Table) → has_main n table ≡ true → n ≤ current table
current_least n [] h = absurd (not_so h)
current_least n (v ∷ vs) h = by (main_is v.name && list_any (belongs n) v.entries) refl (current_least n vs) h
  where
    by : (b : Bool) → (main_is v.name && list_any (belongs n) v.entries) ≡ b → (has_main n vs ≡ true → n ≤ current vs)
        → (b || has_main n vs) ≡ true → n ≤ max (latest v.entries) (current vs)
    by true is rest i = max_left (latest v.entries) (current vs) n (latest_least n v.entries (second_of (main_is v.name) _ is))
    by false is rest i = max_right (latest v.entries) (current vs) n (rest i)

-- ---- the table of a first text

named_main : (text : List BareDef) → is_some (definition text (codes "main")) ≡ true → is_among (names text) (codes "main") ≡ true
named_main [] h = h
named_main (d ∷ text) h = by (defined d) (named_main text) h
  where
    under : (b : Bool) → (is_some (definition text (codes "main")) ≡ true → is_among (names text) (codes "main") ≡ true)
        → is_some (if b then Some d else definition text (codes "main")) ≡ true → (b || is_among (names text) (codes "main")) ≡ true
    under true rest i = refl
    under false rest i = rest i

    by : (o : Option Bytes) → (is_some (definition text (codes "main")) ≡ true → is_among (names text) (codes "main") ≡ true)
        → is_some (if option_map_or (bytes_eq (codes "main")) o false then Some d else definition text (codes "main")) ≡ true
        → is_among (cons_option o (names text)) (codes "main") ≡ true
    by None rest i = rest i
    by (Some name) rest i = under (bytes_eq (codes "main") name) rest i

any_put : (p : Bytes → Bool) (x : Bytes) (ns : List Bytes) → (p x || list_any p ns) ≡ true → list_any p (with_name x ns) ≡ true
any_put p x [] h = h
any_put p x (n ∷ ns) h = by (bytes_eq x n) (precedes x n) refl (any_put p x ns)
  where
    same : p x ≡ p n → (p x || (p n || list_any p ns)) ≡ true → (p n || list_any p ns) ≡ true
    same e i = twice (p n) (list_any p ns) (subst (λ b. (b || (p n || list_any p ns)) ≡ true) e i)
      where
        twice : (a b : Bool) → (a || (a || b)) ≡ true → (a || b) ≡ true
        twice true b j = refl
        twice false b j = j

    later : (a b c : Bool) → ((a || c) ≡ true → list_any p (with_name x ns) ≡ true) → (a || (b || c)) ≡ true → (b || list_any p (with_name x ns)) ≡ true
    later a true c rest i = refl
    later a false c rest i = rest i

    by : (equal first : Bool) → bytes_eq x n ≡ equal → ((p x || list_any p ns) ≡ true → list_any p (with_name x ns) ≡ true)
        → list_any p (if equal then n ∷ ns else (if first then x ∷ n ∷ ns else n ∷ with_name x ns)) ≡ true
    by true first e rest = same (ap p ((bytes_eq-Decides x n).0 e)) h
    by false true e rest = h
    by false false e rest = later (p x) (p n) (list_any p ns) rest h

any_in_set : (p : Bytes → Bool) (ns : List Bytes) → list_any p ns ≡ true → list_any p (name_set ns) ≡ true
any_in_set p [] h = h
any_in_set p (n ∷ ns) h = any_put p n (name_set ns) (either_way (p n) (list_any p ns) (list_any p (name_set ns)) (any_in_set p ns) h)

first_belongs : (d : Option BareDef) → is_some d ≡ true
    → list_any (belongs 1) (option_map_or (λ d. record { definition = d; versions = 1 ∷ [] } ∷ []) d []) ≡ true
first_belongs None h = absurd (not_so h)
first_belongs (Some d) h = refl

first_has_main : (text : List BareDef) (ns : List Bytes) → is_some (definition text (codes "main")) ≡ true
    → list_any (λ name. bytes_eq (codes "main") name) ns ≡ true
    → has_main 1 (map (λ name. record { name = name; entries = first_entry text name }) ns) ≡ true
first_has_main text [] is h = h
first_has_main text (n ∷ ns) is h = by (bytes_eq (codes "main") n) refl (first_has_main text ns is) h
  where
    by : (b : Bool) → bytes_eq (codes "main") n ≡ b
        → (list_any (λ name. bytes_eq (codes "main") name) ns ≡ true
        → has_main 1 (map (λ name. record { name = name; entries = first_entry text name }) ns) ≡ true)
        → (b || list_any (λ name. bytes_eq (codes "main") name) ns) ≡ true
        → ((b && list_any (belongs 1) (first_entry text n)) || has_main 1 (map (λ name. record { name = name; entries = first_entry text name }) ns)) ≡ true
    by true e rest i =
        or_left _ _ (subst (λ name. list_any (belongs 1) (first_entry text name) ≡ true) ((bytes_eq-Decides (codes "main") n).0 e)
        (first_belongs (definition text (codes "main")) is))
    by false e rest i = rest i

-- ---- the versions of a guard

pub record Counted (g : Guard) : Type 0 where
  pub newest : has_main (length g.versions) g.world.table ≡ true
  pub most : current g.world.table ≡ length g.versions

both_ways : (a b : ℕ) → a ≤ b → b ≤ a → a ≡ b
both_ways a b h i = omega (arith, h, i)

one_longer : {A : Type 0} (xs : List A) (x : A) → length (xs ++ x ∷ []) ≡ suc (length xs)
one_longer [] x = refl
one_longer (y ∷ xs) x = ap suc (one_longer xs x)

next_current : (n : ℕ) (p q : List BareDef) (d : BareDef) (table : Table) → definition q (codes "main") ≡ Some d → current table ≡ n
    → has_main n table ≡ true → current (next_table n p q table) ≡ suc n
next_current n p q d table is same h =
    both_ways (current (next_table n p q table)) (suc n)
    (current_most (suc n) (next_table n p q table)
    (next_none (nat_lt (suc n)) n p q table (not_more (suc n) (suc n) (itself (suc n))) (none_above (suc n) table (below same))))
    (current_least (suc n) (next_table n p q table) (next_has_main n p q d table is h))
  where
    itself : (m : ℕ) → m ≤ m
    itself m = omega arith

    below : current table ≡ n → current table ≤ suc n
    below e = omega (arith, e)

there : (o : Option BareDef) → is_some o ≡ true → (d : BareDef) × (o ≡ Some d)
there None h = absurd (not_so h)
there (Some d) h = (d, refl)

same_table : (g : Guard) (w : World) → Counted g → w.table ≡ g.world.table → (has_main (length g.versions) w.table ≡ true) × (current w.table ≡ length g.versions)
same_table g w h same = (ap (has_main (length g.versions)) same ∙ h.newest, ap current same ∙ h.most)

counted_next : (g : Guard) (q : List BareDef) (n : ℕ) → n ≡ length g.versions → HasMain q → Counted g
    → (has_main (suc n) (installed q g.world).table ≡ true) × (current (installed q g.world).table ≡ suc n)
counted_next g q n same main h = (
  subst (λ m. has_main (suc n) (next_table m g.world.text q g.world.table) ≡ true) (sym counts)
      (next_has_main n g.world.text q (there (definition q (codes "main")) main).0 g.world.table (there (definition q (codes "main")) main).1 newest),
  subst (λ m. current (next_table m g.world.text q g.world.table) ≡ suc n) (sym counts)
      (next_current n g.world.text q (there (definition q (codes "main")) main).0 g.world.table (there (definition q (codes "main")) main).1 counts newest),
)
  where
    counts : current g.world.table ≡ n
    counts = h.most ∙ sym same

    newest : has_main n g.world.table ≡ true
    newest = ap (λ m. has_main m g.world.table) same ∙ h.newest

handles : (rules : Rules) (setup : Setup) → AllHaveMain setup → (e : Event) (g : Guard) → Counted g → Handles rules setup e g Counted
handles rules setup main e g h = record {
  moves = λ none t w made.
      let same = same_table g w h (moved.of_outcome (Keeps t g.world) (move g.world t) w made (move_keeps g.world t)).same_table in
      record { newest = same.0; most = same.1 };
  checks = λ none t test. record { newest = h.newest; most = h.most };
  opens = λ none k more reached. record { newest = h.newest; most = h.most };
  ends = λ k closing a is. record { newest = h.newest; most = h.most };
  installs = λ k closing o names is at.
      let next = counted_next g o.text.definitions (length g.versions) refl (main.1 k o at) h in
      record {
        newest = ap (λ m. has_main m (installed o.text.definitions g.world).table) (one_longer g.versions o.text) ∙ next.0;
        most = next.1 ∙ sym (one_longer g.versions o.text);
      };
}

first_counted : (setup : Setup) → HasMain setup.first.definitions → Counted (first_guard setup)
first_counted setup main = record {
  newest = first_has_main setup.first.definitions (name_set (names setup.first.definitions)) main
      (any_in_set (λ name. bytes_eq (codes "main") name) (names setup.first.definitions) (named_main setup.first.definitions main));
  most =
      both_ways (current (first_table setup.first.definitions)) 1
      (current_most 1 (first_table setup.first.definitions)
      (first_none (nat_lt 1) refl setup.first.definitions (name_set (names setup.first.definitions))))
      (current_least 1 (first_table setup.first.definitions)
      (first_has_main setup.first.definitions (name_set (names setup.first.definitions)) main
      (any_in_set (λ name. bytes_eq (codes "main") name) (names setup.first.definitions) (named_main setup.first.definitions main))));
}

pub versions_are_counted : VersionsAreCounted
versions_are_counted rules setup events g main legal =
    (in_each_guard rules setup Counted (first_counted setup main.0) (handles rules setup main) events g legal).most
