-- An install leaves the definitions of older versions as they are.
use Rattle.std.proofs.Common.{◌≡◌, ℕ, suc, ◌≤◌, Bool, true, false, ◌||◌, List, [], ◌∷◌, ◌++◌, map, Option, Some, None, refl, ◌∙◌, ap, subst, arith}
use Rattle.std.specs.Prelude.{◌==◌, find, filter, not, cond, option_map, bytes_eq, if◌then◌else◌}
use Rattle.std.specs.Option.{option_map_or, option_or}
use Rattle.std.specs.List.{list_any}
use Rattle.std.proofs.Math.Path.{fun_ext}
use Rattle.std.proofs.lemmas.Bool.Decides.{nat_tests}
use Rattle.std.proofs.lemmas.List.Folds.{find-append, list_any-append}
use Rattle.c_tree.specs.BareExpr.{Bytes}
use Rattle.c_tree.specs.BareDef.{BareDef}
use Rattle.name_sets.specs.NameLists.{name_set, is_among}
use Rattle.c_semantics.specs.Texts.{names}
use Rattle.source_model.specs.Versions.{Entry, Versioned, Table, belongs, in_version, greatest_of, latest, current, Fate, Stays, New, Gone, fate, extended, followed, next_line, table_names, next_table}

another : (v n : ℕ) → v ≤ n → (v == suc n) ≡ false
another v n h = grind (arith, nat_tests, h)

or_false : (b : Bool) → (b || false) ≡ b
or_false true = refl
or_false false = refl

-- whether an entry belongs to an older version
belongs_by : (v n : ℕ) (e : Entry) (b : Bool) → v ≤ n
    → belongs v (if b then record e { versions = e.versions ++ suc n ∷ [] } else e) ≡ belongs v e
belongs_by v n e true h =
    list_any-append (λ x. v == x) e.versions (suc n ∷ [])
    ∙ ap (λ b. list_any (λ x. v == x) e.versions || (b || false)) (another v n h)
    ∙ or_false (list_any (λ x. v == x) e.versions)
belongs_by v n e false h = refl

belongs_still : (v n : ℕ) (e : Entry) → v ≤ n → belongs v (extended n e) ≡ belongs v e
belongs_still v n e h = belongs_by v n e (belongs n e) h

defined_by : (n : ℕ) (e : Entry) (b : Bool)
    → (if b then record e { versions = e.versions ++ suc n ∷ [] } else e).definition ≡ e.definition
defined_by n e true = refl
defined_by n e false = refl

-- the definition in a version among some entries
abbrev found : ℕ → List Entry → Option BareDef
found v es = option_map (λ e. e.definition) (find (belongs v) es)

first_or : (b c : Bool) (x y : Entry) (o u : Option Entry) → b ≡ c → x.definition ≡ y.definition
    → option_map (λ e. e.definition) o ≡ option_map (λ e. e.definition) u
    → option_map (λ e. e.definition) (cond b (Some x) o) ≡ option_map (λ e. e.definition) (cond c (Some y) u)
first_or true c x y o u e d r = subst (λ c. Some x.definition ≡ option_map (λ e. e.definition) (cond c (Some y) u)) e (ap Some d)
first_or false c x y o u e d r = subst (λ c. option_map (λ e. e.definition) o ≡ option_map (λ e. e.definition) (cond c (Some y) u)) e r

extended_still : (v n : ℕ) (es : List Entry) → v ≤ n → found v (map (extended n) es) ≡ found v es
extended_still v n [] h = refl
extended_still v n (e ∷ es) h =
    first_or (belongs v (extended n e)) (belongs v e) (extended n e) e (find (belongs v) (map (extended n) es)) (find (belongs v) es)
    (belongs_still v n e h) (defined_by n e (belongs n e)) (extended_still v n es h)

or_none : (o : Option Entry) → option_or o None ≡ o
or_none None = refl
or_none (Some e) = refl

added_still : (v n : ℕ) (d : BareDef) (es : List Entry) → v ≤ n
    → found v (es ++ record { definition = d; versions = suc n ∷ [] } ∷ []) ≡ found v es
added_still v n d es h =
    let new : Entry = record { definition = d; versions = suc n ∷ [] } in
    ap (option_map (λ e. e.definition))
    (find-append (belongs v) es (new ∷ [])
    ∙ ap (λ b. option_or (find (belongs v) es) (cond (b || false) (Some new) None)) (another v n h)
    ∙ or_none (find (belongs v) es))

followed_still : (v n : ℕ) (f : Fate) (es : List Entry) → v ≤ n → found v (followed n f es) ≡ found v es
followed_still v n Stays es h = extended_still v n es h
followed_still v n (New d) es h = added_still v n d es h
followed_still v n Gone es h = refl

-- the line of a name
abbrev line_of : Table → Bytes → Option Versioned
line_of table name = find (λ v. bytes_eq name v.name) table

abbrev in_line : ℕ → Option Versioned → Option BareDef
in_line v o = found v (option_map_or (λ l. l.entries) o [])

line_still : (v n : ℕ) (p q : List BareDef) (o : Option Versioned) → v ≤ n → in_line v (option_map (next_line n p q) o) ≡ in_line v o
line_still v n p q None h = refl
line_still v n p q (Some l) h = followed_still v n (fate p q l.name) l.entries h

map_cond : (n : ℕ) (p q : List BareDef) (b : Bool) (x : Versioned) (o u : Option Versioned) → u ≡ option_map (next_line n p q) o
    → cond b (Some (next_line n p q x)) u ≡ option_map (next_line n p q) (cond b (Some x) o)
map_cond n p q true x o u e = refl
map_cond n p q false x o u e = e

next_line_of : (n : ℕ) (p q : List BareDef) (name : Bytes) (table : Table)
    → line_of (map (next_line n p q) table) name ≡ option_map (next_line n p q) (line_of table name)
next_line_of n p q name [] = refl
next_line_of n p q name (x ∷ xs) =
    map_cond n p q (bytes_eq name x.name) x (line_of xs name) (line_of (map (next_line n p q) xs) name) (next_line_of n p q name xs)

-- lines without entries say nothing
empty_by : (v : ℕ) (b : Bool) (z : Bytes) (o : Option Versioned) → in_line v o ≡ None
    → in_line v (cond b (Some (record { name = z; entries = [] })) o) ≡ None
empty_by v true z o e = refl
empty_by v false z o e = e

empties : (v : ℕ) (zs : List Bytes) (name : Bytes) → in_line v (line_of (map (λ z. record { name = z; entries = [] }) zs) name) ≡ None
empties v [] name = refl
empties v (z ∷ zs) name =
    empty_by v (bytes_eq name z) z (line_of (map (λ y. record { name = y; entries = [] }) zs) name) (empties v zs name)

or_empty : (v : ℕ) (o u : Option Versioned) → in_line v u ≡ None → in_line v (option_or o u) ≡ in_line v o
or_empty v None u e = e
or_empty v (Some l) u e = refl

-- the definitions of an older version
pub older_stay : (v : ℕ) (p q : List BareDef) (table : Table) → v ≤ current table
    → in_version (next_table (current table) p q table) v ≡ in_version table v
older_stay v p q table h = fun_ext λ name.
    let n = current table in
    let zs = filter (λ z. not (is_among (table_names table) z)) (name_set (names q)) in
    let more : Table = map (λ z. record { name = z; entries = [] }) zs in
    ap (in_line v) (next_line_of n p q name (table ++ more))
    ∙ line_still v n p q (line_of (table ++ more) name) h
    ∙ ap (in_line v) (find-append (λ l. bytes_eq name l.name) table more)
    ∙ or_empty v (line_of table name) (line_of more name) (empties v zs name)

-- the current version doesn't fall
greatest_more : (ns ms : List ℕ) → greatest_of ns ≤ greatest_of (ns ++ ms)
greatest_more [] ms = omega arith
greatest_more (n ∷ ns) ms = let h = greatest_more ns ms in omega arith

extended_by : (n : ℕ) (e : Entry) (b : Bool)
    → greatest_of e.versions ≤ greatest_of (if b then record e { versions = e.versions ++ suc n ∷ [] } else e).versions
extended_by n e true = greatest_more e.versions (suc n ∷ [])
extended_by n e false = omega arith

latest_extended : (n : ℕ) (es : List Entry) → latest es ≤ latest (map (extended n) es)
latest_extended n [] = omega arith
latest_extended n (e ∷ es) =
    let h = extended_by n e (belongs n e) in
    let k = latest_extended n es in
    omega (arith, h, k)

latest_added : (es more : List Entry) → latest es ≤ latest (es ++ more)
latest_added [] more = omega arith
latest_added (e ∷ es) more = let h = latest_added es more in omega arith

latest_followed : (n : ℕ) (f : Fate) (es : List Entry) → latest es ≤ latest (followed n f es)
latest_followed n Stays es = latest_extended n es
latest_followed n (New d) es = latest_added es (record { definition = d; versions = suc n ∷ [] } ∷ [])
latest_followed n Gone es = omega arith

current_lines : (n : ℕ) (p q : List BareDef) (table more : Table) → current table ≤ current (map (next_line n p q) (table ++ more))
current_lines n p q [] more = omega arith
current_lines n p q (v ∷ vs) more =
    let h = latest_followed n (fate p q v.name) v.entries in
    let k = current_lines n p q vs more in
    omega (arith, h, k)

pub current_grows : (p q : List BareDef) (table : Table) → current table ≤ current (next_table (current table) p q table)
current_grows p q table =
    current_lines (current table) p q table
    (map (λ z. record { name = z; entries = [] }) (filter (λ z. not (is_among (table_names table) z)) (name_set (names q))))
