-- The versions of uses in the next table.
use Rattle.std.proofs.Common.{◌≡◌, ℕ, zero, suc, ◌≤◌, ◌<◌, max, ◌==◌, Bool, true, false, ◌&&◌, ◌||◌, List, [], ◌∷◌, ◌++◌, map, length, find, slice_get, cond, option_map, Option, Some, None, refl, sym, ap, ◌∙◌, bytes_eq, arith, if◌then◌else◌}
use Rattle.std.specs.Prelude.{nat_lt}
use Rattle.std.specs.List.{list_any}
use Rattle.std.specs.Option.{option_map_or}
use Rattle.std.proofs.lemmas.Bool.Decides.{nat_tests}
use Rattle.std.proofs.lemmas.List.Folds.{list_any-append}
use Rattle.std.proofs.lemmas.Option.{slice_get-map}
use Rattle.c_tree.specs.BareExpr.{Bytes}
use Rattle.c_tree.specs.BareDef.{BareDef}
use Rattle.c_semantics.specs.Texts.{definition}
use Rattle.c_semantics.specs.Changes.{agree, same_definition}
use Rattle.source_model.specs.Versions.{Entry, Versioned, Table, entries_of, belongs, greatest_of, latest, current, Fate, Stays, New, Gone, fate, fate_of, extended, followed}
use Rattle.version_laws.proofs.DefinedNames.{stays_where_same}
use Rattle.version_laws.proofs.NextVersions.{entries_next}
use Rattle.version_spans.specs.SpanLaws.{NextVersion, VersionsStay}
use Rattle.version_spans.proofs.Numbers.{another, itself, or_false, or_true, and_false, and_true, not_yet}

-- whether the entry with a number has version v
abbrev pub has_at : ℕ → List Entry → ℕ → Bool
has_at v es i = option_map_or (belongs v) (slice_get es i) false

-- an entry of the next version alone
abbrev pub fresh : ℕ → BareDef → Entry
fresh n d = record { definition = d; versions = suc n ∷ [] }

-- ---- the versions so far

belongs_still : (v n : ℕ) (e : Entry) → v ≤ n → belongs v (extended n e) ≡ belongs v e
belongs_still v n e h = by (belongs n e)
  where
    by : (b : Bool) → belongs v (if b then record e { versions = e.versions ++ suc n ∷ [] } else e) ≡ belongs v e
    by true =
        list_any-append (λ x. v == x) e.versions (suc n ∷ [])
        ∙ ap (λ b. list_any (λ x. v == x) e.versions || (b || false)) (another v n h)
        ∙ or_false (list_any (λ x. v == x) e.versions)
    by false = refl

extended_still : (v n : ℕ) (o : Option Entry) → v ≤ n → option_map_or (belongs v) (option_map (extended n) o) false ≡ option_map_or (belongs v) o false
extended_still v n None h = refl
extended_still v n (Some e) h = belongs_still v n e h

pushed_still : (v n : ℕ) (d : BareDef) (es : List Entry) (i : ℕ) → v ≤ n → has_at v (es ++ fresh n d ∷ []) i ≡ has_at v es i
pushed_still v n d [] zero h = ap (λ b. b || false) (another v n h)
pushed_still v n d [] (suc i) h = refl
pushed_still v n d (e ∷ es) zero h = refl
pushed_still v n d (e ∷ es) (suc i) h = pushed_still v n d es i h

followed_still : (v n : ℕ) (f : Fate) (es : List Entry) (i : ℕ) → v ≤ n → has_at v (followed n f es) i ≡ has_at v es i
followed_still v n Stays es i h =
    ap (λ o. option_map_or (belongs v) o false) (slice_get-map (extended n) es i) ∙ extended_still v n (slice_get es i) h
followed_still v n (New d) es i h = pushed_still v n d es i h
followed_still v n Gone es i h = refl

pub versions_stay : VersionsStay
versions_stay p q table v u h =
    ap (λ es. has_at v es u.entry) (entries_next (current table) p q table u.name)
    ∙ followed_still v (current table) (fate p q u.name) (entries_of table u.name) u.entry h

-- ---- the next version

-- the entries of a name have no version above the current one
pub entries_by_current : (table : Table) (name : Bytes) → latest (entries_of table name) ≤ current table
entries_by_current [] name = omega arith
entries_by_current (v ∷ vs) name = by (bytes_eq name v.name) (entries_by_current vs name)
  where
    by : (b : Bool) → latest (entries_of vs name) ≤ current vs
        → latest (option_map_or (λ (x : Versioned). x.entries) (cond b (Some v) (find (λ (x : Versioned). bytes_eq name x.name) vs)) []) ≤ max (latest v.entries) (current vs)
    by true rest = omega arith
    by false rest = omega (arith, rest)

belongs_next : (n : ℕ) (e : Entry) → belongs (suc n) e ≡ false → belongs (suc n) (extended n e) ≡ belongs n e
belongs_next n e before = by (belongs n e)
  where
    by : (b : Bool) → belongs (suc n) (if b then record e { versions = e.versions ++ suc n ∷ [] } else e) ≡ b
    by true =
        list_any-append (λ x. suc n == x) e.versions (suc n ∷ [])
        ∙ ap (λ b. list_any (λ x. suc n == x) e.versions || (b || false)) (itself (suc n))
        ∙ or_true (list_any (λ x. suc n == x) e.versions)
    by false = before

first_most : (a b n : ℕ) → max a b ≤ n → a ≤ n
first_most a b n h = omega (arith, h)

rest_most : (a b n : ℕ) → max a b ≤ n → b ≤ n
rest_most a b n h = omega (arith, h)

-- no entry has the next version yet
pub none_next : (n : ℕ) (es : List Entry) (i : ℕ) → latest es ≤ n → has_at (suc n) es i ≡ false
none_next n [] i h = refl
none_next n (e ∷ es) zero h = not_yet n e.versions (first_most (greatest_of e.versions) (latest es) n h)
none_next n (e ∷ es) (suc i) h = none_next n es i (rest_most (greatest_of e.versions) (latest es) n h)

extended_next : (n : ℕ) (es : List Entry) (i : ℕ) → latest es ≤ n → has_at (suc n) (map (extended n) es) i ≡ has_at n es i
extended_next n [] i h = refl
extended_next n (e ∷ es) zero h = belongs_next n e (not_yet n e.versions (first_most (greatest_of e.versions) (latest es) n h))
extended_next n (e ∷ es) (suc i) h = extended_next n es i (rest_most (greatest_of e.versions) (latest es) n h)

-- an entry is where it was
pushed_before : (v : ℕ) (new : Entry) (es : List Entry) (i : ℕ) → nat_lt i (length es) ≡ true → has_at v (es ++ new ∷ []) i ≡ has_at v es i
pushed_before v new [] i h = absurd (below_none i h)
  where
    below_none : (k : ℕ) → nat_lt k 0 ≡ true → ⊥
    below_none k g = let less : k < 0 = grind (arith, nat_tests, g) in omega (arith, less)
pushed_before v new (e ∷ es) zero h = refl
pushed_before v new (e ∷ es) (suc i) h = pushed_before v new es i (less i (length es) h)
  where
    less : (k n : ℕ) → nat_lt (suc k) (suc n) ≡ true → nat_lt k n ≡ true
    less k n g = grind (arith, nat_tests, g)

agree_none : (o : Option BareDef) → agree same_definition o None ≡ false
agree_none None = refl
agree_none (Some d) = refl

followed_next : (n : ℕ) (p q : List BareDef) (name : Bytes) (es : List Entry) (i : ℕ) → latest es ≤ n → nat_lt i (length es) ≡ true
    → has_at (suc n) (followed n (fate p q name) es) i ≡ (has_at n es i && agree same_definition (definition p name) (definition q name))
followed_next n p q name es i h within =
    ap (λ b. has_at (suc n) (followed n (fate_of b (definition q name)) es) i) (stays_where_same p q name)
    ∙ by (definition q name) (agree same_definition (definition p name) (definition q name)) refl
  where
    by : (o : Option BareDef) (stays : Bool) → agree same_definition (definition p name) o ≡ stays
        → has_at (suc n) (followed n (fate_of stays o) es) i ≡ (has_at n es i && stays)
    by None stays e =
        none_next n es i h ∙ sym (ap (λ b. has_at n es i && b) (sym e ∙ agree_none (definition p name)) ∙ and_false (has_at n es i))
    by (Some d) true e = extended_next n es i h ∙ sym (and_true (has_at n es i))
    by (Some d) false e = pushed_before (suc n) (fresh n d) es i within ∙ none_next n es i h ∙ sym (and_false (has_at n es i))

pub next_version : NextVersion
next_version p q table u there =
    ap (λ es. has_at (suc (current table)) es u.entry) (entries_next (current table) p q table u.name)
    ∙ followed_next (current table) p q u.name (entries_of table u.name) u.entry (entries_by_current table u.name) there
