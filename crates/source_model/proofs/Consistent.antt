-- A record is consistent exactly where its uses share a version.
use Rattle.std.proofs.Common.{◌≡◌, ℕ, zero, suc, ◌+◌, ◌<◌, ◌≤◌, Bool, true, false, List, [], ◌∷◌, Option, Some, None, refl, sym, ◌∙◌, ap, arith}
use Rattle.std.specs.Prelude.{◌==◌, ◌&&◌, ◌||◌, nat_lt, All, Contains, cond, filter, find, length, slice_get, bytes_eq, if◌then◌else◌}
use Rattle.std.specs.Option.{option_and_then, option_map_or}
use Rattle.std.specs.List.{list_any, list_all, range_with_len}
use Rattle.std.proofs.lemmas.Bool.Decides.{nat_tests}
use Rattle.std.proofs.lemmas.List.Elements.{All-nil, All-cons, All-head, All-tail}
use Rattle.c_tree.specs.BareExpr.{Bytes}
use Rattle.c_tree.specs.BareDef.{BareDef}
use Rattle.name_sets.specs.NameLists.{name_set}
use Rattle.c_semantics.specs.Texts.{names}
use Rattle.c_semantics.specs.Threads.{Use, Record}
use Rattle.source_model.specs.Versions.{Entry, Table, current, entries_of}
use Rattle.source_model.specs.Uses.{HasVersion, IsConsistent}
use Rattle.source_model.specs.Spans.{has_version, shared}
use Rattle.source_model.specs.Worlds.{World, Limits, is_over}
use Rattle.source_model.specs.Moves.{move}
use Rattle.source_model.specs.Installs.{installed}
use Rattle.source_model.specs.Runs.{SourceMove, Move, Install, install, run, start, step}
use Rattle.source_model.specs.Laws.{SharedIsConsistent}
use Rattle.source_model.proofs.Moved.{AllOf, Keeps, move_keeps, of_outcome}
use Rattle.source_model.proofs.Counted.{first_none, in_table, next_none, none_above}

not_so : false ≡ true → ⊥
not_so e = cc

none_isnt_some : {A : Type 0} (a : A) → None ≡ Some a → ⊥
none_isnt_some a e = cc

same_some : {A : Type 0} (a b : A) → Some a ≡ Some b → a ≡ b
same_some a b e = cc

-- a number is among some exactly where a test finds it
below_zero : (k : ℕ) → k < 0 → ⊥
below_zero k h = omega (arith, h)

less_by_one : (k n : ℕ) → suc k < suc n → k < n
less_by_one k n h = omega (arith, h)

more_by_one : (k n : ℕ) → k < n → suc k < suc n
more_by_one k n h = omega (arith, h)

positive : (n : ℕ) → 0 < suc n
positive n = omega arith

same_number : (v n : ℕ) → n ≡ v → (v == n) ≡ true
same_number v n h = grind (arith, nat_tests, h)

found : (v : ℕ) (ns : List ℕ) → Contains ns v → list_any (λ n. v == n) ns ≡ true
found v [] (k, below, is) = absurd (below_zero k below)
found v (n ∷ ns) (zero, below, is) = ap (λ b. b || list_any (λ n. v == n) ns) (same_number v n is)
found v (n ∷ ns) (suc k, below, is) = by (v == n) (found v ns (k, less_by_one k (length ns) below, is))
  where
    by : (b : Bool) → list_any (λ n. v == n) ns ≡ true → (b || list_any (λ n. v == n) ns) ≡ true
    by true h = refl
    by false h = h

equal_numbers : (v n : ℕ) → (v == n) ≡ true → n ≡ v
equal_numbers v n h = grind (arith, nat_tests, h)

further : {A : Type 0} (x : A) (xs : List A) (v : A) → Contains xs v → Contains (x ∷ xs) v
further x xs v (k, below, is) = (suc k, more_by_one k (length xs) below, is)

contained : (v : ℕ) (ns : List ℕ) → list_any (λ n. v == n) ns ≡ true → Contains ns v
contained v [] h = absurd (not_so h)
contained v (n ∷ ns) h = by (v == n) refl (contained v ns) h
  where
    by : (b : Bool) → (v == n) ≡ b → (list_any (λ n. v == n) ns ≡ true → Contains ns v) → (b || list_any (λ n. v == n) ns) ≡ true
        → Contains (n ∷ ns) v
    by true is rest i = (0, positive (length ns), equal_numbers v n is)
    by false is rest i = further n ns v (rest i)

-- the computed test of one use
use_has : (table : Table) (v : ℕ) (u : Use) → HasVersion table v u → has_version table v u ≡ true
use_has table v u (e, at, among) =
    ap (λ o. option_map_or (λ e. list_any (λ n. v == n) e.versions) o false) at ∙ found v e.versions among

use_is : (table : Table) (v : ℕ) (u : Use) → has_version table v u ≡ true → HasVersion table v u
use_is table v u h = by (slice_get (entries_of table u.name) u.entry) refl h
  where
    by : (o : Option Entry) → slice_get (entries_of table u.name) u.entry ≡ o
        → option_map_or (λ e. list_any (λ n. v == n) e.versions) o false ≡ true → HasVersion table v u
    by None at i = absurd (not_so i)
    by (Some e) at i = (e, at, contained v e.versions i)

both : (a b : Bool) → a ≡ true → b ≡ true → (a && b) ≡ true
both true b h i = i
both false b h i = h

left_of : (a b : Bool) → (a && b) ≡ true → a ≡ true
left_of true b h = refl
left_of false b h = h

right_of : (a b : Bool) → (a && b) ≡ true → b ≡ true
right_of true b h = h
right_of false b h = absurd (not_so h)

all_have : (table : Table) (v : ℕ) (uses : Record) → All (HasVersion table v) uses → list_all (has_version table v) uses ≡ true
all_have table v [] h = refl
all_have table v (u ∷ uses) h =
    both (has_version table v u) _ (use_has table v u (All-head (HasVersion table v) u uses h))
    (all_have table v uses (All-tail (HasVersion table v) u uses h))

have_all : (table : Table) (v : ℕ) (uses : Record) → list_all (has_version table v) uses ≡ true → All (HasVersion table v) uses
have_all table v [] h = All-nil (HasVersion table v)
have_all table v (u ∷ uses) h =
    All-cons (HasVersion table v) u uses (use_is table v u (left_of (has_version table v u) _ h))
    (have_all table v uses (right_of (has_version table v u) _ h))

-- what passes a test is in a filtered range exactly where it is in the range
kept : (p : ℕ → Bool) (v a n k : ℕ) → v ≡ a + k → k < n → p v ≡ true → Contains (filter p (range_with_len a n)) v
kept p v a zero k at below h = absurd (below_zero k below)
kept p v a (suc n) zero at below h = here (p a) (ap p (sym (first_one v a at)) ∙ h)
  where
    first_one : (x y : ℕ) → x ≡ y + 0 → x ≡ y
    first_one x y e = omega (arith, e)

    here : (b : Bool) → b ≡ true → Contains (cond b (a ∷ filter p (range_with_len (a + 1) n)) (filter p (range_with_len (a + 1) n))) v
    here true e = (0, positive (length (filter p (range_with_len (a + 1) n))), sym (first_one v a at))
    here false e = absurd (not_so e)
kept p v a (suc n) (suc k) at below h = by (p a) (kept p v (a + 1) n k (later v a k at) (less_by_one k n below) h)
  where
    later : (x y i : ℕ) → x ≡ y + suc i → x ≡ (y + 1) + i
    later x y i e = omega (arith, e)

    by : (b : Bool) → Contains (filter p (range_with_len (a + 1) n)) v
        → Contains (cond b (a ∷ filter p (range_with_len (a + 1) n)) (filter p (range_with_len (a + 1) n))) v
    by true i = further a _ v i
    by false i = i

passes : (p : ℕ → Bool) (v : ℕ) (ns : List ℕ) → Contains (filter p ns) v → p v ≡ true
passes p v [] (k, below, is) = absurd (below_zero k below)
passes p v (n ∷ ns) h = by (p n) refl (passes p v ns) h
  where
    by : (b : Bool) → p n ≡ b → (Contains (filter p ns) v → p v ≡ true)
        → Contains (cond b (n ∷ filter p ns) (filter p ns)) v → p v ≡ true
    by true test rest (zero, below, is) = ap p (sym is) ∙ test
    by true test rest (suc k, below, is) = rest (k, less_by_one k (length (filter p ns)) below, is)
    by false test rest i = rest i

-- ---- the versions of entries are from 1 to the current one

none_listed : (p : ℕ → Bool) (v : ℕ) (ns : List ℕ) → list_any p ns ≡ false → Contains ns v → p v ≡ false
none_listed p v [] none (k, below, is) = absurd (below_zero k below)
none_listed p v (n ∷ ns) none (zero, below, is) = ap p (sym is) ∙ first (p n) none
  where
    first : (b : Bool) → (b || list_any p ns) ≡ false → b ≡ false
    first true h = h
    first false h = refl
none_listed p v (n ∷ ns) none (suc k, below, is) = none_listed p v ns (second (p n) none) (k, less_by_one k _ below, is)
  where
    second : (b : Bool) → (b || list_any p ns) ≡ false → list_any p ns ≡ false
    second true h = absurd (not_so (sym h))
    second false h = h

none_in_get : (p : ℕ → Bool) (v : ℕ) (es : List Entry) (k : ℕ) (e : Entry) → list_any (λ e. list_any p e.versions) es ≡ false
    → slice_get es k ≡ Some e → Contains e.versions v → p v ≡ false
none_in_get p v [] k e none at among = absurd (none_isnt_some e at)
none_in_get p v (x ∷ es) zero e none at among =
    none_listed p v e.versions (ap (λ (y : Entry). list_any p y.versions) (sym (same_some x e at)) ∙ first (list_any p x.versions) none) among
  where
    first : (b : Bool) → (b || list_any (λ e. list_any p e.versions) es) ≡ false → b ≡ false
    first true h = h
    first false h = refl
none_in_get p v (x ∷ es) (suc k) e none at among = none_in_get p v es k e (second (list_any p x.versions) none) at among
  where
    second : (b : Bool) → (b || list_any (λ e. list_any p e.versions) es) ≡ false → list_any (λ e. list_any p e.versions) es ≡ false
    second true h = absurd (not_so (sym h))
    second false h = h

none_in_entries : (p : ℕ → Bool) (name : Bytes) (table : Table) → in_table p table ≡ false
    → list_any (λ e. list_any p e.versions) (entries_of table name) ≡ false
none_in_entries p name [] none = refl
none_in_entries p name (line ∷ table) none =
    by (bytes_eq name line.name) (none_in_entries p name table) (neither (list_any (λ e. list_any p e.versions) line.entries) none)
  where
    neither : (b : Bool) → (b || in_table p table) ≡ false → (b ≡ false) × (in_table p table ≡ false)
    neither true h = absurd (not_so (sym h))
    neither false h = (refl, h)

    by : (b : Bool) → (in_table p table ≡ false → list_any (λ e. list_any p e.versions) (entries_of table name) ≡ false)
        → (list_any (λ e. list_any p e.versions) line.entries ≡ false) × (in_table p table ≡ false)
        → list_any (λ e. list_any p e.versions)
        (option_map_or (λ v. v.entries) (if b then Some line else find (λ v. bytes_eq name v.name) table) []) ≡ false
    by true rest h = h.0
    by false rest h = rest h.1

abbrev is_zero : ℕ → Bool
is_zero v = v == 0

-- what a use has is a version
is_version : (table : Table) (v : ℕ) (u : Use) → in_table is_zero table ≡ false → HasVersion table v u
    → ((v == 0) ≡ false) × (nat_lt (current table) v ≡ false)
is_version table v u none (e, at, among) = (
  none_in_get is_zero v (entries_of table u.name) u.entry e (none_in_entries is_zero u.name table none) at among,
  none_in_get (nat_lt (current table)) v (entries_of table u.name) u.entry e
      (none_in_entries (nat_lt (current table)) u.name table (none_above (current table) table (itself (current table)))) at among,
)
  where
    itself : (n : ℕ) → n ≤ n
    itself n = omega arith

in_range : (n v : ℕ) → (v == 0) ≡ false → nat_lt n v ≡ false → (k : ℕ) × (v ≡ 1 + k) × (k < n)
in_range n zero not_zero most = absurd (not_so (sym not_zero))
in_range n (suc v) not_zero most = (v, omega arith, within n v most)
  where
    within : (a b : ℕ) → nat_lt a (suc b) ≡ false → b < a
    within a b h = grind (arith, nat_tests, h)

shares : (table : Table) (uses : Record) → in_table is_zero table ≡ false → 0 < current table → IsConsistent table uses
    → (v : ℕ) × Contains (shared table uses) v
shares table [] none has (v, all) = (1, kept (λ n. true) 1 1 (current table) 0 one has refl)
  where
    one : 1 ≡ 1 + 0
    one = omega arith
shares table (u ∷ uses) none has (v, all) =
    let is = is_version table v u none (All-head (HasVersion table v) u uses all) in
    let within = in_range (current table) v is.0 is.1 in (
      v,
      kept (λ n. list_all (has_version table n) (u ∷ uses)) v 1 (current table) within.0 within.1 within.2
          (all_have table v (u ∷ uses) all),
    )

-- ---- in each world that a run comes to

move_none : (t : ℕ) (w : World) (o : Option World) → in_table is_zero w.table ≡ false → AllOf (Keeps t w) o
    → AllOf (λ after. in_table is_zero after.table ≡ false) o
move_none t w None h k = tt
move_none t w (Some after) h k = ap (in_table is_zero) k.same_table ∙ h

install_none : (w : World) (q : Option (List BareDef)) → in_table is_zero w.table ≡ false
    → AllOf (λ after. in_table is_zero after.table ≡ false) (install w q)
install_none w None h = tt
install_none w (Some q) h = by (is_over w)
  where
    by : (b : Bool) → AllOf (λ after. in_table is_zero after.table ≡ false) (if b then None else Some (installed q w))
    by true = tt
    by false = next_none is_zero (current w.table) w.text q w.table (not_zero (current w.table)) h
      where
        not_zero : (n : ℕ) → (suc n == 0) ≡ false
        not_zero n = grind (arith, nat_tests)

step_none : (texts : List (List BareDef)) (m : SourceMove) (w : World) → in_table is_zero w.table ≡ false
    → AllOf (λ after. in_table is_zero after.table ≡ false) (step texts m w)
step_none texts (Move t) w h = move_none t w (move w t) h (move_keeps w t)
step_none texts (Install k) w h = install_none w (slice_get texts k) h

run_none : (texts : List (List BareDef)) (ms : List SourceMove) (w : World) → in_table is_zero w.table ≡ false
    → AllOf (λ after. in_table is_zero after.table ≡ false) (run texts ms w)
run_none texts [] w h = h
run_none texts (m ∷ ms) w h = by (step texts m w) (step_none texts m w h) (run_none texts ms)
  where
    by : (o : Option World) → AllOf (λ after. in_table is_zero after.table ≡ false) o
        → ((mid : World) → in_table is_zero mid.table ≡ false → AllOf (λ after. in_table is_zero after.table ≡ false) (run texts ms mid))
        → AllOf (λ after. in_table is_zero after.table ≡ false) (option_and_then (run texts ms) o)
    by None i rest = tt
    by (Some mid) i rest = rest mid i

start_none : (texts : List (List BareDef)) (limits : Limits) → AllOf (λ w. in_table is_zero w.table ≡ false) (start texts limits)
start_none [] limits = tt
start_none (text ∷ texts) limits = first_none is_zero refl text (name_set (names text))

pub shared_is_consistent : SharedIsConsistent
shared_is_consistent texts limits ms w after uses started ran has = (
  shares after.table uses
      (of_outcome (λ x. in_table is_zero x.table ≡ false) (run texts ms w) after ran
      (run_none texts ms w (of_outcome (λ x. in_table is_zero x.table ≡ false) (start texts limits) w started (start_none texts limits)))) has,
  λ h. (h.0, have_all after.table h.0 uses (passes (λ v. list_all (has_version after.table v) uses) h.0 _ h.1)),
)
