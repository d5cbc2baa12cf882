-- What is said of a point of a store, as tests and lists that compute.
use Rattle.std.proofs.Common.{◌≡◌, ℕ, zero, suc, ◌<◌, length, arith, Bool, true, false, ◌&&◌, ◌||◌, List, [], ◌∷◌, Some, None, refl, sym, subst, ap, inl, inr}
use Rattle.std.specs.Prelude.{Option, bytes_eq, option_map, slice_get, slice_index_or}
use Rattle.std.specs.Option.{option_and_then, option_map_or}
use Rattle.std.specs.List.{list_any}
use Rattle.std.proofs.lemmas.Slice.Eq.{bytes_eq-Decides}
use Rattle.name_sets.specs.NameLists.{is_among}
use Rattle.con_freeness.specs.Rows.{Names}
use Rattle.run_types.specs.Skeleton.{Point, PointKind, Return, Call, direct_use, successors}
use Rattle.c_tree.specs.BareExpr.{Bytes}
use Rattle.c_semantics.specs.Store.{Body}
use Rattle.effects.specs.Sites.{Site, IsOf, IsCall, IsReturn, Next, Passes, Uses, point_in, function_in}
use Rattle.effects.proofs.Reachable.{Among}
use Rattle.effects.proofs.Deciding.{callee}
use Rattle.effects.proofs.OneRow.{cases_of}

-- whether a test passes for all of some
abbrev pub all : {A : Type 0} → (A → Bool) → List A → Bool
all test [] = true
all test (x ∷ xs) = test x && all test xs

pub both : (a b : Bool) → (a && b) ≡ true → (a ≡ true) × (b ≡ true)
both true b e = (refl, e)
both false b e = cc

pub each : {A : Type 0} (test : A → Bool) (xs : List A) (x : A) → all test xs ≡ true → Among xs x → test x ≡ true
each test [] x e m = absurd m
each test (y ∷ xs) x e (inl same) = subst (λ z. test z ≡ true) same (both (test y) (all test xs) e).0
each test (y ∷ xs) x e (inr m) = each test xs x (both (test y) (all test xs) e).1 m

abbrev pub if_then : Bool → Bool → Bool
if_then true b = b
if_then false b = true

pub conclusion : (a b : Bool) → if_then a b ≡ true → a ≡ true → b ≡ true
conclusion true b e f = e
conclusion false b e f = cc

-- whether some names are among others
abbrev pub lie_in : Names → Names → Bool
lie_in a b = all (is_among b) a

pub lies : (a b : Names) (z : Bytes) → lie_in a b ≡ true → is_among a z ≡ true → is_among b z ≡ true
lies [] b z e f = cc
lies (n ∷ a) b z e f =
    let x = both (is_among b n) (lie_in a b) e in
    elim (cases_of z n a f) [ inl same ↦ subst (λ m. is_among b m ≡ true) (sym same) x.0 | inr g ↦ lies a b z x.1 g ]

-- what a point is, as lists
abbrev pub items : {A : Type 0} → Option A → List A
items None = []
items (Some x) = x ∷ []

pub item_of : {A : Type 0} (o : Option A) (x : A) → o ≡ Some x → Among (items o) x
item_of None x e = cc
item_of (Some y) x e = inl (same y x e)
  where
    same : {A : Type 0} (a b : A) → Some a ≡ Some b → a ≡ b
    same a b e = cc

abbrev pub functions_at : List Body → Site → List Bytes
functions_at bodies p = items (function_in bodies p)

abbrev pub calls_at : List Body → Site → List Bytes
calls_at bodies p = items (option_and_then (λ at. callee at.kind) (point_in bodies p))

abbrev pub uses_at : List Body → Site → List Bytes
uses_at bodies p = items (option_and_then (λ at. direct_use at.kind) (point_in bodies p))

abbrev pub passes_at : List Body → Site → (Point → Bool) → Bool
passes_at bodies p test = option_map_or test (point_in bodies p) false

abbrev pub is_return : PointKind → Bool
is_return Return = true
is_return k = false

abbrev pub sites_in : ℕ → List ℕ → List Site
sites_in i [] = []
sites_in i (n ∷ ns) = record { body = i; point = n } ∷ sites_in i ns

abbrev pub after_in : ℕ → ℕ → Option Body → List Site
after_in i n None = []
after_in i n (Some b) = sites_in i (successors b.skeleton n)

abbrev pub followers : List Body → Site → List Site
followers bodies p = after_in p.body p.point (slice_get bodies p.body)

pub of_at : (bodies : List Body) (p : Site) (f : Bytes) → IsOf bodies p f → Among (functions_at bodies p) f
of_at bodies p f x = item_of (function_in bodies p) f x.is_of

pub call_at : (bodies : List Body) (p : Site) (f : Bytes) → IsCall bodies p f → Among (calls_at bodies p) f
call_at bodies p f x = by (point_in bodies p) x.is_kind
  where
    same : (k : PointKind) → Some k ≡ Some (Call f) → k ≡ Call f
    same k e = cc

    by : (o : Option Point) → option_map (λ at. at.kind) o ≡ Some (Call f)
        → Among (items (option_and_then (λ at. callee at.kind) o)) f
    by None e = cc
    by (Some at) e = subst (λ k. Among (items (callee k)) f) (sym (same at.kind e)) (inl refl)

pub use_at : (bodies : List Body) (p : Site) (z : Bytes) → Uses bodies p z → Among (uses_at bodies p) z
use_at bodies p z x = item_of (option_and_then (λ at. direct_use at.kind) (point_in bodies p)) z x.uses

pub pass_at : (bodies : List Body) (p : Site) (test : Point → Bool) → Passes bodies p test → passes_at bodies p test ≡ true
pass_at bodies p test x = by (point_in bodies p) x.passes
  where
    same : (b : Bool) → Some b ≡ Some true → b ≡ true
    same b e = cc

    by : (o : Option Point) → option_map test o ≡ Some true → option_map_or test o false ≡ true
    by None e = cc
    by (Some at) e = same (test at) e

pub return_at : (bodies : List Body) (p : Site) (f : Bytes) → IsReturn bodies p f → passes_at bodies p (λ at. is_return at.kind) ≡ true
return_at bodies p f x = by (point_in bodies p) x.is_return.is_kind
  where
    same : (k : PointKind) → Some k ≡ Some Return → k ≡ Return
    same k e = cc

    by : (o : Option Point) → option_map (λ at. at.kind) o ≡ Some Return
        → option_map_or (λ at. is_return at.kind) o false ≡ true
    by None e = cc
    by (Some at) e = ap is_return (same at.kind e)

-- a number of a list
pub there : (i : ℕ) (ns : List ℕ) (n k : ℕ) → k < length ns → slice_index_or ns k n ≡ n
    → Among (sites_in i ns) (record { body = i; point = n })
there i [] n k l e = absurd (none l)
  where
    none : k < 0 → ⊥
    none l = omega arith
there i (m ∷ ns) n zero l e = inl (ap (λ j. record { body = i; point = j }) e)
there i (m ∷ ns) n (suc k) l e = inr (there i ns n k (omega arith) e)

pub next_at : (bodies : List Body) (p q : Site) → Next bodies p q → Among (followers bodies p) q
next_at bodies p q x =
    let c = x.leads.leads in
    subst (λ o. Among (after_in p.body p.point o) q) (sym x.stored)
    (subst (λ i. Among (sites_in i (successors x.body.skeleton p.point)) q) x.same
    (there q.body (successors x.body.skeleton p.point) q.point c.0 c.1 c.2))

pub or_left : (a b : Bool) → a ≡ true → (a || b) ≡ true
or_left true b e = refl
or_left false b e = cc

pub or_right : (a b : Bool) → b ≡ true → (a || b) ≡ true
or_right true b e = refl
or_right false b e = e

pub any_of : {A : Type 0} (test : A → Bool) (xs : List A) (x : A) → Among xs x → test x ≡ true → list_any test xs ≡ true
any_of test [] x m e = absurd m
any_of test (y ∷ xs) x (inl same) e = or_left (test y) (list_any test xs) (subst (λ z. test z ≡ true) (sym same) e)
any_of test (y ∷ xs) x (inr m) e = or_right (test y) (list_any test xs) (any_of test xs x m e)

pub among_names : (names : List Bytes) (z : Bytes) → Among names z → is_among names z ≡ true
among_names [] z m = absurd m
among_names (n ∷ names) z (inl same) =
    or_left (bytes_eq z n) (is_among names z) ((bytes_eq-Decides z n).1 (sym same))
among_names (n ∷ names) z (inr m) = or_right (bytes_eq z n) (is_among names z) (among_names names z m)
