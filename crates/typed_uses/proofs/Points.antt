-- Points of which each uses a name with a property, if it uses one.
use Rattle.std.proofs.Common.{◌≡◌, ℕ, zero, suc, ◌<◌, ◌⊎◌, length, Bool, true, false, List, [], ◌∷◌, ◌++◌, map, Option, Some, None, Contains, filter_map, get_or, bytes_eq, refl, subst, inl, inr, arith, if◌then◌else◌}
use Rattle.std.specs.List.{cons_option}
use Rattle.name_sets.specs.NameLists.{name_set, with_name, precedes}
use Rattle.run_types.specs.Skeleton.{PointKind, Point, Skeleton, direct_use}
use Rattle.c_tree.specs.BareExpr.{Bytes}
use Rattle.c_semantics.specs.Points.{at_depth}
use Rattle.c_semantics.specs.Skeletons.{direct_uses}

-- what an element of a longer list is
pub first_of : {A : Type 0} (x : A) (xs : List A) → Contains (x ∷ xs) x
first_of x xs = (0, omega arith, refl)

pub later_of : {A : Type 0} (x y : A) (xs : List A) → Contains xs y → Contains (x ∷ xs) y
later_of x y xs h = let below = h.1 in (suc h.0, omega arith, h.2)

pub either_of : {A : Type 0} (x y : A) (xs : List A) → Contains (x ∷ xs) y → (x ≡ y) ⊎ Contains xs y
either_of x y xs h = at h.0 h.1 h.2
  where
    at : (k : ℕ) → k < length (x ∷ xs) → get_or (x ∷ xs) k y ≡ y → (x ≡ y) ⊎ Contains xs y
    at zero below is = inl is
    at (suc k) below is = inr (k, omega arith, is)

none_of : {A : Type 0} (y : A) → Contains [] y → ⊥
none_of y h = let below = h.1 in omega arith

-- a set has the names that it is made of
in_more : (name n : Bytes) (ns : List Bytes) → Contains (with_name n ns) name → (n ≡ name) ⊎ Contains ns name
in_more name n [] h = either_of n name [] h
in_more name n (m ∷ ms) h = by (bytes_eq n m) (precedes n m) (in_more name n ms) h
  where
    by : (same before : Bool) → (Contains (with_name n ms) name → (n ≡ name) ⊎ Contains ms name)
        → Contains (if same then m ∷ ms else (if before then n ∷ m ∷ ms else m ∷ with_name n ms)) name
        → (n ≡ name) ⊎ Contains (m ∷ ms) name
    by true before rest h = inr h
    by false true rest h = either_of n name (m ∷ ms) h
    by false false rest h =
        elim (either_of m name (with_name n ms) h) [
          | inl is ↦ inr (subst (Contains (m ∷ ms)) is (first_of m ms))
          | inr later ↦ elim (rest later) [ inl is ↦ inl is | inr there ↦ inr (later_of m name ms there) ]
        ]

in_set : (name : Bytes) (ns : List Bytes) → Contains (name_set ns) name → Contains ns name
in_set name [] h = h
in_set name (n ∷ ns) h = elim (in_more name n (name_set ns) h) [
  | inl is ↦ subst (Contains (n ∷ ns)) is (first_of n ns)
  | inr there ↦ later_of n name ns (in_set name ns there)
]

module _ (P : Bytes → Type 0) where
  -- the name that may be there has the property
  abbrev pub OfName : Option Bytes → Type 0
  OfName None = Unit {0}
  OfName (Some name) = P name

  -- kinds of points, and points
  abbrev pub Each : List PointKind → Type 0
  Each [] = Unit {0}
  Each (k ∷ ks) = OfName (direct_use k) × Each ks

  abbrev pub EachPoint : List Point → Type 0
  EachPoint [] = Unit {0}
  EachPoint (p ∷ ps) = OfName (direct_use p.kind) × EachPoint ps

  pub together : (ks ls : List PointKind) → Each ks → Each ls → Each (ks ++ ls)
  together [] ls a b = b
  together (k ∷ ks) ls a b = (a.0, together ks ls a.1 b)

  pub former : (ks ls : List PointKind) → Each (ks ++ ls) → Each ks
  former [] ls a = tt
  former (k ∷ ks) ls a = (a.0, former ks ls a.1)

  pub latter : (ks ls : List PointKind) → Each (ks ++ ls) → Each ls
  latter [] ls a = a
  latter (k ∷ ks) ls a = latter ks ls a.1

  pub points_together : (ps qs : List Point) → EachPoint ps → EachPoint qs → EachPoint (ps ++ qs)
  points_together [] qs a b = b
  points_together (p ∷ ps) qs a b = (a.0, points_together ps qs a.1 b)

  pub at : (depth : ℕ) (ks : List PointKind) → Each ks → EachPoint (map (at_depth depth) ks)
  at depth [] a = tt
  at depth (k ∷ ks) a = (a.0, at depth ks a.1)

  use_has_it : (o : Option Bytes) (names : List Bytes) (name : Bytes) → OfName o → (Contains names name → P name) →
      Contains (cons_option o names) name → P name
  use_has_it None names name a rest h = rest h
  use_has_it (Some n) names name a rest h = elim (either_of n name names h) [ inl is ↦ subst P is a | inr there ↦ rest there ]

  listed_has_it : (ps : List Point) (name : Bytes) → EachPoint ps → Contains (filter_map (λ p. direct_use p.kind) ps) name → P name
  listed_has_it [] name a h = absurd (none_of name h)
  listed_has_it (p ∷ ps) name a h =
      use_has_it (direct_use p.kind) (filter_map (λ q. direct_use q.kind) ps) name a.0 (listed_has_it ps name a.1) h

  -- so each direct use of a skeleton has it
  pub each_use_has_it : (s : Skeleton) (name : Bytes) → EachPoint s.points → Contains (direct_uses s) name → P name
  each_use_has_it s name a h = listed_has_it s.points name a (in_set name (filter_map (λ p. direct_use p.kind) s.points) h)
