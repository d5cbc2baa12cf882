-- Points of which each uses a name with a property, in parts of lists and in sets of names.
use Rattle.std.proofs.Common.{◌≡◌, ℕ, Bool, true, false, List, [], ◌∷◌, ◌++◌, map, Option, Some, None, Contains, filter_map, bytes_eq, refl, sym, subst, inl, inr, arith, if◌then◌else◌}
use Rattle.std.specs.List.{cons_option}
use Rattle.std.proofs.lemmas.Slice.Eq.{bytes_eq-Decides}
use Rattle.name_sets.specs.NameLists.{name_set, with_name, precedes}
use Rattle.run_types.specs.Skeleton.{PointKind, Point, Skeleton, direct_use}
use Rattle.c_tree.specs.BareExpr.{Bytes}
use Rattle.c_semantics.specs.Points.{at_depth}
use Rattle.c_semantics.specs.Skeletons.{direct_uses}
use Rattle.typed_uses.proofs.Points.{Each, EachPoint, OfName, either_of, first_of, later_of}

-- nothing is in an empty list
pub none_in : {A : Type 0} (y : A) → Contains [] y → ⊥
none_in y h = let below = h.1 in omega arith

-- the set of some names has each of them
has_new : (n : Bytes) (ns : List Bytes) → Contains (with_name n ns) n
has_new n [] = first_of n []
has_new n (m ∷ ms) = by (bytes_eq n m) refl (precedes n m) (has_new n ms)
  where
    by : (same : Bool) → bytes_eq n m ≡ same → (before : Bool) → Contains (with_name n ms) n
        → Contains (if same then m ∷ ms else (if before then n ∷ m ∷ ms else m ∷ with_name n ms)) n
    by true e before rest = subst (λ x. Contains (m ∷ ms) x) (sym ((bytes_eq-Decides n m).0 e)) (first_of m ms)
    by false e true rest = first_of n (m ∷ ms)
    by false e false rest = later_of m n (with_name n ms) rest

has_old : (name n : Bytes) (ns : List Bytes) → Contains ns name → Contains (with_name n ns) name
has_old name n [] h = later_of n name [] h
has_old name n (m ∷ ms) h = by (bytes_eq n m) (precedes n m) (has_old name n ms)
  where
    by : (same before : Bool) → (Contains ms name → Contains (with_name n ms) name)
        → Contains (if same then m ∷ ms else (if before then n ∷ m ∷ ms else m ∷ with_name n ms)) name
    by true before rest = h
    by false true rest = later_of n name (m ∷ ms) h
    by false false rest = elim (either_of m name ms h) [
      | inl is ↦ subst (Contains (m ∷ with_name n ms)) is (first_of m (with_name n ms))
      | inr there ↦ later_of m name (with_name n ms) (rest there)
    ]

pub into_set : (name : Bytes) (ns : List Bytes) → Contains ns name → Contains (name_set ns) name
into_set name [] h = h
into_set name (n ∷ ns) h = elim (either_of n name ns h) [
  | inl is ↦ subst (Contains (with_name n (name_set ns))) is (has_new n (name_set ns))
  | inr there ↦ has_old name n (name_set ns) (into_set name ns there)
]

module _ (P : Bytes → Type 0) where
  pub points_former : (ps qs : List Point) → EachPoint P (ps ++ qs) → EachPoint P ps
  points_former [] qs a = tt
  points_former (p ∷ ps) qs a = (a.0, points_former ps qs a.1)

  pub points_latter : (ps qs : List Point) → EachPoint P (ps ++ qs) → EachPoint P qs
  points_latter [] qs a = a
  points_latter (p ∷ ps) qs a = points_latter ps qs a.1

  pub from_depth : (depth : ℕ) (ks : List PointKind) → EachPoint P (map (at_depth depth) ks) → Each P ks
  from_depth depth [] a = tt
  from_depth depth (k ∷ ks) a = (a.0, from_depth depth ks a.1)

  use_has_it : (o : Option Bytes) (names : List Bytes) → ((u : Bytes) → Contains (cons_option o names) u → P u) → OfName P o
  use_has_it None names all = tt
  use_has_it (Some n) names all = all n (first_of n names)

  others_have_it : (o : Option Bytes) (names : List Bytes) → ((u : Bytes) → Contains (cons_option o names) u → P u)
      → (u : Bytes) → Contains names u → P u
  others_have_it None names all u h = all u h
  others_have_it (Some n) names all u h = all u (later_of n u names h)

  points_have_it : (ps : List Point) → ((u : Bytes) → Contains (filter_map (λ p. direct_use p.kind) ps) u → P u) → EachPoint P ps
  points_have_it [] all = tt
  points_have_it (p ∷ ps) all = (
    use_has_it (direct_use p.kind) (filter_map (λ q. direct_use q.kind) ps) all,
    points_have_it ps (others_have_it (direct_use p.kind) (filter_map (λ q. direct_use q.kind) ps) all),
  )

  -- where each direct use of a skeleton has the property, so has each of its points
  pub each_point_has_it : (s : Skeleton) → ((u : Bytes) → Contains (direct_uses s) u → P u) → EachPoint P s.points
  each_point_has_it s all =
      points_have_it s.points (λ u h. all u (into_set u (filter_map (λ p. direct_use p.kind) s.points) h))
