-- Parts of lists by their place, and what a skeleton has from a point on.
use Rattle.std.proofs.Common.{◌≡◌, ℕ, suc, ◌+◌, List, [], ◌∷◌, ◌++◌, map, length, Some, refl, sym, ◌∙◌, ap, subst, append_assoc, arith, length-append, add-one}
use Rattle.std.specs.Prelude.{slice_get, slice_index_or}
use Rattle.run_types.specs.Skeleton.{PointKind, Point, Skeleton, point_at, successors}
use Rattle.c_semantics.specs.Points.{at_depth}

-- ys is in xs, from place n on
pub record Segment {A : Type 0} (xs ys : List A) (n : ℕ) : Type 0 where
  pub before : List A
  pub behind : List A
  pub whole : xs ≡ before ++ (ys ++ behind)
  pub at : length before ≡ n

left_segment : {A : Type 0} (xs ys zs : List A) (n : ℕ) → Segment xs (ys ++ zs) n → Segment xs ys n
left_segment xs ys zs n s = record {
  before = s.before;
  behind = zs ++ s.behind;
  whole = s.whole ∙ ap (λ x. s.before ++ x) (append_assoc ys zs s.behind);
  at = s.at;
}

right_segment : {A : Type 0} (xs ys zs : List A) (n k : ℕ) → length ys ≡ k → Segment xs (ys ++ zs) n → Segment xs zs (n + k)
right_segment xs ys zs n k e s = record {
  before = s.before ++ ys;
  behind = s.behind;
  whole = s.whole ∙ ap (λ x. s.before ++ x) (append_assoc ys zs s.behind) ∙ sym (append_assoc s.before ys (zs ++ s.behind));
  at = length_of;
}
  where
    length_of : length (s.before ++ ys) ≡ n + k
    length_of = let h = s.at in simp length-append (omega arith)

-- the item at the place of a segment that begins with it
get_after : {A : Type 0} (before : List A) (y : A) (ys : List A) → slice_get (before ++ y ∷ ys) (length before) ≡ Some y
get_after [] y ys = refl
get_after (x ∷ xs) y ys = get_after xs y ys

index_after : {A : Type 0} (before : List A) (y d : A) (ys : List A) → slice_index_or (before ++ y ∷ ys) (length before) d ≡ y
index_after [] y d ys = refl
index_after (x ∷ xs) y d ys = index_after xs y d ys

get_of : {A : Type 0} (xs ys : List A) (y : A) (n : ℕ) → Segment xs (y ∷ ys) n → slice_get xs n ≡ Some y
get_of xs ys y n s =
    ap (λ x. slice_get x n) s.whole ∙ ap (λ m. slice_get (s.before ++ y ∷ (ys ++ s.behind)) m) (sym s.at)
    ∙ get_after s.before y (ys ++ s.behind)

index_of : {A : Type 0} (xs ys : List A) (y d : A) (n : ℕ) → Segment xs (y ∷ ys) n → slice_index_or xs n d ≡ y
index_of xs ys y d n s =
    ap (λ x. slice_index_or x n d) s.whole ∙ ap (λ m. slice_index_or (s.before ++ y ∷ (ys ++ s.behind)) m d) (sym s.at)
    ∙ index_after s.before y d (ys ++ s.behind)

-- a skeleton has these points from point n on, and control may go from them to these
pub record Has (s : Skeleton) (n : ℕ) (ps : List Point) (rs : List (List ℕ)) : Type 0 where
  pub points : Segment s.points ps n
  pub rows : Segment s.next rs n

pub has_left : (s : Skeleton) (n : ℕ) (ps qs : List Point) (rows more : List (List ℕ))
    → Has s n (ps ++ qs) (rows ++ more) → Has s n ps rows
has_left s n ps qs rows more h = record {
  points = left_segment s.points ps qs n h.points;
  rows = left_segment s.next rows more n h.rows;
}

pub has_right : (s : Skeleton) (n k : ℕ) (ps qs : List Point) (rows more : List (List ℕ)) → length ps ≡ k → length rows ≡ k
    → Has s n (ps ++ qs) (rows ++ more) → Has s (n + k) qs more
has_right s n k ps qs rows more e f h = record {
  points = right_segment s.points ps qs n k e h.points;
  rows = right_segment s.next rows more n k f h.rows;
}

pub has_after : (s : Skeleton) (n : ℕ) (p : Point) (ps : List Point) (row : List ℕ) (rows : List (List ℕ))
    → Has s n (p ∷ ps) (row ∷ rows) → Has s (suc n) ps rows
has_after s n p ps row rows h = rw add-one at (has_right s n 1 (p ∷ []) ps (row ∷ []) rows refl refl h)

pub has_point : (s : Skeleton) (n : ℕ) (p : Point) (ps : List Point) (row : List ℕ) (rows : List (List ℕ))
    → Has s n (p ∷ ps) (row ∷ rows) → point_at s n ≡ Some p
has_point s n p ps row rows h = get_of s.points ps p n h.points

pub has_row : (s : Skeleton) (n : ℕ) (p : Point) (ps : List Point) (row : List ℕ) (rows : List (List ℕ))
    → Has s n (p ∷ ps) (row ∷ rows) → successors s n ≡ row
has_row s n p ps row rows h = index_of s.next rows row [] n h.rows

-- points of some kinds at one depth
pub map_append : (d : ℕ) (ks ls : List PointKind) → map (at_depth d) (ks ++ ls) ≡ map (at_depth d) ks ++ map (at_depth d) ls
map_append d [] ls = refl
map_append d (k ∷ ks) ls = ap (λ x. at_depth d k ∷ x) (map_append d ks ls)

pub map_length : (d : ℕ) (ks : List PointKind) → length (map (at_depth d) ks) ≡ length ks
map_length d [] = refl
map_length d (k ∷ ks) = ap suc (map_length d ks)

abbrev pub HasKinds : Skeleton → ℕ → ℕ → List PointKind → List (List ℕ) → Type 0
HasKinds s d n ks rows = Has s n (map (at_depth d) ks) rows

apart : (s : Skeleton) (d n : ℕ) (ks ls : List PointKind) (rows : List (List ℕ)) → HasKinds s d n (ks ++ ls) rows
    → Has s n (map (at_depth d) ks ++ map (at_depth d) ls) rows
apart s d n ks ls rows h = subst (λ ps. Has s n ps rows) (map_append d ks ls) h

pub kinds_left : (s : Skeleton) (d n : ℕ) (ks ls : List PointKind) (rows more : List (List ℕ))
    → HasKinds s d n (ks ++ ls) (rows ++ more) → HasKinds s d n ks rows
kinds_left s d n ks ls rows more h =
    has_left s n (map (at_depth d) ks) (map (at_depth d) ls) rows more (apart s d n ks ls (rows ++ more) h)

pub kinds_right : (s : Skeleton) (d n k : ℕ) (ks ls : List PointKind) (rows more : List (List ℕ)) → length ks ≡ k
    → length rows ≡ k → HasKinds s d n (ks ++ ls) (rows ++ more) → HasKinds s d (n + k) ls more
kinds_right s d n k ks ls rows more e f h =
    has_right s n k (map (at_depth d) ks) (map (at_depth d) ls) rows more (map_length d ks ∙ e) f
    (apart s d n ks ls (rows ++ more) h)
