-- Points of code in parts.
use Rattle.std.proofs.Common.{◌≡◌, ℕ, suc, ◌+◌, List, [], ◌∷◌, ◌++◌, map, length, Option, Some, None, refl, sym, ◌∙◌, ap, subst, append_assoc, append-nil, arith, length-append}
use Rattle.run_types.specs.CheckIns as check_in
use Rattle.run_types.specs.Skeleton.{PointKind, Point, depth_after}
use Rattle.run_types.specs.Skeleton as kind
use Rattle.c_semantics.specs.Points.{at_depth}
use Rattle.c_semantics.specs.Stops as stop
use Rattle.bytecode.specs.Instructions.{Instruction, Halt, CheckIn}
use Rattle.tree_code.specs.Code.{Code}
use Rattle.code_points.specs.CodePoints.{CodePoint, HasNumber, Numbered, next_number, past, placed, point_of, points_from}

-- the depth after some code
abbrev pub depth_over : ℕ → Code → ℕ
depth_over depth [] = depth
depth_over depth (i ∷ is) = depth_over (past depth (point_of i)) is

points_append : (d : ℕ) (a b : Code) → points_from d (a ++ b) ≡ points_from d a ++ points_from (depth_over d a) b
points_append d [] b = refl
points_append d (i ∷ a) b =
    ap (λ x. placed d (point_of i) ++ x) (points_append (past d (point_of i)) a b)
    ∙ sym (append_assoc (placed d (point_of i)) (points_from (past d (point_of i)) a) (points_from (depth_over (past d (point_of i)) a) b))

depth_append : (d : ℕ) (a b : Code) → depth_over d (a ++ b) ≡ depth_over (depth_over d a) b
depth_append d [] b = refl
depth_append d (i ∷ a) b = depth_append (past d (point_of i)) a b

none_more : (n : ℕ) → n + 0 ≡ n
none_more n = omega arith

one_more : (n k : ℕ) → n + suc k ≡ suc n + k
one_more n k = omega arith

counted : (n d : ℕ) (o : Option CodePoint) (xs : List Point) → n + length (placed d o ++ xs) ≡ next_number n o + length xs
counted n d None xs = refl
counted n d (Some x) xs = one_more n (length xs)

numbers_append : (n d : ℕ) (a b : Code) → Numbered n a → Numbered (n + length (points_from d a)) b → Numbered n (a ++ b)
numbers_append n d [] b h k = subst (λ m. Numbered m b) (none_more n) k
numbers_append n d (i ∷ a) b h k =
    let o = point_of i in (
      h.0,
      numbers_append (next_number n o) (past d o) a b h.1
          (subst (λ m. Numbered m b) (counted n d o (points_from (past d o) a)) k),
    )

-- some code has the points from n on up to m; at each depth it has these, and leaves the depth as it was
pub record Covers (n : ℕ) (code : Code) (ps : ℕ → List Point) (m : ℕ) : Type 0 where
  pub numbers : Numbered n code
  pub points : (d : ℕ) → points_from d code ≡ ps d
  pub level : (d : ℕ) → depth_over d code ≡ d
  pub ends : m ≡ n + length (ps 0)

pub joined : {n k m : ℕ} {a b : Code} {ps qs : ℕ → List Point} → Covers n a ps k → Covers k b qs m
    → Covers n (a ++ b) (λ d. ps d ++ qs d) m
joined {n} {k} {m} {a} {b} {ps} {qs} f g = record {
  numbers = numbers_append n 0 a b f.numbers (subst (λ x. Numbered x b) (f.ends ∙ ap (λ x. n + length x) (sym (f.points 0))) g.numbers);
  points = points_of;
  level = λ d. depth_append d a b ∙ ap (λ x. depth_over x b) (f.level d) ∙ g.level d;
  ends = sum (length (ps 0)) (length (qs 0)) (length (ps 0 ++ qs 0)) f.ends g.ends (length-append (ps 0) (qs 0));
}
  where
    points_of : (d : ℕ) → points_from d (a ++ b) ≡ ps d ++ qs d
    points_of d =
        points_append d a b ∙ ap (λ x. points_from d a ++ points_from x b) (f.level d)
        ∙ ap (λ x. x ++ points_from d b) (f.points d) ∙ ap (λ x. ps d ++ x) (g.points d)

    sum : (x y z : ℕ) → k ≡ n + x → m ≡ k + y → z ≡ x + y → m ≡ n + z
    sum x y z p q r = omega (arith, p, q, r)

-- an instruction that is no point, before some code
pub passed : {n m : ℕ} {a : Code} {ps : ℕ → List Point} (i : Instruction) → point_of i ≡ None → Covers n a ps m → Covers n (i ∷ a) ps m
passed {n} {m} {a} {ps} i e f = record {
  numbers = subst (λ o. HasNumber n o × Numbered (next_number n o) a) (sym e) (tt, f.numbers);
  points = λ d. subst (λ o. placed d o ++ points_from (past d o) a ≡ ps d) (sym e) (f.points d);
  level = λ d. subst (λ o. depth_over (past d o) a ≡ d) (sym e) (f.level d);
  ends = f.ends;
}

-- at each depth as many points
one_longer : (d e : ℕ) (o : Option CodePoint) (xs ys : List Point) → length xs ≡ length ys
    → length (placed d o ++ xs) ≡ length (placed e o ++ ys)
one_longer d e None xs ys h = h
one_longer d e (Some x) xs ys h = ap suc h

as_many : (d e : ℕ) (a : Code) → length (points_from d a) ≡ length (points_from e a)
as_many d e [] = refl
as_many d e (i ∷ a) =
    let o = point_of i in
    one_longer d e o (points_from (past d o) a) (points_from (past e o) a) (as_many (past d o) (past e o) a)

-- the same points in other words
pub same : {n m : ℕ} {a : Code} {ps : ℕ → List Point} (qs : ℕ → List Point) → ((d : ℕ) → ps d ≡ qs d) → Covers n a ps m → Covers n a qs m
same {n} qs e f = record {
  numbers = f.numbers;
  points = λ d. f.points d ∙ e d;
  level = f.level;
  ends = f.ends ∙ ap (λ x. n + length x) (e 0);
}

-- up to its own end
pub closed : {n m : ℕ} {a : Code} {ps : ℕ → List Point} → Covers n a ps m → Covers n a ps (n + length (ps 0))
closed f = record { numbers = f.numbers; points = f.points; level = f.level; ends = refl }

-- some code within a transaction
pub in_transaction : {n m : ℕ} {a : Code} {ps : ℕ → List Point} → Covers (n + 2) a ps m
    → Covers n (Halt stop.Begin n ∷ CheckIn check_in.Begin (suc n) ∷ a ++ Halt stop.End m ∷ CheckIn check_in.End (suc m) ∷ [])
    (λ d. at_depth d kind.Begin ∷ at_depth (suc d) (kind.CheckIn check_in.Begin) ∷ ps (suc d)
    ++ at_depth (suc d) kind.End ∷ at_depth d (kind.CheckIn check_in.End) ∷ [])
    (suc (suc m))
in_transaction {n} {m} {a} {ps} f = record {
  numbers = (
    refl,
    (
      refl,
      numbers_append (suc (suc n)) 0 a end (subst (λ x. Numbered x a) two_on f.numbers)
          (subst (λ x. Numbered x end) behind (refl, (refl, tt))),
    ),
  );
  points = λ d. ap (λ x. at_depth d kind.Begin ∷ at_depth (suc d) (kind.CheckIn check_in.Begin) ∷ x) (inner d);
  level = λ d. depth_append (suc d) a end ∙ ap (λ x. depth_over x end) (f.level (suc d));
  ends = sum (length (ps 0)) (length (ps 1)) (length (ps 1 ++ last 0)) f.ends
      (sym (ap length (f.points 0)) ∙ as_many 0 1 a ∙ ap length (f.points 1)) (length-append (ps 1) (last 0));
}
  where
    end : Code
    end = Halt stop.End m ∷ CheckIn check_in.End (suc m) ∷ []

    last : ℕ → List Point
    last d = at_depth (suc d) kind.End ∷ at_depth d (kind.CheckIn check_in.End) ∷ []

    two_on : n + 2 ≡ suc (suc n)
    two_on = omega arith

    behind : m ≡ suc (suc n) + length (points_from 0 a)
    behind = f.ends ∙ ap (λ x. n + 2 + x) (sym (ap length (f.points 0))) ∙ ap (λ x. x + length (points_from 0 a)) two_on

    inner : (d : ℕ) → points_from (suc d) (a ++ end) ≡ ps (suc d) ++ last d
    inner d =
        points_append (suc d) a end ∙ ap (λ x. points_from (suc d) a ++ points_from x end) (f.level (suc d))
        ∙ ap (λ x. x ++ last d) (f.points (suc d))

    sum : (x y z : ℕ) → m ≡ n + 2 + x → x ≡ y → z ≡ y + 2 → suc (suc m) ≡ n + suc (suc z)
    sum x y z p q r = omega (arith, p, q, r)

-- ---- points at one depth

-- some code has points of these kinds, from n on up to m
pub record Kinds (n : ℕ) (code : Code) (ks : List PointKind) (m : ℕ) : Type 0 where
  pub numbers : Numbered n code
  pub points : (d : ℕ) → points_from d code ≡ map (at_depth d) ks
  pub level : (d : ℕ) → depth_over d code ≡ d
  pub ends : m ≡ n + length ks

map_append : (d : ℕ) (ks ls : List PointKind) → map (at_depth d) (ks ++ ls) ≡ map (at_depth d) ks ++ map (at_depth d) ls
map_append d [] ls = refl
map_append d (k ∷ ks) ls = ap (λ x. at_depth d k ∷ x) (map_append d ks ls)

map_length : (d : ℕ) (ks : List PointKind) → length (map (at_depth d) ks) ≡ length ks
map_length d [] = refl
map_length d (k ∷ ks) = ap suc (map_length d ks)

pub at_depths : {n m : ℕ} {a : Code} {ks : List PointKind} → Kinds n a ks m → Covers n a (λ d. map (at_depth d) ks) m
at_depths {n} {m} {a} {ks} f = record {
  numbers = f.numbers;
  points = f.points;
  level = f.level;
  ends = f.ends ∙ ap (λ x. n + x) (sym (map_length 0 ks));
}

of_one_depth : {n m : ℕ} {a : Code} {ks : List PointKind} → Covers n a (λ d. map (at_depth d) ks) m → Kinds n a ks m
of_one_depth {n} {m} {a} {ks} f = record {
  numbers = f.numbers;
  points = f.points;
  level = f.level;
  ends = f.ends ∙ ap (λ x. n + x) (map_length 0 ks);
}

-- the one and then the other
pub and_then : {n k m : ℕ} {a b : Code} {ks ls : List PointKind} → Kinds n a ks k → Kinds k b ls m → Kinds n (a ++ b) (ks ++ ls) m
and_then {n} {k} {m} {a} {b} {ks} {ls} f g =
    of_one_depth (same (λ d. map (at_depth d) (ks ++ ls)) (λ d. sym (map_append d ks ls)) (joined (at_depths f) (at_depths g)))

pub whole : {n m : ℕ} {a : Code} {ks : List PointKind} → Kinds n a ks m → Kinds n a ks (n + length ks)
whole f = record { numbers = f.numbers; points = f.points; level = f.level; ends = refl }

-- code without points
abbrev pub Quiet : Code → Type 0
Quiet code = (n : ℕ) → Kinds n code [] n

pub nothing : Quiet []
nothing n = record { numbers = tt; points = λ d. refl; level = λ d. refl; ends = sym (none_more n) }

-- an instruction that is no point, before some code
pub private : {n m : ℕ} {a : Code} {ks : List PointKind} (i : Instruction) → point_of i ≡ None → Kinds n a ks m → Kinds n (i ∷ a) ks m
private i e f = of_one_depth (passed i e (at_depths f))

pub quiet_then : {a : Code} (i : Instruction) → point_of i ≡ None → Quiet a → Quiet (i ∷ a)
quiet_then i e q n = private i e (q n)

-- a point that leaves the depth as it is, before some code
pub point_then : {n m : ℕ} {a : Code} {ks : List PointKind} (i : Instruction) (k : PointKind) → point_of i ≡ Some (record { number = n; kind = k })
    → ((d : ℕ) → depth_after k d ≡ d) → Kinds (suc n) a ks m → Kinds n (i ∷ a) (k ∷ ks) m
point_then {n} {m} {a} {ks} i k e flat f = record {
  numbers = subst (λ o. HasNumber n o × Numbered (next_number n o) a) (sym e) (refl, f.numbers);
  points = λ d. subst (λ o. placed d o ++ points_from (past d o) a ≡ map (at_depth d) (k ∷ ks)) (sym e)
      (ap (λ x. at_depth d k ∷ x) (subst (λ x. points_from x a ≡ map (at_depth d) ks) (sym (flat d)) (f.points d)));
  level = λ d. subst (λ o. depth_over (past d o) a ≡ d) (sym e) (subst (λ x. depth_over x a ≡ d) (sym (flat d)) (f.level d));
  ends = f.ends ∙ sym (one_more n (length ks));
}

-- code without points behind some, and before some
pub then_quiet : {n m : ℕ} {a : Code} {ks : List PointKind} (b : Code) → Quiet b → Kinds n a ks m → Kinds n (a ++ b) ks m
then_quiet {n} {m} {a} {ks} b q f = subst (λ x. Kinds n (a ++ b) x m) (append-nil ks) (and_then f (q m))

pub then_pass : {n m : ℕ} {a : Code} {ps : ℕ → List Point} (b : Code) → Quiet b → Covers n a ps m → Covers n (a ++ b) ps m
then_pass {n} {m} {a} {ps} b q f = same ps (λ d. append-nil (ps d)) (joined f (at_depths (q m)))

-- code in three parts
pub apart : {n m : ℕ} {ks : List PointKind} (a b c : Code) → Kinds n (a ++ b ++ c) ks m → Kinds n (a ++ (b ++ c)) ks m
apart {n} {m} {ks} a b c f = subst (λ x. Kinds n x ks m) (append_assoc a b c) f
