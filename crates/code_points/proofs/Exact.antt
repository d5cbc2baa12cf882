-- From which place control may go to exactly which points.
use Rattle.std.proofs.Common.{◌≡◌, ◌≢◌, ℕ, suc, ◌+◌, true, false, List, [], ◌∷◌, ◌++◌, length, slice_get, Option, Some, None, refl, sym, ◌∙◌, ap, subst, arith, inl, inr}
use Rattle.std.specs.Prelude.{◌⊎◌, IsTrue}
use Rattle.run_types.specs.CheckIns.{CheckInKind}
use Rattle.c_semantics.specs.Stops.{Stop}
use Rattle.c_semantics.specs.Stops as stop
use Rattle.c_semantics.specs.Skeletons.{Flow, Part, union}
use Rattle.bytecode.specs.Instructions.{Instruction, Jump, Halt, Back, CheckIn}
use Rattle.tree_code.specs.Code.{Code}
use Rattle.tree_code.proofs.CodePlaces.{Span}
use Rattle.code_points.specs.CodePoints.{CodePoint, point_of}
use Rattle.code_points.specs.CodeWays.{GoesFrom, Ways, arrives, checked_in, distance_of, goes_on, leaps, steps, stopped, turned}
use Rattle.code_points.proofs.Sets.{In, here, in_left, in_one, in_right, nothing_in, the_only}

-- what holds of the same numbers as membership in a list
pub record Exactly (P : ℕ → Type 0) (to : List ℕ) : Type 0 where
  pub sound : (n : ℕ) → P n → In n to
  pub complete : (n : ℕ) → In n to → P n

-- an option is something or nothing, and something once
pub none_some : {A : Type 0} {o : Option A} {x : A} → o ≡ None → o ≡ Some x → ⊥
none_some {A} {o} {x} e f = subst filled (sym f ∙ e) tt
  where
    filled : Option A → Type 0
    filled None = ⊥
    filled (Some y) = Unit {0}

pub same_item : {A : Type 0} {o : Option A} {x y : A} → o ≡ Some x → o ≡ Some y → x ≡ y
same_item {A} {o} {x} {y} e f = ap held (sym e ∙ f)
  where
    held : Option A → A
    held None = x
    held (Some z) = z

pub never : false ≡ true → ⊥
never e = cc

-- an instruction that leads to the next one alone
pub record Private (i : Instruction) : Type 0 where
  pub none : point_of i ≡ None
  pub near : distance_of i ≡ None
  pub on : IsTrue (goes_on i)

-- a jump that isn't always taken, of a distance
pub record Forks (i : Instruction) (d : ℕ) : Type 0 where
  pub none : point_of i ≡ None
  pub far : distance_of i ≡ Some d
  pub on : IsTrue (goes_on i)

-- a point with a number
pub record Rests (i : Instruction) (n : ℕ) : Type 0 where
  pub point : CodePoint
  pub is_point : point_of i ≡ Some point
  pub numbered : point.number ≡ n
  pub near : distance_of i ≡ None
  pub stays : IsTrue (goes_on i) → ⊥

module _ (code : Code) where
  -- from a place control may come to exactly these points
  abbrev pub From : ℕ → List ℕ → Type 0
  From p to = Exactly (Ways code p) to

  -- what a way from an instruction begins with
  data Kind (p n : ℕ) (i : Instruction) : Type 0 where
    is_there : (x : CodePoint) → point_of i ≡ Some x → x.number ≡ n → Kind p n i
    goes : IsTrue (goes_on i) → Ways code (suc p) n → Kind p n i
    jumps : (d : ℕ) → distance_of i ≡ Some d → Ways code (suc p + d) n → Kind p n i

  kind_of : (p n : ℕ) (i : Instruction) → slice_get code p ≡ Some i → Ways code p n → Kind p n i
  kind_of p n i e (arrives q j x f k) = is_there x (subst (λ y. point_of y ≡ Some x) (same_item f e) k) refl
  kind_of p n i e (steps q m j f g w) = goes (subst (λ y. IsTrue (goes_on y)) (same_item f e) g) w
  kind_of p n i e (leaps q d m j f g w) = jumps d (subst (λ y. distance_of y ≡ Some d) (same_item f e) g) w

  -- ---- from an instruction

  pub straight : {p : ℕ} {to : List ℕ} (i : Instruction) → Private i → slice_get code p ≡ Some i → From (suc p) to → From p to
  straight {p} {to} i k e f = record {
    sound = λ n w. by n (kind_of p n i e w);
    complete = λ n j. steps p n i e k.on (f.complete n j);
  }
    where
      by : (n : ℕ) → Kind p n i → In n to
      by n (is_there x g h) = absurd (none_some k.none g)
      by n (goes t w) = f.sound n w
      by n (jumps d g w) = absurd (none_some k.near g)

  pub jumped : {p d : ℕ} {to : List ℕ} → slice_get code p ≡ Some (Jump d) → From (suc p + d) to → From p to
  jumped {p} {d} {to} e f = record {
    sound = λ n w. by n (kind_of p n (Jump d) e w);
    complete = λ n j. leaps p d n (Jump d) e refl (f.complete n j);
  }
    where
      by : (n : ℕ) → Kind p n (Jump d) → In n to
      by n (is_there x g h) = absurd (none_some refl g)
      by n (goes t w) = absurd (never t)
      by n (jumps c g w) = f.sound n (subst (λ x. Ways code (suc p + x) n) (same_item g refl) w)

  pub forked : {p d : ℕ} {xs ys : List ℕ} (i : Instruction) → Forks i d → slice_get code p ≡ Some i
      → From (suc p) xs → From (suc p + d) ys → From p (union xs ys)
  forked {p} {d} {xs} {ys} i k e f g = record {
    sound = λ n w. by n (kind_of p n i e w);
    complete = λ n j. way n (in_one n xs ys j);
  }
    where
      by : (n : ℕ) → Kind p n i → In n (union xs ys)
      by n (is_there x h q) = absurd (none_some k.none h)
      by n (goes t w) = in_left n xs ys (f.sound n w)
      by n (jumps c h w) = in_right n xs ys (g.sound n (subst (λ x. Ways code (suc p + x) n) (same_item h k.far) w))

      way : (n : ℕ) → In n xs ⊎ In n ys → Ways code p n
      way n (inl j) = steps p n i e k.on (f.complete n j)
      way n (inr j) = leaps p d n i e k.far (g.complete n j)

  swapped : (n : ℕ) (xs ys : List ℕ) → In n (union xs ys) → In n (union ys xs)
  swapped n xs ys j = by (in_one n xs ys j)
    where
      by : In n xs ⊎ In n ys → In n (union ys xs)
      by (inl h) = in_right n ys xs h
      by (inr h) = in_left n ys xs h

  pub other_way : {p : ℕ} (xs ys : List ℕ) → From p (union xs ys) → From p (union ys xs)
  other_way {p} xs ys f = record {
    sound = λ n w. swapped n xs ys (f.sound n w);
    complete = λ n j. f.complete n (swapped n ys xs j);
  }

  pub arrived : {p n : ℕ} (i : Instruction) → Rests i n → slice_get code p ≡ Some i → From p (n ∷ [])
  arrived {p} {n} i k e = record {
    sound = λ m w. by m (kind_of p m i e w);
    complete = λ m j. subst (λ x. Ways code p x) (k.numbered ∙ sym (the_only m n j)) (arrives p i k.point e k.is_point);
  }
    where
      by : (m : ℕ) → Kind p m i → In m (n ∷ [])
      by m (is_there x g h) =
          subst (λ y. In y (n ∷ [])) (sym k.numbered ∙ ap (λ y. y.number) (same_item k.is_point g) ∙ h) (here [])
      by m (goes t w) = absurd (k.stays t)
      by m (jumps d g w) = absurd (none_some k.near g)

  -- ---- from a point

  -- from a point at a place control may go to exactly these
  abbrev pub RowAt : ℕ → Instruction → List ℕ → Type 0
  RowAt p i row = Exactly (GoesFrom code p i) row

  pub stop_row : {p : ℕ} {to : List ℕ} (s : Stop) (n : ℕ) → s ≢ stop.Return → From (suc p) to → RowAt p (Halt s n) to
  stop_row {p} {to} s n differs f = record {
    sound = λ b g. f.sound b (way b g);
    complete = λ b j. stopped s n b differs (f.complete b j);
  }
    where
      way : (b : ℕ) → GoesFrom code p (Halt s n) b → Ways code (suc p) b
      way b (stopped t m c g w) = w

  pub return_row : {p n : ℕ} → RowAt p (Halt stop.Return n) []
  return_row {p} {n} = record { sound = λ b g. absurd (none b g); complete = λ b j. absurd (nothing_in b j) }
    where
      none : (b : ℕ) → GoesFrom code p (Halt stop.Return n) b → ⊥
      none b (stopped t m c g w) = g refl

  pub check_row : {p : ℕ} {to : List ℕ} (k : CheckInKind) (n : ℕ) → From (suc p) to → RowAt p (CheckIn k n) to
  check_row {p} {to} k n f = record {
    sound = λ b g. f.sound b (way b g);
    complete = λ b j. checked_in k n b (f.complete b j);
  }
    where
      way : (b : ℕ) → GoesFrom code p (CheckIn k n) b → Ways code (suc p) b
      way b (checked_in l m c w) = w

  same_start : (q r d : ℕ) {p : ℕ} → q + d ≡ p → r + d ≡ p → q ≡ r
  same_start q r d e f = omega (arith, e, f)

  pub back_row : {p q : ℕ} {to : List ℕ} (d n v : ℕ) → q + d ≡ p → From q to → RowAt p (Back d n v) to
  back_row {p} {q} {to} d n v e f = record {
    sound = λ b g. f.sound b (way b g);
    complete = λ b j. turned d n v q b e (f.complete b j);
  }
    where
      way : (b : ℕ) → GoesFrom code p (Back d n v) b → Ways code q b
      way b (turned c m u r x g w) = subst (λ y. Ways code y b) (same_start r q d g e) w

  -- ---- rows

  -- each point of some code at a place has its row, in order
  pub data Rows : ℕ → Code → List (List ℕ) → Type 0 where
    done : (p : ℕ) → Rows p [] []
    private : (p : ℕ) (i : Instruction) (is : Code) (rows : List (List ℕ)) → point_of i ≡ None → Rows (suc p) is rows → Rows p (i ∷ is) rows
    at_point : (p : ℕ) (i : Instruction) (x : CodePoint) (is : Code) (row : List ℕ) (rows : List (List ℕ))
        → point_of i ≡ Some x → RowAt p i row → Rows (suc p) is rows → Rows p (i ∷ is) (row ∷ rows)

  on_by : (p n : ℕ) → p + suc n ≡ suc p + n
  on_by p n = omega arith

  none_on : (p : ℕ) → p + 0 ≡ p
  none_on p = omega arith

  pub rows_append : {p : ℕ} {a b : Code} {xs ys : List (List ℕ)} → Rows p a xs → Rows (p + length a) b ys → Rows p (a ++ b) (xs ++ ys)
  rows_append {p} {a} {b} {xs} {ys} (done q) r = subst (λ x. Rows x b ys) (none_on q) r
  rows_append {p} {a} {b} {xs} {ys} (private q i is rows e f) r =
      private q i (is ++ b) (rows ++ ys) e (rows_append f (subst (λ x. Rows x b ys) (on_by q (length is)) r))
  rows_append {p} {a} {b} {xs} {ys} (at_point q i x is row rows e h f) r =
      at_point q i x (is ++ b) row (rows ++ ys) e h (rows_append f (subst (λ y. Rows y b ys) (on_by q (length is)) r))

  pub rows_behind : {p middle : ℕ} {a b : Code} {xs ys : List (List ℕ)} → middle ≡ p + length a → Rows p a xs → Rows middle b ys
      → Rows p (a ++ b) (xs ++ ys)
  rows_behind {p} {middle} {a} {b} {xs} {ys} e f g = rows_append f (subst (λ x. Rows x b ys) e g)

  -- some code at a place goes along a flow
  pub record Along (p : ℕ) (is : Code) (f : Flow) : Type 0 where
    pub first : From p f.first
    pub rows : Rows p is f.next

  -- some code is a part of a skeleton
  abbrev pub Does : Code → Part → Type 0
  Does is f = (p end : ℕ) (to : List ℕ) → Span code p is end → From end to → Along p is (f to)
