-- From which points of a body control goes on, and where, and in how many transactions that is.
use Rattle.std.proofs.Common.{◌≡◌, ◌≢◌, ℕ, zero, suc, pred, ◌+◌, ◌<◌, Bool, true, false, List, [], ◌∷◌, ◌++◌, map, length, Option, Some, None, option_map, Contains, refl, sym, ap, ap₂, subst, ◌∙◌, append_assoc, append-nil, arith}
use Rattle.std.specs.Prelude.{◌==◌, nat_lt, slice_get, slice_index_or, if◌then◌else◌}
use Rattle.std.proofs.lemmas.Bool.Decides.{nat_tests}
use Rattle.std.proofs.lemmas.Option.{none-some, same_Some}
use Rattle.run_types.specs.CheckIns.{CheckInKind}
use Rattle.run_types.specs.CheckIns as check_in
use Rattle.run_types.specs.Skeleton.{PointKind, Point, after, check_in_after, depth_after, kind_at, point_at, successors}
use Rattle.run_types.specs.Skeleton as kind
use Rattle.c_semantics.specs.Resolved.{Expression, Expressions, Place, Statement, Statements, Constant, Read, Unary, Binary, Convert, And, Or, Choice, Assign, Update, Postfix, Call, Print, New, Free, Create, Join, JoinInto, InitMutex, Lock, Unlock, NoExpressions, ExpressionThen, Local, Global, Element, Field, Block, Empty, Evaluate, Declare, If, IfElse, While, DoWhile, For, Break, Continue, Return, UpdatePoint, Transaction, NoStatements, StatementThen}
use Rattle.c_semantics.specs.Points.{at_depth, evaluated, evaluated_if, of_body, of_expression, of_expressions, of_parts, of_statement, of_statements, reads, size, size_if, size_stmt, size_stmts, writes}
use Rattle.c_semantics.specs.Skeletons.{Flow, Part, Targets, ◌then_part◌, access, expression_if, goes, guarded, loop, on_to, skeleton, union, with_point}
use Rattle.c_semantics.specs.Skeletons as flow
use Rattle.c_semantics.specs.Leaving.{stays, all_stay, leaves_at_ends}
use Rattle.definition_laws.proofs.Tests.{no, left_of, right_of}
use Rattle.frame_bodies.specs.Shapes.{BeginsAndEnds, EachDepthFollows, EachGoesOn, GoesOn}

-- a row leads somewhere
abbrev Some_ : List ℕ → Type 0
Some_ [] = ⊥
Some_ (n ∷ ns) = Unit {0}

put_some : (n : ℕ) (ms : List ℕ) → Some_ (with_point n ms)
put_some n [] = tt
put_some n (m ∷ ms) = by (n == m) (nat_lt n m)
  where
    by : (same below : Bool) → Some_ (if same then m ∷ ms else (if below then n ∷ m ∷ ms else m ∷ with_point n ms))
    by true below = tt
    by false true = tt
    by false false = tt

not_none : (row : List ℕ) → Some_ row → row ≢ []
not_none [] some e = some
not_none (n ∷ ns) some e = cc

-- kinds
abbrev is_return : PointKind → Bool
is_return kind.Return = true
is_return _ = false

abbrev is_end : PointKind → Bool
is_end kind.End = true
is_end _ = false

-- ---- the points of statements, whatever their depth

abbrev kinds_if : Option Expression → List PointKind
kinds_if None = []
kinds_if (Some e) = of_expression e

abbrev mutual
  kinds : Statement → List PointKind
  kinds (Block ss) = kinds_all ss
  kinds Empty = []
  kinds (Evaluate e) = of_expression e
  kinds (Declare type name e) = kinds_if e
  kinds (If c s) = of_expression c ++ kinds s
  kinds (IfElse c s t) = of_expression c ++ kinds s ++ kinds t
  kinds (While c s) = of_expression c ++ kinds s ++ kind.Back ∷ []
  kinds (DoWhile s c) = kinds s ++ of_expression c ++ kind.Back ∷ []
  kinds (For first test step s) = kinds_all first ++ kinds_if test ++ kinds s ++ kinds_if step ++ kind.Back ∷ []
  kinds Break = []
  kinds Continue = []
  kinds (Return e) = of_expression e ++ kind.Return ∷ []
  kinds UpdatePoint = kind.Update ∷ kind.CheckIn check_in.Update ∷ []
  kinds (Transaction ss) =
      kind.Begin ∷ kind.CheckIn check_in.Begin ∷ kinds_all ss ++ kind.End ∷ kind.CheckIn check_in.End ∷ []

  kinds_all : Statements → List PointKind
  kinds_all NoStatements = []
  kinds_all (StatementThen s ss) = kinds s ++ kinds_all ss

abbrev of_points : List Point → List PointKind
of_points ps = map (λ p. p.kind) ps

of_two : (ps qs : List Point) (ks ls : List PointKind) → of_points ps ≡ ks → of_points qs ≡ ls → of_points (ps ++ qs) ≡ ks ++ ls
of_two ps qs ks ls a b = apart ps qs ∙ ap₂ (◌++◌) a b
  where
    apart : (ps qs : List Point) → of_points (ps ++ qs) ≡ of_points ps ++ of_points qs
    apart [] qs = refl
    apart (p ∷ ps) qs = ap (λ ks. p.kind ∷ ks) (apart ps qs)

of_depth : (d : ℕ) (ks : List PointKind) → of_points (map (at_depth d) ks) ≡ ks
of_depth d [] = refl
of_depth d (k ∷ ks) = ap (λ ls. k ∷ ls) (of_depth d ks)

of_option : (d : ℕ) (e : Option Expression) → of_points (evaluated_if d e) ≡ kinds_if e
of_option d None = refl
of_option d (Some e) = of_depth d (of_expression e)

mutual
  of_stmt : (d : ℕ) (s : Statement) → of_points (of_statement d s) ≡ kinds s
  of_stmt d (Block ss) = of_stmts d ss
  of_stmt d Empty = refl
  of_stmt d (Evaluate e) = of_depth d (of_expression e)
  of_stmt d (Declare type name e) = of_option d e
  of_stmt d (If c s) = of_two (evaluated d c) (of_statement d s) _ _ (of_depth d (of_expression c)) (of_stmt d s)
  of_stmt d (IfElse c s t) =
      of_two (evaluated d c ++ of_statement d s) (of_statement d t) _ _
      (of_two (evaluated d c) (of_statement d s) _ _ (of_depth d (of_expression c)) (of_stmt d s)) (of_stmt d t)
  of_stmt d (While c s) =
      of_two (evaluated d c ++ of_statement d s) (at_depth d kind.Back ∷ []) _ _
      (of_two (evaluated d c) (of_statement d s) _ _ (of_depth d (of_expression c)) (of_stmt d s)) refl
  of_stmt d (DoWhile s c) =
      of_two (of_statement d s ++ evaluated d c) (at_depth d kind.Back ∷ []) _ _
      (of_two (of_statement d s) (evaluated d c) _ _ (of_stmt d s) (of_depth d (of_expression c))) refl
  of_stmt d (For first test step s) =
      of_two (of_statements d first ++ evaluated_if d test ++ of_statement d s ++ evaluated_if d step) (at_depth d kind.Back ∷ []) _ _
      (of_two (of_statements d first ++ evaluated_if d test ++ of_statement d s) (evaluated_if d step) _ _
      (of_two (of_statements d first ++ evaluated_if d test) (of_statement d s) _ _
      (of_two (of_statements d first) (evaluated_if d test) _ _ (of_stmts d first) (of_option d test)) (of_stmt d s)) (of_option d step)) refl
  of_stmt d Break = refl
  of_stmt d Continue = refl
  of_stmt d (Return e) = of_two (evaluated d e) (at_depth d kind.Return ∷ []) _ _ (of_depth d (of_expression e)) refl
  of_stmt d UpdatePoint = refl
  of_stmt d (Transaction ss) =
      ap (λ ks. kind.Begin ∷ kind.CheckIn check_in.Begin ∷ ks)
      (of_two (of_statements (suc d) ss) (at_depth (suc d) kind.End ∷ at_depth d (kind.CheckIn check_in.End) ∷ []) _ _ (of_stmts (suc d) ss) refl)

  of_stmts : (d : ℕ) (ss : Statements) → of_points (of_statements d ss) ≡ kinds_all ss
  of_stmts d NoStatements = refl
  of_stmts d (StatementThen s ss) = of_two (of_statement d s) (of_statements d ss) _ _ (of_stmt d s) (of_stmts d ss)

counted : (ps : List Point) → length ps ≡ length (of_points ps)
counted [] = refl
counted (p ∷ ps) = ap suc (counted ps)

as_many : (d : ℕ) (ks : List PointKind) → length ks ≡ length (map (at_depth d) ks)
as_many d [] = refl
as_many d (k ∷ ks) = ap suc (as_many d ks)

-- there are as many at each depth
sized : (d : ℕ) (s : Statement) → size_stmt s ≡ length (of_statement d s)
sized d s = counted (of_statement 0 s) ∙ ap length (of_stmt 0 s ∙ sym (of_stmt d s)) ∙ sym (counted (of_statement d s))

sized_all : (d : ℕ) (ss : Statements) → size_stmts ss ≡ length (of_statements d ss)
sized_all d ss = counted (of_statements 0 ss) ∙ ap length (of_stmts 0 ss ∙ sym (of_stmts d ss)) ∙ sym (counted (of_statements d ss))

sized_if : (d : ℕ) (e : Option Expression) → size_if e ≡ length (evaluated_if d e)
sized_if d None = refl
sized_if d (Some e) = as_many d (of_expression e)

more : {A : Type 0} (xs ys : List A) → length (xs ++ ys) ≡ length xs + length ys
more [] ys = omega arith
more (x ∷ xs) ys = next (length (xs ++ ys)) (length xs) (length ys) (more xs ys)
  where
    next : (a b c : ℕ) → a ≡ b + c → suc a ≡ suc b + c
    next a b c e = omega (arith, e)

five : {A : Type 0} (xs ys zs ws vs : List A) → xs ++ ys ++ zs ++ ws ++ vs ≡ xs ++ (ys ++ zs ++ ws ++ vs)
five xs ys zs ws vs =
    ap (λ l. l ++ ws ++ vs) (append_assoc xs ys zs)
    ∙ ap (λ l. l ++ vs) (append_assoc xs (ys ++ zs) ws)
    ∙ append_assoc xs (ys ++ zs ++ ws) vs

-- where control is after parts of so many points
no_more : (b : ℕ) → b ≡ b + 0
no_more b = omega arith

first_two : (n m p x y : ℕ) → m ≡ n + x → p ≡ m + y → p ≡ n + (x + y)
first_two n m p x y e g = omega (arith, e, g)

moved_on : (n x m : ℕ) → x ≡ m → n + x ≡ n + m
moved_on n x m e = ap (λ i. n + i) e

none_deep : (d : ℕ) → (d == 0) ≡ true → d ≡ 0
none_deep d e = grind (arith, nat_tests, e)

deep : (d : ℕ) → 0 < suc d
deep d = omega arith

-- ---- the walk

-- over a family that has each point of the body with its depth
module _ (D : ℕ → ℕ → Type 0) where
  abbrev AllAt : ℕ → List ℕ → Type 0
  AllAt d [] = Unit {0}
  AllAt d (m ∷ ms) = D m d × AllAt d ms

  -- points of a depth, at least one
  record To (d : ℕ) (ms : List ℕ) : Type 0 where
    some : Some_ ms
    all : AllAt d ms

  -- points from n on, with their depths
  abbrev Hold : ℕ → List Point → Type 0
  Hold n [] = Unit {0}
  Hold n (p ∷ ps) = D n p.depth × Hold (suc n) ps

  abbrev HoldAt : ℕ → ℕ → List PointKind → Type 0
  HoldAt d n ks = Hold n (map (at_depth d) ks)

  to_one : (n d : ℕ) → D n d → To d (n ∷ [])
  to_one n d x = record { some = tt; all = (x, tt) }

  put_all : (d n : ℕ) (ms : List ℕ) → D n d → AllAt d ms → AllAt d (with_point n ms)
  put_all d n [] x all = (x, tt)
  put_all d n (m ∷ ms) x all = by (n == m) (nat_lt n m) (put_all d n ms x all.1)
    where
      by : (same below : Bool) → AllAt d (with_point n ms) → AllAt d (if same then m ∷ ms else (if below then n ∷ m ∷ ms else m ∷ with_point n ms))
      by true below rest = all
      by false true rest = (x, all)
      by false false rest = (all.0, rest)

  united : (d : ℕ) (ns ms : List ℕ) → AllAt d ns → To d ms → To d (union ns ms)
  united d [] ms all to = to
  united d (n ∷ ns) ms all to =
      let rest = united d ns ms all.1 to in
      record { some = put_some n (union ns ms); all = put_all d n (union ns ms) all.0 rest.all }

  -- the row of point n, by its depth and what it is
  abbrev Row : ℕ → ℕ → PointKind → List ℕ → Type 0
  Row n d (kind.Call name) row = (row ≡ after n ∷ []) × D (after n) d
  Row n d kind.Begin row = (row ≡ after n ∷ []) × D (after n) (suc d)
  Row n d kind.End row = (row ≡ after n ∷ []) × D (after n) (pred d) × (0 < d)
  Row n d kind.Update row = (row ≡ after n ∷ []) × D (after n) d
  Row n d kind.Return row = (row ≡ []) × (d ≡ 0)
  Row n d _ row = To d row

  -- the rows of some points, of which the first is n
  abbrev Rows : ℕ → List Point → List (List ℕ) → Type 0
  Rows n [] [] = Unit {0}
  Rows n [] (row ∷ rows) = ⊥
  Rows n (p ∷ ps) [] = ⊥
  Rows n (p ∷ ps) (row ∷ rows) = Row n p.depth p.kind row × Rows (suc n) ps rows

  abbrev RowsAt : ℕ → ℕ → List PointKind → List (List ℕ) → Type 0
  RowsAt d n ks rows = Rows n (map (at_depth d) ks) rows

  same_start : (m n : ℕ) → m ≡ n + 0 → m ≡ n
  same_start m n e = omega (arith, e)

  next_start : (m n k : ℕ) → m ≡ n + suc k → m ≡ suc n + k
  next_start m n k e = omega (arith, e)

  rows_then : (n m : ℕ) (ps qs : List Point) (rs ss : List (List ℕ)) → m ≡ n + length ps → Rows n ps rs → Rows m qs ss
      → Rows n (ps ++ qs) (rs ++ ss)
  rows_then n m [] qs [] ss at a b = subst (λ x. Rows x qs ss) (same_start m n at) b
  rows_then n m [] qs (r ∷ rs) ss at a b = absurd a
  rows_then n m (p ∷ ps) qs [] ss at a b = absurd a
  rows_then n m (p ∷ ps) qs (r ∷ rs) ss at a b = (a.0, rows_then (suc n) m ps qs rs ss (next_start m n (length ps) at) a.1 b)

  rows_then_at : (d n m : ℕ) (ks ls : List PointKind) (rs ss : List (List ℕ)) → m ≡ n + length ks → RowsAt d n ks rs → RowsAt d m ls ss
      → RowsAt d n (ks ++ ls) (rs ++ ss)
  rows_then_at d n m [] ls [] ss at a b = subst (λ x. RowsAt d x ls ss) (same_start m n at) b
  rows_then_at d n m [] ls (r ∷ rs) ss at a b = absurd a
  rows_then_at d n m (k ∷ ks) ls [] ss at a b = absurd a
  rows_then_at d n m (k ∷ ks) ls (r ∷ rs) ss at a b =
      (a.0, rows_then_at d (suc n) m ks ls rs ss (next_start m n (length ks) at) a.1 b)

  hold_parts : (n m : ℕ) (ps qs : List Point) → m ≡ n + length ps → Hold n (ps ++ qs) → Hold n ps × Hold m qs
  hold_parts n m [] qs at h = (tt, subst (λ x. Hold x qs) (sym (same_start m n at)) h)
  hold_parts n m (p ∷ ps) qs at h =
      let rest = hold_parts (suc n) m ps qs (next_start m n (length ps) at) h.1 in ((h.0, rest.0), rest.1)

  hold_parts_at : (d n m : ℕ) (ks ls : List PointKind) → m ≡ n + length ks → HoldAt d n (ks ++ ls) → HoldAt d n ks × HoldAt d m ls
  hold_parts_at d n m [] ls at h = (tt, subst (λ x. HoldAt d x ls) (sym (same_start m n at)) h)
  hold_parts_at d n m (k ∷ ks) ls at h =
      let rest = hold_parts_at d (suc n) m ks ls (next_start m n (length ks) at) h.1 in ((h.0, rest.0), rest.1)

  -- a flow from somewhere with these points
  record Shaped (d n : ℕ) (ps : List Point) (f : Flow) : Type 0 where
    first : To d f.first
    rows : Rows n ps f.next

  abbrev Walks : ℕ → ℕ → List Point → Part → Type 0
  Walks d n ps part = (to : List ℕ) → To d to → Shaped d n ps (part to)

  abbrev Shapes : ℕ → ℕ → List PointKind → Part → Type 0
  Shapes d n ks part = HoldAt d n ks → Walks d n (map (at_depth d) ks) part

  nothing : (d n : ℕ) → Shapes d n [] flow.pass
  nothing d n hold to some = record { first = some; rows = tt }

  in_turn : (d n : ℕ) (ks ls : List PointKind) (a b : Part) → Shapes d n ks a → Shapes d (n + length ks) ls b
      → Shapes d n (ks ++ ls) (a then_part b)
  in_turn d n ks ls a b x y hold to some =
      let parts = hold_parts_at d n (n + length ks) ks ls refl hold in
      let behind = y parts.1 to some in
      let before = x parts.0 (b to).first behind.first in
      record {
        first = before.first;
        rows = rows_then_at d n (n + length ks) ks ls (a (b to).first).next (b to).next refl before.rows behind.rows;
      }

  read : (d : ℕ) (p : Place) (n : ℕ) → Shapes d n (reads p) (access p n)
  read d (Local name) n hold to some = record { first = some; rows = tt }
  read d (Global name) n hold to some = record { first = to_one n d hold.0; rows = (some, tt) }
  read d (Element name index) n hold to some = record { first = to_one n d hold.0; rows = (some, tt) }
  read d (Field tag handle name) n hold to some = record { first = to_one n d hold.0; rows = (some, tt) }

  write : (d : ℕ) (p : Place) (n : ℕ) → Shapes d n (writes p) (access p n)
  write d (Local name) n hold to some = record { first = some; rows = tt }
  write d (Global name) n hold to some = record { first = to_one n d hold.0; rows = (some, tt) }
  write d (Element name index) n hold to some = record { first = to_one n d hold.0; rows = (some, tt) }
  write d (Field tag handle name) n hold to some = record { first = to_one n d hold.0; rows = (some, tt) }

  -- two ways
  or_both : (d n : ℕ) (ks ls : List PointKind) (a b : Part) → Shapes d n ks a → Shapes d (n + length ks) ls b
      → Shapes d n (ks ++ ls) (flow.either a b)
  or_both d n ks ls a b x y hold to some =
      let parts = hold_parts_at d n (n + length ks) ks ls refl hold in
      let one = x parts.0 to some in
      let other = y parts.1 to some in
      record {
        first = united d (a to).first (b to).first one.first.all other.first;
        rows = rows_then_at d n (n + length ks) ks ls (a to).next (b to).next refl one.rows other.rows;
      }

  or_pass : (d n : ℕ) (ks : List PointKind) (a : Part) → Shapes d n ks a → Shapes d n ks (flow.either a flow.pass)
  or_pass d n ks a x hold to some =
      let one = x hold to some in
      record { first = united d (a to).first to one.first.all some; rows = subst (RowsAt d n ks) (sym (append-nil (a to).next)) one.rows }

  pass_or : (d n : ℕ) (ks : List PointKind) (a : Part) → Shapes d n ks a → Shapes d n ks (flow.either flow.pass a)
  pass_or d n ks a x hold to some =
      let one = x hold to some in record { first = united d to (a to).first some.all one.first; rows = one.rows }

  -- lists of points in the order in which they are put together
  in_three : (d n : ℕ) (xs ys zs : List PointKind) (part : Part) → Shapes d n (xs ++ (ys ++ zs)) part → Shapes d n (xs ++ ys ++ zs) part
  in_three d n xs ys zs part = subst (λ ks. Shapes d n ks part) (sym (append_assoc xs ys zs))

  in_four : (d n : ℕ) (xs ys zs ws : List PointKind) (part : Part) → Shapes d n (xs ++ (ys ++ (zs ++ ws))) part
      → Shapes d n (xs ++ ys ++ zs ++ ws) part
  in_four d n xs ys zs ws part h =
      subst (λ ks. Shapes d n ks part) (sym (append_assoc (xs ++ ys) zs ws))
      (subst (λ ks. Shapes d n ks part) (sym (append_assoc xs ys (zs ++ ws))) h)

  a_point : (d n : ℕ) (k : PointKind) → ((to : List ℕ) → To d to → Row n d k to) → Shapes d n (k ∷ []) (flow.point n)
  a_point d n k row hold to some = record { first = to_one n d hold.0; rows = (row to some, tt) }

  -- a point, and then a write
  a_stop : (d n : ℕ) (k : PointKind) (p : Place) → ((to : List ℕ) → To d to → Row n d k to)
      → Shapes d n (k ∷ writes p) (flow.point n then_part access p (n + 1))
  a_stop d n k p row = in_turn d n (k ∷ []) (writes p) (flow.point n) (access p (n + 1)) (a_point d n k row) (write d p (n + 1))

  -- a call, and its check-in
  a_call : (d n : ℕ) (name : List ℕ)
      → Shapes d n (kind.Call name ∷ kind.CheckIn check_in.Call ∷ []) (flow.point n then_part flow.point (after n))
  a_call d n name hold to some = record { first = to_one n d hold.0; rows = ((refl, hold.1.0), (some, tt)) }

  mutual
    expression : (d : ℕ) (e : Expression) (n : ℕ) → Shapes d n (of_expression e) (flow.expression e n)
    expression d (Constant v) n = nothing d n
    expression d (Read p) n = in_turn d n (of_parts p) (reads p) _ _ (parts d p n) (read d p _)
    expression d (Unary op a) n = expression d a n
    expression d (Binary op a b) n = in_turn d n (of_expression a) (of_expression b) _ _ (expression d a n) (expression d b _)
    expression d (Convert type a) n = expression d a n
    expression d (And a b) n =
        in_turn d n (of_expression a) (of_expression b) _ _ (expression d a n) (or_pass d _ (of_expression b) _ (expression d b _))
    expression d (Or a b) n =
        in_turn d n (of_expression a) (of_expression b) _ _ (expression d a n) (pass_or d _ (of_expression b) _ (expression d b _))
    expression d (Choice c a b) n =
        in_three d n (of_expression c) (of_expression a) (of_expression b) _
        (in_turn d n (of_expression c) (of_expression a ++ of_expression b) _ _ (expression d c n)
        (or_both d _ (of_expression a) (of_expression b) _ _ (expression d a _) (expression d b _)))
    expression d (Assign p e) n =
        in_three d n (of_parts p) (of_expression e) (writes p) _
        (in_turn d n (of_parts p) (of_expression e ++ writes p) _ _ (parts d p n)
        (in_turn d _ (of_expression e) (writes p) _ _ (expression d e _) (write d p _)))
    expression d (Update type op p e) n =
        in_four d n (of_parts p) (reads p) (of_expression e) (writes p) _
        (in_turn d n (of_parts p) (reads p ++ (of_expression e ++ writes p)) _ _ (parts d p n)
        (in_turn d _ (reads p) (of_expression e ++ writes p) _ _ (read d p _)
        (in_turn d _ (of_expression e) (writes p) _ _ (expression d e _) (write d p _))))
    expression d (Postfix type op p) n =
        in_three d n (of_parts p) (reads p) (writes p) _
        (in_turn d n (of_parts p) (reads p ++ writes p) _ _ (parts d p n) (in_turn d _ (reads p) (writes p) _ _ (read d p _) (write d p _)))
    expression d (Call name arguments) n =
        in_turn d n (of_expressions arguments) (kind.Call name ∷ kind.CheckIn check_in.Call ∷ []) _ _ (expressions d arguments n) (a_call d _ name)
    expression d (Print format arguments) n =
        in_turn d n (of_expressions arguments) (kind.Print ∷ []) _ _ (expressions d arguments n) (a_point d _ kind.Print (λ to some. some))
    expression d (New tag) n = a_point d n _ (λ to some. some)
    expression d (Free tag e) n = in_turn d n (of_expression e) _ _ _ (expression d e n) (a_point d _ _ (λ to some. some))
    expression d (Create p name e) n =
        in_three d n (of_parts p) (of_expression e) (kind.Spawn name ∷ writes p) _
        (in_turn d n (of_parts p) (of_expression e ++ kind.Spawn name ∷ writes p) _ _ (parts d p n)
        (in_turn d _ (of_expression e) (kind.Spawn name ∷ writes p) _ _ (expression d e _) (a_stop d _ (kind.Spawn name) p (λ to some. some))))
    expression d (Join e) n =
        in_turn d n (of_expression e) (kind.Join ∷ []) _ _ (expression d e n) (a_point d _ kind.Join (λ to some. some))
    expression d (JoinInto e p) n =
        in_three d n (of_expression e) (of_parts p) (kind.Join ∷ writes p) _
        (in_turn d n (of_expression e) (of_parts p ++ kind.Join ∷ writes p) _ _ (expression d e n)
        (in_turn d _ (of_parts p) (kind.Join ∷ writes p) _ _ (parts d p _) (a_stop d _ kind.Join p (λ to some. some))))
    expression d (InitMutex name) n = a_point d n _ (λ to some. some)
    expression d (Lock name) n = a_point d n _ (λ to some. some)
    expression d (Unlock name) n = a_point d n _ (λ to some. some)

    expressions : (d : ℕ) (es : Expressions) (n : ℕ) → Shapes d n (of_expressions es) (flow.expressions es n)
    expressions d NoExpressions n = nothing d n
    expressions d (ExpressionThen e es) n = in_turn d n (of_expression e) (of_expressions es) _ _ (expression d e n) (expressions d es _)

    parts : (d : ℕ) (p : Place) (n : ℕ) → Shapes d n (of_parts p) (flow.parts p n)
    parts d (Local name) n = nothing d n
    parts d (Global name) n = nothing d n
    parts d (Element name index) n = expression d index n
    parts d (Field tag handle name) n = expression d handle n

  -- ---- statements

  before_it : (d n m : ℕ) (ps qs : List Point) (a : Part) (behind : Flow) → m ≡ n + length ps → Walks d n ps a → Shaped d m qs behind
      → Shaped d n (ps ++ qs) (flow.before a behind)
  before_it d n m ps qs a behind at x y =
      let f = x behind.first y.first in
      record { first = f.first; rows = rows_then n m ps qs (a behind.first).next behind.next at f.rows y.rows }

  both_ways : (d n m : ℕ) (ps qs : List Point) (a b : Flow) → m ≡ n + length ps → Shaped d n ps a → Shaped d m qs b
      → Shaped d n (ps ++ qs) (flow.both a b)
  both_ways d n m ps qs a b at x y =
      record { first = united d a.first b.first x.first.all y.first; rows = rows_then n m ps qs a.next b.next at x.rows y.rows }

  or_goes : (d n : ℕ) (ps : List Point) (a : Flow) (to : List ℕ) → To d to → Shaped d n ps a → Shaped d n ps (flow.both a (goes to))
  or_goes d n ps a to some x =
      record { first = united d a.first to x.first.all some; rows = subst (Rows n ps) (sym (append-nil a.next)) x.rows }

  -- where control goes is in as many transactions
  record Open (k : Targets) (d : ℕ) (looped : Bool) : Type 0 where
    on : To d k.on
    out : looped ≡ true → To d k.broken × To d k.continued

  abbrev Body : ℕ → ℕ → List Point → (Targets → Flow) → Type 0
  Body d n ps body = (k : Targets) → Open k d true → Shaped d n ps (body k)

  evaluates : (d : ℕ) (e : Expression) (n : ℕ) → Hold n (evaluated d e) → Walks d n (evaluated d e) (flow.expression e n)
  evaluates d e n hold = expression d e n hold

  evaluates_if : (d : ℕ) (e : Option Expression) (n : ℕ) → Hold n (evaluated_if d e) → Walks d n (evaluated_if d e) (expression_if e n)
  evaluates_if d None n hold = nothing d n hold
  evaluates_if d (Some e) n hold = expression d e n hold

  guarded_shaped : (d : ℕ) (test : Option Expression) (n m : ℕ) (ps : List Point) (inside : Flow) (on : List ℕ)
      → m ≡ n + length (evaluated_if d test) → Hold n (evaluated_if d test) → To d on → Shaped d m ps inside
      → Shaped d n (evaluated_if d test ++ ps) (guarded test n inside on)
  guarded_shaped d None n m ps inside on at hold some x = subst (λ i. Shaped d i ps inside) (same_start m n at) x
  guarded_shaped d (Some c) n m ps inside on at hold some x =
      before_it d n m (evaluated d c) ps (flow.expression c n) (flow.both inside (goes on)) at (evaluates d c n hold)
      (or_goes d m ps inside on some x)

  -- a loop: its test, its body, its step and its back edge
  loop_shaped : (d : ℕ) (test : Option Expression) (n m p b : ℕ) (ps qs : List Point) (body : Targets → Flow) (step : Part) (k : Targets)
      → To d k.on → m ≡ n + length (evaluated_if d test) → p ≡ m + length ps → b ≡ p + length qs → Hold n (evaluated_if d test) → D b d
      → Body d m ps body → Walks d p qs step
      → Shaped d n (evaluated_if d test ++ ps ++ qs ++ at_depth d kind.Back ∷ []) (loop test n body step b k)
  loop_shaped d test n m p b ps qs body step k some at_m at_p at_b hold back x y =
      let behind = y (b ∷ []) (to_one b d back) in
      let inner : Targets = record { on = (step (b ∷ [])).first; broken = k.on; continued = (step (b ∷ [])).first } in
      let inside = x inner (record { on = behind.first; out = λ e. (some, behind.first) }) in
      let whole = guarded_shaped d test n m ps (body inner) k.on at_m hold some inside in
      let w = guarded test n (body inner) k.on in
      let tests = evaluated_if d test in
      let at = first_two n m p (length tests) (length ps) at_m at_p ∙ ap (λ i. n + i) (sym (more tests ps)) in
      record {
        first = whole.first;
        rows = rows_then n b (tests ++ ps ++ qs) (at_depth d kind.Back ∷ []) (w.next ++ (step (b ∷ [])).next) (w.first ∷ [])
            (first_two n p b (length (tests ++ ps)) (length qs) at at_b ∙ ap (λ i. n + i) (sym (more (tests ++ ps) qs)))
            (rows_then n p (tests ++ ps) qs w.next (step (b ∷ [])).next at whole.rows behind.rows) (whole.first, tt);
      }

  mutual
    stmt_shaped : (s : Statement) (d : ℕ) (looped : Bool) → stays d looped s ≡ true → (n : ℕ) (k : Targets) → Open k d looped
        → Hold n (of_statement d s) → Shaped d n (of_statement d s) (flow.statement s n k)
    stmt_shaped (Block ss) d looped h n k ways hold = stmts_shaped ss d looped h n k ways hold
    stmt_shaped Empty d looped h n k ways hold = record { first = ways.on; rows = tt }
    stmt_shaped (Evaluate e) d looped h n k ways hold = evaluates d e n hold k.on ways.on
    stmt_shaped (Declare type name e) d looped h n k ways hold = evaluates_if d e n hold k.on ways.on
    stmt_shaped (If c s) d looped h n k ways hold =
        let m = n + size c in
        let at = moved_on n (size c) _ (as_many d (of_expression c)) in
        let parts = hold_parts n m (evaluated d c) (of_statement d s) at hold in
        before_it d n m (evaluated d c) (of_statement d s) (flow.expression c n) _ at (evaluates d c n parts.0)
        (or_goes d m (of_statement d s) _ k.on ways.on (stmt_shaped s d looped h m k ways parts.1))
    stmt_shaped (IfElse c s t) d looped h n k ways hold =
        let m = n + size c in
        let p = m + size_stmt s in
        let at = moved_on n (size c) _ (as_many d (of_expression c)) in
        let at_p = moved_on m (size_stmt s) _ (sized d s) in
        let same = append_assoc (evaluated d c) (of_statement d s) (of_statement d t) in
        let parts = hold_parts n m (evaluated d c) (of_statement d s ++ of_statement d t) at (subst (Hold n) same hold) in
        let ways_of = hold_parts m p (of_statement d s) (of_statement d t) at_p parts.1 in
        subst (λ ps. Shaped d n ps (flow.statement (IfElse c s t) n k)) (sym same)
        (before_it d n m (evaluated d c) (of_statement d s ++ of_statement d t) (flow.expression c n) _ at (evaluates d c n parts.0)
        (both_ways d m p (of_statement d s) (of_statement d t) _ _ at_p
        (stmt_shaped s d looped (left_of (stays d looped s) (stays d looped t) h) m k ways ways_of.0)
        (stmt_shaped t d looped (right_of (stays d looped s) (stays d looped t) h) p k ways ways_of.1)))
    stmt_shaped (While c s) d looped h n k ways hold =
        let m = n + size c in
        let b = m + size_stmt s in
        let back = at_depth d kind.Back ∷ [] in
        let at_m = moved_on n (size c) _ (as_many d (of_expression c)) in
        let at_b = moved_on m (size_stmt s) _ (sized d s) in
        let to_back = first_two n m b (length (evaluated d c)) (length (of_statement d s)) at_m at_b
        ∙ ap (λ i. n + i) (sym (more (evaluated d c) (of_statement d s))) in
        let parts = hold_parts n b (evaluated d c ++ of_statement d s) back to_back hold in
        let tests = hold_parts n m (evaluated d c) (of_statement d s) at_m parts.0 in
        subst (λ ps. Shaped d n (ps ++ back) (flow.statement (While c s) n k)) (append-nil (evaluated d c ++ of_statement d s))
        (loop_shaped d (Some c) n m b b (of_statement d s) [] (flow.statement s m) flow.pass k ways.on at_m at_b (no_more b) tests.0 parts.1.0
        (λ inner opened. stmt_shaped s d true h m inner opened tests.1) (λ to some. nothing d b tt to some))
    stmt_shaped (DoWhile s c) d looped h n k ways hold =
        let m = n + size_stmt s in
        let b = m + size c in
        let back = at_depth d kind.Back ∷ [] in
        let at_m = moved_on n (size_stmt s) _ (sized d s) in
        let at_b = moved_on m (size c) _ (as_many d (of_expression c)) in
        let to_back = first_two n m b (length (of_statement d s)) (length (evaluated d c)) at_m at_b
        ∙ ap (λ i. n + i) (sym (more (of_statement d s) (evaluated d c))) in
        let parts = hold_parts n b (of_statement d s ++ evaluated d c) back to_back hold in
        let tests = hold_parts n m (of_statement d s) (evaluated d c) at_m parts.0 in
        let to = union (b ∷ []) k.on in
        let behind = evaluates d c m tests.1 to (united d (b ∷ []) k.on (parts.1.0, tt) ways.on) in
        let after_body = flow.expression c m to in
        let inner : Targets = record { on = after_body.first; broken = k.on; continued = after_body.first } in
        let inside = stmt_shaped s d true h n inner (record { on = behind.first; out = λ e. (ways.on, behind.first) }) tests.0 in
        let body = flow.statement s n inner in
        record {
          first = inside.first;
          rows = rows_then n b (of_statement d s ++ evaluated d c) back (body.next ++ after_body.next) (body.first ∷ []) to_back
              (rows_then n m (of_statement d s) (evaluated d c) body.next after_body.next at_m inside.rows behind.rows) (inside.first, tt);
        }
    stmt_shaped (For first test step s) d looped h n k ways hold =
        let t = n + size_stmts first in
        let m = t + size_if test in
        let p = m + size_stmt s in
        let b = p + size_if step in
        let tests = evaluated_if d test in
        let steps = evaluated_if d step in
        let body = of_statement d s in
        let back = at_depth d kind.Back ∷ [] in
        let at_t = moved_on n (size_stmts first) _ (sized_all d first) in
        let at_m = moved_on t (size_if test) _ (sized_if d test) in
        let at_p = moved_on m (size_stmt s) _ (sized d s) in
        let at_b = moved_on p (size_if step) _ (sized_if d step) in
        let to_step = first_two t m p (length tests) (length body) at_m at_p ∙ ap (λ i. t + i) (sym (more tests body)) in
        let to_back = first_two t p b (length (tests ++ body)) (length steps) to_step at_b ∙ ap (λ i. t + i) (sym (more (tests ++ body) steps)) in
        let same = five (of_statements d first) tests body steps back in
        let all = hold_parts n t (of_statements d first) (tests ++ body ++ steps ++ back) at_t (subst (Hold n) same hold) in
        let parts = hold_parts t b (tests ++ body ++ steps) back to_back all.1 in
        let round = hold_parts t p (tests ++ body) steps to_step parts.0 in
        let tested = hold_parts t m tests body at_m round.0 in
        let turns = loop test t (flow.statement s m) (expression_if step p) b k in
        let hs = left_of (all_stay d looped first) (stays d true s) h in
        let turning = loop_shaped d test t m p b body steps (flow.statement s m) (expression_if step p) k ways.on at_m at_p at_b tested.0 parts.1.0
        (λ inner opened. stmt_shaped s d true (right_of (all_stay d looped first) (stays d true s) h) m inner opened tested.1)
        (evaluates_if d step p round.1) in
        let start = stmts_shaped first d looped hs n (on_to turns.first k) (record { on = turning.first; out = ways.out }) all.0 in
        record {
          first = start.first;
          rows = subst (λ ps. Rows n ps ((flow.statements first n (on_to turns.first k)).next ++ turns.next)) (sym same)
              (rows_then n t (of_statements d first) (tests ++ body ++ steps ++ back) (flow.statements first n (on_to turns.first k)).next
              turns.next at_t start.rows turning.rows);
        }
    stmt_shaped Break d looped h n k ways hold = record { first = (ways.out h).0; rows = tt }
    stmt_shaped Continue d looped h n k ways hold = record { first = (ways.out h).1; rows = tt }
    stmt_shaped (Return e) d looped h n k ways hold =
        let m = n + size e in
        let at = moved_on n (size e) _ (as_many d (of_expression e)) in
        let parts = hold_parts n m (evaluated d e) (at_depth d kind.Return ∷ []) at hold in
        before_it d n m (evaluated d e) (at_depth d kind.Return ∷ []) (flow.expression e n) (flow.last_point m []) at
        (evaluates d e n parts.0) (record { first = to_one m d parts.1.0; rows = ((refl, none_deep d h), tt) })
    stmt_shaped UpdatePoint d looped h n k ways hold =
        record { first = to_one n d hold.0; rows = ((refl, hold.1.0), (ways.on, tt)) }
    stmt_shaped (Transaction ss) d looped h n k ways hold =
        let e = n + 2 + size_stmts ss in
        let begin = at_depth d kind.Begin ∷ at_depth (suc d) (kind.CheckIn check_in.Begin) ∷ [] in
        let end = at_depth (suc d) kind.End ∷ at_depth d (kind.CheckIn check_in.End) ∷ [] in
        let inner = of_statements (suc d) ss in
        let at_e = moved_on (n + 2) (size_stmts ss) _ (sized_all (suc d) ss) in
        let parts = hold_parts n (n + 2) begin (inner ++ end) refl hold in
        let ends = hold_parts (n + 2) e inner end at_e parts.1 in
        let inside = stmts_shaped ss (suc d) false h (n + 2) (on_to (e ∷ []) k)
        (record { on = to_one e (suc d) ends.1.0; out = λ i. absurd (no i) }) ends.0 in
        let f = flow.statements ss (n + 2) (on_to (e ∷ []) k) in
        record {
          first = to_one n d parts.0.0;
          rows = rows_then n (n + 2) begin (inner ++ end) ((after n ∷ []) ∷ f.first ∷ []) (f.next ++ (after e ∷ []) ∷ k.on ∷ []) refl
              ((refl, parts.0.1.0), (inside.first, tt))
              (rows_then (n + 2) e inner end f.next ((after e ∷ []) ∷ k.on ∷ []) at_e inside.rows
              ((refl, ends.1.1.0, deep d), (ways.on, tt)));
        }

    stmts_shaped : (ss : Statements) (d : ℕ) (looped : Bool) → all_stay d looped ss ≡ true → (n : ℕ) (k : Targets) → Open k d looped
        → Hold n (of_statements d ss) → Shaped d n (of_statements d ss) (flow.statements ss n k)
    stmts_shaped NoStatements d looped h n k ways hold = record { first = ways.on; rows = tt }
    stmts_shaped (StatementThen s ss) d looped h n k ways hold =
        let m = n + size_stmt s in
        let at = moved_on n (size_stmt s) _ (sized d s) in
        let parts = hold_parts n m (of_statement d s) (of_statements d ss) at hold in
        let behind = stmts_shaped ss d looped (right_of (stays d looped s) (all_stay d looped ss) h) m k ways parts.1 in
        let f = flow.statements ss m k in
        let own = stmt_shaped s d looped (left_of (stays d looped s) (all_stay d looped ss) h) n (on_to f.first k)
        (record { on = behind.first; out = ways.out }) parts.0 in
        record {
          first = own.first;
          rows = rows_then n m (of_statement d s) (of_statements d ss) (flow.statement s n (on_to f.first k)).next f.next at own.rows behind.rows;
        }

  -- ---- bodies

  body_rows : (body : Statements) → leaves_at_ends body ≡ true → Hold 0 (of_body body) → Rows 0 (of_body body) (skeleton body).next
  body_rows body h hold =
      let last = 1 + size_stmts body in
      let to : Targets = record { on = last ∷ []; broken = []; continued = [] } in
      let end : List Point = at_depth 0 kind.Return ∷ [] in
      let at = moved_on 1 (size_stmts body) _ (sized_all 0 body) in
      let parts = hold_parts 1 last (of_statements 0 body) end at hold.1 in
      let inside = stmts_shaped body 0 false h 1 to (record { on = to_one last 0 parts.1.0; out = λ e. absurd (no e) }) parts.0 in (
        inside.first,
        rows_then 1 last (of_statements 0 body) end (flow.statements body 1 to).next ([] ∷ []) at inside.rows ((refl, refl), tt),
      )

  row_at : (ps : List Point) (rows : List (List ℕ)) (m n x : ℕ) (p : Point) → x ≡ m + n → Rows m ps rows → slice_get ps n ≡ Some p
      → Row x p.depth p.kind (slice_index_or rows n [])
  row_at [] rows m n x p at a is = absurd (none-some p is)
  row_at (q ∷ ps) [] m n x p at a is = absurd a
  row_at (q ∷ ps) (row ∷ rows) m zero x p at a is =
      subst (λ i. Row i p.depth p.kind row) (sym (same_start x m at)) (subst (λ y. Row m y.depth y.kind row) (same_Some q p is) a.0)
  row_at (q ∷ ps) (row ∷ rows) m (suc n) x p at a is = row_at ps rows (suc m) n x p (next_start x m n at) a.1 is

  -- what a row says, of where control goes, and of depths
  pub record Goes (n d : ℕ) (k : PointKind) (row : List ℕ) : Type 0 where
    passes : (c : CheckInKind) → check_in_after k ≡ Some c → row ≡ after n ∷ []
    returns : k ≡ kind.Return → row ≡ []
    stays : k ≢ kind.Return → row ≢ []
    leads : AllAt (depth_after k d) row
    ends : k ≡ kind.End → 0 < d
    outside : k ≡ kind.Return → d ≡ 0

  plain : (n d : ℕ) (k : PointKind) (row : List ℕ) → check_in_after k ≡ None → is_return k ≡ false → depth_after k d ≡ d → To d row
      → Goes n d k row
  plain n d k row none other same to = record {
    passes = λ c e. absurd (none-some c (sym none ∙ e));
    returns = λ e. absurd (no (sym other ∙ ap is_return e));
    stays = λ h. not_none row to.some;
    leads = subst (λ x. AllAt x row) (sym same) to.all;
    ends = λ e. absurd (none-some check_in.End (sym none ∙ ap check_in_after e));
    outside = λ e. absurd (no (sym other ∙ ap is_return e));
  }

  leading : (n d e : ℕ) (k : PointKind) (row : List ℕ) → is_return k ≡ false → row ≡ after n ∷ [] → D (after n) e → depth_after k d ≡ e
      → (k ≡ kind.End → 0 < d) → Goes n d k row
  leading n d e k row other is at same ends = record {
    passes = λ c i. is;
    returns = λ i. absurd (no (sym other ∙ ap is_return i));
    stays = λ h i. absurd (let clash : after n ∷ [] ≡ [] = sym is ∙ i in cc);
    leads = subst (AllAt (depth_after k d)) (sym is) (subst (D (after n)) (sym same) at, tt);
    ends = ends;
    outside = λ i. absurd (no (sym other ∙ ap is_return i));
  }

  goes_by : (n d : ℕ) (k : PointKind) (row : List ℕ) → Row n d k row → Goes n d k row
  goes_by n d (kind.CheckIn c) row r = plain n d (kind.CheckIn c) row refl refl refl r
  goes_by n d (kind.ReadGlobal name) row r = plain n d (kind.ReadGlobal name) row refl refl refl r
  goes_by n d (kind.WriteGlobal name) row r = plain n d (kind.WriteGlobal name) row refl refl refl r
  goes_by n d (kind.ReadElement name) row r = plain n d (kind.ReadElement name) row refl refl refl r
  goes_by n d (kind.WriteElement name) row r = plain n d (kind.WriteElement name) row refl refl refl r
  goes_by n d (kind.ReadField name) row r = plain n d (kind.ReadField name) row refl refl refl r
  goes_by n d (kind.WriteField name) row r = plain n d (kind.WriteField name) row refl refl refl r
  goes_by n d (kind.New name) row r = plain n d (kind.New name) row refl refl refl r
  goes_by n d (kind.Free name) row r = plain n d (kind.Free name) row refl refl refl r
  goes_by n d kind.Print row r = plain n d kind.Print row refl refl refl r
  goes_by n d (kind.InitMutex name) row r = plain n d (kind.InitMutex name) row refl refl refl r
  goes_by n d (kind.Lock name) row r = plain n d (kind.Lock name) row refl refl refl r
  goes_by n d (kind.Unlock name) row r = plain n d (kind.Unlock name) row refl refl refl r
  goes_by n d (kind.Spawn name) row r = plain n d (kind.Spawn name) row refl refl refl r
  goes_by n d kind.Join row r = plain n d kind.Join row refl refl refl r
  goes_by n d kind.Back row r = plain n d kind.Back row refl refl refl r
  goes_by n d (kind.Call name) row r = leading n d d (kind.Call name) row refl r.0 r.1 refl (λ e. absurd (no (ap is_end e)))
  goes_by n d kind.Return row r = record {
    passes = λ c e. absurd (none-some c e);
    returns = λ e. r.0;
    stays = λ h. absurd (h refl);
    leads = subst (AllAt d) (sym r.0) tt;
    ends = λ e. absurd (no (ap is_end e));
    outside = λ e. r.1;
  }
  goes_by n d kind.Begin row r = leading n d (suc d) kind.Begin row refl r.0 r.1 refl (λ e. absurd (no (ap is_end e)))
  goes_by n d kind.End row r = leading n d (pred d) kind.End row refl r.0 r.1 refl (λ e. r.2)
  goes_by n d kind.Update row r = leading n d d kind.Update row refl r.0 r.1 refl (λ e. absurd (no (ap is_end e)))

  pub point_goes : (body : Statements) (n : ℕ) (p : Point) → leaves_at_ends body ≡ true → Hold 0 (of_body body) → point_at (skeleton body) n ≡ Some p
      → Goes n p.depth p.kind (successors (skeleton body) n)
  point_goes body n p h hold is =
      goes_by n p.depth p.kind (successors (skeleton body) n)
      (row_at (of_body body) (skeleton body).next 0 n n p (from_zero n) (body_rows body h hold) is)
    where
      from_zero : (n : ℕ) → n ≡ 0 + n
      from_zero n = omega arith

  all_has : (d : ℕ) (row : List ℕ) (m : ℕ) → AllAt d row → Contains row m → D m d
  all_has d [] m all (k, below, is) = absurd (omega (arith, below))
  all_has d (n ∷ row) m all (zero, below, is) = subst (λ x. D x d) is all.0
  all_has d (n ∷ row) m all (suc k, below, is) = all_has d row m all.1 (k, less k (length row) below, is)
    where
      less : (k n : ℕ) → suc k < suc n → k < n
      less k n h = omega (arith, h)

-- ---- bodies

last_length : {A : Type 0} (xs : List A) (x : A) → length (xs ++ x ∷ []) ≡ suc (length xs)
last_length [] x = refl
last_length (y ∷ xs) x = ap suc (last_length xs x)

last_there : {A : Type 0} (xs : List A) (x : A) → slice_get (xs ++ x ∷ []) (length xs) ≡ Some x
last_there [] x = refl
last_there (y ∷ xs) x = last_there xs x

pub begins_and_ends : BeginsAndEnds
begins_and_ends body =
    let end = at_depth 0 kind.Return in (
      refl,
      (suc (size_stmts body), ap suc (last_length (of_statements 0 body) end), last_there (of_statements 0 body) end),
    )

-- any depths will do for where control goes
hold_any : (n : ℕ) (ps : List Point) → Hold (λ m d. Unit {0}) n ps
hold_any n [] = tt
hold_any n (p ∷ ps) = (tt, hold_any (suc n) ps)

-- the point that a kind is read of
record Of (o : Option Point) (k : PointKind) : Type 0 where
  at : Point
  is : o ≡ Some at
  kind_is : at.kind ≡ k

of_kind : (o : Option Point) (k : PointKind) → option_map (λ p. p.kind) o ≡ Some k → Of o k
of_kind None k e = absurd (none-some k e)
of_kind (Some p) k e = record { at = p; is = refl; kind_is = same_Some _ _ e }

pub each_goes_on : EachGoesOn
each_goes_on body n k h is =
    let p = of_kind (point_at (skeleton body) n) k is in
    let g = point_goes (λ m d. Unit {0}) body n p.at h (hold_any 0 (of_body body)) p.is in
    subst (GoesOn (skeleton body) n) p.kind_is (record { passes = g.passes; returns = g.returns; stays = g.stays })

-- the depths of a body's own points
abbrev DepthIn : List Point → ℕ → ℕ → Type 0
DepthIn all m d = option_map (λ p. p.depth) (slice_get all m) ≡ Some d

hold_own : (all : List Point) (n : ℕ) (ps : List Point) → ((i : ℕ) → slice_get all (n + i) ≡ slice_get ps i) → Hold (DepthIn all) n ps
hold_own all n [] same = tt
hold_own all n (p ∷ ps) same = (
  ap (λ k. option_map (λ p. p.depth) (slice_get all k)) (no_more n) ∙ ap (option_map (λ p. p.depth)) (same 0),
  hold_own all (suc n) ps (λ i. ap (slice_get all) (further n i) ∙ same (suc i)),
)
  where
    further : (n i : ℕ) → suc n + i ≡ n + suc i
    further n i = omega arith

pub each_depth_follows : EachDepthFollows
each_depth_follows body h = record {
  follows = λ n m p leads is. all_has (DepthIn (of_body body)) (depth_after p.kind p.depth) (successors (skeleton body) n) m (goes n p is).leads leads.leads;
  ends = λ n p is. (goes n p is).ends;
  returns = λ n p is. (goes n p is).outside;
}
  where
    from_zero : (n : ℕ) → 0 + n ≡ n
    from_zero n = omega arith

    goes : (n : ℕ) (p : Point) → point_at (skeleton body) n ≡ Some p
        → Goes (DepthIn (of_body body)) n p.depth p.kind (successors (skeleton body) n)
    goes n p is =
        point_goes (DepthIn (of_body body)) body n p h
        (hold_own (of_body body) 0 (of_body body) (λ i. ap (slice_get (of_body body)) (from_zero i))) is
