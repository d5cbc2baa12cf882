-- Where local evaluation stops in a part of a tree that is at its place in a skeleton.
use Rattle.std.proofs.Common.{◌≡◌, ◌≢◌, ℕ, zero, suc, Bool, true, false, List, [], ◌∷◌, Option, Some, None, Result, Ok, Err, sym, ◌∙◌, ap, subst}
use Rattle.std.specs.Prelude.{◌==◌, if◌then◌else◌, option_map}
use Rattle.std.specs.Option.{option_and_then}
use Rattle.run_types.specs.declared.trap.TrapKind.{TrapKind}
use Rattle.run_types.specs.CheckIns.{CheckInKind}
use Rattle.run_types.specs.Skeleton.{Point, Skeleton, CheckIn, point_at, kind_at, successors, reached, reached_by, after, check_in_after, depth_after}
use Rattle.c_ints.specs.declared.operator.ArithTrap.{ArithTrap}
use Rattle.c_ints.specs.declared.operator.BinOp.{BinOp}
use Rattle.c_ints.specs.declared.operator.UnOp.{UnOp}
use Rattle.c_tree.specs.BareExpr.{Bytes}
use Rattle.c_semantics.specs.Values.{Value, is_true, binary_result, unary_result}
use Rattle.c_semantics.specs.Stops.{Stop, Return, kind_of}
use Rattle.c_semantics.specs.Pieces.{Piece, Scopes, Halt, Stopped, Trapped, Nothing}
use Rattle.c_semantics.specs.Evaluation.{Next, local, settle, apply, combine, choose, change, drop, give, load, load_value, look_up, store, stored, copy, swap, tuck_under, close_scope}
use Rattle.c_semantics.specs.Skeletons.{union}
use Rattle.c_semantics.proofs.Unions.{In, here, in_left, in_right}
use Rattle.c_semantics.proofs.Segments.{Has, has_point, has_row, has_after}

-- whether a stop fits a number of transactions: a return is in none
abbrev pub fits : Stop → ℕ → Bool
fits Return t = t == 0
fits _ t = true

-- a stop at point n, in t transactions, to which control may go by the points `to`; where the transactions are tracked,
-- they are those of the text
pub record Stands (s : Skeleton) (tracked : Bool) (t : ℕ) (to : List ℕ) (stop : Stop) (n : ℕ) : Type 0 where
  pub within : In n to
  pub depth : ℕ
  pub point : point_at s n ≡ Some (record { kind = kind_of stop; depth = depth })
  pub same : tracked ≡ true → depth ≡ t
  pub level : tracked ≡ true → fits stop t ≡ true
  pub passes : (k : CheckInKind) → check_in_after (kind_of stop) ≡ Some k → successors s n ≡ after n ∷ []

-- the next i stops, whatever they do, are at points to which control may go, the first by the points `to`
pub data Lands (s : Skeleton) (tracked : Bool) : ℕ → ℕ → List ℕ → Halt → Type 0 where
  enough : (t : ℕ) (to : List ℕ) (h : Halt) → Lands s tracked zero t to h
  nothing : (i t : ℕ) (to : List ℕ) → Lands s tracked i t to Nothing
  trapped : (i t : ℕ) (to : List ℕ) (kind : TrapKind) → Lands s tracked i t to (Trapped kind)
  stops : (i t : ℕ) (to : List ℕ) (stop : Stop) (n : ℕ) (rest : List Piece) (values : List Value) (scopes : Scopes)
      → Stands s tracked t to stop n
      → (stop ≢ Return → (more : List Value) (others : Scopes)
      → Lands s tracked i (depth_after (kind_of stop) t) (successors s (reached s n)) (local rest more others))
      → Lands s tracked (suc i) t to (Stopped stop n rest values scopes)

module _ (s : Skeleton) (tracked : Bool) where
  -- fewer stops
  pub fewer : (i t : ℕ) (to : List ℕ) (h : Halt) → Lands s tracked (suc i) t to h → Lands s tracked i t to h
  fewer zero t to h g = enough t to h
  fewer (suc i) t to h (nothing _ _ _) = nothing (suc i) t to
  fewer (suc i) t to h (trapped _ _ _ kind) = trapped (suc i) t to kind
  fewer (suc i) t to h (stops _ _ _ stop n rest values scopes at behind) =
      stops i t to stop n rest values scopes at
      (λ stays more others. fewer i (depth_after (kind_of stop) t) (successors s (reached s n)) (local rest more others) (behind stays more others))

  -- more ways
  pub wider : (i t : ℕ) (to wide : List ℕ) (h : Halt) → ((x : ℕ) → In x to → In x wide) → Lands s tracked i t to h
      → Lands s tracked i t wide h
  wider i t to wide h more (enough _ _ _) = enough t wide h
  wider i t to wide h more (nothing _ _ _) = nothing i t wide
  wider i t to wide h more (trapped _ _ _ kind) = trapped i t wide kind
  wider i t to wide h more (stops j _ _ stop n rest values scopes at behind) =
      stops j t wide stop n rest values scopes
      (record {
        within = more n at.within;
        depth = at.depth;
        point = at.point;
        same = at.same;
        level = at.level;
        passes = at.passes;
      })
      behind

  -- where transactions aren't tracked, their number says nothing
  pub untracked : (i t u : ℕ) (to : List ℕ) (h : Halt) → (tracked ≡ true → ⊥) → Lands s tracked i t to h → Lands s tracked i u to h
  untracked i t u to h not (enough _ _ _) = enough u to h
  untracked i t u to h not (nothing _ _ _) = nothing i u to
  untracked i t u to h not (trapped _ _ _ kind) = trapped i u to kind
  untracked i t u to h not (stops j _ _ stop n rest values scopes at behind) =
      stops j u to stop n rest values scopes
      (record {
        within = at.within;
        depth = at.depth;
        point = at.point;
        same = λ e. absurd (not e);
        level = λ e. absurd (not e);
        passes = at.passes;
      })
      (λ stays more others. untracked j (depth_after (kind_of stop) t) (depth_after (kind_of stop) u)
      (successors s (reached s n)) (local rest more others) not (behind stays more others))

  -- what goes on is good from all values and variables
  abbrev pub Holds : ℕ → ℕ → List ℕ → Next → Type 0
  Holds i t to k = (values : List Value) (scopes : Scopes) → Lands s tracked i t to (k values scopes)

  pub give_holds : (i t : ℕ) (to : List ℕ) (v : Value) (k : Next) → Holds i t to k → Holds i t to (give v k)
  give_holds i t to v k h values scopes = h (v ∷ values) scopes

  pub change_holds : (i t : ℕ) (to : List ℕ) (f : Value → Value) (k : Next) → Holds i t to k → Holds i t to (change f k)
  change_holds i t to f k h [] scopes = nothing i t to
  change_holds i t to f k h (v ∷ values) scopes = h (f v ∷ values) scopes

  pub drop_holds : (i t : ℕ) (to : List ℕ) (k : Next) → Holds i t to k → Holds i t to (drop k)
  drop_holds i t to k h [] scopes = nothing i t to
  drop_holds i t to k h (v ∷ values) scopes = h values scopes

  settle_holds : (i t : ℕ) (to : List ℕ) (k : Next) (r : Result Value ArithTrap) (values : List Value) (scopes : Scopes)
      → Holds i t to k → Lands s tracked i t to (settle r values scopes k)
  settle_holds i t to k (Ok v) values scopes h = h (v ∷ values) scopes
  settle_holds i t to k (Err trap) values scopes h = trapped i t to _

  pub apply_holds : (i t : ℕ) (to : List ℕ) (op : UnOp) (k : Next) → Holds i t to k → Holds i t to (apply op k)
  apply_holds i t to op k h [] scopes = nothing i t to
  apply_holds i t to op k h (v ∷ values) scopes = settle_holds i t to k (unary_result op v) values scopes h

  pub combine_holds : (i t : ℕ) (to : List ℕ) (op : BinOp) (k : Next) → Holds i t to k → Holds i t to (combine op k)
  combine_holds i t to op k h [] scopes = nothing i t to
  combine_holds i t to op k h (b ∷ []) scopes = nothing i t to
  combine_holds i t to op k h (b ∷ a ∷ values) scopes = settle_holds i t to k (binary_result op a b) values scopes h

  -- one of two ways
  chosen : (i t : ℕ) (to : List ℕ) (a b : Next) (c : Bool) (values : List Value) (scopes : Scopes) → Holds i t to a
      → Holds i t to b → Lands s tracked i t to ((if c then a else b) values scopes)
  chosen i t to a b true values scopes g h = g values scopes
  chosen i t to a b false values scopes g h = h values scopes

  pub choose_holds : (i t : ℕ) (to wide : List ℕ) (a b : Next) → Holds i t to a → Holds i t wide b
      → Holds i t (union to wide) (choose a b)
  choose_holds i t to wide a b g h [] scopes = nothing i t (union to wide)
  choose_holds i t to wide a b g h (v ∷ values) scopes =
      chosen i t (union to wide) a b (is_true v) values scopes
      (λ x y. wider i t to (union to wide) (a x y) (λ p. in_left p to wide) (g x y))
      (λ x y. wider i t wide (union to wide) (b x y) (λ p. in_right p to wide) (h x y))

  load_holds : (i t : ℕ) (to : List ℕ) (k : Next) (v : Option Value) (values : List Value) (scopes : Scopes) → Holds i t to k
      → Lands s tracked i t to (load_value v values scopes k)
  load_holds i t to k (Some v) values scopes h = h (v ∷ values) scopes
  load_holds i t to k None values scopes h = nothing i t to

  pub local_read_holds : (i t : ℕ) (to : List ℕ) (name : Bytes) (k : Next) → Holds i t to k → Holds i t to (load name k)
  local_read_holds i t to name k h values scopes = load_holds i t to k (look_up scopes name) values scopes h

  pub local_write_holds : (i t : ℕ) (to : List ℕ) (name : Bytes) (k : Next) → Holds i t to k → Holds i t to (store name k)
  local_write_holds i t to name k h [] scopes = nothing i t to
  local_write_holds i t to name k h (v ∷ values) scopes = h (v ∷ values) (stored name v scopes)

  pub copy_holds : (i t : ℕ) (to : List ℕ) (k : Next) → Holds i t to k → Holds i t to (copy k)
  copy_holds i t to k h [] scopes = nothing i t to
  copy_holds i t to k h (v ∷ values) scopes = h (v ∷ v ∷ values) scopes

  pub swap_holds : (i t : ℕ) (to : List ℕ) (k : Next) → Holds i t to k → Holds i t to (swap k)
  swap_holds i t to k h [] scopes = nothing i t to
  swap_holds i t to k h (a ∷ []) scopes = nothing i t to
  swap_holds i t to k h (a ∷ b ∷ values) scopes = h (b ∷ a ∷ values) scopes

  pub tuck_holds : (i t : ℕ) (to : List ℕ) (k : Next) → Holds i t to k → Holds i t to (tuck_under k)
  tuck_holds i t to k h [] scopes = nothing i t to
  tuck_holds i t to k h (a ∷ []) scopes = nothing i t to
  tuck_holds i t to k h (a ∷ b ∷ values) scopes = h (a ∷ b ∷ a ∷ values) scopes

  pub close_holds : (i t : ℕ) (to : List ℕ) (k : Next) → Holds i t to k → Holds i t to (close_scope k)
  close_holds i t to k h values [] = nothing i t to
  close_holds i t to k h values (variables ∷ scopes) = h values scopes

  -- the point that a thread comes to that stopped at a point
  kind_there : (n : ℕ) (p : Point) → point_at s n ≡ Some p → kind_at s n ≡ Some p.kind
  kind_there n p e = ap (option_map (λ q. q.kind)) e

  pub reached_itself : (n : ℕ) (p : Point) → point_at s n ≡ Some p → check_in_after p.kind ≡ None → reached s n ≡ n
  reached_itself n p e none =
      ap (λ k. reached_by (option_and_then check_in_after k) n) (kind_there n p e) ∙ ap (λ k. reached_by k n) none

  pub reached_after : (n : ℕ) (p : Point) (k : CheckInKind) → point_at s n ≡ Some p → check_in_after p.kind ≡ Some k
      → reached s n ≡ after n
  reached_after n p k e some =
      ap (λ x. reached_by (option_and_then check_in_after x) n) (kind_there n p e) ∙ ap (λ x. reached_by x n) some

  -- a stop that no check-in follows
  pub stop_holds : (i t d : ℕ) (to : List ℕ) (stop : Stop) (n : ℕ) (rest : List Piece) (values : List Value) (scopes : Scopes)
      → Has s n (record { kind = kind_of stop; depth = d } ∷ []) (to ∷ []) → check_in_after (kind_of stop) ≡ None
      → (tracked ≡ true → d ≡ t) → (tracked ≡ true → fits stop t ≡ true) → (stop ≢ Return → Holds i (depth_after (kind_of stop) t) to (local rest))
      → Lands s tracked (suc i) t (n ∷ []) (Stopped stop n rest values scopes)
  stop_holds i t d to stop n rest values scopes has none same fit behind =
      stops i t (n ∷ []) stop n rest values scopes
      (record {
        within = here [];
        depth = d;
        point = point;
        same = same;
        level = fit;
        passes = λ k some. absurd (never (sym none ∙ some));
      })
      (λ stays more others. subst (λ x. Lands s tracked i (depth_after (kind_of stop) t) x (local rest more others)) ways (behind stays more others))
    where
      never : {k : CheckInKind} → None ≡ Some k → ⊥
      never e = cc

      point : point_at s n ≡ Some (record { kind = kind_of stop; depth = d })
      point = has_point s n _ [] to [] has

      ways : to ≡ successors s (reached s n)
      ways = sym (ap (successors s) (reached_itself n _ point none) ∙ has_row s n _ [] to [] has)

  -- a stop that a check-in follows
  pub stop_leads : (i t d e : ℕ) (to : List ℕ) (stop : Stop) (k : CheckInKind) (n : ℕ) (rest : List Piece)
      (values : List Value) (scopes : Scopes)
      → Has s n (record { kind = kind_of stop; depth = d } ∷ record { kind = CheckIn k; depth = e } ∷ []) ((suc n ∷ []) ∷ to ∷ [])
      → check_in_after (kind_of stop) ≡ Some k → (tracked ≡ true → d ≡ t) → (tracked ≡ true → fits stop t ≡ true)
      → (stop ≢ Return → Holds i (depth_after (kind_of stop) t) to (local rest))
      → Lands s tracked (suc i) t (n ∷ []) (Stopped stop n rest values scopes)
  stop_leads i t d e to stop k n rest values scopes has some same fit behind =
      stops i t (n ∷ []) stop n rest values scopes
      (record {
        within = here [];
        depth = d;
        point = point;
        same = same;
        level = fit;
        passes = λ other is. has_row s n _ (record { kind = CheckIn k; depth = e } ∷ []) (suc n ∷ []) (to ∷ []) has;
      })
      (λ stays more others. subst (λ x. Lands s tracked i (depth_after (kind_of stop) t) x (local rest more others)) ways (behind stays more others))
    where
      point : point_at s n ≡ Some (record { kind = kind_of stop; depth = d })
      point = has_point s n _ (record { kind = CheckIn k; depth = e } ∷ []) (suc n ∷ []) (to ∷ []) has

      ways : to ≡ successors s (reached s n)
      ways =
          sym (ap (successors s) (reached_after n _ k point some)
          ∙ has_row s (suc n) (record { kind = CheckIn k; depth = e }) [] to []
          (has_after s n _ (record { kind = CheckIn k; depth = e } ∷ []) (suc n ∷ []) (to ∷ []) has))
