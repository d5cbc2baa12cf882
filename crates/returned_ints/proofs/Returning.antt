-- Local evaluation of an expression comes to a return only by what is after it.
use Rattle.std.proofs.Common.{ℕ, zero, suc, ◌+◌, Bool, true, false, List, [], ◌∷◌, Option, Some, None, Result, Ok, Err, if◌then◌else◌}
use Rattle.c_ints.specs.declared.operator.ArithTrap.{ArithTrap}
use Rattle.c_ints.specs.declared.operator.BinOp.{BinOp}
use Rattle.c_ints.specs.declared.operator.UnOp.{UnOp}
use Rattle.c_tree.specs.BareExpr.{Bytes}
use Rattle.c_semantics.specs.Values.{Value, Number, int_of, converted_to, is_true, binary_result, unary_result}
use Rattle.c_semantics.specs.Resolved.{Expression, Expressions, Place, Constant, Read, Unary, Binary, Convert, And, Or, Choice, Assign, Update, Postfix, Call, Print, New, Free, Create, Join, JoinInto, InitMutex, Lock, Unlock, NoExpressions, ExpressionThen, Local, Global, Element, Field}
use Rattle.c_semantics.specs.Points.{size, size_all, size_parts, size_read}
use Rattle.c_semantics.specs.Stops.{Stop}
use Rattle.c_semantics.specs.Stops as stop
use Rattle.c_semantics.specs.Pieces.{Piece, Scopes, Halt, Stopped, Trapped, Nothing, Compute, Arguments, Parts, Get, Set, Dup, Tuck, Swap, Apply, Combine, ConvertTo, Drop, Push, Truth, Created, AndThen, OrElse, Choose, At}
use Rattle.c_semantics.specs.Evaluation.{Next, local, stop_at, get, set, dup, tuck, swap_part, give, change, drop, settle, apply, combine, choose, load, load_value, look_up, store, stored, copy, swap, tuck_under, as_truth, creation, count, one, close_scope}
use Rattle.c_semantics.specs.Evaluation as ev
use Rattle.returned_ints.specs.ReturnedInts.{NewestIsInt}

-- at a return the newest value is an int; at another stop the rest is good
abbrev pub AtStop : Stop → List Value → Type 0 → Type 0
AtStop stop.Return values behind = NewestIsInt values
AtStop _ values behind = behind

-- local evaluation ended well, and what is after it ends well for so many stops
abbrev pub Good : ℕ → Halt → Type 0
Good zero h = Unit {0}
Good (suc i) (Stopped s n rest values scopes) =
    AtStop s values ((more : List Value) (others : Scopes) → Good i (local rest more others))
Good (suc i) (Trapped kind) = Unit {0}
Good (suc i) Nothing = Unit {0}

-- what goes on ends well from all values and variables
abbrev pub Safe : ℕ → Next → Type 0
Safe i k = (values : List Value) (scopes : Scopes) → Good i (k values scopes)

pub nothing : (i : ℕ) → Good i Nothing
nothing zero = tt
nothing (suc i) = tt

-- a stop that isn't a return
abbrev pub IsOther : Stop → Type 0
IsOther stop.Return = ⊥
IsOther _ = Unit {0}

at_other : (s : Stop) (values : List Value) (behind : Type 0) → IsOther s → behind → AtStop s values behind
at_other stop.Return values behind other h = absurd other
at_other _ values behind other h = h

mapped : (s : Stop) (values : List Value) (a b : Type 0) → (a → b) → AtStop s values a → AtStop s values b
mapped stop.Return values a b f h = h
mapped _ values a b f h = f h

-- fewer stops
pub fewer : (i : ℕ) (h : Halt) → Good (suc i) h → Good i h
fewer zero h g = tt
fewer (suc i) (Stopped s n rest values scopes) g =
    mapped s values ((more : List Value) (others : Scopes) → Good (suc i) (local rest more others))
    ((more : List Value) (others : Scopes) → Good i (local rest more others))
    (λ k more others. fewer i (local rest more others) (k more others)) g
fewer (suc i) (Trapped kind) g = tt
fewer (suc i) Nothing g = tt

pub stop_safe : (i : ℕ) (s : Stop) (n : ℕ) (rest : List Piece) → IsOther s → Safe i (local rest) → Safe i (stop_at s n rest)
stop_safe zero s n rest other h values scopes = tt
stop_safe (suc i) s n rest other h values scopes =
    at_other s values ((more : List Value) (others : Scopes) → Good i (local rest more others)) other
    (λ more others. fewer i (local rest more others) (h more others))

-- ---- values and variables

pub give_safe : (i : ℕ) (v : Value) (k : Next) → Safe i k → Safe i (give v k)
give_safe i v k h values scopes = h (v ∷ values) scopes

pub change_safe : (i : ℕ) (f : Value → Value) (k : Next) → Safe i k → Safe i (change f k)
change_safe i f k h [] scopes = nothing i
change_safe i f k h (v ∷ values) scopes = h (f v ∷ values) scopes

pub drop_safe : (i : ℕ) (k : Next) → Safe i k → Safe i (drop k)
drop_safe i k h [] scopes = nothing i
drop_safe i k h (v ∷ values) scopes = h values scopes

settle_safe : (i : ℕ) (k : Next) (r : Result Value ArithTrap) (values : List Value) (scopes : Scopes) → Safe i k
    → Good i (settle r values scopes k)
settle_safe i k (Ok v) values scopes h = h (v ∷ values) scopes
settle_safe zero k (Err trap) values scopes h = tt
settle_safe (suc i) k (Err trap) values scopes h = tt

apply_safe : (i : ℕ) (op : UnOp) (k : Next) → Safe i k → Safe i (apply op k)
apply_safe i op k h [] scopes = nothing i
apply_safe i op k h (v ∷ values) scopes = settle_safe i k (unary_result op v) values scopes h

combine_safe : (i : ℕ) (op : BinOp) (k : Next) → Safe i k → Safe i (combine op k)
combine_safe i op k h [] scopes = nothing i
combine_safe i op k h (b ∷ []) scopes = nothing i
combine_safe i op k h (b ∷ a ∷ values) scopes = settle_safe i k (binary_result op a b) values scopes h

chosen : (i : ℕ) (a b : Next) (c : Bool) (values : List Value) (scopes : Scopes) → Safe i a → Safe i b
    → Good i ((if c then a else b) values scopes)
chosen i a b true values scopes g h = g values scopes
chosen i a b false values scopes g h = h values scopes

pub choose_safe : (i : ℕ) (a b : Next) → Safe i a → Safe i b → Safe i (choose a b)
choose_safe i a b g h [] scopes = nothing i
choose_safe i a b g h (v ∷ values) scopes = chosen i a b (is_true v) values scopes g h

load_safe : (i : ℕ) (k : Next) (v : Option Value) (values : List Value) (scopes : Scopes) → Safe i k
    → Good i (load_value v values scopes k)
load_safe i k (Some v) values scopes h = h (v ∷ values) scopes
load_safe i k None values scopes h = nothing i

read_safe : (i : ℕ) (name : Bytes) (k : Next) → Safe i k → Safe i (load name k)
read_safe i name k h values scopes = load_safe i k (look_up scopes name) values scopes h

pub write_safe : (i : ℕ) (name : Bytes) (k : Next) → Safe i k → Safe i (store name k)
write_safe i name k h [] scopes = nothing i
write_safe i name k h (v ∷ values) scopes = h (v ∷ values) (stored name v scopes)

copy_safe : (i : ℕ) (k : Next) → Safe i k → Safe i (copy k)
copy_safe i k h [] scopes = nothing i
copy_safe i k h (v ∷ values) scopes = h (v ∷ v ∷ values) scopes

swap_safe : (i : ℕ) (k : Next) → Safe i k → Safe i (swap k)
swap_safe i k h [] scopes = nothing i
swap_safe i k h (a ∷ []) scopes = nothing i
swap_safe i k h (a ∷ b ∷ values) scopes = h (b ∷ a ∷ values) scopes

under_safe : (i : ℕ) (k : Next) → Safe i k → Safe i (tuck_under k)
under_safe i k h [] scopes = nothing i
under_safe i k h (a ∷ []) scopes = nothing i
under_safe i k h (a ∷ b ∷ values) scopes = h (a ∷ b ∷ a ∷ values) scopes

pub close_safe : (i : ℕ) (k : Next) → Safe i k → Safe i (close_scope k)
close_safe i k h values [] = nothing i
close_safe i k h values (variables ∷ scopes) = h values scopes

-- ---- places

get_safe : (p : Place) (i n : ℕ) (rest : List Piece) → Safe i (local rest) → Safe i (get p n rest (local rest))
get_safe (Local name) i n rest h = read_safe i name (local rest) h
get_safe (Global name) i n rest h = stop_safe i (stop.ReadGlobal name) n rest tt h
get_safe (Element name index) i n rest h = stop_safe i (stop.ReadElement name) n rest tt h
get_safe (Field tag handle name) i n rest h = stop_safe i (stop.ReadField tag name) n rest tt h

set_safe : (p : Place) (i n : ℕ) (rest : List Piece) → Safe i (local rest) → Safe i (set p n rest (local rest))
set_safe (Local name) i n rest h = write_safe i name (local rest) h
set_safe (Global name) i n rest h = stop_safe i (stop.WriteGlobal name) n rest tt h
set_safe (Element name index) i n rest h = stop_safe i (stop.WriteElement name) n rest tt h
set_safe (Field tag handle name) i n rest h = stop_safe i (stop.WriteField tag name) n rest tt h

dup_safe : (p : Place) (i : ℕ) (k : Next) → Safe i k → Safe i (dup p k)
dup_safe (Local name) i k h = h
dup_safe (Global name) i k h = h
dup_safe (Element name index) i k h = copy_safe i k h
dup_safe (Field tag handle name) i k h = copy_safe i k h

tuck_safe : (p : Place) (i : ℕ) (k : Next) → Safe i k → Safe i (tuck p k)
tuck_safe (Local name) i k h = copy_safe i k h
tuck_safe (Global name) i k h = copy_safe i k h
tuck_safe (Element name index) i k h = under_safe i k h
tuck_safe (Field tag handle name) i k h = under_safe i k h

swap_part_safe : (p : Place) (i : ℕ) (k : Next) → Safe i k → Safe i (swap_part p k)
swap_part_safe (Local name) i k h = h
swap_part_safe (Global name) i k h = h
swap_part_safe (Element name index) i k h = swap_safe i k h
swap_part_safe (Field tag handle name) i k h = swap_safe i k h

-- ---- expressions

mutual
  pub expression : (e : Expression) (i n : ℕ) (rest : List Piece) → Safe i (local rest) → Safe i (ev.expression e n rest (local rest))
  expression (Constant v) i n rest h = give_safe i (Number v) (local rest) h
  expression (Read p) i n rest h =
      let m = n + size_parts p in parts p i n (Get p m ∷ rest) (get_safe p i m rest h)
  expression (Unary op a) i n rest h = expression a i n (Apply op ∷ rest) (apply_safe i op (local rest) h)
  expression (Binary op a b) i n rest h =
      let m = n + size a in
      expression a i n (Compute b m ∷ Combine op ∷ rest) (expression b i m (Combine op ∷ rest) (combine_safe i op (local rest) h))
  expression (Convert type a) i n rest h =
      expression a i n (ConvertTo type ∷ rest) (change_safe i (converted_to type) (local rest) h)
  expression (And a b) i n rest h =
      let m = n + size a in
      expression a i n (AndThen b m ∷ rest)
      (choose_safe i (ev.expression b m (Truth ∷ rest) (change as_truth (local rest))) (give (int_of 0) (local rest))
      (expression b i m (Truth ∷ rest) (change_safe i as_truth (local rest) h)) (give_safe i (int_of 0) (local rest) h))
  expression (Or a b) i n rest h =
      let m = n + size a in
      expression a i n (OrElse b m ∷ rest)
      (choose_safe i (give (int_of 1) (local rest)) (ev.expression b m (Truth ∷ rest) (change as_truth (local rest)))
      (give_safe i (int_of 1) (local rest) h) (expression b i m (Truth ∷ rest) (change_safe i as_truth (local rest) h)))
  expression (Choice c a b) i n rest h =
      let m = n + size c in
      expression c i n (Choose a b m ∷ rest)
      (choose_safe i (ev.expression a m rest (local rest)) (ev.expression b (m + size a) rest (local rest))
      (expression a i m rest h) (expression b i (m + size a) rest h))
  expression (Assign p e) i n rest h =
      let m = n + size_parts p in
      let w = m + size e in
      parts p i n (Compute e m ∷ Set p w ∷ rest) (expression e i m (Set p w ∷ rest) (set_safe p i w rest h))
  expression (Update type op p e) i n rest h =
      let r = n + size_parts p in
      let m = r + size_read p in
      let w = m + size e in
      let kept = ConvertTo type ∷ Set p w ∷ rest in
      parts p i n (Dup p ∷ Get p r ∷ Compute e m ∷ Combine op ∷ kept)
      (dup_safe p i (local (Get p r ∷ Compute e m ∷ Combine op ∷ kept))
      (get_safe p i r (Compute e m ∷ Combine op ∷ kept)
      (expression e i m (Combine op ∷ kept)
      (combine_safe i op (local kept) (change_safe i (converted_to type) (local (Set p w ∷ rest)) (set_safe p i w rest h))))))
  expression (Postfix type op p) i n rest h =
      let r = n + size_parts p in
      let w = r + size_read p in
      let last = Set p w ∷ Drop ∷ rest in
      let kept = Tuck p ∷ Push one ∷ Combine op ∷ ConvertTo type ∷ last in
      parts p i n (Dup p ∷ Get p r ∷ kept)
      (dup_safe p i (local (Get p r ∷ kept))
      (get_safe p i r kept
      (tuck_safe p i (local (Push one ∷ Combine op ∷ ConvertTo type ∷ last))
      (give_safe i one (local (Combine op ∷ ConvertTo type ∷ last))
      (combine_safe i op (local (ConvertTo type ∷ last))
      (change_safe i (converted_to type) (local last) (set_safe p i w (Drop ∷ rest) (drop_safe i (local rest) h))))))))
  expression (Call name arguments) i n rest h =
      let m = n + size_all arguments in
      let s = stop.Call name (count arguments) in
      expressions arguments i n (At s m ∷ rest) (stop_safe i s m rest tt h)
  expression (Print format arguments) i n rest h =
      let m = n + size_all arguments in
      let s = stop.Print format (count arguments) in
      expressions arguments i n (At s m ∷ rest) (stop_safe i s m rest tt h)
  expression (New tag) i n rest h = stop_safe i (stop.New tag) n rest tt h
  expression (Free tag e) i n rest h =
      let m = n + size e in expression e i n (At (stop.Free tag) m ∷ rest) (stop_safe i (stop.Free tag) m rest tt h)
  expression (Create p name e) i n rest h =
      let m = n + size_parts p in
      let s = m + size e in
      let kept = Set p (s + 1) ∷ Created ∷ rest in
      parts p i n (Compute e m ∷ At (stop.Spawn name) s ∷ kept)
      (expression e i m (At (stop.Spawn name) s ∷ kept)
      (stop_safe i (stop.Spawn name) s kept tt
      (set_safe p i (s + 1) (Created ∷ rest) (change_safe i creation (local rest) h))))
  expression (Join e) i n rest h =
      let m = n + size e in
      let kept = Drop ∷ Push (int_of 0) ∷ rest in
      expression e i n (At stop.Join m ∷ kept)
      (stop_safe i stop.Join m kept tt (drop_safe i (local (Push (int_of 0) ∷ rest)) (give_safe i (int_of 0) (local rest) h)))
  expression (JoinInto e p) i n rest h =
      let m = n + size e in
      let j = m + size_parts p in
      let last = Drop ∷ Push (int_of 0) ∷ rest in
      let kept = Set p (j + 1) ∷ last in
      expression e i n (Parts p m ∷ Swap p ∷ At stop.Join j ∷ kept)
      (parts p i m (Swap p ∷ At stop.Join j ∷ kept)
      (swap_part_safe p i (local (At stop.Join j ∷ kept))
      (stop_safe i stop.Join j kept tt
      (set_safe p i (j + 1) last (drop_safe i (local (Push (int_of 0) ∷ rest)) (give_safe i (int_of 0) (local rest) h))))))
  expression (InitMutex name) i n rest h = stop_safe i (stop.InitMutex name) n rest tt h
  expression (Lock name) i n rest h = stop_safe i (stop.Lock name) n rest tt h
  expression (Unlock name) i n rest h = stop_safe i (stop.Unlock name) n rest tt h

  expressions : (es : Expressions) (i n : ℕ) (rest : List Piece) → Safe i (local rest)
      → Safe i (ev.expressions es n rest (local rest))
  expressions NoExpressions i n rest h = h
  expressions (ExpressionThen e es) i n rest h =
      let m = n + size e in expression e i n (Arguments es m ∷ rest) (expressions es i m rest h)

  parts : (p : Place) (i n : ℕ) (rest : List Piece) → Safe i (local rest) → Safe i (ev.parts p n rest (local rest))
  parts (Local name) i n rest h = h
  parts (Global name) i n rest h = h
  parts (Element name index) i n rest h = expression index i n rest h
  parts (Field tag handle name) i n rest h = expression handle i n rest h
