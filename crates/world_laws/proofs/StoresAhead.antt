-- Local evaluation of pieces that store values of the declared types ends at stops that do.
use Rattle.std.proofs.Common.{◌≡◌, ℕ, ◌+◌, Bool, true, false, List, [], ◌∷◌, Option, Some, None, Result, Ok, Err, refl, subst, if◌then◌else◌}
use Rattle.c_ints.specs.declared.int.Int.{Int}
use Rattle.c_ints.specs.declared.operator.ArithTrap.{ArithTrap}
use Rattle.c_ints.specs.declared.operator.BinOp.{BinOp}
use Rattle.c_ints.specs.declared.operator.UnOp.{UnOp}
use Rattle.c_ints.specs.Number.{kind_of}
use Rattle.c_tree.specs.BareExpr.{Bytes, BareType, Integer}
use Rattle.c_semantics.specs.Texts.{Definitions}
use Rattle.c_semantics.specs.Values.{Value, Number, int_of, converted_to, is_true, binary_result, unary_result}
use Rattle.c_semantics.specs.Resolved.{Expression, Expressions, Place, Statement, Statements}
use Rattle.c_semantics.specs.Resolved as made
use Rattle.c_semantics.specs.Points.{size, size_all, size_parts, size_read}
use Rattle.c_semantics.specs.Stops.{Stop}
use Rattle.c_semantics.specs.Stops as stop
use Rattle.c_semantics.specs.Pieces.{Piece, Scopes, Compute, Arguments, Parts, Get, Set, Dup, Tuck, Swap, Apply, Combine, ConvertTo, Drop, Push, Truth, Created, AndThen, OrElse, Choose, At}
use Rattle.c_semantics.specs.Evaluation.{Next, Ways, stop_at, give, change, drop, settle, apply, combine, choose, as_truth, creation, look_up, declared, open_scope, close_scope, load_value, load, store, get, set, copy, swap, tuck_under, dup, tuck, swap_part, one, count, closing, only, back_edge, stepped, looped, tested, loop_test, repeated, until, loop_of, ways, local}
use Rattle.c_semantics.specs.Evaluation as ev
use Rattle.patch_faults.specs.TransformLaws.{has_type}
use Rattle.world_laws.proofs.TypedValues.{of_kind, converted_has_type}
use Rattle.world_laws.proofs.Storing.{Newest, Serves, given, given_at, shared_type, IsDeclared, Stores, AllStore, PartsStore, StopFits, asked_at, asked, PiecesStore, HaltStores}

-- ---- types that are asked

-- where none is given none is asked
pub unasked : (o : Option BareType) → Serves None o → o ≡ None
unasked None s = refl
unasked (Some t) s = cc

pub unasked_newest : (o : Option BareType) (values : List Value) → Serves None o → Newest o values
unasked_newest None values s = tt
unasked_newest (Some t) values s = cc

pub serves_more : (type o : Option BareType) → Serves None o → Serves type o
serves_more type None s = tt
serves_more type (Some t) s = cc

-- a value of the type that is given
pub newest_given : (t : BareType) (o : Option BareType) (v : Value) (values : List Value) → has_type t v ≡ true → Serves (Some t) o
    → Newest o (v ∷ values)
newest_given t None v values h s = tt
newest_given t (Some u) v values h s = let same : t ≡ u = cc in subst (λ x. has_type x v ≡ true) same h

-- only the newest value counts
pub newest_alone : (o : Option BareType) (v : Value) (values : List Value) → Newest o (v ∷ []) → Newest o (v ∷ values)
newest_alone None v values h = tt
newest_alone (Some t) v values h = h

module _ (look : Definitions) (result : BareType) where
  -- what goes on from values of which the newest is as asked ends as it must
  abbrev pub Good : Option BareType → Next → Type 0
  Good o k = (values : List Value) (scopes : Scopes) → Newest o values → HaltStores look result (k values scopes)

  abbrev pub Rest : List Piece → Type 0
  Rest = PiecesStore look result

  abbrev pub After : List Piece → Option BareType
  After = asked look result

  pub plain : (o : Option BareType) (k : Next) → Serves None o → Good o k → Good None k
  plain o k s g values scopes h = g values scopes (unasked_newest o values s)

  pub asking : (o : Option BareType) (k : Next) → Good None k → Good o k
  asking o k g values scopes h = g values scopes tt

  -- ---- single steps

  pub stopped : (s : Stop) (n : ℕ) (rest : List Piece) → StopFits look s → Serves (given_at s) (After rest) → Rest rest
      → Good (asked_at look result s) (stop_at s n rest)
  stopped s n rest fits serves more values scopes h = (fits, h, serves, more)

  pub given_good : (v : Value) (o : Option BareType) (k : Next) → Newest o (v ∷ []) → Good o k → Good None (give v k)
  given_good v o k h g values scopes _ = g (v ∷ values) scopes (newest_alone o v values h)

  pub changed_good : (f : Value → Value) (t : BareType) (o : Option BareType) (k : Next) → ((v : Value) → has_type t (f v) ≡ true)
      → Serves (Some t) o → Good o k → Good None (change f k)
  changed_good f t o k h s g [] scopes _ = tt
  changed_good f t o k h s g (v ∷ values) scopes _ = g (f v ∷ values) scopes (newest_given t o (f v) values (h v) s)

  pub change_good : (f : Value → Value) (k : Next) → Good None k → Good None (change f k)
  change_good f k g [] scopes _ = tt
  change_good f k g (v ∷ values) scopes _ = g (f v ∷ values) scopes tt

  pub drop_good : (k : Next) → Good None k → Good None (drop k)
  drop_good k g [] scopes _ = tt
  drop_good k g (v ∷ values) scopes _ = g values scopes tt

  settle_good : (r : Result Value ArithTrap) (values : List Value) (scopes : Scopes) (k : Next) → Good None k
      → HaltStores look result (settle r values scopes k)
  settle_good (Ok v) values scopes k g = g (v ∷ values) scopes tt
  settle_good (Err trap) values scopes k g = tt

  pub apply_good : (op : UnOp) (k : Next) → Good None k → Good None (apply op k)
  apply_good op k g [] scopes _ = tt
  apply_good op k g (v ∷ values) scopes _ = settle_good (unary_result op v) values scopes k g

  pub combine_good : (op : BinOp) (k : Next) → Good None k → Good None (combine op k)
  combine_good op k g [] scopes _ = tt
  combine_good op k g (b ∷ []) scopes _ = tt
  combine_good op k g (b ∷ a ∷ values) scopes _ = settle_good (binary_result op a b) values scopes k g

  pub choose_good : (a b : Next) → Good None a → Good None b → Good None (choose a b)
  choose_good a b g h [] scopes _ = tt
  choose_good a b g h (v ∷ values) scopes _ = by (is_true v)
    where
      by : (t : Bool) → HaltStores look result ((if t then a else b) values scopes)
      by true = g values scopes tt
      by false = h values scopes tt

  load_good : (name : Bytes) (k : Next) → Good None k → Good None (load name k)
  load_good name k g values scopes _ = by (look_up scopes name)
    where
      by : (o : Option Value) → HaltStores look result (load_value o values scopes k)
      by None = tt
      by (Some v) = g (v ∷ values) scopes tt

  store_good : (name : Bytes) (k : Next) → Good None k → Good None (store name k)
  store_good name k g [] scopes _ = tt
  store_good name k g (v ∷ values) scopes _ = g (v ∷ values) (ev.stored name v scopes) tt

  copy_good : (k : Next) → Good None k → Good None (copy k)
  copy_good k g [] scopes _ = tt
  copy_good k g (v ∷ values) scopes _ = g (v ∷ v ∷ values) scopes tt

  swap_good : (k : Next) → Good None k → Good None (swap k)
  swap_good k g [] scopes _ = tt
  swap_good k g (a ∷ []) scopes _ = tt
  swap_good k g (a ∷ b ∷ values) scopes _ = g (b ∷ a ∷ values) scopes tt

  tuck_under_good : (k : Next) → Good None k → Good None (tuck_under k)
  tuck_under_good k g [] scopes _ = tt
  tuck_under_good k g (a ∷ []) scopes _ = tt
  tuck_under_good k g (a ∷ b ∷ values) scopes _ = g (a ∷ b ∷ a ∷ values) scopes tt

  pub dup_good : (p : Place) (k : Next) → Good None k → Good None (dup p k)
  dup_good (made.Local name) k g = g
  dup_good (made.Global name) k g = g
  dup_good (made.Element name index) k g = copy_good k g
  dup_good (made.Field tag handle name) k g = copy_good k g

  pub tuck_good : (p : Place) (k : Next) → Good None k → Good None (tuck p k)
  tuck_good (made.Local name) k g = copy_good k g
  tuck_good (made.Global name) k g = copy_good k g
  tuck_good (made.Element name index) k g = tuck_under_good k g
  tuck_good (made.Field tag handle name) k g = tuck_under_good k g

  pub swap_part_good : (p : Place) (k : Next) → Good None k → Good None (swap_part p k)
  swap_part_good (made.Local name) k g = g
  swap_part_good (made.Global name) k g = g
  swap_part_good (made.Element name index) k g = swap_good k g
  swap_part_good (made.Field tag handle name) k g = swap_good k g

  pub get_good : (p : Place) (n : ℕ) (rest : List Piece) (k : Next) → Serves None (After rest) → Rest rest → Good (After rest) k
      → Good None (get p n rest k)
  get_good (made.Local name) n rest k s more g = load_good name k (plain (After rest) k s g)
  get_good (made.Global name) n rest k s more g = stopped (stop.ReadGlobal name) n rest tt s more
  get_good (made.Element name index) n rest k s more g = stopped (stop.ReadElement name) n rest tt s more
  get_good (made.Field tag handle name) n rest k s more g = stopped (stop.ReadField tag name) n rest tt s more

  pub set_good : (p : Place) (n : ℕ) (rest : List Piece) (k : Next) → IsDeclared look p → Serves None (After rest) → Rest rest
      → Good (After rest) k → Good (shared_type look p) (set p n rest k)
  set_good (made.Local name) n rest k is s more g = store_good name k (plain (After rest) k s g)
  set_good (made.Global name) n rest k is s more g = stopped (stop.WriteGlobal name) n rest is s more
  set_good (made.Element name index) n rest k is s more g = stopped (stop.WriteElement name) n rest is s more
  set_good (made.Field tag handle name) n rest k is s more g = stopped (stop.WriteField tag name) n rest tt s more

  -- what a place asks of the piece before its write is what it takes
  number_given : (n : Int) (o : Option BareType) → Serves (Some (Integer (kind_of n))) o → Newest o (Number n ∷ [])
  number_given n o s = newest_given (Integer (kind_of n)) o (Number n) [] (of_kind (kind_of n) n refl) s

  -- ---- trees

  mutual
    pub expression_good : (e : Expression) (n : ℕ) (rest : List Piece) (k : Next) → Stores look e → Serves (given e) (After rest)
        → Rest rest → Good (After rest) k → Good None (ev.expression e n rest k)
    expression_good (made.Constant v) n rest k h s more g = given_good (Number v) (After rest) k (number_given v (After rest) s) g
    expression_good (made.Read p) n rest k h s more g =
        let m = n + size_parts p in
        parts_good p n (Get p m ∷ rest) (get p m rest k) h tt (tt, s, more) (get_good p m rest k s more g)
    expression_good (made.Unary op a) n rest k h s more g =
        expression_good a n (Apply op ∷ rest) (apply op k) h tt (tt, s, more) (apply_good op k (plain (After rest) k s g))
    expression_good (made.Binary op a b) n rest k h s more g =
        let m = n + size a in
        expression_good a n (Compute b m ∷ Combine op ∷ rest) (ev.expression b m (Combine op ∷ rest) (combine op k)) h.0 tt
        (h.1, tt, (tt, s, more))
        (expression_good b m (Combine op ∷ rest) (combine op k) h.1 tt (tt, s, more) (combine_good op k (plain (After rest) k s g)))
    expression_good (made.Convert type a) n rest k h s more g =
        expression_good a n (ConvertTo type ∷ rest) (change (converted_to type) k) h tt (tt, s, more)
        (changed_good (converted_to type) type (After rest) k (converted_has_type type) s g)
    expression_good (made.And a b) n rest k h s more g =
        let m = n + size a in
        let on = plain (After rest) k s g in
        expression_good a n (AndThen b m ∷ rest) _ h.0 tt (h.1, s, more)
        (choose_good (ev.expression b m (Truth ∷ rest) (change as_truth k)) (give (int_of 0) k)
        (expression_good b m (Truth ∷ rest) (change as_truth k) h.1 tt (tt, s, more) (change_good as_truth k on))
        (given_good (int_of 0) None k tt on))
    expression_good (made.Or a b) n rest k h s more g =
        let m = n + size a in
        let on = plain (After rest) k s g in
        expression_good a n (OrElse b m ∷ rest) _ h.0 tt (h.1, s, more)
        (choose_good (give (int_of 1) k) (ev.expression b m (Truth ∷ rest) (change as_truth k)) (given_good (int_of 1) None k tt on)
        (expression_good b m (Truth ∷ rest) (change as_truth k) h.1 tt (tt, s, more) (change_good as_truth k on)))
    expression_good (made.Choice c a b) n rest k h s more g =
        let m = n + size c in
        expression_good c n (Choose a b m ∷ rest) _ h.0 tt ((h.1, h.2), s, more)
        (choose_good (ev.expression a m rest k) (ev.expression b (m + size a) rest k)
        (expression_good a m rest k h.1 (serves_more (given a) (After rest) s) more g)
        (expression_good b (m + size a) rest k h.2 (serves_more (given b) (After rest) s) more g))
    expression_good (made.Assign p e) n rest k h s more g =
        let m = n + size_parts p in
        let w = m + size e in
        parts_good p n (Compute e m ∷ Set p w ∷ rest) _ h.1 tt (h.2, h.0.1, (h.0.0, s, more))
        (expression_good e m (Set p w ∷ rest) (set p w rest k) h.2 h.0.1 (h.0.0, s, more) (set_good p w rest k h.0.0 s more g))
    expression_good (made.Update type op p e) n rest k h s more g =
        let r = n + size_parts p in
        let m = r + size_read p in
        let w = m + size e in
        let kept = ConvertTo type ∷ Set p w ∷ rest in
        let kept_store : Rest kept = (tt, h.0.1, (h.0.0, s, more)) in
        let at_end : Good None (change (converted_to type) (set p w rest k)) =
        changed_good (converted_to type) type (shared_type look p) (set p w rest k) (converted_has_type type) h.0.1
        (set_good p w rest k h.0.0 s more g) in
        let added = combine_good op (change (converted_to type) (set p w rest k)) at_end in
        let computed = expression_good e m (Combine op ∷ kept) _ h.2 tt (tt, tt, kept_store) added in
        parts_good p n (Dup p ∷ Get p r ∷ Compute e m ∷ Combine op ∷ kept) _ h.1 tt (tt, tt, (tt, tt, (h.2, tt, (tt, tt, kept_store))))
        (dup_good p _
        (get_good p r (Compute e m ∷ Combine op ∷ kept) _ tt (h.2, tt, (tt, tt, kept_store)) computed))
    expression_good (made.Postfix type op p) n rest k h s more g =
        let r = n + size_parts p in
        let w = r + size_read p in
        let last : Rest (Drop ∷ rest) = (tt, s, more) in
        let kept = Tuck p ∷ Push one ∷ Combine op ∷ ConvertTo type ∷ Set p w ∷ Drop ∷ rest in
        let kept_store : Rest kept = (tt, tt, (tt, tt, (tt, tt, (tt, h.0.1, (h.0.0, tt, last))))) in
        let written = set_good p w (Drop ∷ rest) (drop k) h.0.0 tt last (drop_good k (plain (After rest) k s g)) in
        let at_end = changed_good (converted_to type) type (shared_type look p) _ (converted_has_type type) h.0.1 written in
        parts_good p n (Dup p ∷ Get p r ∷ kept) _ h.1 tt (tt, tt, (tt, tt, kept_store))
        (dup_good p _
        (get_good p r kept _ tt kept_store (tuck_good p _ (given_good one None _ tt (combine_good op _ at_end)))))
    expression_good (made.Call name arguments) n rest k h s more g =
        let m = n + size_all arguments in
        let at = stop.Call name (count arguments) in
        expressions_good arguments n (At at m ∷ rest) (stop_at at m rest) h tt (tt, s, more) (stopped at m rest tt s more)
    expression_good (made.Print format arguments) n rest k h s more g =
        let m = n + size_all arguments in
        let at = stop.Print format (count arguments) in
        expressions_good arguments n (At at m ∷ rest) (stop_at at m rest) h tt (tt, s, more) (stopped at m rest tt s more)
    expression_good (made.New tag) n rest k h s more g = stopped (stop.New tag) n rest tt s more
    expression_good (made.Free tag e) n rest k h s more g =
        let m = n + size e in
        expression_good e n (At (stop.Free tag) m ∷ rest) (stop_at (stop.Free tag) m rest) h tt (tt, s, more)
        (stopped (stop.Free tag) m rest tt s more)
    expression_good (made.Create p name e) n rest k h s more g =
        let m = n + size_parts p in
        let t = m + size e in
        let kept = Set p (t + 1) ∷ Created ∷ rest in
        let kept_store : Rest kept = (h.0.0, tt, (tt, s, more)) in
        let spawned = stopped (stop.Spawn name) t kept h.1 h.0.1 kept_store in
        parts_good p n (Compute e m ∷ At (stop.Spawn name) t ∷ kept) _ h.2 tt (h.3, tt, (h.1, h.0.1, kept_store))
        (expression_good e m (At (stop.Spawn name) t ∷ kept) _ h.3 tt (h.1, h.0.1, kept_store) spawned)
    expression_good (made.Join e) n rest k h s more g =
        let m = n + size e in
        let kept = Drop ∷ Push (int_of 0) ∷ rest in
        let kept_store : Rest kept = (tt, tt, (tt, unasked_newest (After rest) (int_of 0 ∷ []) s, more)) in
        expression_good e n (At stop.Join m ∷ kept) _ h tt (tt, tt, kept_store) (stopped stop.Join m kept tt tt kept_store)
    expression_good (made.JoinInto e p) n rest k h s more g =
        let m = n + size e in
        let j = m + size_parts p in
        let kept = Set p (j + 1) ∷ Drop ∷ Push (int_of 0) ∷ rest in
        let kept_store : Rest kept = (h.0.0, tt, (tt, tt, (tt, unasked_newest (After rest) (int_of 0 ∷ []) s, more))) in
        let joined = stopped stop.Join j kept tt h.0.1 kept_store in
        expression_good e n (Parts p m ∷ Swap p ∷ At stop.Join j ∷ kept) _ h.1 tt (h.2, tt, (tt, tt, (tt, h.0.1, kept_store)))
        (parts_good p m (Swap p ∷ At stop.Join j ∷ kept) _ h.2 tt (tt, tt, (tt, h.0.1, kept_store)) (swap_part_good p (stop_at stop.Join j kept) joined))
    expression_good (made.InitMutex name) n rest k h s more g = stopped (stop.InitMutex name) n rest tt s more
    expression_good (made.Lock name) n rest k h s more g = stopped (stop.Lock name) n rest h s more
    expression_good (made.Unlock name) n rest k h s more g = stopped (stop.Unlock name) n rest tt s more

    pub expressions_good : (es : Expressions) (n : ℕ) (rest : List Piece) (k : Next) → AllStore look es → Serves None (After rest)
        → Rest rest → Good None k → Good None (ev.expressions es n rest k)
    expressions_good made.NoExpressions n rest k h s more g = g
    expressions_good (made.ExpressionThen e es) n rest k h s more g =
        let m = n + size e in
        expression_good e n (Arguments es m ∷ rest) _ h.0 tt (h.1, s, more) (expressions_good es m rest k h.1 s more g)

    pub parts_good : (p : Place) (n : ℕ) (rest : List Piece) (k : Next) → PartsStore look p → Serves None (After rest) → Rest rest
        → Good None k → Good None (ev.parts p n rest k)
    parts_good (made.Local name) n rest k h s more g = g
    parts_good (made.Global name) n rest k h s more g = g
    parts_good (made.Element name index) n rest k h s more g =
        expression_good index n rest k h (serves_more (given index) (After rest) s) more (asking (After rest) k g)
    parts_good (made.Field tag handle name) n rest k h s more g =
        expression_good handle n rest k h (serves_more (given handle) (After rest) s) more (asking (After rest) k g)
