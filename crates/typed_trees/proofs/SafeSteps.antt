-- What each piece of local evaluation does is safe where the types are as the piece wants them.
use Rattle.std.proofs.Common.{◌≡◌, ℕ, Bool, true, false, IsTrue, List, [], ◌∷◌, ◌++◌, Option, Some, None, Result, Ok, Err, refl, sym, ap, subst, ◌∙◌}
use Rattle.std.specs.Prelude.{if◌then◌else◌}
use Rattle.std.specs.Option.{is_some, option_map_or}
use Rattle.c_ints.specs.declared.operator.ArithTrap.{ArithTrap}
use Rattle.c_ints.specs.declared.operator.BinOp.{BinOp}
use Rattle.c_ints.specs.declared.operator.UnOp.{UnOp}
use Rattle.c_ints.specs.Arithmetic.{binary_kind, truth, unary_kind}
use Rattle.c_tree.specs.BareExpr.{Bytes, BareType, Integer, Thread}
use Rattle.c_tree.specs.BareDef.{BareBinding}
use Rattle.c_semantics.specs.Names.{struct_name}
use Rattle.c_semantics.specs.Texts.{Definitions, bound, global_type, int, members_of}
use Rattle.c_semantics.specs.Values.{Value, Number, Reference, Started, binary_result, converted_to, is_true, unary_result}
use Rattle.c_semantics.specs.Resolution.{kind}
use Rattle.c_semantics.specs.Resolved.{Place, Local, Global, Element, Field}
use Rattle.c_semantics.specs.Stops.{Stop}
use Rattle.c_semantics.specs.Stops as stop
use Rattle.c_semantics.specs.Pieces.{Piece, Scopes, Get, Set, Dup, Tuck, Swap, Apply, Combine, ConvertTo, Drop, Push, Truth, Created, Close, At}
use Rattle.c_semantics.specs.Evaluation.{Next, apply, as_truth, change, choose, close_scope, combine, copy, creation, drop, dup, get, give, load_value, look_up, open_scope, set, settle, stop_at, stored, swap, swap_part, tuck, tuck_under}
use Rattle.c_semantics.specs.Evaluation as ev
use Rattle.typed_trees.specs.ValueTypes.{Environment, HasType, HaveTypes, ScopesHave}
use Rattle.typed_trees.specs.ExpressionTypes.{AreOperands, Becomes, IsOperand, IsPlaced, IsScalar, part_types, place_type, type_of}
use Rattle.typed_trees.specs.StatementTypes.{with_variable}
use Rattle.c_semantics.specs.Values
use Rattle.typed_trees.specs.PieceTypes
use Rattle.typed_trees.specs.PieceTypes.{EndsWell, GoesOn, HasField, Pops, Stack, StopTyped, field_type, going}
use Rattle.typed_trees.proofs.ValuesOfTypes.{ResultHas, binary_has, converted_has, declared_has, never, stored_has, unary_has, variable_holds, without_objects, zero_has}

-- the newest values, and those under them
pub pops : (ts : List BareType) (stack : Stack) (under_are : Stack → Type 0) → under_are stack → Pops ts (ts ++ stack) under_are
pops [] stack under_are h = h
pops (t ∷ ts) stack under_are h = (refl, pops ts stack under_are h)

pub record Popped (ts : List BareType) (stack : Stack) (under_are : Stack → Type 0) : Type 0 where
  pub under : Stack
  pub is : stack ≡ ts ++ under
  pub holds : under_are under

pub popped : (ts : List BareType) (stack : Stack) (under_are : Stack → Type 0) → Pops ts stack under_are → Popped ts stack under_are
popped [] stack under_are h = record { under = stack; is = refl; holds = h }
popped (t ∷ ts) [] under_are h = absurd h
popped (t ∷ ts) (u ∷ stack) under_are h =
    let r = popped ts stack under_are h.1 in
    record { under = r.under; is = ap (λ x. x ∷ stack) h.0 ∙ ap (λ xs. t ∷ xs) r.is; holds = r.holds }

some_bound : (bs : List BareBinding) (name : Bytes) → IsTrue (is_some (bound bs name)) → (b : BareBinding) × (bound bs name ≡ Some b)
some_bound bs name e = by (bound bs name) refl e
  where
    by : (o : Option BareBinding) → bound bs name ≡ o → IsTrue (is_some o) → (b : BareBinding) × (bound bs name ≡ Some b)
    by (Some b) is e = (b, is)
    by None is e = absurd (never e)

module _ (look : Definitions) (result : BareType) (tags : List Bytes) where
  -- pending pieces go on well from these types
  abbrev pub Typed : List Piece → Stack → Environment → Type 0
  Typed ps = (going look result ps).on

  -- what goes on ends well from all values and variables of these types
  abbrev pub Safe : Next → Stack → Environment → Type 0
  Safe k stack env =
      (values : List Value) (scopes : Scopes) → HaveTypes tags stack values → ScopesHave tags env scopes
      → EndsWell look result tags (k values scopes)

  -- both
  pub record Fine (ps : List Piece) (k : Next) (stack : Stack) (env : Environment) : Type 0 where
    pub typed : Typed ps stack env
    pub safe : Safe k stack env

  pub give_safe : (v : Value) (t : BareType) (k : Next) (stack : Stack) (env : Environment) → HasType tags t v
      → Safe k (t ∷ stack) env → Safe (give v k) stack env
  give_safe v t k stack env h s values scopes hv hs = s (v ∷ values) scopes (h, hv) hs

  pub change_safe : (f : Value → Value) (t u : BareType) (k : Next) (stack : Stack) (env : Environment)
      → ((v : Value) → HasType tags t v → HasType tags u (f v)) → Safe k (u ∷ stack) env → Safe (change f k) (t ∷ stack) env
  change_safe f t u k stack env h s [] scopes hv hs = absurd hv
  change_safe f t u k stack env h s (v ∷ values) scopes hv hs = s (f v ∷ values) scopes (h v hv.0, hv.1) hs

  pub drop_safe : (t : BareType) (k : Next) (stack : Stack) (env : Environment) → Safe k stack env → Safe (drop k) (t ∷ stack) env
  drop_safe t k stack env s [] scopes hv hs = absurd hv
  drop_safe t k stack env s (v ∷ values) scopes hv hs = s values scopes hv.1 hs

  settle_safe : (t : BareType) (r : Result Value ArithTrap) (k : Next) (stack : Stack) (env : Environment) → ResultHas tags t r
      → Safe k (t ∷ stack) env → (values : List Value) (scopes : Scopes) → HaveTypes tags stack values → ScopesHave tags env scopes
      → EndsWell look result tags (settle r values scopes k)
  settle_safe t (Ok v) k stack env h s values scopes hv hs = s (v ∷ values) scopes (h, hv) hs
  settle_safe t (Err trap) k stack env h s values scopes hv hs = (trap, refl)

  pub apply_safe : (op : UnOp) (t : BareType) (k : Next) (stack : Stack) (env : Environment) → IsOperand op t
      → Safe k (Integer (unary_kind op (kind t)) ∷ stack) env → Safe (apply op k) (t ∷ stack) env
  apply_safe op t k stack env o s [] scopes hv hs = absurd hv
  apply_safe op t k stack env o s (v ∷ values) scopes hv hs =
      settle_safe (Integer (unary_kind op (kind t))) (unary_result op v) k stack env (unary_has tags op t v o hv.0) s values scopes hv.1 hs

  pub combine_safe : (op : BinOp) (t u : BareType) (k : Next) (stack : Stack) (env : Environment) → AreOperands op t u
      → Safe k (Integer (binary_kind op (kind t) (kind u)) ∷ stack) env → Safe (combine op k) (u ∷ t ∷ stack) env
  combine_safe op t u k stack env o s [] scopes hv hs = absurd hv
  combine_safe op t u k stack env o s (b ∷ []) scopes hv hs = absurd hv.1
  combine_safe op t u k stack env o s (b ∷ a ∷ values) scopes hv hs =
      settle_safe (Integer (binary_kind op (kind t) (kind u))) (binary_result op a b) k stack env (binary_has tags op t u a b o hv.1.0 hv.0) s values scopes hv.1.1 hs

  pub choose_safe : (t : BareType) (a b : Next) (stack : Stack) (env : Environment) → Safe a stack env → Safe b stack env
      → Safe (choose a b) (t ∷ stack) env
  choose_safe t a b stack env f g [] scopes hv hs = absurd hv
  choose_safe t a b stack env f g (v ∷ values) scopes hv hs = by (is_true v)
    where
      by : (x : Bool) → EndsWell look result tags ((if x then a else b) values scopes)
      by true = f values scopes hv.1 hs
      by false = g values scopes hv.1 hs

  -- a stop that has what it takes
  pub stop_safe : (s : Stop) (n : ℕ) (rest : List Piece) (stack : Stack) (env : Environment)
      → StopTyped look result s stack (λ under. Typed rest under env) → Safe (stop_at s n rest) stack env
  stop_safe s n rest stack env t values scopes hv hs =
      record { stack = stack; env = env; typed = t; values_have = hv; scopes_have = hs }

  pub stop_fine : (s : Stop) (n : ℕ) (rest : List Piece) (stack : Stack) (env : Environment)
      → StopTyped look result s stack (λ under. Typed rest under env) → Fine (At s n ∷ rest) (stop_at s n rest) stack env
  stop_fine s n rest stack env t = record { typed = t; safe = stop_safe s n rest stack env t }

  -- scopes
  pub open_safe : (k : Next) (stack : Stack) (env : Environment) → Safe k stack ([] ∷ env) → Safe (open_scope k) stack env
  open_safe k stack env s values scopes hv hs = s values ([] ∷ scopes) hv (tt, hs)

  pub close_safe : (k : Next) (stack : Stack) (env : Environment) (bs : List BareBinding) → Safe k stack env → Safe (close_scope k) stack (bs ∷ env)
  close_safe k stack env bs s values [] hv hs = absurd hs
  close_safe k stack env bs s values (variables ∷ scopes) hv hs = s values scopes hv hs.1

  pub declare_safe : (type : BareType) (name : Bytes) (k : Next) (stack : Stack) (env : Environment) → Safe k stack (with_variable type name env)
      → Safe (ev.declare type name k) stack env
  declare_safe type name k stack env s values scopes hv hs =
      s values (ev.declared name (Values.zero_of type) scopes) hv (declared_has tags env scopes type name (Values.zero_of type) (zero_has tags type) hs)

  -- ---- pieces before others

  pub give_fine : (v : Value) (t : BareType) (ps : List Piece) (k : Next) (stack : Stack) (env : Environment) → HasType [] t v
      → Fine ps k (t ∷ stack) env → Fine (Push v ∷ ps) (give v k) stack env
  give_fine v t ps k stack env h f =
      record { typed = (t, h, f.typed); safe = give_safe v t k stack env (without_objects tags t v h) f.safe }

  pub drop_fine : (t : BareType) (ps : List Piece) (k : Next) (stack : Stack) (env : Environment) → Fine ps k stack env
      → Fine (Drop ∷ ps) (drop k) (t ∷ stack) env
  drop_fine t ps k stack env f = record { typed = f.typed; safe = drop_safe t k stack env f.safe }

  pub convert_fine : (to t : BareType) (ps : List Piece) (k : Next) (stack : Stack) (env : Environment) → Becomes to t
      → Fine ps k (to ∷ stack) env → Fine (ConvertTo to ∷ ps) (change (converted_to to) k) (t ∷ stack) env
  convert_fine to t ps k stack env b f =
      record { typed = (b, f.typed); safe = change_safe (converted_to to) t to k stack env (λ v h. converted_has tags to t v b h) f.safe }

  pub apply_fine : (op : UnOp) (t : BareType) (ps : List Piece) (k : Next) (stack : Stack) (env : Environment) → IsOperand op t
      → Fine ps k (Integer (unary_kind op (kind t)) ∷ stack) env → Fine (Apply op ∷ ps) (apply op k) (t ∷ stack) env
  apply_fine op t ps k stack env o f = record { typed = (o, f.typed); safe = apply_safe op t k stack env o f.safe }

  pub combine_fine : (op : BinOp) (t u : BareType) (ps : List Piece) (k : Next) (stack : Stack) (env : Environment) → AreOperands op t u
      → Fine ps k (Integer (binary_kind op (kind t) (kind u)) ∷ stack) env → Fine (Combine op ∷ ps) (combine op k) (u ∷ t ∷ stack) env
  combine_fine op t u ps k stack env o f = record { typed = (o, f.typed); safe = combine_safe op t u k stack env o f.safe }

  pub truth_fine : (t : BareType) (ps : List Piece) (k : Next) (stack : Stack) (env : Environment) → IsScalar t
      → Fine ps k (int ∷ stack) env → Fine (Truth ∷ ps) (change as_truth k) (t ∷ stack) env
  truth_fine t ps k stack env o f =
      record { typed = (o, f.typed); safe = change_safe as_truth t int k stack env (λ v h. is_int (is_true v)) f.safe }
    where
      is_int : (b : Bool) → HasType tags int (Number (truth b))
      is_int true = refl
      is_int false = refl

  creation_has : (v : Value) → HasType tags Thread v → HasType tags int (creation v)
  creation_has (Number n) h = absurd h
  creation_has (Reference r) h = absurd h
  creation_has (Started None) h = refl
  creation_has (Started (Some r)) h = refl

  pub created_fine : (t : BareType) (ps : List Piece) (k : Next) (stack : Stack) (env : Environment) → t ≡ Thread
      → Fine ps k (int ∷ stack) env → Fine (Created ∷ ps) (change creation k) (t ∷ stack) env
  created_fine t ps k stack env e f = record {
    typed = (e, f.typed);
    safe = change_safe creation t int k stack env (λ v h. creation_has v (subst (λ u. HasType tags u v) e h)) f.safe;
  }

  pub close_fine : (bs : List BareBinding) (ps : List Piece) (k : Next) (stack : Stack) (env : Environment) → Fine ps k stack env
      → Fine (Close ∷ ps) (close_scope k) stack (bs ∷ env)
  close_fine bs ps k stack env f = record { typed = f.typed; safe = close_safe k stack env bs f.safe }

  -- ---- places

  load_safe : (name : Bytes) (k : Next) (stack : Stack) (env : Environment) → IsPlaced look env (Local name)
      → Safe k (place_type look env (Local name) ∷ stack) env → Safe (ev.load name k) stack env
  load_safe name k stack env p s values scopes hv hs =
      let w = variable_holds tags env scopes name hs p in
      subst (λ o. EndsWell look result tags (load_value o values scopes k)) (sym w.there) (s (w.value ∷ values) scopes (w.has, hv) hs)

  store_safe : (name : Bytes) (k : Next) (stack : Stack) (env : Environment)
      → Safe k (place_type look env (Local name) ∷ stack) env → Safe (ev.store name k) (place_type look env (Local name) ∷ stack) env
  store_safe name k stack env s [] scopes hv hs = absurd hv
  store_safe name k stack env s (v ∷ values) scopes hv hs =
      s (v ∷ values) (stored name v scopes) hv
      (stored_has tags env scopes name v (λ b is. subst (λ o. HasType tags (option_map_or (λ c. c.declared) o int) v) is hv.0) hs)

  pub get_safe : (p : Place) (n : ℕ) (ps : List Piece) (k : Next) (stack : Stack) (env : Environment) → IsPlaced look env p
      → Fine ps k (place_type look env p ∷ stack) env → Safe (get p n ps k) (part_types look env p ++ stack) env
  get_safe (Local name) n ps k stack env p f = load_safe name k stack env p f.safe
  get_safe (Global name) n ps k stack env p f = stop_safe (stop.ReadGlobal name) n ps stack env (p, f.typed)
  get_safe (Element name i) n ps k stack env p f =
      stop_safe (stop.ReadElement name) n ps (type_of look env i ∷ stack) env (p.2, (p.1, f.typed))
  get_safe (Field tag e name) n ps k stack env p f =
      stop_safe (stop.ReadField tag name) n ps (type_of look env e ∷ stack) env
      (some_bound (members_of (look (struct_name tag))) name p.2, (p.1, f.typed))

  pub get_fine : (p : Place) (n : ℕ) (ps : List Piece) (k : Next) (stack : Stack) (env : Environment) → IsPlaced look env p
      → Fine ps k (place_type look env p ∷ stack) env → Fine (Get p n ∷ ps) (get p n ps k) (part_types look env p ++ stack) env
  get_fine p n ps k stack env placed f = record {
    typed = (placed, pops (part_types look env p) stack (λ under. Typed ps (place_type look env p ∷ under) env) f.typed);
    safe = get_safe p n ps k stack env placed f;
  }

  set_exact : (p : Place) (n : ℕ) (ps : List Piece) (k : Next) (stack : Stack) (env : Environment) → IsPlaced look env p
      → Fine ps k (place_type look env p ∷ stack) env
      → Safe (set p n ps k) (place_type look env p ∷ (part_types look env p ++ stack)) env
  set_exact (Local name) n ps k stack env p f = store_safe name k stack env f.safe
  set_exact (Global name) n ps k stack env p f =
      stop_safe (stop.WriteGlobal name) n ps (global_type (look name) ∷ stack) env (p, (refl, f.typed))
  set_exact (Element name i) n ps k stack env p f =
      stop_safe (stop.WriteElement name) n ps (global_type (look name) ∷ type_of look env i ∷ stack) env (p.2, (refl, (p.1, f.typed)))
  set_exact (Field tag e name) n ps k stack env p f =
      stop_safe (stop.WriteField tag name) n ps (field_type look tag name ∷ type_of look env e ∷ stack) env
      (some_bound (members_of (look (struct_name tag))) name p.2, (refl, (p.1, f.typed)))

  pub set_fine : (p : Place) (n : ℕ) (t : BareType) (ps : List Piece) (k : Next) (stack : Stack) (env : Environment) → IsPlaced look env p
      → t ≡ place_type look env p → Fine ps k (place_type look env p ∷ stack) env
      → Fine (Set p n ∷ ps) (set p n ps k) (t ∷ (part_types look env p ++ stack)) env
  set_fine p n t ps k stack env placed e f = record {
    typed = (placed, (e, pops (part_types look env p) stack (λ under. Typed ps (place_type look env p ∷ under) env) f.typed));
    safe = subst (λ u. Safe (set p n ps k) (u ∷ (part_types look env p ++ stack)) env) (sym e) (set_exact p n ps k stack env placed f);
  }

  copy_safe : (t : BareType) (k : Next) (stack : Stack) (env : Environment) → Safe k (t ∷ t ∷ stack) env → Safe (copy k) (t ∷ stack) env
  copy_safe t k stack env s [] scopes hv hs = absurd hv
  copy_safe t k stack env s (v ∷ values) scopes hv hs = s (v ∷ v ∷ values) scopes (hv.0, (hv.0, hv.1)) hs

  tuck_safe : (t u : BareType) (k : Next) (stack : Stack) (env : Environment) → Safe k (t ∷ u ∷ t ∷ stack) env
      → Safe (tuck_under k) (t ∷ u ∷ stack) env
  tuck_safe t u k stack env s [] scopes hv hs = absurd hv
  tuck_safe t u k stack env s (a ∷ []) scopes hv hs = absurd hv.1
  tuck_safe t u k stack env s (a ∷ b ∷ values) scopes hv hs = s (a ∷ b ∷ a ∷ values) scopes (hv.0, (hv.1.0, (hv.0, hv.1.1))) hs

  swap_safe : (t u : BareType) (k : Next) (stack : Stack) (env : Environment) → Safe k (t ∷ u ∷ stack) env → Safe (swap k) (u ∷ t ∷ stack) env
  swap_safe t u k stack env s [] scopes hv hs = absurd hv
  swap_safe t u k stack env s (a ∷ []) scopes hv hs = absurd hv.1
  swap_safe t u k stack env s (a ∷ b ∷ values) scopes hv hs = s (b ∷ a ∷ values) scopes (hv.1.0, (hv.0, hv.1.1)) hs

  dup_safe : (p : Place) (k : Next) (stack : Stack) (env : Environment)
      → Safe k (part_types look env p ++ (part_types look env p ++ stack)) env → Safe (dup p k) (part_types look env p ++ stack) env
  dup_safe (Local name) k stack env s = s
  dup_safe (Global name) k stack env s = s
  dup_safe (Element name i) k stack env s = copy_safe (type_of look env i) k stack env s
  dup_safe (Field tag e name) k stack env s = copy_safe (type_of look env e) k stack env s

  pub dup_fine : (p : Place) (ps : List Piece) (k : Next) (stack : Stack) (env : Environment)
      → Fine ps k (part_types look env p ++ (part_types look env p ++ stack)) env
      → Fine (Dup p ∷ ps) (dup p k) (part_types look env p ++ stack) env
  dup_fine p ps k stack env f = record {
    typed = pops (part_types look env p) stack (λ under. Typed ps (part_types look env p ++ (part_types look env p ++ under)) env) f.typed;
    safe = dup_safe p k stack env f.safe;
  }

  keep_safe : (p : Place) (t : BareType) (k : Next) (stack : Stack) (env : Environment)
      → Safe k (t ∷ (part_types look env p ++ (t ∷ stack))) env → Safe (tuck p k) (t ∷ (part_types look env p ++ stack)) env
  keep_safe (Local name) t k stack env s = copy_safe t k stack env s
  keep_safe (Global name) t k stack env s = copy_safe t k stack env s
  keep_safe (Element name i) t k stack env s = tuck_safe t (type_of look env i) k stack env s
  keep_safe (Field tag e name) t k stack env s = tuck_safe t (type_of look env e) k stack env s

  pub tuck_fine : (p : Place) (t : BareType) (ps : List Piece) (k : Next) (stack : Stack) (env : Environment)
      → Fine ps k (t ∷ (part_types look env p ++ (t ∷ stack))) env
      → Fine (Tuck p ∷ ps) (tuck p k) (t ∷ (part_types look env p ++ stack)) env
  tuck_fine p t ps k stack env f = record {
    typed = pops (part_types look env p) stack (λ under. Typed ps (t ∷ (part_types look env p ++ (t ∷ under))) env) f.typed;
    safe = keep_safe p t k stack env f.safe;
  }

  part_safe : (p : Place) (t : BareType) (k : Next) (stack : Stack) (env : Environment)
      → Safe k (t ∷ (part_types look env p ++ stack)) env → Safe (swap_part p k) (part_types look env p ++ (t ∷ stack)) env
  part_safe (Local name) t k stack env s = s
  part_safe (Global name) t k stack env s = s
  part_safe (Element name i) t k stack env s = swap_safe t (type_of look env i) k stack env s
  part_safe (Field tag e name) t k stack env s = swap_safe t (type_of look env e) k stack env s

  pub swap_fine : (p : Place) (t : BareType) (ps : List Piece) (k : Next) (stack : Stack) (env : Environment)
      → Fine ps k (t ∷ (part_types look env p ++ stack)) env
      → Fine (Swap p ∷ ps) (swap_part p k) (part_types look env p ++ (t ∷ stack)) env
  swap_fine p t ps k stack env f = record {
    typed =
        pops (part_types look env p) (t ∷ stack)
        (λ below. PieceTypes.Top below (λ u under. Typed ps (u ∷ (part_types look env p ++ under)) env)) f.typed;
    safe = part_safe p t k stack env f.safe;
  }
