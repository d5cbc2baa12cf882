-- What single pieces do, their code does, where what comes after them is done.
use Rattle.std.proofs.Common.{◌≡◌, ℕ, suc, ◌+◌, ◌<◌, Bool, true, false, List, [], ◌∷◌, ◌++◌, map, length, slice_get, slice_set, Some, None, Result, Ok, refl, sym, ap, subst, ◌∙◌, lt-ltb}
use Rattle.std.proofs.lemmas.List.{length-set}
use Rattle.std.proofs.lemmas.Option.{slice_get_within}
use Rattle.std.specs.Prelude.{not, if◌then◌else◌}
use Rattle.std.specs.Option.{option_map_or}
use Rattle.c_ints.specs.declared.operator.ArithTrap.{ArithTrap}
use Rattle.c_ints.specs.declared.operator.BinOp.{BinOp}
use Rattle.c_ints.specs.declared.operator.UnOp.{UnOp}
use Rattle.c_ints.specs.declared.operator.UnOp.TheVariants.{Not}
use Rattle.c_ints.specs.Number.{value_of}
use Rattle.c_ints.specs.Arithmetic.{binary_kind, is_zero, truth, unary_kind}
use Rattle.c_tree.specs.BareExpr.{Bytes, BareType, Integer}
use Rattle.c_tree.specs.BareDef.{BareBinding}
use Rattle.c_semantics.specs.Texts.{Definitions, int}
use Rattle.c_semantics.specs.Values.{Value, Number, Reference, Started, binary_result, is_true, unary_result, zero_of}
use Rattle.c_semantics.specs.Resolution.{kind}
use Rattle.c_semantics.specs.Resolved.{Local}
use Rattle.c_semantics.specs.Stops.{Stop}
use Rattle.c_semantics.specs.Pieces.{Piece, Scopes, Halt, Stopped, Trapped, Nothing, At as StopAt}
use Rattle.c_semantics.specs.Evaluation.{Next, apply, change, choose, close_scope, combine, copy, drop, give, load_value, look_up, open_scope, settle, stop_at, stored, swap, tuck_under}
use Rattle.c_semantics.specs.Evaluation as ev
use Rattle.typed_trees.specs.ValueTypes.{Environment, HasType, HaveTypes, ScopesHave, in_scope}
use Rattle.typed_trees.specs.ExpressionTypes.{AreOperands, IsOperand, IsPlaced, IsScalar, place_type}
use Rattle.typed_trees.specs.StatementTypes.{with_variable}
use Rattle.typed_trees.specs.PieceTypes.{Stack, StopTyped}
use Rattle.typed_trees.proofs.ValuesOfTypes.{ResultHas, binary_has, declared_has, itself, stored_has, unary_has, variable_holds, zero_has}
use Rattle.bytecode.specs.Words.{Naming, Distinguishes, word_of}
use Rattle.bytecode.specs.Instructions.{Instruction, Constant, Load, Store, Copy, CopyUnder, Jump, JumpIfZero, JumpUnlessZero}
use Rattle.bytecode.specs.Instructions as instruction
use Rattle.bytecode.specs.Meaning.{State, Runs, here, Goes, Lost, loaded, next as next_of, perform_if}
use Rattle.tree_code.specs.Ranges.{Ranged, AllRanged}
use Rattle.tree_code.specs.Code.{Code, application, combination, kind_of_type, slot, zero_code}
use Rattle.tree_code.specs.CodedPieces.{At, Branch, Reaches, Stops, Tests, Where, branched, coding, if_zero, jumps_on, there, unless_zero}
use Rattle.tree_code.specs.CodeLaws.{EndsSo, HasWords, Holds, variables_in}
use Rattle.tree_code.proofs.WordValues.{zero_ranged, zero_word}
use Rattle.tree_code.proofs.WordSteps.{Settled, after_one, application_runs, combination_runs, copy_runs, copy_under_runs, drop_runs, jump_if_zero, jump_runs, jump_unless_zero, runs_append, runs_one, settles, swap_runs, traps, truth_ranged}
use Rattle.tree_code.proofs.CodePlaces.{Span}
use Rattle.tree_code.proofs.Variables.{as_many_variables, declared_holds, found, outer_hold, stored_holds}

-- some function's code, in a run
pub record Setting : Type 0 where
  pub code : Code
  pub most : ℕ
  pub look : Definitions
  pub result : BareType
  pub tags : List Bytes
  pub names : Naming
  pub has_words : HasWords code
  pub apart : Distinguishes (length tags) names

-- the place after one instruction
pub to_next : (code : Code) (p : ℕ) (i : Instruction) (q : ℕ) → Span code p (i ∷ []) q → q ≡ suc p
to_next code p i q s = s.ends ∙ after_one p

module _ (c : Setting) where
  -- the code does pending pieces from there
  abbrev pub Coded : List Piece → Stack → Environment → Where → Type 0
  Coded ps = (coding c.code c.most c.look c.result ps).on

  abbrev pub words_of : List Value → List ℕ
  words_of values = map (word_of c.names) values

  abbrev pub state : ℕ → List ℕ → List ℕ → State
  state p stack locals = record { place = p; stack = stack; locals = locals }

  -- a frame where control is
  abbrev pub start : Where → List Value → List ℕ → State
  start (At p) values locals = state p (words_of values) locals
  start (Branch t f) [] locals = state f [] locals
  start (Branch t f) (v ∷ values) locals = state (if is_true v then t else f) (words_of values) locals

  -- values and variables are as they should
  pub record Kept (stack : Stack) (env : Environment) (values : List Value) (scopes : Scopes) (locals : List ℕ) : Type 0 where
    pub values_have : HaveTypes c.tags stack values
    pub scopes_have : ScopesHave c.tags env scopes
    pub ranged : AllRanged values
    pub variables : Holds c.names (variables_in scopes) locals
    pub room : length locals ≡ c.most

  abbrev pub Ends : Halt → State → Type 0
  Ends = EndsSo c.code c.most c.look c.result c.tags c.names

  -- from there the code ends as what goes on does
  abbrev pub Ready : Next → Stack → Environment → Where → Type 0
  Ready k stack env w =
      (values : List Value) (scopes : Scopes) (locals : List ℕ) → Kept stack env values scopes locals
      → Ends (k values scopes) (start w values locals)

  -- both
  pub record Fine (ps : List Piece) (k : Next) (stack : Stack) (env : Environment) (w : Where) : Type 0 where
    pub coded : Coded ps stack env w
    pub ready : Ready k stack env w

  pub fine_on : (ps : List Piece) (k : Next) (stack : Stack) (env : Environment) (p q : ℕ) → p ≡ q → Fine ps k stack env (At p)
      → Fine ps k stack env (At q)
  fine_on ps k stack env p q e f = subst (λ x. Fine ps k stack env (At x)) e f

  pub ready_on : (k : Next) (stack : Stack) (env : Environment) (p q : ℕ) → p ≡ q → Ready k stack env (At p) → Ready k stack env (At q)
  ready_on k stack env p q e f = subst (λ x. Ready k stack env (At x)) e f

  -- ---- runs

  pub after_runs : (h : Halt) (s t : State) → Runs c.code s t → Ends h t → Ends h s
  after_runs (Stopped stop n rest values scopes) s t r e = record {
    to = e.to;
    after = e.after;
    runs = runs_append c.code s t e.to r e.runs;
    stands = e.stands;
    matches = e.matches;
  }
  after_runs (Trapped kind) s t r e = record { to = e.to; runs = runs_append c.code s t e.to r e.runs; traps = e.traps }
  after_runs Nothing s t r e = e

  pub reaches_runs : (p q : ℕ) (stack locals : List ℕ) → Reaches c.code p q → Runs c.code (state p stack locals) (state q stack locals)
  reaches_runs p q stack locals (there a) = here (state a stack locals)
  reaches_runs p q stack locals (jumps_on a d b is r) =
      runs_append c.code (state a stack locals) (state (suc a + d) stack locals) (state b stack locals)
      (jump_runs c.code d (state a stack locals) is) (reaches_runs (suc a + d) b stack locals r)

  pub reached : (k : Next) (stack : Stack) (env : Environment) (p q : ℕ) → Reaches c.code p q → Ready k stack env (At q) → Ready k stack env (At p)
  reached k stack env p q r f values scopes locals h =
      after_runs (k values scopes) (state p (words_of values) locals) (state q (words_of values) locals) (reaches_runs p q (words_of values) locals r)
      (f values scopes locals h)

  -- one instruction whose effect is known
  performs : (s t : State) (i : Instruction) → slice_get c.code s.place ≡ Some i → perform_if (Some i) s ≡ Goes t → Runs c.code s t
  performs s t i is goes = runs_one c.code s t (ap (λ o. perform_if o s) is ∙ goes)

  constant_runs : (p w : ℕ) (t : BareType) (stack locals : List ℕ) → slice_get c.code p ≡ Some (Constant (kind_of_type t) w)
      → Runs c.code (state p stack locals) (state (suc p) (w ∷ stack) locals)
  constant_runs p w t stack locals is = performs (state p stack locals) (state (suc p) (w ∷ stack) locals) (Constant (kind_of_type t) w) is refl

  load_runs : (p n w : ℕ) (stack locals : List ℕ) → slice_get c.code p ≡ Some (Load n) → slice_get locals n ≡ Some w
      → Runs c.code (state p stack locals) (state (suc p) (w ∷ stack) locals)
  load_runs p n w stack locals is e =
      performs (state p stack locals) (state (suc p) (w ∷ stack) locals) (Load n) is
      (ap (λ o. loaded o (λ x. next_of (state p stack locals) (x ∷ stack))) e)

  store_runs : (p n w : ℕ) (stack locals : List ℕ) → slice_get c.code p ≡ Some (Store n) → n < length locals
      → Runs c.code (state p (w ∷ stack) locals) (state (suc p) stack (slice_set locals n w))
  store_runs p n w stack locals is l =
      performs (state p (w ∷ stack) locals) (state (suc p) stack (slice_set locals n w)) (Store n) is
      (ap (λ x. if x then Goes (state (suc p) stack (slice_set locals n w)) else Lost) (lt-ltb n (length locals) l))

  -- ---- values that come and go

  pub one_more : (t : BareType) (v : Value) (stack : Stack) (env : Environment) (values : List Value) (scopes : Scopes) (locals : List ℕ)
      → HasType c.tags t v → Ranged v → Kept stack env values scopes locals → Kept (t ∷ stack) env (v ∷ values) scopes locals
  one_more t v stack env values scopes locals has r h = record {
    values_have = (has, h.values_have);
    scopes_have = h.scopes_have;
    ranged = (r, h.ranged);
    variables = h.variables;
    room = h.room;
  }

  pub one_less : (t : BareType) (v : Value) (stack : Stack) (env : Environment) (values : List Value) (scopes : Scopes) (locals : List ℕ)
      → Kept (t ∷ stack) env (v ∷ values) scopes locals → Kept stack env values scopes locals
  one_less t v stack env values scopes locals h = record {
    values_have = h.values_have.1;
    scopes_have = h.scopes_have;
    ranged = h.ranged.1;
    variables = h.variables;
    room = h.room;
  }

  pub give_ready : (v : Value) (t : BareType) (k : Next) (stack : Stack) (env : Environment) (p q : ℕ) → HasType c.tags t v → Ranged v
      → ((ws locals : List ℕ) → Runs c.code (state p ws locals) (state q (word_of c.names v ∷ ws) locals))
      → Ready k (t ∷ stack) env (At q) → Ready (give v k) stack env (At p)
  give_ready v t k stack env p q has r runs f values scopes locals h =
      after_runs (k (v ∷ values) scopes) (state p (words_of values) locals) (state q (words_of (v ∷ values)) locals) (runs (words_of values) locals)
      (f (v ∷ values) scopes locals (one_more t v stack env values scopes locals has r h))

  -- a value that becomes another
  pub record Becoming (f : Value → Value) (t u : BareType) (p q : ℕ) : Type 0 where
    pub has : (v : Value) → HasType c.tags t v → HasType c.tags u (f v)
    pub ranged : (v : Value) → HasType c.tags t v → Ranged v → Ranged (f v)
    pub runs : (v : Value) (ws locals : List ℕ) → HasType c.tags t v → Ranged v
        → Runs c.code (state p (word_of c.names v ∷ ws) locals) (state q (word_of c.names (f v) ∷ ws) locals)

  pub change_ready : (g : Value → Value) (t u : BareType) (k : Next) (stack : Stack) (env : Environment) (p q : ℕ) → Becoming g t u p q
      → Ready k (u ∷ stack) env (At q) → Ready (change g k) (t ∷ stack) env (At p)
  change_ready g t u k stack env p q b f [] scopes locals h = absurd h.values_have
  change_ready g t u k stack env p q b f (v ∷ values) scopes locals h =
      after_runs (k (g v ∷ values) scopes) (state p (words_of (v ∷ values)) locals) (state q (words_of (g v ∷ values)) locals)
      (b.runs v (words_of values) locals h.values_have.0 h.ranged.0)
      (f (g v ∷ values) scopes locals
      (one_more u (g v) stack env values scopes locals (b.has v h.values_have.0) (b.ranged v h.values_have.0 h.ranged.0)
      (one_less t v stack env values scopes locals h)))

  pub drop_ready : (t : BareType) (k : Next) (stack : Stack) (env : Environment) (p : ℕ) → slice_get c.code p ≡ Some instruction.Drop
      → Ready k stack env (At (suc p)) → Ready (drop k) (t ∷ stack) env (At p)
  drop_ready t k stack env p is f [] scopes locals h = absurd h.values_have
  drop_ready t k stack env p is f (v ∷ values) scopes locals h =
      after_runs (k values scopes) (state p (words_of (v ∷ values)) locals) (state (suc p) (words_of values) locals)
      (drop_runs c.code (word_of c.names v) (state p (words_of (v ∷ values)) locals) (words_of values) refl is)
      (f values scopes locals (one_less t v stack env values scopes locals h))

  -- a value that isn't there is dropped
  pub skip_ready : (t : BareType) (k : Next) (stack : Stack) (env : Environment) (if_so if_not q : ℕ) → Reaches c.code if_so q → Reaches c.code if_not q
      → Ready k stack env (At q) → Ready (drop k) (t ∷ stack) env (Branch if_so if_not)
  skip_ready t k stack env if_so if_not q a b f [] scopes locals h = absurd h.values_have
  skip_ready t k stack env if_so if_not q a b f (v ∷ values) scopes locals h = by (is_true v)
    where
      by : (x : Bool) → Ends (k values scopes) (state (if x then if_so else if_not) (words_of values) locals)
      by true = reached k stack env if_so q a f values scopes locals (one_less t v stack env values scopes locals h)
      by false = reached k stack env if_not q b f values scopes locals (one_less t v stack env values scopes locals h)

  -- ---- operators

  settled : (t : BareType) (r : Result Value ArithTrap) (k : Next) (stack : Stack) (env : Environment) (p q : ℕ) (ws : List ℕ)
      (values : List Value) (scopes : Scopes) (locals : List ℕ) → ResultHas c.tags t r
      → Settled c.code c.names r (state p ws locals) q (words_of values) → Ready k (t ∷ stack) env (At q)
      → Kept stack env values scopes locals → Ends (settle r values scopes k) (state p ws locals)
  settled t r k stack env p q ws values scopes locals has (settles v e ranged runs) f h =
      subst (λ x. Ends (settle x values scopes k) (state p ws locals)) (sym e)
      (after_runs (k (v ∷ values) scopes) (state p ws locals) (state q (words_of (v ∷ values)) locals) runs
      (f (v ∷ values) scopes locals (one_more t v stack env values scopes locals (subst (ResultHas c.tags t) e has) ranged h)))
  settled t r k stack env p q ws values scopes locals has (traps trap e comes) f h =
      subst (λ x. Ends (settle x values scopes k) (state p ws locals)) (sym e) comes

  pub apply_ready : (op : UnOp) (t : BareType) (k : Next) (stack : Stack) (env : Environment) (p q : ℕ) → IsOperand op t
      → Span c.code p (application op t) q → Ready k (Integer (unary_kind op (kind t)) ∷ stack) env (At q) → Ready (apply op k) (t ∷ stack) env (At p)
  apply_ready op t k stack env p q o s f [] scopes locals h = absurd h.values_have
  apply_ready op t k stack env p q o s f (v ∷ values) scopes locals h =
      let start = state p (words_of (v ∷ values)) locals in
      settled (Integer (unary_kind op (kind t))) (unary_result op v) k stack env p q (words_of (v ∷ values)) values scopes locals
      (unary_has c.tags op t v o h.values_have.0)
      (subst (λ x. Settled c.code c.names (unary_result op v) start x (words_of values)) (sym s.ends)
      (application_runs c.code c.names c.tags op t v start (words_of values) o h.values_have.0 h.ranged.0 c.apart refl s.has))
      f (one_less t v stack env values scopes locals h)

  pub combine_ready : (op : BinOp) (t u : BareType) (k : Next) (stack : Stack) (env : Environment) (p q : ℕ) → AreOperands op t u
      → Span c.code p (combination op t u ∷ []) q → Ready k (Integer (binary_kind op (kind t) (kind u)) ∷ stack) env (At q)
      → Ready (combine op k) (u ∷ t ∷ stack) env (At p)
  combine_ready op t u k stack env p q o s f [] scopes locals h = absurd h.values_have
  combine_ready op t u k stack env p q o s f (b ∷ []) scopes locals h = absurd h.values_have.1
  combine_ready op t u k stack env p q o s f (b ∷ a ∷ values) scopes locals h =
      let start = state p (words_of (b ∷ a ∷ values)) locals in
      settled (Integer (binary_kind op (kind t) (kind u))) (binary_result op a b) k stack env p q (words_of (b ∷ a ∷ values)) values scopes locals
      (binary_has c.tags op t u a b o h.values_have.1.0 h.values_have.0)
      (subst (λ x. Settled c.code c.names (binary_result op a b) start x (words_of values)) (sym s.ends)
      (combination_runs c.code c.names c.tags op t u a b start (words_of values) o h.values_have.1.0 h.values_have.0 h.ranged.1.0 h.ranged.0 c.apart refl
      s.has))
      f (one_less t a stack env values scopes locals (one_less u b (t ∷ stack) env (a ∷ values) scopes locals h))

  -- ---- tests

  pub test_runs : (t : BareType) (v : Value) (values : List Value) (locals : List ℕ) (w : Where) (if_so if_not : ℕ) → Tests c.code w if_so if_not
      → IsScalar t → HasType c.tags t v → Ranged v
      → Runs c.code (start w (v ∷ values) locals) (state (if is_true v then if_so else if_not) (words_of values) locals)
  test_runs t v values locals w if_so if_not (branched a b) o h r = here (state (if is_true v then a else b) (words_of values) locals)
  test_runs t v values locals w if_so if_not (if_zero p q d reaches is) o h r =
      runs_append c.code (state p (words_of (v ∷ values)) locals) (state q (words_of (v ∷ values)) locals)
      (state (if is_true v then suc q else suc q + d) (words_of values) locals) (reaches_runs p q (words_of (v ∷ values)) locals reaches)
      (jump_if_zero c.code c.names c.tags t v d (state q (words_of (v ∷ values)) locals) (words_of values) o h r c.apart refl is)
  test_runs t v values locals w if_so if_not (unless_zero p q d reaches is) o h r =
      runs_append c.code (state p (words_of (v ∷ values)) locals) (state q (words_of (v ∷ values)) locals)
      (state (if is_true v then suc q + d else suc q) (words_of values) locals) (reaches_runs p q (words_of (v ∷ values)) locals reaches)
      (jump_unless_zero c.code c.names c.tags t v d (state q (words_of (v ∷ values)) locals) (words_of values) o h r c.apart refl is)

  pub choose_ready : (t : BareType) (a b : Next) (stack : Stack) (env : Environment) (w : Where) (if_so if_not : ℕ) → IsScalar t
      → Tests c.code w if_so if_not → Ready a stack env (At if_so) → Ready b stack env (At if_not) → Ready (choose a b) (t ∷ stack) env w
  choose_ready t a b stack env w if_so if_not o test f g [] scopes locals h = absurd h.values_have
  choose_ready t a b stack env w if_so if_not o test f g (v ∷ values) scopes locals h =
      after_runs ((if is_true v then a else b) values scopes) (start w (v ∷ values) locals)
      (state (if is_true v then if_so else if_not) (words_of values) locals)
      (test_runs t v values locals w if_so if_not test o h.values_have.0 h.ranged.0) (by (is_true v))
    where
      by : (x : Bool) → Ends ((if x then a else b) values scopes) (state (if x then if_so else if_not) (words_of values) locals)
      by true = f values scopes locals (one_less t v stack env values scopes locals h)
      by false = g values scopes locals (one_less t v stack env values scopes locals h)

  not_is : (v : Value) → unary_result Not v ≡ Ok (Number (truth (not (is_true v))))
  not_is (Number n) = ap (λ x. Ok (Number (truth x))) (twice (is_zero (value_of n)))
    where
      twice : (x : Bool) → x ≡ not (not x)
      twice true = refl
      twice false = refl
  not_is (Reference r) = refl
  not_is (Started r) = refl

  -- `!` before a test
  pub not_ready : (t : BareType) (k : Next) (stack : Stack) (env : Environment) (w : Where) (if_so if_not : ℕ) → IsScalar t
      → Tests c.code w if_so if_not → Ready k (int ∷ stack) env (Branch if_not if_so) → Ready (apply Not k) (t ∷ stack) env w
  not_ready t k stack env w if_so if_not o test f [] scopes locals h = absurd h.values_have
  not_ready t k stack env w if_so if_not o test f (v ∷ values) scopes locals h =
      subst (λ r. Ends (settle r values scopes k) (start w (v ∷ values) locals)) (sym (not_is v))
      (by (is_true v) (test_runs t v values locals w if_so if_not test o h.values_have.0 h.ranged.0))
    where
      under : Kept stack env values scopes locals
      under = one_less t v stack env values scopes locals h

      by : (x : Bool) → Runs c.code (start w (v ∷ values) locals) (state (if x then if_so else if_not) (words_of values) locals)
          → Ends (k (Number (truth (not x)) ∷ values) scopes) (start w (v ∷ values) locals)
      by true runs =
          after_runs (k (Number (truth false) ∷ values) scopes) (start w (v ∷ values) locals) (state if_so (words_of values) locals) runs
          (f (Number (truth false) ∷ values) scopes locals
          (one_more int (Number (truth false)) stack env values scopes locals refl (truth_ranged (Started None)) under))
      by false runs =
          after_runs (k (Number (truth true) ∷ values) scopes) (start w (v ∷ values) locals) (state if_not (words_of values) locals) runs
          (f (Number (truth true) ∷ values) scopes locals
          (one_more int (Number (truth true)) stack env values scopes locals refl (truth_ranged (Reference (Some 0))) under))

  -- ---- stops

  pub stop_fine : (s : Stop) (n : ℕ) (ps : List Piece) (stack : Stack) (env : Environment) (p q : ℕ) → Stops c.code s n p q
      → StopTyped c.look c.result s stack (λ under. Coded ps under env (At q)) → Fine (StopAt s n ∷ ps) (stop_at s n ps) stack env (At p)
  stop_fine s n ps stack env p q at t = record {
    coded = (p, there p, (q, at, t));
    ready = λ values scopes locals h. record {
      to = state p (words_of values) locals;
      after = q;
      runs = here (state p (words_of values) locals);
      stands = at;
      matches = record {
        stack = stack;
        env = env;
        coded = (p, there p, (q, at, t));
        values_have = h.values_have;
        scopes_have = h.scopes_have;
        ranged = h.ranged;
        words = refl;
        variables = h.variables;
        room = h.room;
      };
    };
  }

  -- ---- scopes

  pub open_ready : (k : Next) (stack : Stack) (env : Environment) (w : Where) → Ready k stack ([] ∷ env) w → Ready (open_scope k) stack env w
  open_ready k stack env w f values scopes locals h = f values ([] ∷ scopes) locals (record {
    values_have = h.values_have;
    scopes_have = (tt, h.scopes_have);
    ranged = h.ranged;
    variables = h.variables;
    room = h.room;
  })

  pub close_ready : (k : Next) (stack : Stack) (env : Environment) (bs : List BareBinding) (w : Where) → Ready k stack env w
      → Ready (close_scope k) stack (bs ∷ env) w
  close_ready k stack env bs w f values [] locals h = absurd h.scopes_have
  close_ready k stack env bs w f values (vs ∷ scopes) locals h = f values scopes locals (record {
    values_have = h.values_have;
    scopes_have = h.scopes_have.1;
    ranged = h.ranged;
    variables = outer_hold c.names vs (variables_in scopes) locals h.variables;
    room = h.room;
  })

  new_slot : (env : Environment) (type : BareType) (name : Bytes) → slot (with_variable type name env) name ≡ length (in_scope env)
  new_slot [] type name = ap (λ x. if x then 0 else 0) (itself name)
  new_slot (bs ∷ env) type name = ap (λ x. if x then length (bs ++ in_scope env) else slot (bs ∷ env) name) (itself name)

  pub declare_ready : (type : BareType) (name : Bytes) (k : Next) (stack : Stack) (env : Environment) (p : ℕ)
      → slice_get c.code p ≡ Some (zero_code type) → slice_get c.code (suc p) ≡ Some (Store (slot (with_variable type name env) name))
      → length (in_scope env) < c.most → Ready k stack (with_variable type name env) (At (suc (suc p))) → Ready (ev.declare type name k) stack env (At p)
  declare_ready type name k stack env p made kept room f values scopes locals h =
      let many = as_many_variables c.tags env scopes h.scopes_have in
      let n = length (variables_in scopes) in
      let zero = word_of c.names (zero_of type) in
      let fits : n < length locals = subst (λ m. n < m) (sym h.room) (subst (λ m. m < c.most) many room) in
      let at : slice_get c.code (suc p) ≡ Some (Store n) = kept ∙ ap (λ m. Some (Store m)) (new_slot env type name ∙ many) in
      let zeroed : slice_get c.code p ≡ Some (Constant (kind_of_type type) zero) =
      made ∙ ap (λ w. Some (Constant (kind_of_type type) w)) (sym (zero_word c.names type)) in
      let scopes_after = ev.declared name (zero_of type) scopes in
      let after = slice_set locals n zero in
      after_runs (k values scopes_after) (state p (words_of values) locals) (state (suc (suc p)) (words_of values) after)
      (runs_append c.code (state p (words_of values) locals) (state (suc p) (zero ∷ words_of values) locals) (state (suc (suc p)) (words_of values) after)
      (constant_runs p zero type (words_of values) locals zeroed) (store_runs (suc p) n zero (words_of values) locals at fits))
      (f values scopes_after after (record {
        values_have = h.values_have;
        scopes_have = declared_has c.tags env scopes type name (zero_of type) (zero_has c.tags type) h.scopes_have;
        ranged = h.ranged;
        variables = declared_holds c.names scopes locals name (zero_of type) fits (zero_ranged type) h.variables;
        room = length-set locals n zero ∙ h.room;
      }))

  -- ---- variables

  pub load_ready : (name : Bytes) (k : Next) (stack : Stack) (env : Environment) (p : ℕ) → IsPlaced c.look env (Local name)
      → slice_get c.code p ≡ Some (Load (slot env name)) → Ready k (place_type c.look env (Local name) ∷ stack) env (At (suc p))
      → Ready (ev.load name k) stack env (At p)
  load_ready name k stack env p placed is f values scopes locals h =
      let w = variable_holds c.tags env scopes name h.scopes_have placed in
      let x = found c.names c.tags env scopes locals name w.value h.scopes_have h.variables w.there in
      let type = place_type c.look env (Local name) in
      subst (λ o. Ends (load_value o values scopes k) (state p (words_of values) locals)) (sym w.there)
      (after_runs (k (w.value ∷ values) scopes) (state p (words_of values) locals) (state (suc p) (words_of (w.value ∷ values)) locals)
      (load_runs p (slot env name) (word_of c.names w.value) (words_of values) locals is x.there)
      (f (w.value ∷ values) scopes locals (one_more type w.value stack env values scopes locals w.has x.ranged h)))

  -- the words of variables after a store
  stored_kept : (name : Bytes) (stack : Stack) (env : Environment) (v : Value) (values : List Value) (scopes : Scopes) (locals : List ℕ)
      → IsPlaced c.look env (Local name) → Kept (place_type c.look env (Local name) ∷ stack) env (v ∷ values) scopes locals
      → Kept (place_type c.look env (Local name) ∷ stack) env (v ∷ values) (stored name v scopes)
      (slice_set locals (slot env name) (word_of c.names v))
  stored_kept name stack env v values scopes locals placed h = record {
    values_have = h.values_have;
    scopes_have =
        stored_has c.tags env scopes name v
        (λ b is. subst (λ o. HasType c.tags (option_map_or (λ x. x.declared) o int) v) is h.values_have.0) h.scopes_have;
    ranged = h.ranged;
    variables = stored_holds c.names c.tags env scopes locals name v h.scopes_have placed h.ranged.0 h.variables;
    room = length-set locals (slot env name) (word_of c.names v) ∙ h.room;
  }

  fits : (name : Bytes) (stack : Stack) (env : Environment) (values : List Value) (scopes : Scopes) (locals : List ℕ)
      → IsPlaced c.look env (Local name) → Kept stack env values scopes locals → slot env name < length locals
  fits name stack env values scopes locals placed h =
      let w = variable_holds c.tags env scopes name h.scopes_have placed in
      let x = found c.names c.tags env scopes locals name w.value h.scopes_have h.variables w.there in
      slice_get_within locals (slot env name) (word_of c.names w.value) x.there

  -- a value that stays
  pub store_ready : (name : Bytes) (k : Next) (stack : Stack) (env : Environment) (p : ℕ) → IsPlaced c.look env (Local name)
      → slice_get c.code p ≡ Some Copy → slice_get c.code (suc p) ≡ Some (Store (slot env name))
      → Ready k (place_type c.look env (Local name) ∷ stack) env (At (suc (suc p)))
      → Ready (ev.store name k) (place_type c.look env (Local name) ∷ stack) env (At p)
  store_ready name k stack env p placed copies stores f [] scopes locals h = absurd h.values_have
  store_ready name k stack env p placed copies stores f (v ∷ values) scopes locals h =
      let type = place_type c.look env (Local name) in
      let w = word_of c.names v in
      let words = words_of (v ∷ values) in
      let after = slice_set locals (slot env name) w in
      after_runs (k (v ∷ values) (stored name v scopes)) (state p words locals) (state (suc (suc p)) words after)
      (runs_append c.code (state p words locals) (state (suc p) (w ∷ words) locals) (state (suc (suc p)) words after)
      (copy_runs c.code w (state p words locals) (words_of values) refl copies)
      (store_runs (suc p) (slot env name) w words locals stores (fits name (type ∷ stack) env (v ∷ values) scopes locals placed h)))
      (f (v ∷ values) (stored name v scopes) after (stored_kept name stack env v values scopes locals placed h))

  -- a value that goes
  pub store_only_ready : (name : Bytes) (k : Next) (stack : Stack) (env : Environment) (p : ℕ) → IsPlaced c.look env (Local name)
      → slice_get c.code p ≡ Some (Store (slot env name))
      → Ready k (place_type c.look env (Local name) ∷ stack) env (Branch (suc p) (suc p))
      → Ready (ev.store name k) (place_type c.look env (Local name) ∷ stack) env (At p)
  store_only_ready name k stack env p placed stores f [] scopes locals h = absurd h.values_have
  store_only_ready name k stack env p placed stores f (v ∷ values) scopes locals h =
      let type = place_type c.look env (Local name) in
      let w = word_of c.names v in
      let after = slice_set locals (slot env name) w in
      after_runs (k (v ∷ values) (stored name v scopes)) (state p (words_of (v ∷ values)) locals)
      (start (Branch (suc p) (suc p)) (v ∷ values) after)
      (subst (λ q. Runs c.code (state p (words_of (v ∷ values)) locals) (state q (words_of values) after)) (either (is_true v))
      (store_runs p (slot env name) w (words_of values) locals stores (fits name (type ∷ stack) env (v ∷ values) scopes locals placed h)))
      (f (v ∷ values) (stored name v scopes) after (stored_kept name stack env v values scopes locals placed h))
    where
      either : (x : Bool) → suc p ≡ (if x then suc p else suc p)
      either true = refl
      either false = refl

  -- ---- copies and exchanges

  pub copy_ready : (t : BareType) (k : Next) (stack : Stack) (env : Environment) (p : ℕ) → slice_get c.code p ≡ Some Copy
      → Ready k (t ∷ t ∷ stack) env (At (suc p)) → Ready (copy k) (t ∷ stack) env (At p)
  copy_ready t k stack env p is f [] scopes locals h = absurd h.values_have
  copy_ready t k stack env p is f (v ∷ values) scopes locals h =
      after_runs (k (v ∷ v ∷ values) scopes) (state p (words_of (v ∷ values)) locals) (state (suc p) (words_of (v ∷ v ∷ values)) locals)
      (copy_runs c.code (word_of c.names v) (state p (words_of (v ∷ values)) locals) (words_of values) refl is)
      (f (v ∷ v ∷ values) scopes locals (one_more t v (t ∷ stack) env (v ∷ values) scopes locals h.values_have.0 h.ranged.0 h))

  pub tuck_ready : (t u : BareType) (k : Next) (stack : Stack) (env : Environment) (p : ℕ) → slice_get c.code p ≡ Some CopyUnder
      → Ready k (t ∷ u ∷ t ∷ stack) env (At (suc p)) → Ready (tuck_under k) (t ∷ u ∷ stack) env (At p)
  tuck_ready t u k stack env p is f [] scopes locals h = absurd h.values_have
  tuck_ready t u k stack env p is f (a ∷ []) scopes locals h = absurd h.values_have.1
  tuck_ready t u k stack env p is f (a ∷ b ∷ values) scopes locals h =
      after_runs (k (a ∷ b ∷ a ∷ values) scopes) (state p (words_of (a ∷ b ∷ values)) locals) (state (suc p) (words_of (a ∷ b ∷ a ∷ values)) locals)
      (copy_under_runs c.code (word_of c.names a) (word_of c.names b) (state p (words_of (a ∷ b ∷ values)) locals) (words_of values) refl is)
      (f (a ∷ b ∷ a ∷ values) scopes locals (record {
        values_have = (h.values_have.0, (h.values_have.1.0, (h.values_have.0, h.values_have.1.1)));
        scopes_have = h.scopes_have;
        ranged = (h.ranged.0, (h.ranged.1.0, (h.ranged.0, h.ranged.1.1)));
        variables = h.variables;
        room = h.room;
      }))

  pub swap_ready : (t u : BareType) (k : Next) (stack : Stack) (env : Environment) (p : ℕ) → slice_get c.code p ≡ Some instruction.Swap
      → Ready k (t ∷ u ∷ stack) env (At (suc p)) → Ready (swap k) (u ∷ t ∷ stack) env (At p)
  swap_ready t u k stack env p is f [] scopes locals h = absurd h.values_have
  swap_ready t u k stack env p is f (a ∷ []) scopes locals h = absurd h.values_have.1
  swap_ready t u k stack env p is f (a ∷ b ∷ values) scopes locals h =
      after_runs (k (b ∷ a ∷ values) scopes) (state p (words_of (a ∷ b ∷ values)) locals) (state (suc p) (words_of (b ∷ a ∷ values)) locals)
      (swap_runs c.code (word_of c.names a) (word_of c.names b) (state p (words_of (a ∷ b ∷ values)) locals) (words_of values) refl is)
      (f (b ∷ a ∷ values) scopes locals (record {
        values_have = (h.values_have.1.0, (h.values_have.0, h.values_have.1.1));
        scopes_have = h.scopes_have;
        ranged = (h.ranged.1.0, (h.ranged.0, h.ranged.1.1));
        variables = h.variables;
        room = h.room;
      }))
