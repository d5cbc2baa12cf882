-- Single pieces before others: their code does them, where the code behind it does the others.
use Rattle.std.proofs.Common.{◌≡◌, ℕ, suc, ◌+◌, Bool, true, false, IsTrue, List, [], ◌∷◌, ◌++◌, length, slice_get, Option, Some, None, refl, sym, subst, ◌∙◌, inl, inr, arith}
use Rattle.std.specs.Prelude.{◌⊎◌}
use Rattle.std.specs.Option.{is_some}
use Rattle.c_ints.specs.declared.int.Int.{Int}
use Rattle.c_ints.specs.declared.operator.BinOp.{BinOp}
use Rattle.c_ints.specs.declared.operator.UnOp.{UnOp}
use Rattle.c_ints.specs.declared.operator.UnOp.TheVariants.{Not}
use Rattle.c_ints.specs.Arithmetic.{binary_kind, truth, unary_kind}
use Rattle.c_tree.specs.BareExpr.{Bytes, BareType, Integer, Thread}
use Rattle.c_tree.specs.BareDef.{BareBinding}
use Rattle.c_semantics.specs.Names.{struct_name}
use Rattle.c_semantics.specs.Texts.{bound, int, members_of}
use Rattle.c_semantics.specs.Values.{Value, Number, Reference, Started, converted_to, int_of, is_true}
use Rattle.c_semantics.specs.Resolution.{kind}
use Rattle.c_semantics.specs.Resolved.{Place, Local, Global, Element, Field}
use Rattle.c_semantics.specs.Stops as stop
use Rattle.c_semantics.specs.Pieces.{Piece, Get, Set, Dup, Tuck, Swap, Apply, Combine, ConvertTo, Drop, Push, Truth, Created, Close}
use Rattle.c_semantics.specs.Evaluation.{Next, apply, as_truth, change, close_scope, combine, creation, drop, dup, get, give, set, swap_part, tuck}
use Rattle.typed_trees.specs.ValueTypes.{Environment, HasType}
use Rattle.tree_code.specs.Ranges.{IsPlain}
use Rattle.typed_trees.specs.ExpressionTypes.{AreOperands, Becomes, IsOperand, IsPlaced, IsScalar, part_types, place_type, type_of}
use Rattle.typed_trees.specs.PieceTypes.{Stack, Top}
use Rattle.typed_trees.proofs.ValuesOfTypes.{converted_has, never}
use Rattle.typed_trees.proofs.SafeSteps.{pops}
use Rattle.bytecode.specs.Words.{word_of}
use Rattle.bytecode.specs.Instructions.{Constant, IsNotZero, IsZero}
use Rattle.bytecode.specs.Instructions as instruction
use Rattle.tree_code.specs.Code.{Code, application, combination, conversion, constant_code, copying, getting, kind_of_type, number_code, setting, setting_only, slot, swapping, tucking}
use Rattle.tree_code.specs.CodedPieces.{At, Branch, Has, HasAt, IsLocal, Tests, Where, plain_word, there}
use Rattle.tree_code.proofs.WordValues.{plain_has, plain_ranged}
use Rattle.tree_code.proofs.WordSteps.{constant_ranged, constant_runs, conversion_runs, converted_ranged, converted_runs, created_runs, creation_ranged, plain_runs, truth_ranged, truth_runs}
use Rattle.tree_code.proofs.CodePlaces.{Span, halves, nothing_between}
use Rattle.tree_code.proofs.CodeSteps.{Becoming, Coded, Fine, Ready, Setting, apply_ready, change_ready, close_ready, combine_ready, copy_ready, drop_ready, fine_on, give_ready, load_ready, not_ready, ready_on, skip_ready, state, stop_fine, store_only_ready, store_ready, swap_ready, to_next, tuck_ready}

some_bound : (bs : List BareBinding) (name : Bytes) → IsTrue (is_some (bound bs name)) → (b : BareBinding) × (bound bs name ≡ Some b)
some_bound bs name e = by (bound bs name) refl e
  where
    by : (o : Option BareBinding) → bound bs name ≡ o → IsTrue (is_some o) → (b : BareBinding) × (bound bs name ≡ Some b)
    by (Some b) is e = (b, is)
    by None is e = absurd (never e)

pub zero_plain : IsPlain int (int_of 0)
zero_plain = (refl, truth_ranged (Started None))

pub one_plain : IsPlain int (int_of 1)
one_plain = (refl, truth_ranged (Reference (Some 0)))

module _ (c : Setting) where
  abbrev Well : List Piece → Next → Stack → Environment → Where → Type 0
  Well = Fine c

  -- what is behind some code
  pub behind : (ps : List Piece) (k : Next) (stack : Stack) (env : Environment) (p : ℕ) (is : Code) (q : ℕ) → Span c.code p is q
      → Well ps k stack env (At q) → Well ps k stack env (At (p + length is))
  behind ps k stack env p is q s f = fine_on c ps k stack env q (p + length is) s.ends f

  -- ---- values that come and go

  -- a number of a tree
  pub number_ready : (n : Int) (t : BareType) (k : Next) (stack : Stack) (env : Environment) (p q : ℕ) → HasType c.tags t (Number n)
      → Span c.code p (number_code n ∷ []) q → Ready c k (t ∷ stack) env (At q) → Ready c (give (Number n) k) stack env (At p)
  number_ready n t k stack env p q has s f =
      give_ready c (Number n) t k stack env p (p + 1) has (constant_ranged c.code n p c.has_words s.has)
      (λ ws locals. constant_runs c.code c.names n (state c p ws locals) c.has_words s.has)
      (ready_on c k (t ∷ stack) env q (p + 1) s.ends f)

  -- a number that is converted
  pub converted_ready : (to : BareType) (n : Int) (k : Next) (stack : Stack) (env : Environment) (p q : ℕ)
      → HasType c.tags to (converted_to to (Number n)) → Span c.code p (constant_code to n ∷ []) q → Ready c k (to ∷ stack) env (At q)
      → Ready c (give (converted_to to (Number n)) k) stack env (At p)
  converted_ready to n k stack env p q has s f =
      give_ready c (converted_to to (Number n)) to k stack env p (p + 1) has (converted_ranged to (Number n))
      (λ ws locals. converted_runs c.code c.names to n (state c p ws locals) s.has)
      (ready_on c k (to ∷ stack) env q (p + 1) s.ends f)

  pub push_ready : (v : Value) (t : BareType) (k : Next) (stack : Stack) (env : Environment) (p : ℕ) → IsPlain t v
      → slice_get c.code p ≡ Some (Constant (kind_of_type t) (plain_word v)) → Ready c k (t ∷ stack) env (At (p + 1))
      → Ready c (give v k) stack env (At p)
  push_ready v t k stack env p plain is f =
      give_ready c v t k stack env p (p + 1) (plain_has c.tags t v plain) (plain_ranged t v plain)
      (λ ws locals. plain_runs c.code c.names t v (state c p ws locals) plain (is, tt)) f

  pub push_fine : (v : Value) (t : BareType) (ps : List Piece) (k : Next) (stack : Stack) (env : Environment) (p q : ℕ) → IsPlain t v
      → Span c.code p (Constant (kind_of_type t) (plain_word v) ∷ []) q → Well ps k (t ∷ stack) env (At q) → Well (Push v ∷ ps) (give v k) stack env (At p)
  push_fine v t ps k stack env p q plain s f =
      let g = behind ps k (t ∷ stack) env p (Constant (kind_of_type t) (plain_word v) ∷ []) q s f in
      record { coded = (t, plain, (p, there p, (s.has, g.coded))); ready = push_ready v t k stack env p plain s.has.0 g.ready }

  pub drop_fine : (t : BareType) (ps : List Piece) (k : Next) (stack : Stack) (env : Environment) (p q : ℕ) → Span c.code p (instruction.Drop ∷ []) q
      → Well ps k stack env (At q) → Well (Drop ∷ ps) (drop k) (t ∷ stack) env (At p)
  drop_fine t ps k stack env p q s f =
      let g = fine_on c ps k stack env q (suc p) (to_next c.code p instruction.Drop q s) f in
      record { coded = (p, there p, s.has.0, g.coded); ready = drop_ready c t k stack env p s.has.0 g.ready }

  pub converts : (to t : BareType) (p : ℕ) → Becomes to t → HasAt c.code p (conversion to t)
      → Becoming c (converted_to to) t to p (p + length (conversion to t))
  converts to t p b at = record {
    has = λ v h. converted_has c.tags to t v b h;
    ranged = λ v h r. converted_ranged to v;
    runs = λ v ws locals h r. conversion_runs c.code c.names c.tags to t v (state c p (word_of c.names v ∷ ws) locals) ws b h r refl at;
  }

  pub convert_fine : (to t : BareType) (ps : List Piece) (k : Next) (stack : Stack) (env : Environment) (p q : ℕ) → Becomes to t
      → Span c.code p (conversion to t) q → Well ps k (to ∷ stack) env (At q) → Well (ConvertTo to ∷ ps) (change (converted_to to) k) (t ∷ stack) env (At p)
  convert_fine to t ps k stack env p q b s f =
      let g = behind ps k (to ∷ stack) env p (conversion to t) q s f in
      record {
        coded = (b, (p, there p, (s.has, g.coded)));
        ready = change_ready c (converted_to to) t to k stack env p (p + length (conversion to t)) (converts to t p b s.has) g.ready;
      }

  pub truth_fine : (t : BareType) (ps : List Piece) (k : Next) (stack : Stack) (env : Environment) (p q : ℕ) → IsScalar t
      → Span c.code p (IsNotZero ∷ []) q → Well ps k (int ∷ stack) env (At q) → Well (Truth ∷ ps) (change as_truth k) (t ∷ stack) env (At p)
  truth_fine t ps k stack env p q o s f =
      let g = behind ps k (int ∷ stack) env p (IsNotZero ∷ []) q s f in
      record {
        coded = (o, (p, there p, (s.has, g.coded)));
        ready = change_ready c as_truth t int k stack env p (p + 1) becoming g.ready;
      }
    where
      is_int : (b : Bool) → HasType c.tags int (Number (truth b))
      is_int true = refl
      is_int false = refl

      becoming : Becoming c as_truth t int p (p + 1)
      becoming = record {
        has = λ v h. is_int (is_true v);
        ranged = λ v h r. truth_ranged v;
        runs = λ v ws locals h r. truth_runs c.code c.names c.tags t v (state c p (word_of c.names v ∷ ws) locals) ws o h r c.apart refl s.has;
      }

  creation_has : (v : Value) → HasType c.tags Thread v → HasType c.tags int (creation v)
  creation_has (Number n) h = absurd h
  creation_has (Reference r) h = absurd h
  creation_has (Started None) h = refl
  creation_has (Started (Some r)) h = refl

  pub created_fine : (t : BareType) (ps : List Piece) (k : Next) (stack : Stack) (env : Environment) (p q : ℕ) → t ≡ Thread
      → Span c.code p (IsZero ∷ []) q → Well ps k (int ∷ stack) env (At q) → Well (Created ∷ ps) (change creation k) (t ∷ stack) env (At p)
  created_fine t ps k stack env p q e s f =
      let g = behind ps k (int ∷ stack) env p (IsZero ∷ []) q s f in
      record {
        coded = (e, (p, there p, (s.has, g.coded)));
        ready = change_ready c creation t int k stack env p (p + 1) becoming g.ready;
      }
    where
      is_thread : (v : Value) → HasType c.tags t v → HasType c.tags Thread v
      is_thread v h = subst (λ u. HasType c.tags u v) e h

      becoming : Becoming c creation t int p (p + 1)
      becoming = record {
        has = λ v h. creation_has v (is_thread v h);
        ranged = λ v h r. creation_ranged v;
        runs = λ v ws locals h r. created_runs c.code c.names c.tags v (state c p (word_of c.names v ∷ ws) locals) ws (is_thread v h) c.apart refl s.has;
      }

  pub close_fine : (bs : List BareBinding) (ps : List Piece) (k : Next) (stack : Stack) (env : Environment) (w : Where) → Well ps k stack env w
      → Well (Close ∷ ps) (close_scope k) stack (bs ∷ env) w
  close_fine bs ps k stack env w f = record { coded = f.coded; ready = close_ready c k stack env bs w f.ready }

  -- ---- operators

  pub apply_fine : (op : UnOp) (t : BareType) (ps : List Piece) (k : Next) (stack : Stack) (env : Environment) (p q : ℕ) → IsOperand op t
      → Span c.code p (application op t) q → Well ps k (Integer (unary_kind op (kind t)) ∷ stack) env (At q)
      → Well (Apply op ∷ ps) (apply op k) (t ∷ stack) env (At p)
  apply_fine op t ps k stack env p q o s f =
      let g = behind ps k (Integer (unary_kind op (kind t)) ∷ stack) env p (application op t) q s f in
      record { coded = (o, inl (p, there p, (s.has, g.coded))); ready = apply_ready c op t k stack env p q o s f.ready }

  -- `!` before a test
  pub not_fine : (t : BareType) (ps : List Piece) (k : Next) (stack : Stack) (env : Environment) (w : Where) (if_so if_not : ℕ) → IsScalar t
      → Tests c.code w if_so if_not → Well ps k (int ∷ stack) env (Branch if_not if_so) → Well (Apply Not ∷ ps) (apply Not k) (t ∷ stack) env w
  not_fine t ps k stack env w if_so if_not o test f = record {
    coded = (o, inr (refl, (if_so, if_not, test, f.coded)));
    ready = not_ready c t k stack env w if_so if_not o test f.ready;
  }

  pub combine_fine : (op : BinOp) (t u : BareType) (ps : List Piece) (k : Next) (stack : Stack) (env : Environment) (p q : ℕ) → AreOperands op t u
      → Span c.code p (combination op t u ∷ []) q → Well ps k (Integer (binary_kind op (kind t) (kind u)) ∷ stack) env (At q)
      → Well (Combine op ∷ ps) (combine op k) (u ∷ t ∷ stack) env (At p)
  combine_fine op t u ps k stack env p q o s f =
      let g = behind ps k (Integer (binary_kind op (kind t) (kind u)) ∷ stack) env p (combination op t u ∷ []) q s f in
      record { coded = (o, (p, there p, (s.has, g.coded))); ready = combine_ready c op t u k stack env p q o s f.ready }

  -- ---- places

  pub get_ready : (pl : Place) (n : ℕ) (ps : List Piece) (k : Next) (stack : Stack) (env : Environment) (p : ℕ) → IsPlaced c.look env pl
      → slice_get c.code p ≡ Some (getting env pl n) → Well ps k (place_type c.look env pl ∷ stack) env (At (suc p))
      → Ready c (get pl n ps k) (part_types c.look env pl ++ stack) env (At p)
  get_ready (Local name) n ps k stack env p placed is f = load_ready c name k stack env p placed is f.ready
  get_ready (Global name) n ps k stack env p placed is f =
      (stop_fine c (stop.ReadGlobal name) n ps stack env p (suc p) (is, refl) (placed, f.coded)).ready
  get_ready (Element name i) n ps k stack env p placed is f =
      (stop_fine c (stop.ReadElement name) n ps (type_of c.look env i ∷ stack) env p (suc p) (is, refl) (placed.2, (placed.1, f.coded))).ready
  get_ready (Field tag e name) n ps k stack env p placed is f =
      (stop_fine c (stop.ReadField tag name) n ps (type_of c.look env e ∷ stack) env p (suc p) (is, refl)
      (some_bound (members_of (c.look (struct_name tag))) name placed.2, (placed.1, f.coded))).ready

  pub get_fine : (pl : Place) (n : ℕ) (ps : List Piece) (k : Next) (stack : Stack) (env : Environment) (p q : ℕ) → IsPlaced c.look env pl
      → Span c.code p (getting env pl n ∷ []) q → Well ps k (place_type c.look env pl ∷ stack) env (At q)
      → Well (Get pl n ∷ ps) (get pl n ps k) (part_types c.look env pl ++ stack) env (At p)
  get_fine pl n ps k stack env p q placed s f =
      let type = place_type c.look env pl in
      let g = behind ps k (type ∷ stack) env p (getting env pl n ∷ []) q s f in
      record {
        coded = (
          placed,
          pops (part_types c.look env pl) stack
              (λ under. Has c.code (At p) (getting env pl n ∷ []) (λ r. Coded c ps (type ∷ under) env (At r))) (p, there p, (s.has, g.coded)),
        );
        ready = get_ready pl n ps k stack env p placed s.has.0 (fine_on c ps k (type ∷ stack) env q (suc p) (to_next c.code p (getting env pl n) q s) f);
      }

  -- the write of a value that stays
  set_ready : (pl : Place) (n : ℕ) (ps : List Piece) (k : Next) (stack : Stack) (env : Environment) (p q : ℕ) → IsPlaced c.look env pl
      → Span c.code p (setting env pl n) q → Well ps k (place_type c.look env pl ∷ stack) env (At q)
      → Ready c (set pl n ps k) (place_type c.look env pl ∷ (part_types c.look env pl ++ stack)) env (At p)
  set_ready (Local name) n ps k stack env p q placed s f =
      store_ready c name k stack env p placed s.has.0 s.has.1.0
      (ready_on c k (place_type c.look env (Local name) ∷ stack) env q (suc (suc p)) (s.ends ∙ two p) f.ready)
    where
      two : (p : ℕ) → p + 2 ≡ suc (suc p)
      two p = omega arith
  set_ready (Global name) n ps k stack env p q placed s f =
      let type = place_type c.look env (Global name) in
      let g = fine_on c ps k (type ∷ stack) env q (suc p) (to_next c.code p (instruction.Halt (stop.WriteGlobal name) n) q s) f in
      (stop_fine c (stop.WriteGlobal name) n ps (type ∷ stack) env p (suc p) (s.has.0, refl) (placed, (refl, g.coded))).ready
  set_ready (Element name i) n ps k stack env p q placed s f =
      let type = place_type c.look env (Element name i) in
      let g = fine_on c ps k (type ∷ stack) env q (suc p) (to_next c.code p (instruction.Halt (stop.WriteElement name) n) q s) f in
      (stop_fine c (stop.WriteElement name) n ps (type ∷ type_of c.look env i ∷ stack) env p (suc p) (s.has.0, refl)
      (placed.2, (refl, (placed.1, g.coded)))).ready
  set_ready (Field tag e name) n ps k stack env p q placed s f =
      let type = place_type c.look env (Field tag e name) in
      let g = fine_on c ps k (type ∷ stack) env q (suc p) (to_next c.code p (instruction.Halt (stop.WriteField tag name) n) q s) f in
      (stop_fine c (stop.WriteField tag name) n ps (type ∷ type_of c.look env e ∷ stack) env p (suc p) (s.has.0, refl)
      (some_bound (members_of (c.look (struct_name tag))) name placed.2, (refl, (placed.1, g.coded)))).ready

  pub set_fine : (pl : Place) (n : ℕ) (t : BareType) (ps : List Piece) (k : Next) (stack : Stack) (env : Environment) (p q : ℕ)
      → IsPlaced c.look env pl → t ≡ place_type c.look env pl → Span c.code p (setting env pl n) q
      → Well ps k (place_type c.look env pl ∷ stack) env (At q)
      → Well (Set pl n ∷ ps) (set pl n ps k) (t ∷ (part_types c.look env pl ++ stack)) env (At p)
  set_fine pl n t ps k stack env p q placed e s f =
      let type = place_type c.look env pl in
      let g = behind ps k (type ∷ stack) env p (setting env pl n) q s f in
      record {
        coded = (
          placed,
          (
            e,
            pops (part_types c.look env pl) stack
                (λ under. Has c.code (At p) (setting env pl n) (λ r. Coded c ps (type ∷ under) env (At r))
                ⊎ (IsLocal pl × Has c.code (At p) (setting_only env pl n) (λ r. Coded c ps (type ∷ under) env (Branch r r))))
                (inl (p, there p, (s.has, g.coded))),
          ),
        );
        ready =
            subst (λ u. Ready c (set pl n ps k) (u ∷ (part_types c.look env pl ++ stack)) env (At p)) (sym e)
            (set_ready pl n ps k stack env p q placed s f);
      }

  -- the write of a value that is dropped
  pub set_drop_fine : (pl : Place) (n : ℕ) (t : BareType) (ps : List Piece) (k : Next) (stack : Stack) (env : Environment) (p q : ℕ)
      → IsPlaced c.look env pl → t ≡ place_type c.look env pl → Span c.code p (setting_only env pl n) q → Well ps k stack env (At q)
      → Well (Set pl n ∷ Drop ∷ ps) (set pl n (Drop ∷ ps) (drop k)) (t ∷ (part_types c.look env pl ++ stack)) env (At p)
  set_drop_fine (Local name) n t ps k stack env p q placed e s f =
      let type = place_type c.look env (Local name) in
      let g = behind ps k stack env p (setting_only env (Local name) n) q s f in
      let h = fine_on c ps k stack env q (suc p) (to_next c.code p (instruction.Store (slot env name)) q s) f in
      record {
        coded = (placed, (e, inr (tt, (p, there p, (s.has, (p + 1, there (p + 1), there (p + 1), g.coded))))));
        ready =
            subst (λ u. Ready c (set (Local name) n (Drop ∷ ps) (drop k)) (u ∷ stack) env (At p)) (sym e)
            (store_only_ready c name (drop k) stack env p placed s.has.0
            (skip_ready c type k stack env (suc p) (suc p) (suc p) (there (suc p)) (there (suc p)) h.ready));
      }
  set_drop_fine (Global name) n t ps k stack env p q placed e s f =
      let h = halves c.code p (setting env (Global name) n) (instruction.Drop ∷ []) q s in
      set_fine (Global name) n t (Drop ∷ ps) (drop k) stack env p h.middle placed e h.first
      (drop_fine (place_type c.look env (Global name)) ps k stack env h.middle q h.second f)
  set_drop_fine (Element name i) n t ps k stack env p q placed e s f =
      let h = halves c.code p (setting env (Element name i) n) (instruction.Drop ∷ []) q s in
      set_fine (Element name i) n t (Drop ∷ ps) (drop k) stack env p h.middle placed e h.first
      (drop_fine (place_type c.look env (Element name i)) ps k stack env h.middle q h.second f)
  set_drop_fine (Field tag x name) n t ps k stack env p q placed e s f =
      let h = halves c.code p (setting env (Field tag x name) n) (instruction.Drop ∷ []) q s in
      set_fine (Field tag x name) n t (Drop ∷ ps) (drop k) stack env p h.middle placed e h.first
      (drop_fine (place_type c.look env (Field tag x name)) ps k stack env h.middle q h.second f)

  dup_ready : (pl : Place) (ps : List Piece) (k : Next) (stack : Stack) (env : Environment) (p q : ℕ) → Span c.code p (copying pl) q
      → Ready c k (part_types c.look env pl ++ (part_types c.look env pl ++ stack)) env (At q)
      → Ready c (dup pl k) (part_types c.look env pl ++ stack) env (At p)
  dup_ready (Local name) ps k stack env p q s f = ready_on c k stack env q p (nothing_between c.code p q s) f
  dup_ready (Global name) ps k stack env p q s f = ready_on c k stack env q p (nothing_between c.code p q s) f
  dup_ready (Element name i) ps k stack env p q s f =
      let t = type_of c.look env i in
      copy_ready c t k stack env p s.has.0 (ready_on c k (t ∷ t ∷ stack) env q (suc p) (to_next c.code p instruction.Copy q s) f)
  dup_ready (Field tag e name) ps k stack env p q s f =
      let t = type_of c.look env e in
      copy_ready c t k stack env p s.has.0 (ready_on c k (t ∷ t ∷ stack) env q (suc p) (to_next c.code p instruction.Copy q s) f)

  pub dup_fine : (pl : Place) (ps : List Piece) (k : Next) (stack : Stack) (env : Environment) (p q : ℕ) → Span c.code p (copying pl) q
      → Well ps k (part_types c.look env pl ++ (part_types c.look env pl ++ stack)) env (At q)
      → Well (Dup pl ∷ ps) (dup pl k) (part_types c.look env pl ++ stack) env (At p)
  dup_fine pl ps k stack env p q s f =
      let parts = part_types c.look env pl in
      let g = behind ps k (parts ++ (parts ++ stack)) env p (copying pl) q s f in
      record {
        coded =
            pops parts stack (λ under. Has c.code (At p) (copying pl) (λ r. Coded c ps (parts ++ (parts ++ under)) env (At r)))
            (p, there p, (s.has, g.coded));
        ready = dup_ready pl ps k stack env p q s f.ready;
      }

  pub tucked_ready : (pl : Place) (t : BareType) (k : Next) (stack : Stack) (env : Environment) (p : ℕ) → slice_get c.code p ≡ Some (tucking pl)
      → Ready c k (t ∷ (part_types c.look env pl ++ (t ∷ stack))) env (At (suc p))
      → Ready c (tuck pl k) (t ∷ (part_types c.look env pl ++ stack)) env (At p)
  tucked_ready (Local name) t k stack env p is f = copy_ready c t k stack env p is f
  tucked_ready (Global name) t k stack env p is f = copy_ready c t k stack env p is f
  tucked_ready (Element name i) t k stack env p is f = tuck_ready c t (type_of c.look env i) k stack env p is f
  tucked_ready (Field tag e name) t k stack env p is f = tuck_ready c t (type_of c.look env e) k stack env p is f

  pub tuck_fine : (pl : Place) (t : BareType) (ps : List Piece) (k : Next) (stack : Stack) (env : Environment) (p q : ℕ)
      → Span c.code p (tucking pl ∷ []) q → Well ps k (t ∷ (part_types c.look env pl ++ (t ∷ stack))) env (At q)
      → Well (Tuck pl ∷ ps) (tuck pl k) (t ∷ (part_types c.look env pl ++ stack)) env (At p)
  tuck_fine pl t ps k stack env p q s f =
      let parts = part_types c.look env pl in
      let g = behind ps k (t ∷ (parts ++ (t ∷ stack))) env p (tucking pl ∷ []) q s f in
      record {
        coded =
            pops parts stack (λ under. Has c.code (At p) (tucking pl ∷ []) (λ r. Coded c ps (t ∷ (parts ++ (t ∷ under))) env (At r)))
            (p, there p, (s.has, g.coded));
        ready =
            tucked_ready pl t k stack env p s.has.0
            (ready_on c k (t ∷ (parts ++ (t ∷ stack))) env q (suc p) (to_next c.code p (tucking pl) q s) f.ready);
      }

  part_ready : (pl : Place) (t : BareType) (k : Next) (stack : Stack) (env : Environment) (p q : ℕ) → Span c.code p (swapping pl) q
      → Ready c k (t ∷ (part_types c.look env pl ++ stack)) env (At q)
      → Ready c (swap_part pl k) (part_types c.look env pl ++ (t ∷ stack)) env (At p)
  part_ready (Local name) t k stack env p q s f = ready_on c k (t ∷ stack) env q p (nothing_between c.code p q s) f
  part_ready (Global name) t k stack env p q s f = ready_on c k (t ∷ stack) env q p (nothing_between c.code p q s) f
  part_ready (Element name i) t k stack env p q s f =
      let u = type_of c.look env i in
      swap_ready c t u k stack env p s.has.0 (ready_on c k (t ∷ u ∷ stack) env q (suc p) (to_next c.code p instruction.Swap q s) f)
  part_ready (Field tag e name) t k stack env p q s f =
      let u = type_of c.look env e in
      swap_ready c t u k stack env p s.has.0 (ready_on c k (t ∷ u ∷ stack) env q (suc p) (to_next c.code p instruction.Swap q s) f)

  pub swap_fine : (pl : Place) (t : BareType) (ps : List Piece) (k : Next) (stack : Stack) (env : Environment) (p q : ℕ)
      → Span c.code p (swapping pl) q → Well ps k (t ∷ (part_types c.look env pl ++ stack)) env (At q)
      → Well (Swap pl ∷ ps) (swap_part pl k) (part_types c.look env pl ++ (t ∷ stack)) env (At p)
  swap_fine pl t ps k stack env p q s f =
      let parts = part_types c.look env pl in
      let g = behind ps k (t ∷ (parts ++ stack)) env p (swapping pl) q s f in
      record {
        coded =
            pops parts (t ∷ stack)
            (λ below. Top below (λ u under. Has c.code (At p) (swapping pl) (λ r. Coded c ps (u ∷ (parts ++ under)) env (At r))))
            (p, there p, (s.has, g.coded));
        ready = part_ready pl t k stack env p q s f.ready;
      }
