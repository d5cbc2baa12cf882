-- The code of pending pieces does what local evaluation does.
use Rattle.std.proofs.Common.{◌≡◌, ℕ, suc, ◌+◌, IsTrue, List, [], ◌∷◌, ◌++◌, length, slice_get, Some, pos, refl, sym, ap, subst, ◌∙◌, inl, inr, append-nil}
use Rattle.std.specs.Prelude.{◌⊎◌}
use Rattle.c_ints.specs.declared.operator.BinOp.{BinOp}
use Rattle.c_ints.specs.declared.operator.UnOp.{UnOp}
use Rattle.c_ints.specs.declared.operator.UnOp.TheVariants.{Plus, Negate, Complement, Not}
use Rattle.c_ints.specs.Arithmetic.{binary_kind, is_not, unary_kind}
use Rattle.c_ints.specs.Kind.{InRange}
use Rattle.c_ints.specs.Number.{number, value_of}
use Rattle.c_ints.proofs.Reduction.{kind_of-number}
use Rattle.c_tree.specs.BareExpr.{BareType, Integer, Handle, Thread}
use Rattle.c_semantics.specs.Texts.{int}
use Rattle.c_semantics.specs.Values.{converted_to, int_of, zero_of}
use Rattle.c_semantics.specs.Resolution.{kind}
use Rattle.c_semantics.specs.Resolved.{Expression, Place, Statement, Local, Global, Element, Field}
use Rattle.c_semantics.specs.Points.{size, size_stmt, size_stmts}
use Rattle.c_semantics.specs.Stops as stop
use Rattle.c_semantics.specs.Pieces.{Loop, Piece, Variable, body_at, Compute, Arguments, Parts, Get, Set, Dup, Tuck, Swap, Apply, Combine, ConvertTo, Drop, Push, Truth, Created, AndThen, OrElse, Choose, Then, ThenElse, Turn, Repeat, Do, Sequence, Close, LoopTest, AfterBody, BackEdge, Until, At as StopAt}
use Rattle.c_semantics.specs.Evaluation.{Next, Ways, apply, as_truth, change, choose, combine, creation, drop, dup, get, give, local, looped, piece, repeated, set, swap_part, tuck, until, ways}
use Rattle.c_semantics.specs.Evaluation as ev
use Rattle.typed_trees.specs.ValueTypes.{Environment}
use Rattle.typed_trees.specs.ExpressionTypes.{AreOperands, IsOperand, IsPlaced, part_types, place_type, type_of, types_of}
use Rattle.typed_trees.specs.PieceTypes.{Inside, LoopTyped, Pops, Stack, Top, pushed}
use Rattle.typed_trees.proofs.ValuesOfTypes.{never}
use Rattle.typed_trees.proofs.SafeSteps.{popped}
use Rattle.bytecode.specs.Words.{Naming}
use Rattle.bytecode.specs.Instructions.{Instruction, Constant, CheckIn, Halt, IsZero, IsNotZero}
use Rattle.run_types.specs.CheckIns as check_in
use Rattle.tree_code.specs.Ranges.{IsPlain}
use Rattle.tree_code.specs.Code.{Code, application, combination, conversion, copying, getting, kind_of_type, setting, setting_only, statement as statement_code, statements as statements_code, swapping, tucking, value, zero_code}
use Rattle.tree_code.specs.Code as made
use Rattle.tree_code.specs.CodedPieces as coded
use Rattle.tree_code.specs.CodedPieces.{At, AtClose, Branch, Coding, DoAt, Dropped, From, Goal, Has, HasAt, IsLocal, LoopAt, StatementAt, Stops, Where, body_place, coding, end_place, plain_word, step_place, there}
use Rattle.tree_code.specs.CodeLaws.{CodeDoesLocalEvaluation, EnteredFramesMatch, Holds}
use Rattle.tree_code.proofs.WordValues.{zero_ranged, zero_word}
use Rattle.tree_code.proofs.WordSteps.{after_one}
use Rattle.tree_code.proofs.CodePlaces.{Span, halves, whole}
use Rattle.tree_code.proofs.CodeSteps.{Coded, Ends, Fine, Ready, Setting, close_ready, drop_ready, not_ready, reached, ready_on, skip_ready, stop_fine, store_only_ready}
use Rattle.tree_code.proofs.CodeFine.{apply_fine, combine_fine, convert_fine, created_fine, dup_fine, get_fine, push_fine, set_fine, swap_fine, truth_fine, tuck_fine}
use Rattle.tree_code.proofs.CodeTrees.{and_fine, choice_fine, expression, expressions, or_fine, parts}
use Rattle.tree_code.proofs.CodeStatements.{DoesBody, Jumps, after_body, repeat_fine, tested_ready, then_else_fine, then_fine, turn_fine, turned, until_fine}
use Rattle.tree_code.proofs.CodeBlocks.{sequence, statement}

module _ (c : Setting) where
  abbrev Does : Next → Stack → Environment → Where → Type 0
  Does = Ready c

  abbrev Well : List Piece → Next → Stack → Environment → Where → Type 0
  Well = Fine c

  -- each way on is done from where the code does it
  pub record ReadyWays (g : Coding) (k : Ways) : Type 0 where
    pub on : (stack : Stack) (env : Environment) (w : Where) → g.on stack env w → Does k.on stack env w
    pub broken : (stack : Stack) (env : Environment) (w : Where) → g.broken stack env w → Does k.broken stack env w
    pub continued : (stack : Stack) (env : Environment) (w : Where) → g.continued stack env w → Does k.continued stack env w

  -- what is asked of the newest value, and of the newest values
  top : (P : BareType → Stack → Type 0) (go : Next) (env : Environment) (w : Where)
      → ((t : BareType) (under : Stack) → P t under → Does go (t ∷ under) env w) → (stack : Stack) → Top stack P → Does go stack env w
  top P go env w h [] p = absurd p
  top P go env w h (t ∷ under) p = h t under p

  parted : (ts : List BareType) (P : Stack → Type 0) (go : Next) (env : Environment) (w : Where)
      → ((under : Stack) → P under → Does go (ts ++ under) env w) → (stack : Stack) → Pops ts stack P → Does go stack env w
  parted ts P go env w h stack p =
      let q = popped ts stack P p in subst (λ xs. Does go xs env w) (sym q.is) (h q.under q.holds)

  -- what is asked of the place that jumps lead to, and of some code there
  from : (go : Next) (stack : Stack) (env : Environment) (w : Where) (then : ℕ → Type 0) → ((q : ℕ) → then q → Does go stack env (At q))
      → From c.code w then → Does go stack env w
  from go stack env (At p) then f h = reached c go stack env p h.0 h.1 (f h.0 h.2)
  from go stack env (Branch t f) then g h = absurd h

  has : (go : Next) (stack : Stack) (env : Environment) (w : Where) (is : Code) (then : ℕ → Type 0)
      → ((q r : ℕ) → Span c.code q is r → then r → Does go stack env (At q)) → Has c.code w is then → Does go stack env w
  has go stack env w is then f h =
      from go stack env w (λ p. HasAt c.code p is × then (p + length is)) (λ q x. f q (q + length is) (whole c.code q is x.0) x.1) h

  module _ (ps : List Piece) (k : Ways) (s : ReadyWays (coding c.code c.most c.look c.result ps) k) where
    abbrev Behind : Coding
    Behind = coding c.code c.most c.look c.result ps

    fine : (stack : Stack) (env : Environment) (w : Where) → Coded c ps stack env w → Well ps k.on stack env w
    fine stack env w t = record { coded = t; ready = s.on stack env w t }

    jumping : (stack : Stack) (env : Environment) (b d : ℕ) → Behind.broken stack env (At b) × Behind.continued stack env (At d)
        → Jumps c ps k stack env b d
    jumping stack env b d j = record {
      broken_coded = j.0;
      continued_coded = j.1;
      broken = s.broken stack env (At b) j.0;
      continued = s.continued stack env (At d) j.1;
    }

    jumping_inside : (stack : Stack) (env : Environment) (b d : ℕ)
        → Inside env (λ inner. Behind.broken stack inner (At b) × Behind.continued stack inner (At d)) → Inside env (λ inner. Jumps c ps k stack inner b d)
    jumping_inside stack [] b d j = absurd j
    jumping_inside stack (bs ∷ outer) b d j = λ more. jumping stack (more ∷ outer) b d (j more)

    at_close : (go : Next) (P : Goal) → ((stack : Stack) (env : Environment) (w : Where) → P stack env w → Does go stack env w)
        → (stack : Stack) (env : Environment) (w : Where) → AtClose P stack env w → Does (ev.close_scope go) stack env w
    at_close go P h stack [] w t = absurd t
    at_close go P h stack (bs ∷ env) w t = close_ready c go stack env bs w (h stack env w t)

    -- where only the way on is changed
    way : (on : Goal) (go : Next) → ((stack : Stack) (env : Environment) (w : Where) → on stack env w → Does go stack env w)
        → ReadyWays (coded.only on Behind) (ev.only go k)
    way on go h = record { on = h; broken = s.broken; continued = s.continued }

    -- ---- single pieces

    get_done : (pl : Place) (n : ℕ) (stack : Stack) (env : Environment) (w : Where) → (coding c.code c.most c.look c.result (Get pl n ∷ ps)).on stack env w
        → Does (get pl n ps k.on) stack env w
    get_done pl n stack env w t =
        let type = place_type c.look env pl in
        parted (part_types c.look env pl)
        (λ under. Has c.code w (getting env pl n ∷ []) (λ q. Coded c ps (type ∷ under) env (At q))) (get pl n ps k.on) env w
        (λ under h.
        has (get pl n ps k.on) (part_types c.look env pl ++ under) env w (getting env pl n ∷ []) (λ q. Coded c ps (type ∷ under) env (At q))
        (λ q r x f. (get_fine c pl n ps k.on under env q r t.0 x (fine (type ∷ under) env (At r) f)).ready) h) stack t.1

    -- a value that is stored in a variable and isn't kept
    only_stored : (pl : Place) (n : ℕ) (under : Stack) (env : Environment) (q r : ℕ) → IsPlaced c.look env pl → IsLocal pl
        → Span c.code q (setting_only env pl n) r → Coded c ps (place_type c.look env pl ∷ under) env (Branch r r)
        → Does (set pl n ps k.on) (place_type c.look env pl ∷ (part_types c.look env pl ++ under)) env (At q)
    only_stored (Local name) n under env q r placed is x f =
        let type = place_type c.look env (Local name) in
        store_only_ready c name k.on under env q placed x.has.0
        (subst (λ z. Does k.on (type ∷ under) env (Branch z z)) (x.ends ∙ after_one q) (s.on (type ∷ under) env (Branch r r) f))
    only_stored (Global name) n under env q r placed is x f = absurd is
    only_stored (Element name i) n under env q r placed is x f = absurd is
    only_stored (Field tag e name) n under env q r placed is x f = absurd is

    set_done : (pl : Place) (n : ℕ) (t : BareType) (under : Stack) (env : Environment) (w : Where) → IsPlaced c.look env pl → t ≡ place_type c.look env pl
        → (Has c.code w (setting env pl n) (λ q. Coded c ps (place_type c.look env pl ∷ under) env (At q))
        ⊎ (IsLocal pl × Has c.code w (setting_only env pl n) (λ q. Coded c ps (place_type c.look env pl ∷ under) env (Branch q q))))
        → Does (set pl n ps k.on) (t ∷ (part_types c.look env pl ++ under)) env w
    set_done pl n t under env w placed e (inl h) =
        let type = place_type c.look env pl in
        has (set pl n ps k.on) (t ∷ (part_types c.look env pl ++ under)) env w (setting env pl n) (λ q. Coded c ps (type ∷ under) env (At q))
        (λ q r x f. (set_fine c pl n t ps k.on under env q r placed e x (fine (type ∷ under) env (At r) f)).ready) h
    set_done pl n t under env w placed e (inr h) =
        let type = place_type c.look env pl in
        let parts = part_types c.look env pl in
        has (set pl n ps k.on) (t ∷ (parts ++ under)) env w (setting_only env pl n) (λ q. Coded c ps (type ∷ under) env (Branch q q))
        (λ q r x f. subst (λ u. Does (set pl n ps k.on) (u ∷ (parts ++ under)) env (At q)) (sym e) (only_stored pl n under env q r placed h.0 x f)) h.1

    set_wholly : (pl : Place) (n : ℕ) (stack : Stack) (env : Environment) (w : Where) → (coding c.code c.most c.look c.result (Set pl n ∷ ps)).on stack env w
        → Does (set pl n ps k.on) stack env w
    set_wholly pl n [] env w t = absurd t.1
    set_wholly pl n (u ∷ below) env w t =
        let type = place_type c.look env pl in
        let q =
        popped (part_types c.look env pl) below
        (λ under. Has c.code w (setting env pl n) (λ q. Coded c ps (type ∷ under) env (At q))
        ⊎ (IsLocal pl × Has c.code w (setting_only env pl n) (λ q. Coded c ps (type ∷ under) env (Branch q q)))) t.1.1 in
        subst (λ xs. Does (set pl n ps k.on) (u ∷ xs) env w) (sym q.is) (set_done pl n u q.under env w t.0 t.1.0 q.holds)

    dup_done : (pl : Place) (stack : Stack) (env : Environment) (w : Where) → (coding c.code c.most c.look c.result (Dup pl ∷ ps)).on stack env w
        → Does (dup pl k.on) stack env w
    dup_done pl stack env w t =
        let parts = part_types c.look env pl in
        parted parts (λ under. Has c.code w (copying pl) (λ q. Coded c ps (parts ++ (parts ++ under)) env (At q))) (dup pl k.on) env w
        (λ under h.
        has (dup pl k.on) (parts ++ under) env w (copying pl) (λ q. Coded c ps (parts ++ (parts ++ under)) env (At q))
        (λ q r x f. (dup_fine c pl ps k.on under env q r x (fine (parts ++ (parts ++ under)) env (At r) f)).ready) h) stack t

    tuck_done : (pl : Place) (stack : Stack) (env : Environment) (w : Where) → (coding c.code c.most c.look c.result (Tuck pl ∷ ps)).on stack env w
        → Does (tuck pl k.on) stack env w
    tuck_done pl [] env w t = absurd t
    tuck_done pl (u ∷ below) env w t =
        let parts = part_types c.look env pl in
        let z = popped parts below (λ under. Has c.code w (tucking pl ∷ []) (λ q. Coded c ps (u ∷ (parts ++ (u ∷ under))) env (At q))) t in
        subst (λ xs. Does (tuck pl k.on) (u ∷ xs) env w) (sym z.is)
        (has (tuck pl k.on) (u ∷ (parts ++ z.under)) env w (tucking pl ∷ []) (λ q. Coded c ps (u ∷ (parts ++ (u ∷ z.under))) env (At q))
        (λ q r x f. (tuck_fine c pl u ps k.on z.under env q r x (fine (u ∷ (parts ++ (u ∷ z.under))) env (At r) f)).ready) z.holds)

    swap_done : (pl : Place) (below : Stack) (env : Environment) (w : Where)
        → Top below (λ u under. Has c.code w (swapping pl) (λ q. Coded c ps (u ∷ (part_types c.look env pl ++ under)) env (At q)))
        → Does (swap_part pl k.on) (part_types c.look env pl ++ below) env w
    swap_done pl [] env w h = absurd h
    swap_done pl (u ∷ under) env w h =
        let parts = part_types c.look env pl in
        has (swap_part pl k.on) (parts ++ (u ∷ under)) env w (swapping pl) (λ q. Coded c ps (u ∷ (parts ++ under)) env (At q))
        (λ q r x f. (swap_fine c pl u ps k.on under env q r x (fine (u ∷ (parts ++ under)) env (At r) f)).ready) h

    tested_not : (op : UnOp) (u : BareType) (under : Stack) (env : Environment) (w : Where) → IsOperand op u → IsTrue (is_not op)
        → coded.Tested c.code w (λ so nt. Coded c ps (Integer (unary_kind op (kind u)) ∷ under) env (Branch nt so)) → Does (apply op k.on) (u ∷ under) env w
    tested_not Plus u under env w o is t = absurd (never is)
    tested_not Negate u under env w o is t = absurd (never is)
    tested_not Complement u under env w o is t = absurd (never is)
    tested_not Not u under env w o is t =
        not_ready c u k.on under env w t.0 t.1 o t.2 (s.on (int ∷ under) env (Branch t.1 t.0) t.3)

    drop_done : (u : BareType) (under : Stack) (env : Environment) (w : Where) → Dropped c.code w (λ q. Coded c ps under env (At q))
        → Does (drop k.on) (u ∷ under) env w
    drop_done u under env (At p) t =
        reached c (drop k.on) (u ∷ under) env p t.0 t.1 (drop_ready c u k.on under env t.0 t.2 (s.on under env (At (suc t.0)) t.3))
    drop_done u under env (Branch a b) t = skip_ready c u k.on under env a b t.0 t.1 t.2 (s.on under env (At t.0) t.3)

    combine_done : (op : BinOp) (u : BareType) (below : Stack) (env : Environment) (w : Where)
        → Top below (λ a under. AreOperands op a u
        × Has c.code w (combination op a u ∷ []) (λ q. Coded c ps (Integer (binary_kind op (kind a) (kind u)) ∷ under) env (At q)))
        → Does (combine op k.on) (u ∷ below) env w
    combine_done op u [] env w h = absurd h
    combine_done op u (a ∷ under) env w h =
        let given = Integer (binary_kind op (kind a) (kind u)) in
        has (combine op k.on) (u ∷ a ∷ under) env w (combination op a u ∷ []) (λ q. Coded c ps (given ∷ under) env (At q))
        (λ q r x f. (combine_fine c op a u ps k.on under env q r h.0 x (fine (given ∷ under) env (At r) f)).ready) h.1

    -- the body of a loop
    loop_body : (l : Loop) (stack : Stack) (env : Environment) (start : ℕ) → LoopTyped c.look c.result env l → LoopAt c.code c.most c.look env l start
        → DoesBody c env l ps k stack
    loop_body l stack env start t x = statement c l.body (body_at l) (AfterBody l ∷ ps) (looped l ps k) stack env t.body x.room

    after_done : (l : Loop) (stack : Stack) (env : Environment) (w : Where) → (coding c.code c.most c.look c.result (AfterBody l ∷ ps)).on stack env w
        → Does (looped l ps k).on stack env w
    after_done l stack env w t =
        from (looped l ps k).on stack env w _
        (λ q x. ready_on c (looped l ps k).on stack env (step_place c.look env l x.0) q (sym x.2) (after_body c l ps k stack env x.0 t.0 x.1 x.3).ready) t.1

    until_done : (x : Statement) (e : Expression) (n : ℕ) (stack : Stack) (env : Environment) (w : Where)
        → (coding c.code c.most c.look c.result (Until x e n ∷ ps)).on stack env w → Does (until x e n ps k) stack env w
    until_done x e n stack env w t =
        from (until x e n ps k) stack env w _
        (λ q y. ready_on c (until x e n ps k) stack env (coded.test_place c.look env x e n y.0) q (sym y.2)
        (until_fine c x e n ps k stack env y.0 t.0 y.1 (fine stack env (At (suc (coded.edge_place c.look env x e n y.0))) y.3)).ready) t.1

    -- ---- all pieces

    of_piece : (p : Piece) → ReadyWays (coding c.code c.most c.look c.result (p ∷ ps)) (piece p ps k)
    of_piece (Compute e n) = way _ _ (λ stack env w t.
        has (ev.expression e n ps k.on) stack env w (value c.look env e n) (λ q. Coded c ps (type_of c.look env e ∷ stack) env (At q))
        (λ q r x f. expression c e n ps k.on stack env t.0 q r x (fine (type_of c.look env e ∷ stack) env (At r) f)) t.1)
    of_piece (Arguments es n) = way _ _ (λ stack env w t.
        has (ev.expressions es n ps k.on) stack env w (made.values c.look env es n)
        (λ q. Coded c ps (pushed (types_of c.look env es) stack) env (At q))
        (λ q r x f. expressions c es n ps k.on stack env t.0 q r x (fine (pushed (types_of c.look env es) stack) env (At r) f)) t.1)
    of_piece (Parts pl n) = way _ _ (λ stack env w t.
        has (ev.parts pl n ps k.on) stack env w (made.parts c.look env pl n) (λ q. Coded c ps (part_types c.look env pl ++ stack) env (At q))
        (λ q r x f. parts c pl n ps k.on stack env t.0 q r x (fine (part_types c.look env pl ++ stack) env (At r) f)) t.1)
    of_piece (Get pl n) = way _ _ (get_done pl n)
    of_piece (Set pl n) = way _ _ (set_wholly pl n)
    of_piece (Dup pl) = way _ _ (dup_done pl)
    of_piece (Tuck pl) = way _ _ (tuck_done pl)
    of_piece (Swap pl) = way _ _ (λ stack env w t. parted (part_types c.look env pl) _ (swap_part pl k.on) env w
        (λ below h. swap_done pl below env w h) stack t)
    of_piece (Apply op) = way _ _ (λ stack env w t. top _ (apply op k.on) env w (applied op env w) stack t)
      where
        applied : (op : UnOp) (env : Environment) (w : Where) (u : BareType) (under : Stack)
            → IsOperand op u
            × (Has c.code w (application op u) (λ q. Coded c ps (Integer (unary_kind op (kind u)) ∷ under) env (At q))
            ⊎ (IsTrue (is_not op) × coded.Tested c.code w (λ so nt. Coded c ps (Integer (unary_kind op (kind u)) ∷ under) env (Branch nt so))))
            → Does (apply op k.on) (u ∷ under) env w
        applied op env w u under h = by h.1
          where
            by : (Has c.code w (application op u) (λ q. Coded c ps (Integer (unary_kind op (kind u)) ∷ under) env (At q))
                ⊎ (IsTrue (is_not op) × coded.Tested c.code w (λ so nt. Coded c ps (Integer (unary_kind op (kind u)) ∷ under) env (Branch nt so))))
                → Does (apply op k.on) (u ∷ under) env w
            by (inl x) =
                let given = Integer (unary_kind op (kind u)) in
                has (apply op k.on) (u ∷ under) env w (application op u) (λ q. Coded c ps (given ∷ under) env (At q))
                (λ q r y f. (apply_fine c op u ps k.on under env q r h.0 y (fine (given ∷ under) env (At r) f)).ready) x
            by (inr x) = tested_not op u under env w h.0 x.0 x.1
    of_piece (Combine op) = way _ _ (λ stack env w t. top _ (combine op k.on) env w (λ u below h. combine_done op u below env w h) stack t)
    of_piece (ConvertTo type) = way _ _ (λ stack env w t.
        top _ (change (converted_to type) k.on) env w (λ u under h.
        has (change (converted_to type) k.on) (u ∷ under) env w (conversion type u) (λ q. Coded c ps (type ∷ under) env (At q))
        (λ q r x f. (convert_fine c type u ps k.on under env q r h.0 x (fine (type ∷ under) env (At r) f)).ready) h.1) stack t)
    of_piece Drop = way _ _ (λ stack env w t. top _ (drop k.on) env w (λ u under h. drop_done u under env w h) stack t)
    of_piece (Push v) = way _ _ (λ stack env w t.
        has (give v k.on) stack env w (Constant (kind_of_type t.0) (plain_word v) ∷ []) (λ q. Coded c ps (t.0 ∷ stack) env (At q))
        (λ q r x f. (push_fine c v t.0 ps k.on stack env q r t.1 x (fine (t.0 ∷ stack) env (At r) f)).ready) t.2)
    of_piece Truth = way _ _ (λ stack env w t.
        top _ (change as_truth k.on) env w (λ u under h.
        has (change as_truth k.on) (u ∷ under) env w (IsNotZero ∷ []) (λ q. Coded c ps (int ∷ under) env (At q))
        (λ q r x f. (truth_fine c u ps k.on under env q r h.0 x (fine (int ∷ under) env (At r) f)).ready) h.1) stack t)
    of_piece Created = way _ _ (λ stack env w t.
        top _ (change creation k.on) env w (λ u under h.
        has (change creation k.on) (u ∷ under) env w (IsZero ∷ []) (λ q. Coded c ps (int ∷ under) env (At q))
        (λ q r x f. (created_fine c u ps k.on under env q r h.0 x (fine (int ∷ under) env (At r) f)).ready) h.1) stack t)
    of_piece (AndThen b m) = way _ _ (λ stack env w t.
        top _ (choose (ev.expression b m (Truth ∷ ps) (change as_truth k.on)) (give (int_of 0) k.on)) env w (λ u under h.
        let x = h.2 in
        (and_fine c b m u ps k.on under env w x.0 x.1 h.0 h.1 x.2 x.3.0 x.3.1 (fine (int ∷ under) env (At (suc x.1)) x.3.2)
        (expression c b m (Truth ∷ ps) (change as_truth k.on) under env h.1.0)).ready) stack t)
    of_piece (OrElse b m) = way _ _ (λ stack env w t.
        top _ (choose (give (int_of 1) k.on) (ev.expression b m (Truth ∷ ps) (change as_truth k.on))) env w (λ u under h.
        let x = h.2 in
        (or_fine c b m u ps k.on under env w x.0 x.1 h.0 h.1 x.2 x.3.0 x.3.1 (fine (int ∷ under) env (At (suc x.0)) x.3.2)
        (expression c b m (Truth ∷ ps) (change as_truth k.on) under env h.1.0)).ready) stack t)
    of_piece (Choose a b m) = way _ _ (λ stack env w t.
        top _ (choose (ev.expression a m ps k.on) (ev.expression b (m + size a) ps k.on)) env w (λ u under h.
        let x = h.4 in
        let y = x.3 in
        (choice_fine c a b m u ps k.on under env w x.0 (x.0 + length (value c.look env a m)) x.1 y.0 h.0 h.1 h.2 h.3 x.2
        (whole c.code x.0 (value c.look env a m) y.1) y.2 (record { has = y.3; ends = y.4 }) (fine (type_of c.look env a ∷ under) env (At y.0) y.5)
        (expression c a m ps k.on under env h.1) (expression c b (m + size a) ps k.on under env h.2)).ready) stack t)
    of_piece (Then x m) = way _ _ (λ stack env w t.
        top _ (choose (ev.statement x m ps k) k.on) env w (λ u under h.
        let y = h.3 in
        let z = y.3 in
        (then_fine c x m u ps k under env w y.0 y.1 z.0 z.1 h.0 h.1 h.2 z.2.room y.2 (record { has = z.2.there; ends = z.2.ends })
        (λ e. jumping under env (y.1 + z.0) (y.1 + z.1) (z.3 e)) (fine under env (At y.1) z.4)
        (statement c x m ps k under env h.1 z.2.room)).ready) stack t)
    of_piece (ThenElse x o m) = way _ _ (λ stack env w t.
        top _ (choose (ev.statement x m ps k) (ev.statement o (m + size_stmt x) ps k)) env w (λ u under h. then_else_done x o m env w u under h) stack t)
      where
        then_else_done : (x o : Statement) (m : ℕ) (env : Environment) (w : Where) (u : BareType) (under : Stack)
            → (coding c.code c.most c.look c.result (ThenElse x o m ∷ ps)).on (u ∷ under) env w
            → Does (choose (ev.statement x m ps k) (ev.statement o (m + size_stmt x) ps k)) (u ∷ under) env w
        then_else_done x o m env w u under h =
            let y = h.5 in
            let z = y.3 in
            (then_else_fine c x o m u ps k under env w y.0 y.1 z.0 z.1 z.2 z.3 z.4 z.5 h.0 h.1 h.2 h.3 h.4 y.2
            (record {
              one = record { has = z.6.there; ends = z.6.ends };
              over = z.7;
              other = record { has = z.8.there; ends = z.8.ends };
              room = z.6.room;
              other_room = z.8.room;
            })
            (λ e. jumping under env (z.4 + z.0) (z.4 + z.1) (z.9 e)) (λ e. jumping under env (z.5 + z.2) (z.5 + z.3) (z.10 e)) (fine under env (At z.5) z.11)
            (statement c x m ps k under env h.1 z.6.room) (statement c o (m + size_stmt x) ps k under env h.2 z.8.room)).ready
    of_piece (Turn l) = way _ _ (λ stack env w t.
        top _ (choose (ev.statement l.body (body_at l) (AfterBody l ∷ ps) (looped l ps k)) k.on) env w (λ u under h.
        let x = h.2 in
        let y = x.3 in
        (turn_fine c l u ps k under env w x.0 x.1 y.0 h.0 h.1 x.2 y.1 y.2 y.3 (fine under env (At x.1) y.4)
        (loop_body l under env y.0 h.1 y.1)).ready) stack t)
    of_piece (Repeat x e n) = way _ _ (λ stack env w t.
        top _ (choose (repeated x e n ps) k.on) env w (λ u under h.
        let y = h.2 in
        let z = y.3 in
        (repeat_fine c x e n u ps k under env w y.0 y.1 z.0 h.0 h.1 y.2 z.1 z.2 z.3 (fine under env (At y.1) z.4)).ready) stack t)
    of_piece (Do x n) = way _ _ (λ stack env w t.
        from (ev.statement x n ps k) stack env w _
        (λ p y. statement c x n ps k stack env t.0 y.3.room y.0 y.1 p y.2 (record { has = y.3.there; ends = y.3.ends }) (fine stack _ (At y.2) y.5)
        (λ e. jumping stack env (y.2 + y.0) (y.2 + y.1) (y.4 e))) t.1)
    of_piece (Sequence ss n) = way _ _ (λ stack env w t.
        from (ev.sequence ss n ps k) stack env w _
        (λ p y. sequence c ss n ps k stack env t.0 y.3.room y.0 y.1 p y.2 (record { has = y.3.there; ends = y.3.ends }) (fine stack _ (At y.2) y.5)
        (λ e. jumping_inside stack env (y.2 + y.0) (y.2 + y.1) (y.4 e))) t.1)
    of_piece Close = record {
      on = at_close k.on Behind.on s.on;
      broken = at_close k.broken Behind.broken s.broken;
      continued = at_close k.continued Behind.continued s.continued;
    }
    of_piece (LoopTest l) = way _ _ (λ stack env w t.
        from (ev.loop_test l (ev.statement l.body (body_at l)) ps k) stack env w _
        (λ p y. tested_ready c l l.test ps k stack env p refl t.0 t.0.test y.0 (fine stack env (At (end_place c.look env l p)) y.1)
        (loop_body l stack env p t.0 y.0)) t.1)
    of_piece (AfterBody l) = record { on = after_done l; broken = s.on; continued = after_done l }
    of_piece (BackEdge l) = way _ _ (λ stack env w t.
        from (ev.back_edge l ps) stack env w _
        (λ p y. ready_on c (ev.back_edge l ps) stack env (coded.back_place c.look env l y.0) p (sym y.2) (turned c l ps stack env y.0 t.0 y.1 y.3).ready) t.1)
    of_piece (Until x e n) = record { on = until_done x e n; broken = s.on; continued = until_done x e n }
    of_piece (StopAt x n) = way _ _ (λ stack env w t.
        from (ev.stop_at x n ps) stack env w _ (λ p y. (stop_fine c x n ps stack env p y.0 y.1 y.2).ready) t)

  pub all_pieces : (ps : List Piece) → ReadyWays (coding c.code c.most c.look c.result ps) (ways ps)
  all_pieces [] = record { on = λ stack env w t. absurd t; broken = λ stack env w t. absurd t; continued = λ stack env w t. absurd t }
  all_pieces (p ∷ ps) = of_piece ps (ways ps) (all_pieces ps) p

pub code_does_local_evaluation : CodeDoesLocalEvaluation
code_does_local_evaluation code most look result tags names ps values scopes s words apart m =
    let c : Setting = record {
      code = code;
      most = most;
      look = look;
      result = result;
      tags = tags;
      names = names;
      has_words = words;
      apart = apart;
    } in
    subst (λ stack. Ends c (local ps values scopes) (record { place = s.place; stack = stack; locals = s.locals })) (sym m.words)
    ((all_pieces c ps).on m.stack m.env (At s.place) m.coded values scopes s.locals (record {
      values_have = m.values_have;
      scopes_have = m.scopes_have;
      ranged = m.ranged;
      variables = m.variables;
      room = m.room;
    }))

-- ---- bodies

moved : (i : Instruction) (code : Code) (p : ℕ) (is : Code) → HasAt code p is → HasAt (i ∷ code) (suc p) is
moved i code p [] h = tt
moved i code p (x ∷ is) h = (h.0, moved i code (suc p) is h.1)

itself_at : (code : Code) → HasAt code 0 code
itself_at [] = tt
itself_at (i ∷ code) = (refl, moved i code 0 code (itself_at code))

zero_is_plain : (t : BareType) → IsPlain t (zero_of t)
zero_is_plain (Integer k) =
    (kind_of-number k (pos 0), subst (λ j. InRange j (value_of (number k (pos 0)))) (kind_of-number k (pos 0)) (zero_ranged (Integer k)))
zero_is_plain (Handle tag) = tt
zero_is_plain Thread = tt

zero_word_is : (names : Naming) (t : BareType) → plain_word (zero_of t) ≡ 0
zero_word_is names (Integer k) = zero_word names (Integer k)
zero_word_is names (Handle tag) = refl
zero_word_is names Thread = refl

-- the parameters alone are in scope
all_variables : (names : Naming) (vs : List Variable) (locals : List ℕ) → Holds names vs locals → Holds names (vs ++ []) locals
all_variables names vs locals h = subst (λ ws. Holds names ws locals) (sym (append-nil vs)) h

pub entered_frames_match : EnteredFramesMatch
entered_frames_match most look result tags names parameters body arguments locals t room have held many =
    let n = 1 + size_stmts body in
    let inside = statements_code look (parameters ∷ []) body 1 0 0 in
    let tail = zero_code result ∷ Halt stop.Return n ∷ [] in
    let code = CheckIn check_in.Entry 0 ∷ (inside ++ tail) in
    let rest = inside ++ tail in
    let h = halves code 1 inside tail (1 + length rest) (whole code 1 rest (moved (CheckIn check_in.Entry 0) rest 0 rest (itself_at rest))) in
    let m = h.middle in
    let zero : slice_get code m ≡ Some (Constant (kind_of_type result) (plain_word (zero_of result))) =
    h.second.has.0 ∙ ap (λ w. Some (Constant (kind_of_type result) w)) (sym (zero_word_is names result)) in
    let halt : slice_get code (m + 1) ≡ Some (Halt stop.Return n) =
    subst (λ p. slice_get code p ≡ Some (Halt stop.Return n)) (sym (after_one m)) h.second.has.1.0 in
    record {
      stack = [];
      env = parameters ∷ [];
      coded = (
        t.statements,
        (
          1,
          there 1,
          (
            0,
            0,
            m,
            record { there = h.first.has; ends = h.first.ends; room = room },
            (λ e. absurd (never (sym t.stays ∙ e))),
            (result, zero_is_plain result, (m, there m, ((zero, tt), (m + 1, there (m + 1), (suc (m + 1), (halt, refl), refl))))),
          ),
        ),
      );
      values_have = tt;
      scopes_have = (have, tt);
      ranged = tt;
      words = refl;
      variables = all_variables names arguments locals held;
      room = many;
    }
