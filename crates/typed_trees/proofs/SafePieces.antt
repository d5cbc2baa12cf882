-- Local evaluation of pieces that go on well ends well.
use Rattle.std.proofs.Common.{◌≡◌, ◌+◌, List, [], ◌∷◌, ◌++◌, refl, sym, subst, ◌∙◌}
use Rattle.c_ints.specs.Arithmetic.{binary_kind}
use Rattle.c_tree.specs.BareExpr.{Bytes, BareType, Integer}
use Rattle.c_semantics.specs.Texts.{Definitions, int}
use Rattle.c_semantics.specs.Values.{converted_to, int_of}
use Rattle.c_semantics.specs.Resolution.{kind}
use Rattle.c_semantics.specs.Resolved.{Place, DoWhile}
use Rattle.c_ints.specs.declared.operator.BinOp.{BinOp}
use Rattle.c_semantics.specs.Points.{size, size_stmt}
use Rattle.c_semantics.specs.Stops as stop
use Rattle.c_semantics.specs.Pieces.{Loop, Piece, body_at, Compute, Arguments, Parts, Get, Set, Dup, Tuck, Swap, Apply, Combine, ConvertTo, Drop, Push, Truth, Created, AndThen, OrElse, Choose, Then, ThenElse, Turn, Repeat, Do, Sequence, Close, LoopTest, AfterBody, BackEdge, Until, At}
use Rattle.c_semantics.specs.Evaluation.{Next, Ways, apply, as_truth, change, choose, combine, creation, drop, dup, get, give, local, looped, piece, repeated, set, swap_part, tuck, until, ways}
use Rattle.c_semantics.specs.Evaluation as ev
use Rattle.typed_trees.specs.ValueTypes.{Environment}
use Rattle.typed_trees.specs.ExpressionTypes.{AreOperands, part_types, place_type, type_of}
use Rattle.typed_trees.specs.PieceTypes as types
use Rattle.typed_trees.specs.PieceTypes.{AtClose, DoTyped, Going, Inside, LoopTyped, Pops, Stack, Top, going, pushed}
use Rattle.typed_trees.specs.TypeLaws.{BodiesGoOn, LocalEvaluationKeepsTypes}
use Rattle.typed_trees.proofs.ValuesOfTypes.{never, zero_has}
use Rattle.typed_trees.proofs.SafeSteps.{Fine, Safe, Typed, apply_fine, choose_safe, close_safe, combine_fine, convert_fine, created_fine, drop_fine, dup_fine, get_fine, give_fine, give_safe, popped, set_fine, stop_safe, swap_fine, truth_fine, tuck_fine}
use Rattle.typed_trees.proofs.SafeTrees.{expression, expressions, parts}
use Rattle.typed_trees.proofs.SafeStatements.{Jumps, after_body, all_within, loop_jumps, part_declares, sequence, statement, tested_safe, turned, until_safe}

module _ (look : Definitions) (result : BareType) (tags : List Bytes) where
  abbrev Ends : Next → Stack → Environment → Type 0
  Ends = Safe look result tags

  abbrev Well : List Piece → Next → Stack → Environment → Type 0
  Well = Fine look result tags

  -- each way on is safe from the types from which it goes on well
  pub record SafeWays (g : Going) (k : Ways) : Type 0 where
    pub on : (stack : Stack) (env : Environment) → g.on stack env → Ends k.on stack env
    pub broken : (stack : Stack) (env : Environment) → g.broken stack env → Ends k.broken stack env
    pub continued : (stack : Stack) (env : Environment) → g.continued stack env → Ends k.continued stack env

  module _ (ps : List Piece) (k : Ways) (s : SafeWays (going look result ps) k) where
    fine : (stack : Stack) (env : Environment) → Typed look result tags ps stack env → Well ps k.on stack env
    fine stack env t = record { typed = t; safe = s.on stack env t }

    jumping : (stack : Stack) (env : Environment)
        → (going look result ps).broken stack env × (going look result ps).continued stack env → Jumps look result tags ps k stack env
    jumping stack env j = record {
      broken_typed = j.0;
      continued_typed = j.1;
      broken = s.broken stack env j.0;
      continued = s.continued stack env j.1;
    }

    jumping_inside : (stack : Stack) (env : Environment)
        → Inside env (λ inner. (going look result ps).broken stack inner × (going look result ps).continued stack inner)
        → Inside env (Jumps look result tags ps k stack)
    jumping_inside stack [] j = absurd j
    jumping_inside stack (bs ∷ outer) j = λ more. jumping stack (more ∷ outer) (j more)

    at_close : (go : Next) (P : Stack → Environment → Type 0) → ((stack : Stack) (env : Environment) → P stack env → Ends go stack env)
        → (stack : Stack) (env : Environment) → AtClose P stack env → Ends (ev.close_scope go) stack env
    at_close go P h stack [] t = absurd t
    at_close go P h stack (bs ∷ env) t = close_safe look result tags go stack env bs (h stack env t)

    -- the body of a loop
    loop_body : (l : Loop) (stack : Stack) (env : Environment) → LoopTyped look result env l → Well ps k.on stack env
        → Ends (ev.statement l.body (body_at l) (AfterBody l ∷ ps) (looped l ps k)) stack env
    loop_body l stack env t f =
        statement look result tags l.body (body_at l) (AfterBody l ∷ ps) (looped l ps k) stack env t.body
        (subst (λ e. Well (AfterBody l ∷ ps) (looped l ps k).on stack e) (sym (part_declares l.body env t.part))
        (after_body look result tags l ps k stack env t f))
        (λ e. loop_jumps look result tags l ps k stack env t f)

    -- where only the way on is changed
    way : (on : Stack → Environment → Type 0) (go : Next) → ((stack : Stack) (env : Environment) → on stack env → Ends go stack env)
        → SafeWays (types.only on (going look result ps)) (ev.only go k)
    way on go h = record { on = h; broken = s.broken; continued = s.continued }

    -- what is asked of the newest value, and of the newest values
    top : (P : BareType → Stack → Type 0) (go : Next) (env : Environment)
        → ((t : BareType) (under : Stack) → P t under → Ends go (t ∷ under) env) → (stack : Stack) → Top stack P → Ends go stack env
    top P go env h [] p = absurd p
    top P go env h (t ∷ under) p = h t under p

    parted : (ts : List BareType) (P : Stack → Type 0) (go : Next) (env : Environment)
        → ((under : Stack) → P under → Ends go (ts ++ under) env) → (stack : Stack) → Pops ts stack P → Ends go stack env
    parted ts P go env h stack p =
        let q = popped ts stack P p in subst (λ xs. Ends go xs env) (sym q.is) (h q.under q.holds)

    of_piece : (p : Piece) → SafeWays (going look result (p ∷ ps)) (piece p ps k)
    of_piece (Compute e n) = way _ _ (λ stack env t. expression look result tags e n ps k.on stack env t.0 (fine _ env t.1))
    of_piece (Arguments es n) = way _ _ (λ stack env t. expressions look result tags es n ps k.on stack env t.0 (fine _ env t.1))
    of_piece (Parts p n) = way _ _ (λ stack env t. parts look result tags p n ps k.on stack env t.0 (fine _ env t.1))
    of_piece (Get p n) = way _ _ (λ stack env t.
        parted (part_types look env p) (λ under. Typed look result tags ps (place_type look env p ∷ under) env) (get p n ps k.on) env
        (λ under h. (get_fine look result tags p n ps k.on under env t.0 (fine _ env h)).safe) stack t.1)
    of_piece (Set p n) = way _ _ (λ stack env t.
        top (λ u below. (u ≡ place_type look env p)
        × Pops (part_types look env p) below (λ under. Typed look result tags ps (place_type look env p ∷ under) env)) (set p n ps k.on) env
        (λ u below h. let q = popped (part_types look env p) below _ h.1 in
        subst (λ xs. Ends (set p n ps k.on) (u ∷ xs) env) (sym q.is)
        (set_fine look result tags p n u ps k.on q.under env t.0 h.0 (fine _ env q.holds)).safe) stack t.1)
    of_piece (Dup p) = way _ _ (λ stack env t.
        parted (part_types look env p)
        (λ under. Typed look result tags ps (part_types look env p ++ (part_types look env p ++ under)) env) (dup p k.on) env
        (λ under h. (dup_fine look result tags p ps k.on under env (fine _ env h)).safe) stack t)
    of_piece (Tuck p) = way _ _ (λ stack env t.
        top (λ u below. Pops (part_types look env p) below
        (λ under. Typed look result tags ps (u ∷ (part_types look env p ++ (u ∷ under))) env)) (tuck p k.on) env
        (λ u below h. let q = popped (part_types look env p) below _ h in
        subst (λ xs. Ends (tuck p k.on) (u ∷ xs) env) (sym q.is) (tuck_fine look result tags p u ps k.on q.under env (fine _ env q.holds)).safe) stack t)
    of_piece (Swap p) = way _ _ (λ stack env t.
        parted (part_types look env p)
        (λ below. Top below (λ u under. Typed look result tags ps (u ∷ (part_types look env p ++ under)) env)) (swap_part p k.on) env
        (swapped p env) stack t)
      where
        swapped : (p : Place) (env : Environment) (below : Stack)
            → Top below (λ u under. Typed look result tags ps (u ∷ (part_types look env p ++ under)) env)
            → Ends (swap_part p k.on) (part_types look env p ++ below) env
        swapped p env [] h = absurd h
        swapped p env (u ∷ under) h = (swap_fine look result tags p u ps k.on under env (fine _ env h)).safe
    of_piece (Apply op) = way _ _ (λ stack env t.
        top _ (apply op k.on) env (λ u under h. (apply_fine look result tags op u ps k.on under env h.0 (fine _ env h.1)).safe) stack t)
    of_piece (Combine op) = way _ _ (λ stack env t.
        top _ (combine op k.on) env (combined op env) stack t)
      where
        combined : (op : BinOp) (env : Environment) (u : BareType) (below : Stack)
            → Top below (λ a under. AreOperands op a u × Typed look result tags ps (Integer (binary_kind op (kind a) (kind u)) ∷ under) env)
            → Ends (combine op k.on) (u ∷ below) env
        combined op env u [] h = absurd h
        combined op env u (a ∷ under) h = (combine_fine look result tags op a u ps k.on under env h.0 (fine _ env h.1)).safe
    of_piece (ConvertTo type) = way _ _ (λ stack env t.
        top _ (change (converted_to type) k.on) env
        (λ u under h. (convert_fine look result tags type u ps k.on under env h.0 (fine _ env h.1)).safe) stack t)
    of_piece Drop = way _ _ (λ stack env t.
        top _ (drop k.on) env (λ u under h. (drop_fine look result tags u ps k.on under env (fine _ env h)).safe) stack t)
    of_piece (Push v) = way _ _ (λ stack env t. (give_fine look result tags v t.0 ps k.on stack env t.1 (fine _ env t.2)).safe)
    of_piece Truth = way _ _ (λ stack env t.
        top _ (change as_truth k.on) env
        (λ u under h. (truth_fine look result tags u ps k.on under env h.0 (fine _ env h.1)).safe) stack t)
    of_piece Created = way _ _ (λ stack env t.
        top _ (change creation k.on) env
        (λ u under h. (created_fine look result tags u ps k.on under env h.0 (fine _ env h.1)).safe) stack t)
    of_piece (AndThen b m) = way _ _ (λ stack env t.
        top _ (choose (ev.expression b m (Truth ∷ ps) (change as_truth k.on)) (give (int_of 0) k.on)) env (λ u under h.
        choose_safe look result tags u _ _ under env
        (expression look result tags b m (Truth ∷ ps) (change as_truth k.on) under env h.1.0
        (truth_fine look result tags (type_of look env b) ps k.on under env h.1.1 (fine _ env h.2)))
        (give_safe look result tags (int_of 0) int k.on under env refl (fine _ env h.2).safe)) stack t)
    of_piece (OrElse b m) = way _ _ (λ stack env t.
        top _ (choose (give (int_of 1) k.on) (ev.expression b m (Truth ∷ ps) (change as_truth k.on))) env (λ u under h.
        choose_safe look result tags u _ _ under env
        (give_safe look result tags (int_of 1) int k.on under env refl (fine _ env h.2).safe)
        (expression look result tags b m (Truth ∷ ps) (change as_truth k.on) under env h.1.0
        (truth_fine look result tags (type_of look env b) ps k.on under env h.1.1 (fine _ env h.2)))) stack t)
    of_piece (Choose a b m) = way _ _ (λ stack env t.
        top _ (choose (ev.expression a m ps k.on) (ev.expression b (m + size a) ps k.on)) env (λ u under h.
        choose_safe look result tags u _ _ under env
        (expression look result tags a m ps k.on under env h.1 (fine _ env h.4))
        (expression look result tags b (m + size a) ps k.on under env h.2
        (subst (λ x. Well ps k.on (x ∷ under) env) (sym h.3) (fine _ env h.4)))) stack t)
    of_piece (Then x m) = way _ _ (λ stack env t.
        top _ (choose (ev.statement x m ps k) k.on) env (λ u under h.
        choose_safe look result tags u _ _ under env
        (statement look result tags x m ps k under env h.1
        (subst (λ e. Well ps k.on under e) (sym (part_declares x env h.2)) (fine _ env h.4)) (λ e. jumping under env (h.3 e)))
        (fine _ env h.4).safe) stack t)
    of_piece (ThenElse x y m) = way _ _ (λ stack env t.
        top _ (choose (ev.statement x m ps k) (ev.statement y (m + size_stmt x) ps k)) env (λ u under h.
        choose_safe look result tags u _ _ under env
        (statement look result tags x m ps k under env h.1
        (subst (λ e. Well ps k.on under e) (sym (part_declares x env h.3)) (fine _ env h.7)) (λ e. jumping under env (h.5 e)))
        (statement look result tags y (m + size_stmt x) ps k under env h.2
        (subst (λ e. Well ps k.on under e) (sym (part_declares y env h.4)) (fine _ env h.7)) (λ e. jumping under env (h.6 e)))) stack t)
    of_piece (Turn l) = way _ _ (λ stack env t.
        top _ (choose (ev.statement l.body (body_at l) (AfterBody l ∷ ps) (looped l ps k)) k.on) env (λ u under h.
        choose_safe look result tags u _ _ under env (loop_body l under env h.1 (fine _ env h.2)) (fine _ env h.2).safe) stack t)
    of_piece (Repeat x c n) = way _ _ (λ stack env t.
        top _ (choose (repeated x c n ps) k.on) env (λ u under h.
        choose_safe look result tags u _ _ under env
        (stop_safe look result tags stop.Back (n + size_stmt x + size c) (Do (DoWhile x c) n ∷ ps) under env
        ((h.1.condition, h.1.body, h.1.part), (λ e. absurd (never e)), h.2)) (fine _ env h.2).safe) stack t)
    of_piece (Do x n) = way _ _ (λ stack env t.
        statement look result tags x n ps k stack env t.0 (fine _ _ t.2) (λ e. jumping stack env (t.1 e)))
    of_piece (Sequence ss n) = way _ _ (λ stack env t.
        sequence look result tags ss n ps k stack env t.0 (fine _ _ t.2) (λ e. jumping_inside stack env (t.1 e)))
    of_piece Close = record {
      on = at_close k.on (going look result ps).on s.on;
      broken = at_close k.broken (going look result ps).broken s.broken;
      continued = at_close k.continued (going look result ps).continued s.continued;
    }
    of_piece (LoopTest l) = way _ _ (λ stack env t.
        tested_safe look result tags l l.test (ev.statement l.body (body_at l)) ps k stack env t.0 t.0.test (fine _ env t.1)
        (loop_body l stack env t.0 (fine _ env t.1)))
    of_piece (AfterBody l) = record {
      on = λ stack env t. (after_body look result tags l ps k stack env t.0 (fine _ env t.1)).safe;
      broken = s.on;
      continued = λ stack env t. (after_body look result tags l ps k stack env t.0 (fine _ env t.1)).safe;
    }
    of_piece (BackEdge l) = way _ _ (λ stack env t. (turned look result tags l ps stack env t.0 t.1).safe)
    of_piece (Until x c n) = record {
      on = λ stack env t. until_safe look result tags x c n ps k stack env t.0 (fine _ env t.1);
      broken = s.on;
      continued = λ stack env t. until_safe look result tags x c n ps k stack env t.0 (fine _ env t.1);
    }
    of_piece (At x n) = way _ _ (λ stack env t. stop_safe look result tags x n ps stack env t)

  all_pieces : (ps : List Piece) → SafeWays (going look result ps) (ways ps)
  all_pieces [] = record { on = λ stack env t. absurd t; broken = λ stack env t. absurd t; continued = λ stack env t. absurd t }
  all_pieces (p ∷ ps) = of_piece ps (ways ps) (all_pieces ps) p

pub local_evaluation_keeps_types : LocalEvaluationKeepsTypes
local_evaluation_keeps_types look result tags ps values scopes g =
    (all_pieces look result tags ps).on g.stack g.env g.typed values scopes g.values_have g.scopes_have

pub bodies_go_on : BodiesGoOn
bodies_go_on look result tags parameters body arguments t h =
    let w = all_within body parameters [] in
    record {
      stack = [];
      env = parameters ∷ [];
      typed = (
        t.statements,
        (λ e. absurd (never (sym t.stays ∙ e))),
        (result, zero_has [] result, refl),
      );
      values_have = tt;
      scopes_have = (h, tt);
    }
