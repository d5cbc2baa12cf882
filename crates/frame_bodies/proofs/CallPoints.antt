-- In a sound body what is called and spawned at the points has the property that it has in the text.
use Rattle.std.proofs.Common.{◌≡◌, ℕ, zero, suc, true, List, [], ◌∷◌, ◌++◌, map, option_map, unwrap_or, Option, Some, None, sym, subst}
use Rattle.std.specs.Prelude.{slice_get}
use Rattle.run_types.specs.CheckIns as check_in
use Rattle.run_types.specs.Skeleton.{PointKind, Point, IsCall, kind_at}
use Rattle.run_types.specs.Skeleton as kind
use Rattle.c_ints.specs.declared.operator.BinOp.{BinOp}
use Rattle.c_tree.specs.declared.expr.StepOp.{StepOp}
use Rattle.c_tree.specs.declared.expr.StepOp.TheVariants.{PreIncrement, PreDecrement, PostIncrement, PostDecrement}
use Rattle.c_tree.specs.BareExpr.{Bytes, BareType, BareExpr, BareExprs}
use Rattle.c_tree.specs.BareExpr as e
use Rattle.c_tree.specs.BareStmt.{BareStmt, BareStmts}
use Rattle.c_tree.specs.BareStmt as s
use Rattle.c_tree.specs.BareDef.{BareBinding, BareDef, Struct, Forward, Mutex, Function, Prototype, Global, Array, TransformStruct, TransformGlobal}
use Rattle.c_semantics.specs.Texts.{Definitions, int, bound, definition, parameters_of}
use Rattle.c_semantics.specs.Resolved.{Expression, Place}
use Rattle.c_semantics.specs.Resolved as made
use Rattle.c_semantics.specs.Resolution.{Resolved, as_locals, binary, common_type, declared_by, declared_by_all, handed, passed, resolved, resolved_all, resolved_body, side, statement, statements, step, tree_of, variable}
use Rattle.c_semantics.specs.Points.{at_depth, evaluated, evaluated_if, of_body, of_expression, of_expressions, of_parts, of_statement, of_statements, reads, writes}
use Rattle.c_semantics.specs.SourceTexts.{Text}
use Rattle.frame_bodies.specs.AcceptedTexts.{IsAccepted, is_function}
use Rattle.frame_bodies.specs.CalledFunctions.{CalledAreFunctions, SpawnedAreFunctions}
use Rattle.typed_uses.proofs.Lookups.{look}
use Rattle.frame_bodies.proofs.Sound.{IsPlace, Sound, AllSound, SoundIf, SoundStmt, SoundStmts}
use Rattle.frame_bodies.proofs.ResolvedSame.{SoundBody, place_tree, passed_points, handed_points, side_points}
use Rattle.frame_bodies.proofs.AcceptedFacts.{bare_of, facts_in}
use Rattle.frame_bodies.proofs.TypedExpressions.{Called}
use Rattle.frame_bodies.proofs.TypedStatements.{fine_body}

module _ (C : Bytes → Type 0) where
  -- what a point calls or spawns has the property
  abbrev Right : PointKind → Type 0
  Right (kind.Call name) = C name
  Right (kind.Spawn name) = C name
  Right _ = Unit {0}

  abbrev All : List PointKind → Type 0
  All [] = Unit {0}
  All (k ∷ ks) = Right k × All ks

  abbrev AllPoints : List Point → Type 0
  AllPoints [] = Unit {0}
  AllPoints (p ∷ ps) = Right p.kind × AllPoints ps

  and : (ks ls : List PointKind) → All ks → All ls → All (ks ++ ls)
  and [] ls a b = b
  and (k ∷ ks) ls a b = (a.0, and ks ls a.1 b)

  ahead : (ks ls : List PointKind) → All (ks ++ ls) → All ks
  ahead [] ls a = tt
  ahead (k ∷ ks) ls a = (a.0, ahead ks ls a.1)

  both : (ps qs : List Point) → AllPoints ps → AllPoints qs → AllPoints (ps ++ qs)
  both [] qs a b = b
  both (p ∷ ps) qs a b = (a.0, both ps qs a.1 b)

  at : (d : ℕ) (ks : List PointKind) → All ks → AllPoints (map (at_depth d) ks)
  at d [] a = tt
  at d (k ∷ ks) a = (a.0, at d ks a.1)

  read : (p : Place) → All (reads p)
  read (made.Local name) = tt
  read (made.Global name) = (tt, tt)
  read (made.Element name index) = (tt, tt)
  read (made.Field tag handle name) = (tt, tt)

  write : (p : Place) → All (writes p)
  write (made.Local name) = tt
  write (made.Global name) = (tt, tt)
  write (made.Element name index) = (tt, tt)
  write (made.Field tag handle name) = (tt, tt)

  stepped : (op : StepOp) (r : Resolved) → All (of_parts r.place) → All (of_expression (step op r).tree)
  stepped PreIncrement r a =
      and (of_parts r.place ++ reads r.place ++ []) (writes r.place)
      (and (of_parts r.place ++ reads r.place) [] (and (of_parts r.place) (reads r.place) a (read r.place)) tt) (write r.place)
  stepped PreDecrement r a =
      and (of_parts r.place ++ reads r.place ++ []) (writes r.place)
      (and (of_parts r.place ++ reads r.place) [] (and (of_parts r.place) (reads r.place) a (read r.place)) tt) (write r.place)
  stepped PostIncrement r a =
      and (of_parts r.place ++ reads r.place) (writes r.place) (and (of_parts r.place) (reads r.place) a (read r.place)) (write r.place)
  stepped PostDecrement r a =
      and (of_parts r.place ++ reads r.place) (writes r.place) (and (of_parts r.place) (reads r.place) a (read r.place)) (write r.place)

  variable_points : (look : Definitions) (name : Bytes) (b : Option BareBinding) → All (of_expression (variable look name b).tree)
  variable_points look name (Some b) = tt
  variable_points look name None = (tt, tt)

  sides : (op : BinOp) (r t : Resolved) → All (of_expression r.tree) → All (of_expression t.tree) → All (of_expression (binary op r t).tree)
  sides op r t a b =
      let type = common_type r.type t.type in
      and (of_expression (side type r.tree)) (of_expression (side type t.tree)) (subst All (sym (side_points type r.tree)) a)
      (subst All (sym (side_points type t.tree)) b)

  module _ (look : Definitions) where
    parts_right : (locals : List BareBinding) (x : BareExpr) → IsPlace x → All (of_expression (resolved look locals x).tree)
        → All (of_parts (resolved look locals x).place)
    parts_right locals x h a =
        ahead (of_parts (resolved look locals x).place) (reads (resolved look locals x).place)
        (subst (λ t. All (of_expression t)) (place_tree look locals x h) a)

    mutual
      right : (locals : List BareBinding) (x : BareExpr) → Sound C x → All (of_expression (resolved look locals x).tree)
      right locals (e.Number n) h = tt
      right locals (e.Character n) h = tt
      right locals e.Null h = tt
      right locals e.Success h = tt
      right locals e.Error h = tt
      right locals (e.Variable name) h = variable_points look name (bound locals name)
      right locals (e.Unary op a) h = right locals a h
      right locals (e.Step op a) h = stepped op (resolved look locals a) (parts_right locals a h.0 (right locals a h.1))
      right locals (e.Cast to a) h = right locals a h
      right locals (e.Binary op a b) h = sides op (resolved look locals a) (resolved look locals b) (right locals a h.0) (right locals b h.1)
      right locals (e.And a b) h =
          and (of_expression (resolved look locals a).tree) (of_expression (resolved look locals b).tree) (right locals a h.0) (right locals b h.1)
      right locals (e.Or a b) h =
          and (of_expression (resolved look locals a).tree) (of_expression (resolved look locals b).tree) (right locals a h.0) (right locals b h.1)
      right locals (e.Choice c a b) h =
          let kc = of_expression (resolved look locals c).tree in
          let ka = of_expression (resolved look locals a).tree in
          and (kc ++ ka) (of_expression (resolved look locals b).tree) (and kc ka (right locals c h.0) (right locals a h.1)) (right locals b h.2)
      right locals (e.Assign a b) h =
          let x = resolved look locals a in
          let kb = of_expression (resolved look locals b).tree in
          and (of_parts x.place ++ kb) (writes x.place)
          (and (of_parts x.place) kb (parts_right locals a h.0 (right locals a h.1)) (right locals b h.2)) (write x.place)
      right locals (e.Update op a b) h =
          let x = resolved look locals a in
          let kb = of_expression (resolved look locals b).tree in
          and (of_parts x.place ++ reads x.place ++ kb) (writes x.place)
          (and (of_parts x.place ++ reads x.place) kb
          (and (of_parts x.place) (reads x.place) (parts_right locals a h.0 (right locals a h.1)) (read x.place)) (right locals b h.2))
          (write x.place)
      right locals (e.Call name arguments) h =
          let xs = resolved_all look locals arguments in
          and (of_expressions (passed xs (parameters_of (look name)))) (kind.Call name ∷ kind.CheckIn check_in.Call ∷ [])
          (subst All (sym (passed_points xs (parameters_of (look name)))) (all_right locals arguments h.1)) (h.0, (tt, tt))
      right locals (e.Element name a) h =
          and (of_expression (resolved look locals a).tree) (kind.ReadElement name ∷ []) (right locals a h) (tt, tt)
      right locals (e.Arrow a name) h = and (of_expression (resolved look locals a).tree) _ (right locals a h) (tt, tt)
      right locals (e.Dot a name) h = tt
      right locals (e.Print format arguments) h =
          and (of_expressions (resolved_all look locals arguments)) (kind.Print ∷ []) (all_right locals arguments h) (tt, tt)
      right locals (e.Calloc tag) h = (tt, tt)
      right locals (e.Free a) h = and (of_expression (resolved look locals a).tree) _ (right locals a h) (tt, tt)
      right locals (e.Create a name b) h =
          let x = resolved look locals a in
          let y = (resolved look locals b).tree in
          let ks = of_expression (handed (parameters_of (look name)) y) in
          and (of_parts x.place ++ ks) (kind.Spawn name ∷ writes x.place)
          (and (of_parts x.place) ks (parts_right locals a h.1 (right locals a h.2))
          (subst All (sym (handed_points (parameters_of (look name)) y)) (right locals b h.3)))
          (h.0, write x.place)
      right locals (e.Join a) h = and (of_expression (resolved look locals a).tree) (kind.Join ∷ []) (right locals a h) (tt, tt)
      right locals (e.JoinInto a b) h =
          let ks = of_expression (resolved look locals a).tree in
          let y = resolved look locals b in
          and (ks ++ of_parts y.place) (kind.Join ∷ writes y.place)
          (and ks (of_parts y.place) (right locals a h.1) (parts_right locals b h.0 (right locals b h.2))) (tt, write y.place)
      right locals (e.InitMutex name) h = (tt, tt)
      right locals (e.Lock name) h = (tt, tt)
      right locals (e.Unlock name) h = (tt, tt)

      all_right : (locals : List BareBinding) (xs : BareExprs) → AllSound C xs → All (of_expressions (resolved_all look locals xs))
      all_right locals e.NoExprs h = tt
      all_right locals (e.ExprThen x xs) h =
          and (of_expression (resolved look locals x).tree) (of_expressions (resolved_all look locals xs)) (right locals x h.0) (all_right locals xs h.1)

    tree_right : (locals : List BareBinding) (x : BareExpr) (d : ℕ) → Sound C x → AllPoints (evaluated d (tree_of look locals x))
    tree_right locals x d h = at d (of_expression (tree_of look locals x)) (right locals x h)

    tree_right_if : (locals : List BareBinding) (x : Option BareExpr) (d : ℕ) → SoundIf C x
        → AllPoints (evaluated_if d (option_map (tree_of look locals) x))
    tree_right_if locals None d h = tt
    tree_right_if locals (Some x) d h = tree_right locals x d h

    initial_right : (locals : List BareBinding) (type : BareType) (x : Option BareExpr) (d : ℕ) → SoundIf C x
        → AllPoints (evaluated_if d (option_map (λ y. made.Convert type (tree_of look locals y)) x))
    initial_right locals type None d h = tt
    initial_right locals type (Some x) d h = tree_right locals x d h

    mutual
      stmt_right : (result : BareType) (locals : List BareBinding) (x : BareStmt) (d : ℕ) → SoundStmt C x
          → AllPoints (of_statement d (statement look result locals x))
      stmt_right result locals (s.Block ss) d h = stmts_right result locals ss d h
      stmt_right result locals s.Empty d h = tt
      stmt_right result locals (s.Evaluate x) d h = tree_right locals x d h
      stmt_right result locals (s.Declare x) d h =
          initial_right (record { declared = x.declared; name = x.name } ∷ locals) x.declared x.initial d h
      stmt_right result locals (s.If c x) d h =
          both (evaluated d (tree_of look locals c)) (of_statement d (statement look result locals x)) (tree_right locals c d h.0)
          (stmt_right result locals x d h.1)
      stmt_right result locals (s.IfElse c x y) d h =
          let pc = evaluated d (tree_of look locals c) in
          let px = of_statement d (statement look result locals x) in
          both (pc ++ px) (of_statement d (statement look result locals y))
          (both pc px (tree_right locals c d h.0) (stmt_right result locals x d h.1)) (stmt_right result locals y d h.2)
      stmt_right result locals (s.While c x) d h =
          let pc = evaluated d (tree_of look locals c) in
          let px = of_statement d (statement look result locals x) in
          both (pc ++ px) (at_depth d kind.Back ∷ []) (both pc px (tree_right locals c d h.0) (stmt_right result locals x d h.1)) (tt, tt)
      stmt_right result locals (s.DoWhile x c) d h =
          let pc = evaluated d (tree_of look locals c) in
          let px = of_statement d (statement look result locals x) in
          both (px ++ pc) (at_depth d kind.Back ∷ []) (both px pc (stmt_right result locals x d h.1) (tree_right locals c d h.0)) (tt, tt)
      stmt_right result locals (s.For first test step x) d h =
          let inner = declared_by_all first locals in
          let pf = of_statements d (statements look result locals first) in
          let pt = evaluated_if d (option_map (tree_of look inner) test) in
          let ps = evaluated_if d (option_map (tree_of look inner) step) in
          let px = of_statement d (statement look result inner x) in
          both (pf ++ pt ++ px ++ ps) (at_depth d kind.Back ∷ [])
          (both (pf ++ pt ++ px) ps
          (both (pf ++ pt) px (both pf pt (stmts_right result locals first d h.0) (tree_right_if inner test d h.1)) (stmt_right result inner x d h.3))
          (tree_right_if inner step d h.2)) (tt, tt)
      stmt_right result locals s.Break d h = tt
      stmt_right result locals s.Continue d h = tt
      stmt_right result locals s.Return d h = (tt, tt)
      stmt_right result locals (s.ReturnValue x) d h =
          both (evaluated d (tree_of look locals x)) (at_depth d kind.Return ∷ []) (tree_right locals x d h) (tt, tt)
      stmt_right result locals s.Update d h = (tt, (tt, tt))
      stmt_right result locals (s.Transaction ss) d h = (
        tt,
        (
          tt,
          both (of_statements (suc d) (statements look result locals ss))
              (at_depth (suc d) kind.End ∷ at_depth d (kind.CheckIn check_in.End) ∷ []) (stmts_right result locals ss (suc d) h) (tt, (tt, tt)),
        ),
      )

      stmts_right : (result : BareType) (locals : List BareBinding) (xs : BareStmts) (d : ℕ) → SoundStmts C xs
          → AllPoints (of_statements d (statements look result locals xs))
      stmts_right result locals s.NoStmts d h = tt
      stmts_right result locals (s.StmtThen x xs) d h =
          both (of_statement d (statement look result locals x)) (of_statements d (statements look result (declared_by x locals) xs))
          (stmt_right result locals x d h.0) (stmts_right result (declared_by x locals) xs d h.1)

    body_right : (o : Option BareDef) → SoundBody C o → AllPoints (of_body (resolved_body look o))
    body_right (Some (Function result name parameters body)) h =
        let type = unwrap_or result int in (
          tt,
          both (of_statements 0 (statements look type (as_locals parameters) body)) (at_depth 0 kind.Return ∷ [])
              (stmts_right type (as_locals parameters) body 0 h) (tt, tt),
        )
    body_right None h = (tt, (tt, tt))
    body_right (Some (Struct tag members)) h = (tt, (tt, tt))
    body_right (Some (Forward tag)) h = (tt, (tt, tt))
    body_right (Some (Mutex name)) h = (tt, (tt, tt))
    body_right (Some (Prototype result name parameters)) h = (tt, (tt, tt))
    body_right (Some (Global d)) h = (tt, (tt, tt))
    body_right (Some (Array element name length initial)) h = (tt, (tt, tt))
    body_right (Some (TransformStruct tag values)) h = (tt, (tt, tt))
    body_right (Some (TransformGlobal name value)) h = (tt, (tt, tt))

  -- at the point with a number
  right_at : (ps : List Point) (n : ℕ) (k : PointKind) → AllPoints ps → option_map (λ p. p.kind) (slice_get ps n) ≡ Some k → Right k
  right_at [] n k a is = cc
  right_at (p ∷ ps) zero k a is = let same : p.kind ≡ k = cc in subst Right same a.0
  right_at (p ∷ ps) (suc n) k a is = right_at ps n k a.1 is

-- ---- accepted texts

abbrev RightIn : Bytes → List BareDef → Type 0
RightIn function ds =
    AllPoints (λ name. is_function (definition ds name) ≡ true) (of_body (resolved_body (definition ds) (definition ds function)))

right_in : (text : Text) (function : Bytes) → IsAccepted text → RightIn function text.definitions
right_in text function a =
    let ds = text.tree.definitions in
    subst (RightIn function) (bare_of text a)
    (body_right (Called ds) (look ds) (look ds function) (fine_body ds function (facts_in text a)).sound)

pub called_are_functions : CalledAreFunctions
called_are_functions text function name n a h =
    right_at (λ name. is_function (definition text.definitions name) ≡ true)
    (of_body (resolved_body (definition text.definitions) (definition text.definitions function))) n (kind.Call name) (right_in text function a) h.is_call

pub spawned_are_functions : SpawnedAreFunctions
spawned_are_functions text function name n a h =
    right_at (λ name. is_function (definition text.definitions name) ≡ true)
    (of_body (resolved_body (definition text.definitions) (definition text.definitions function))) n (kind.Spawn name) (right_in text function a) h
