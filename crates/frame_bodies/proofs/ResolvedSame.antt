-- Two definitions that say the same of what a body uses resolve it alike.
use Rattle.std.proofs.Common.{◌≡◌, ℕ, suc, List, [], ◌∷◌, ◌++◌, map, option_map, unwrap_or, Option, Some, None, refl, sym, ap, ap₂, subst, ◌∙◌}
use Rattle.run_types.specs.Skeleton.{PointKind, Point}
use Rattle.run_types.specs.Skeleton as kind
use Rattle.run_types.specs.CheckIns as check_in
use Rattle.c_ints.specs.declared.operator.BinOp.{BinOp}
use Rattle.c_tree.specs.declared.expr.StepOp.{StepOp}
use Rattle.c_tree.specs.declared.expr.StepOp.TheVariants.{PreIncrement, PreDecrement, PostIncrement, PostDecrement}
use Rattle.c_tree.specs.BareExpr.{Bytes, BareType, BareExpr, BareExprs}
use Rattle.c_tree.specs.BareExpr as e
use Rattle.c_tree.specs.BareStmt.{BareDeclaration, BareStmt, BareStmts}
use Rattle.c_tree.specs.BareStmt as s
use Rattle.c_tree.specs.BareDef.{BareBinding, BareDef, Struct, Forward, Mutex, Function, Prototype, Global, Array, TransformStruct, TransformGlobal}
use Rattle.c_ints.specs.Arithmetic.{unary_kind}
use Rattle.c_semantics.specs.Names.{struct_name}
use Rattle.c_semantics.specs.Texts.{Definitions, int, bound, bound_type, global_type, result_type, parameters_of, members_of}
use Rattle.c_semantics.specs.Resolved.{Expression, Expressions, Place, Statement, Statements, ExpressionThen, NoExpressions, StatementThen}
use Rattle.c_semantics.specs.Resolved as made
use Rattle.c_semantics.specs.Resolution.{Resolved, value, kind, tag_of, side, common_type, binary, assignment, update, choice, step, variable, field, passed, handed, located, resolved, resolved_all, tree_of, declared_by, declared_by_all, statement, statements, as_locals, resolved_body}
use Rattle.c_semantics.specs.Points.{at_depth, reads, writes, of_expression, of_expressions, of_parts, evaluated, evaluated_if, of_statement, of_statements, of_body}
use Rattle.typed_uses.proofs.Points.{Each, EachPoint, together, former, latter}
use Rattle.frame_bodies.proofs.Lists.{points_former, points_latter, from_depth}
use Rattle.frame_bodies.proofs.Sound.{IsPlace, Sound, AllSound, SoundIf, SoundStmt, SoundStmts}

-- what resolution looks up of a name is the same
pub record LooksSame (a b : Option BareDef) : Type 0 where
  pub global : global_type a ≡ global_type b
  pub result : result_type a ≡ result_type b
  pub parameters : map (λ p. p.declared) (parameters_of a) ≡ map (λ p. p.declared) (parameters_of b)
  pub members : members_of a ≡ members_of b

three : {A B C D : Type 0} (f : A → B → C → D) {a b : A} {x y : B} {v w : C} → a ≡ b → x ≡ y → v ≡ w → f a x v ≡ f b y w
three f p q r = cc

four : {A B C D E : Type 0} (f : A → B → C → D → E) {a b : A} {x y : B} {v w : C} {p q : D}
    → a ≡ b → x ≡ y → v ≡ w → p ≡ q → f a x v p ≡ f b y w q
four f p q r t = cc

-- ---- what is transparent to points

pub side_points : (type : BareType) (x : Expression) → of_expression (side type x) ≡ of_expression x
side_points (e.Handle tag) x = refl
side_points (e.Integer k) x = refl
side_points e.Thread x = refl

pub passed_points : (xs : Expressions) (ps : List BareBinding) → of_expressions (passed xs ps) ≡ of_expressions xs
passed_points NoExpressions ps = refl
passed_points (ExpressionThen x xs) [] = ap (λ ks. of_expression x ++ ks) (passed_points xs [])
passed_points (ExpressionThen x xs) (p ∷ ps) = ap (λ ks. of_expression x ++ ks) (passed_points xs ps)

pub handed_points : (ps : List BareBinding) (x : Expression) → of_expression (handed ps x) ≡ of_expression x
handed_points [] x = refl
handed_points (p ∷ ps) x = refl

-- ---- arguments by the types of parameters alone

abbrev types_of : List BareBinding → List BareType
types_of ps = map (λ p. p.declared) ps

abbrev passed_as : Expressions → List BareType → Expressions
passed_as NoExpressions types = NoExpressions
passed_as (ExpressionThen x xs) [] = ExpressionThen x (passed_as xs [])
passed_as (ExpressionThen x xs) (t ∷ ts) = ExpressionThen (made.Convert t x) (passed_as xs ts)

passed_by_types : (xs : Expressions) (ps : List BareBinding) → passed xs ps ≡ passed_as xs (types_of ps)
passed_by_types NoExpressions ps = refl
passed_by_types (ExpressionThen x xs) [] = ap (ExpressionThen x) (passed_by_types xs [])
passed_by_types (ExpressionThen x xs) (p ∷ ps) = ap (ExpressionThen (made.Convert p.declared x)) (passed_by_types xs ps)

abbrev handed_as : List BareType → Expression → Expression
handed_as [] x = x
handed_as (t ∷ ts) x = made.Convert t x

handed_by_types : (ps : List BareBinding) (x : Expression) → handed ps x ≡ handed_as (types_of ps) x
handed_by_types [] x = refl
handed_by_types (p ∷ ps) x = refl

-- ---- places

-- the tree of a place reads it
pub place_tree : (look : Definitions) (locals : List BareBinding) (x : BareExpr) → IsPlace x
    → (resolved look locals x).tree ≡ made.Read (resolved look locals x).place
place_tree look locals (e.Variable name) h = by (bound locals name)
  where
    by : (b : Option BareBinding) → (variable look name b).tree ≡ made.Read (variable look name b).place
    by (Some b) = refl
    by None = refl
place_tree look locals (e.Element name a) h = refl
place_tree look locals (e.Arrow a name) h = refl
place_tree look locals (e.Number n) h = absurd h
place_tree look locals (e.Character n) h = absurd h
place_tree look locals e.Null h = absurd h
place_tree look locals e.Success h = absurd h
place_tree look locals e.Error h = absurd h
place_tree look locals (e.Unary op a) h = absurd h
place_tree look locals (e.Step op a) h = absurd h
place_tree look locals (e.Cast to a) h = absurd h
place_tree look locals (e.Binary op a b) h = absurd h
place_tree look locals (e.And a b) h = absurd h
place_tree look locals (e.Or a b) h = absurd h
place_tree look locals (e.Choice c a b) h = absurd h
place_tree look locals (e.Assign a b) h = absurd h
place_tree look locals (e.Update op a b) h = absurd h
place_tree look locals (e.Call name arguments) h = absurd h
place_tree look locals (e.Dot a name) h = absurd h
place_tree look locals (e.Print format arguments) h = absurd h
place_tree look locals (e.Calloc tag) h = absurd h
place_tree look locals (e.Free a) h = absurd h
place_tree look locals (e.Create a name b) h = absurd h
place_tree look locals (e.Join a) h = absurd h
place_tree look locals (e.JoinInto a b) h = absurd h
place_tree look locals (e.InitMutex name) h = absurd h
place_tree look locals (e.Lock name) h = absurd h
place_tree look locals (e.Unlock name) h = absurd h

module _ (P : Bytes → Type 0) where
  -- a place is read under the name under which it is written
  write_to_read : (p : Place) → Each P (writes p) → Each P (reads p)
  write_to_read (made.Local name) a = tt
  write_to_read (made.Global name) a = a
  write_to_read (made.Element name index) a = a
  write_to_read (made.Field tag handle name) a = a

  -- the points of a place's tree, by those of its parts and of its write
  place_points : (look : Definitions) (locals : List BareBinding) (x : BareExpr) → IsPlace x
      → Each P (of_parts (resolved look locals x).place) → Each P (writes (resolved look locals x).place)
      → Each P (of_expression (resolved look locals x).tree)
  place_points look locals x h parts written =
      subst (λ t. Each P (of_expression t)) (sym (place_tree look locals x h))
      (together P (of_parts (resolved look locals x).place) (reads (resolved look locals x).place) parts
      (write_to_read (resolved look locals x).place written))

  -- of a place that is read, too
  read_points : (look : Definitions) (locals : List BareBinding) (x : BareExpr) → IsPlace x
      → Each P (of_parts (resolved look locals x).place ++ reads (resolved look locals x).place)
      → Each P (of_expression (resolved look locals x).tree)
  read_points look locals x h a = subst (λ t. Each P (of_expression t)) (sym (place_tree look locals x h)) a

  stepped : (op : StepOp) (r : Resolved) → Each P (of_expression (step op r).tree) → Each P (of_parts r.place ++ reads r.place)
  stepped PreIncrement r a = former P (of_parts r.place ++ reads r.place) [] (former P (of_parts r.place ++ reads r.place ++ []) (writes r.place) a)
  stepped PreDecrement r a = former P (of_parts r.place ++ reads r.place) [] (former P (of_parts r.place ++ reads r.place ++ []) (writes r.place) a)
  stepped PostIncrement r a = former P (of_parts r.place ++ reads r.place) (writes r.place) a
  stepped PostDecrement r a = former P (of_parts r.place ++ reads r.place) (writes r.place) a

  step_points : (look : Definitions) (locals : List BareBinding) (op : StepOp) (x : BareExpr) → IsPlace x
      → Each P (of_expression (step op (resolved look locals x)).tree) → Each P (of_expression (resolved look locals x).tree)
  step_points look locals op x h a = read_points look locals x h (stepped op (resolved look locals x) a)

  binary_points : (op : BinOp) (r t : Resolved) → Each P (of_expression (binary op r t).tree)
      → Each P (of_expression r.tree) × Each P (of_expression t.tree)
  binary_points op r t a =
      let type = common_type r.type t.type in
      let left = of_expression (side type r.tree) in
      let right = of_expression (side type t.tree) in
      (subst (Each P) (side_points type r.tree) (former P left right a), subst (Each P) (side_points type t.tree) (latter P left right a))

  -- an assignment's place and value
  assign_points : (look : Definitions) (locals : List BareBinding) (x : BareExpr) (y : Expression) → IsPlace x
      → Each P (of_parts (resolved look locals x).place ++ of_expression y ++ writes (resolved look locals x).place)
      → Each P (of_expression (resolved look locals x).tree) × Each P (of_expression y)
  assign_points look locals x y h a =
      let r = resolved look locals x in
      let ahead = former P (of_parts r.place ++ of_expression y) (writes r.place) a in (
        place_points look locals x h (former P (of_parts r.place) (of_expression y) ahead)
            (latter P (of_parts r.place ++ of_expression y) (writes r.place) a),
        latter P (of_parts r.place) (of_expression y) ahead,
      )

  update_points : (look : Definitions) (locals : List BareBinding) (x : BareExpr) (y : Expression) → IsPlace x
      → Each P (of_parts (resolved look locals x).place ++ reads (resolved look locals x).place ++ of_expression y
      ++ writes (resolved look locals x).place)
      → Each P (of_expression (resolved look locals x).tree) × Each P (of_expression y)
  update_points look locals x y h a =
      let r = resolved look locals x in
      let ahead = former P (of_parts r.place ++ reads r.place ++ of_expression y) (writes r.place) a in (
        read_points look locals x h (former P (of_parts r.place ++ reads r.place) (of_expression y) ahead),
        latter P (of_parts r.place ++ reads r.place) (of_expression y) ahead,
      )

  -- what a place is written with after a stop: a spawned thread's handle, a joined thread's result
  placed_points : (look : Definitions) (locals : List BareBinding) (x : BareExpr) (k : PointKind) → IsPlace x
      → Each P (of_parts (resolved look locals x).place) → Each P (k ∷ writes (resolved look locals x).place)
      → Each P (of_expression (resolved look locals x).tree)
  placed_points look locals x k h parts a = place_points look locals x h parts a.1

-- ---- bodies

module _ (look other : Definitions) (P Q Called : Bytes → Type 0) (same : (u : Bytes) → P u → Q u → LooksSame (look u) (other u)) where
  variable_same : (name : Bytes) (b : Option BareBinding) → Each P (of_expression (variable look name b).tree)
      → Each Q (of_expression (variable other name b).tree) → variable look name b ≡ variable other name b
  variable_same name (Some b) p q = refl
  variable_same name None p q = ap (located (made.Global name)) (same name p.0 q.0).global

  call_same : (name : Bytes) (xs ys : Expressions) → LooksSame (look name) (other name) → xs ≡ ys
      → value (made.Call name (passed xs (parameters_of (look name)))) (result_type (look name))
      ≡ value (made.Call name (passed ys (parameters_of (other name)))) (result_type (other name))
  call_same name xs ys s is =
      ap (λ zs. value (made.Call name zs) (result_type (look name))) (passed_by_types xs (parameters_of (look name)))
      ∙ three (λ zs ts t. value (made.Call name (passed_as zs ts)) t) is s.parameters s.result
      ∙ ap (λ zs. value (made.Call name zs) (result_type (other name))) (sym (passed_by_types ys (parameters_of (other name))))

  create_same : (name : Bytes) (x y : Place) (a b : Expression) → LooksSame (look name) (other name) → x ≡ y → a ≡ b
      → value (made.Create x name (handed (parameters_of (look name)) a)) int
      ≡ value (made.Create y name (handed (parameters_of (other name)) b)) int
  create_same name x y a b s is same_argument =
      ap (λ c. value (made.Create x name c) int) (handed_by_types (parameters_of (look name)) a)
      ∙ three (λ z ts c. value (made.Create z name (handed_as ts c)) int) is s.parameters same_argument
      ∙ ap (λ c. value (made.Create y name c) int) (sym (handed_by_types (parameters_of (other name)) b))

  field_same : (x y : Resolved) (name : Bytes) → x ≡ y → P (struct_name (tag_of x.type)) → Q (struct_name (tag_of y.type))
      → field look x name ≡ field other y name
  field_same x y name is p q =
      let tag = tag_of x.type in
      let there = subst (λ (z : Resolved). Q (struct_name (tag_of z.type))) (sym is) q in
      ap (λ ms. located (made.Field tag x.tree name) (bound_type ms name)) (same (struct_name tag) p there).members
      ∙ ap (λ z. field other z name) is

  mutual
    expr_same : (locals : List BareBinding) (x : BareExpr) → Sound Called x → Each P (of_expression (resolved look locals x).tree)
        → Each Q (of_expression (resolved other locals x).tree) → resolved look locals x ≡ resolved other locals x
    expr_same locals (e.Number n) s p q = refl
    expr_same locals (e.Character n) s p q = refl
    expr_same locals e.Null s p q = refl
    expr_same locals e.Success s p q = refl
    expr_same locals e.Error s p q = refl
    expr_same locals (e.Variable name) s p q = variable_same name (bound locals name) p q
    expr_same locals (e.Unary op a) s p q =
        ap (λ (x : Resolved). value (made.Unary op x.tree) (e.Integer (unary_kind op (kind x.type)))) (expr_same locals a s p q)
    expr_same locals (e.Step op a) s p q =
        ap (step op) (expr_same locals a s.1 (step_points P look locals op a s.0 p) (step_points Q other locals op a s.0 q))
    expr_same locals (e.Cast to a) s p q = ap (λ (x : Resolved). value (made.Convert to x.tree) to) (expr_same locals a s p q)
    expr_same locals (e.Binary op a b) s p q =
        let ps = binary_points P op (resolved look locals a) (resolved look locals b) p in
        let qs = binary_points Q op (resolved other locals a) (resolved other locals b) q in
        ap₂ (binary op) (expr_same locals a s.0 ps.0 qs.0) (expr_same locals b s.1 ps.1 qs.1)
    expr_same locals (e.And a b) s p q =
        ap₂ (λ (x y : Resolved). value (made.And x.tree y.tree) int)
        (expr_same locals a s.0 (former P _ (of_expression (resolved look locals b).tree) p) (former Q _ (of_expression (resolved other locals b).tree) q))
        (expr_same locals b s.1 (latter P (of_expression (resolved look locals a).tree) _ p) (latter Q (of_expression (resolved other locals a).tree) _ q))
    expr_same locals (e.Or a b) s p q =
        ap₂ (λ (x y : Resolved). value (made.Or x.tree y.tree) int)
        (expr_same locals a s.0 (former P _ (of_expression (resolved look locals b).tree) p) (former Q _ (of_expression (resolved other locals b).tree) q))
        (expr_same locals b s.1 (latter P (of_expression (resolved look locals a).tree) _ p) (latter Q (of_expression (resolved other locals a).tree) _ q))
    expr_same locals (e.Choice c a b) s p q =
        let pc = of_expression (resolved look locals c).tree in
        let pa = of_expression (resolved look locals a).tree in
        let pb = of_expression (resolved look locals b).tree in
        let qc = of_expression (resolved other locals c).tree in
        let qa = of_expression (resolved other locals a).tree in
        let qb = of_expression (resolved other locals b).tree in
        three choice
        (expr_same locals c s.0 (former P pc pa (former P (pc ++ pa) pb p)) (former Q qc qa (former Q (qc ++ qa) qb q)))
        (expr_same locals a s.1 (latter P pc pa (former P (pc ++ pa) pb p)) (latter Q qc qa (former Q (qc ++ qa) qb q)))
        (expr_same locals b s.2 (latter P (pc ++ pa) pb p) (latter Q (qc ++ qa) qb q))
    expr_same locals (e.Assign a b) s p q =
        let ps = assign_points P look locals a (resolved look locals b).tree s.0 p in
        let qs = assign_points Q other locals a (resolved other locals b).tree s.0 q in
        ap₂ assignment (expr_same locals a s.1 ps.0 qs.0) (expr_same locals b s.2 ps.1 qs.1)
    expr_same locals (e.Update op a b) s p q =
        let ps = update_points P look locals a (resolved look locals b).tree s.0 p in
        let qs = update_points Q other locals a (resolved other locals b).tree s.0 q in
        ap₂ (update op) (expr_same locals a s.1 ps.0 qs.0) (expr_same locals b s.2 ps.1 qs.1)
    expr_same locals (e.Call name arguments) s p q =
        let xs = resolved_all look locals arguments in
        let ys = resolved_all other locals arguments in
        let pa = of_expressions (passed xs (parameters_of (look name))) in
        let qa = of_expressions (passed ys (parameters_of (other name))) in
        let pc : List PointKind = kind.Call name ∷ kind.CheckIn check_in.Call ∷ [] in
        call_same name xs ys (same name (latter P pa pc p).0 (latter Q qa pc q).0)
        (all_same locals arguments s.1 (subst (Each P) (passed_points xs (parameters_of (look name))) (former P pa pc p))
        (subst (Each Q) (passed_points ys (parameters_of (other name))) (former Q qa pc q)))
    expr_same locals (e.Element name a) s p q =
        let pa = of_expression (resolved look locals a).tree in
        let qa = of_expression (resolved other locals a).tree in
        let pe : List PointKind = kind.ReadElement name ∷ [] in
        ap₂ (λ (x : Resolved) type. located (made.Element name x.tree) type)
        (expr_same locals a s (former P pa pe p) (former Q qa pe q))
        (same name (latter P pa pe p).0 (latter Q qa pe q).0).global
    expr_same locals (e.Arrow a name) s p q =
        let x = resolved look locals a in
        let y = resolved other locals a in
        let pf : List PointKind = kind.ReadField (struct_name (tag_of x.type)) ∷ [] in
        let qf : List PointKind = kind.ReadField (struct_name (tag_of y.type)) ∷ [] in
        field_same x y name (expr_same locals a s (former P (of_expression x.tree) pf p) (former Q (of_expression y.tree) qf q))
        (latter P (of_expression x.tree) pf p).0 (latter Q (of_expression y.tree) qf q).0
    expr_same locals (e.Dot a name) s p q = refl
    expr_same locals (e.Print format arguments) s p q =
        let pp : List PointKind = kind.Print ∷ [] in
        ap (λ xs. value (made.Print format xs) int)
        (all_same locals arguments s (former P (of_expressions (resolved_all look locals arguments)) pp p)
        (former Q (of_expressions (resolved_all other locals arguments)) pp q))
    expr_same locals (e.Calloc tag) s p q = refl
    expr_same locals (e.Free a) s p q =
        ap (λ (x : Resolved). value (made.Free (tag_of x.type) x.tree) int)
        (expr_same locals a s (former P (of_expression (resolved look locals a).tree) _ p) (former Q (of_expression (resolved other locals a).tree) _ q))
    expr_same locals (e.Create a name b) s p q =
        let x = resolved look locals a in
        let y = resolved other locals a in
        let xb = (resolved look locals b).tree in
        let yb = (resolved other locals b).tree in
        let ph = of_expression (handed (parameters_of (look name)) xb) in
        let qh = of_expression (handed (parameters_of (other name)) yb) in
        let pw = writes x.place in
        let qw = writes y.place in
        let pa = former P (of_parts x.place ++ ph) (kind.Spawn name ∷ pw) p in
        let qa = former Q (of_parts y.place ++ qh) (kind.Spawn name ∷ qw) q in
        let pz = latter P (of_parts x.place ++ ph) (kind.Spawn name ∷ pw) p in
        let qz = latter Q (of_parts y.place ++ qh) (kind.Spawn name ∷ qw) q in
        let placed = expr_same locals a s.2 (placed_points P look locals a (kind.Spawn name) s.1 (former P (of_parts x.place) ph pa) pz)
        (placed_points Q other locals a (kind.Spawn name) s.1 (former Q (of_parts y.place) qh qa) qz) in
        create_same name x.place y.place xb yb (same name pz.0 qz.0) (ap (λ (r : Resolved). r.place) placed)
        (ap (λ (r : Resolved). r.tree)
        (expr_same locals b s.3 (subst (Each P) (handed_points (parameters_of (look name)) xb) (latter P (of_parts x.place) ph pa))
        (subst (Each Q) (handed_points (parameters_of (other name)) yb) (latter Q (of_parts y.place) qh qa))))
    expr_same locals (e.Join a) s p q =
        let pj : List PointKind = kind.Join ∷ [] in
        ap (λ (x : Resolved). value (made.Join x.tree) int)
        (expr_same locals a s (former P (of_expression (resolved look locals a).tree) pj p) (former Q (of_expression (resolved other locals a).tree) pj q))
    expr_same locals (e.JoinInto a b) s p q =
        let xa = of_expression (resolved look locals a).tree in
        let ya = of_expression (resolved other locals a).tree in
        let x = resolved look locals b in
        let y = resolved other locals b in
        let pa = former P (xa ++ of_parts x.place) (kind.Join ∷ writes x.place) p in
        let qa = former Q (ya ++ of_parts y.place) (kind.Join ∷ writes y.place) q in
        let pz = latter P (xa ++ of_parts x.place) (kind.Join ∷ writes x.place) p in
        let qz = latter Q (ya ++ of_parts y.place) (kind.Join ∷ writes y.place) q in
        ap₂ (λ (x y : Resolved). value (made.JoinInto x.tree y.place) int)
        (expr_same locals a s.1 (former P xa (of_parts x.place) pa) (former Q ya (of_parts y.place) qa))
        (expr_same locals b s.2 (placed_points P look locals b kind.Join s.0 (latter P xa (of_parts x.place) pa) pz)
        (placed_points Q other locals b kind.Join s.0 (latter Q ya (of_parts y.place) qa) qz))
    expr_same locals (e.InitMutex name) s p q = refl
    expr_same locals (e.Lock name) s p q = refl
    expr_same locals (e.Unlock name) s p q = refl

    all_same : (locals : List BareBinding) (xs : BareExprs) → AllSound Called xs → Each P (of_expressions (resolved_all look locals xs))
        → Each Q (of_expressions (resolved_all other locals xs)) → resolved_all look locals xs ≡ resolved_all other locals xs
    all_same locals e.NoExprs s p q = refl
    all_same locals (e.ExprThen x xs) s p q =
        let px = of_expression (resolved look locals x).tree in
        let qx = of_expression (resolved other locals x).tree in
        let pxs = of_expressions (resolved_all look locals xs) in
        let qxs = of_expressions (resolved_all other locals xs) in
        ap₂ (λ (y : Resolved) ys. ExpressionThen y.tree ys)
        (expr_same locals x s.0 (former P px pxs p) (former Q qx qxs q))
        (all_same locals xs s.1 (latter P px pxs p) (latter Q qx qxs q))

  tree_same : (locals : List BareBinding) (x : BareExpr) (d : ℕ) → Sound Called x → EachPoint P (evaluated d (tree_of look locals x))
      → EachPoint Q (evaluated d (tree_of other locals x)) → tree_of look locals x ≡ tree_of other locals x
  tree_same locals x d s p q =
      ap (λ (y : Resolved). y.tree) (expr_same locals x s (from_depth P d _ p) (from_depth Q d _ q))

  tree_same_if : (locals : List BareBinding) (x : Option BareExpr) (d : ℕ) → SoundIf Called x
      → EachPoint P (evaluated_if d (option_map (tree_of look locals) x)) → EachPoint Q (evaluated_if d (option_map (tree_of other locals) x))
      → option_map (tree_of look locals) x ≡ option_map (tree_of other locals) x
  tree_same_if locals None d s p q = refl
  tree_same_if locals (Some x) d s p q = ap Some (tree_same locals x d s p q)

  initial_same : (locals : List BareBinding) (type : BareType) (x : Option BareExpr) (d : ℕ) → SoundIf Called x
      → EachPoint P (evaluated_if d (option_map (λ y. made.Convert type (tree_of look locals y)) x))
      → EachPoint Q (evaluated_if d (option_map (λ y. made.Convert type (tree_of other locals y)) x))
      → option_map (λ y. made.Convert type (tree_of look locals y)) x ≡ option_map (λ y. made.Convert type (tree_of other locals y)) x
  initial_same locals type None d s p q = refl
  initial_same locals type (Some x) d s p q = ap (λ y. Some (made.Convert type y)) (tree_same locals x d s p q)

  mutual
    stmt_same : (result : BareType) (locals : List BareBinding) (x : BareStmt) (d : ℕ) → SoundStmt Called x
        → EachPoint P (of_statement d (statement look result locals x)) → EachPoint Q (of_statement d (statement other result locals x))
        → statement look result locals x ≡ statement other result locals x
    stmt_same result locals (s.Block ss) d h p q = ap made.Block (stmts_same result locals ss d h p q)
    stmt_same result locals s.Empty d h p q = refl
    stmt_same result locals (s.Evaluate x) d h p q = ap made.Evaluate (tree_same locals x d h p q)
    stmt_same result locals (s.Declare x) d h p q =
        ap (made.Declare x.declared x.name)
        (initial_same (record { declared = x.declared; name = x.name } ∷ locals) x.declared x.initial d h p q)
    stmt_same result locals (s.If c x) d h p q =
        let pc = evaluated d (tree_of look locals c) in
        let qc = evaluated d (tree_of other locals c) in
        let px = of_statement d (statement look result locals x) in
        let qx = of_statement d (statement other result locals x) in
        ap₂ made.If (tree_same locals c d h.0 (points_former P pc px p) (points_former Q qc qx q))
        (stmt_same result locals x d h.1 (points_latter P pc px p) (points_latter Q qc qx q))
    stmt_same result locals (s.IfElse c x y) d h p q =
        let pc = evaluated d (tree_of look locals c) in
        let qc = evaluated d (tree_of other locals c) in
        let px = of_statement d (statement look result locals x) in
        let qx = of_statement d (statement other result locals x) in
        let py = of_statement d (statement look result locals y) in
        let qy = of_statement d (statement other result locals y) in
        let p' = points_former P (pc ++ px) py p in
        let q' = points_former Q (qc ++ qx) qy q in
        three made.IfElse (tree_same locals c d h.0 (points_former P pc px p') (points_former Q qc qx q'))
        (stmt_same result locals x d h.1 (points_latter P pc px p') (points_latter Q qc qx q'))
        (stmt_same result locals y d h.2 (points_latter P (pc ++ px) py p) (points_latter Q (qc ++ qx) qy q))
    stmt_same result locals (s.While c x) d h p q =
        let back : List Point = at_depth d kind.Back ∷ [] in
        let pc = evaluated d (tree_of look locals c) in
        let qc = evaluated d (tree_of other locals c) in
        let px = of_statement d (statement look result locals x) in
        let qx = of_statement d (statement other result locals x) in
        let p' = points_former P (pc ++ px) back p in
        let q' = points_former Q (qc ++ qx) back q in
        ap₂ made.While (tree_same locals c d h.0 (points_former P pc px p') (points_former Q qc qx q'))
        (stmt_same result locals x d h.1 (points_latter P pc px p') (points_latter Q qc qx q'))
    stmt_same result locals (s.DoWhile x c) d h p q =
        let back : List Point = at_depth d kind.Back ∷ [] in
        let pc = evaluated d (tree_of look locals c) in
        let qc = evaluated d (tree_of other locals c) in
        let px = of_statement d (statement look result locals x) in
        let qx = of_statement d (statement other result locals x) in
        let p' = points_former P (px ++ pc) back p in
        let q' = points_former Q (qx ++ qc) back q in
        ap₂ made.DoWhile (stmt_same result locals x d h.1 (points_former P px pc p') (points_former Q qx qc q'))
        (tree_same locals c d h.0 (points_latter P px pc p') (points_latter Q qx qc q'))
    stmt_same result locals (s.For first test step x) d h p q =
        let back : List Point = at_depth d kind.Back ∷ [] in
        let inner = declared_by_all first locals in
        let pf = of_statements d (statements look result locals first) in
        let qf = of_statements d (statements other result locals first) in
        let pt = evaluated_if d (option_map (tree_of look inner) test) in
        let qt = evaluated_if d (option_map (tree_of other inner) test) in
        let ps = evaluated_if d (option_map (tree_of look inner) step) in
        let qs = evaluated_if d (option_map (tree_of other inner) step) in
        let px = of_statement d (statement look result inner x) in
        let qx = of_statement d (statement other result inner x) in
        let p3 = points_former P (pf ++ pt ++ px ++ ps) back p in
        let q3 = points_former Q (qf ++ qt ++ qx ++ qs) back q in
        let p2 = points_former P (pf ++ pt ++ px) ps p3 in
        let q2 = points_former Q (qf ++ qt ++ qx) qs q3 in
        let p1 = points_former P (pf ++ pt) px p2 in
        let q1 = points_former Q (qf ++ qt) qx q2 in
        four made.For (stmts_same result locals first d h.0 (points_former P pf pt p1) (points_former Q qf qt q1))
        (tree_same_if inner test d h.1 (points_latter P pf pt p1) (points_latter Q qf qt q1))
        (tree_same_if inner step d h.2 (points_latter P (pf ++ pt ++ px) ps p3) (points_latter Q (qf ++ qt ++ qx) qs q3))
        (stmt_same result inner x d h.3 (points_latter P (pf ++ pt) px p2) (points_latter Q (qf ++ qt) qx q2))
    stmt_same result locals s.Break d h p q = refl
    stmt_same result locals s.Continue d h p q = refl
    stmt_same result locals s.Return d h p q = refl
    stmt_same result locals (s.ReturnValue x) d h p q =
        let end : List Point = at_depth d kind.Return ∷ [] in
        ap (λ y. made.Return (made.Convert result y))
        (tree_same locals x d h (points_former P (evaluated d (tree_of look locals x)) end p)
        (points_former Q (evaluated d (tree_of other locals x)) end q))
    stmt_same result locals s.Update d h p q = refl
    stmt_same result locals (s.Transaction ss) d h p q =
        let end : List Point = at_depth (suc d) kind.End ∷ at_depth d (kind.CheckIn check_in.End) ∷ [] in
        ap made.Transaction
        (stmts_same result locals ss (suc d) h
        (points_former P (of_statements (suc d) (statements look result locals ss)) end p.1.1)
        (points_former Q (of_statements (suc d) (statements other result locals ss)) end q.1.1))

    pub stmts_same : (result : BareType) (locals : List BareBinding) (xs : BareStmts) (d : ℕ) → SoundStmts Called xs
        → EachPoint P (of_statements d (statements look result locals xs)) → EachPoint Q (of_statements d (statements other result locals xs))
        → statements look result locals xs ≡ statements other result locals xs
    stmts_same result locals s.NoStmts d h p q = refl
    stmts_same result locals (s.StmtThen x xs) d h p q =
        let px = of_statement d (statement look result locals x) in
        let qx = of_statement d (statement other result locals x) in
        let pxs = of_statements d (statements look result (declared_by x locals) xs) in
        let qxs = of_statements d (statements other result (declared_by x locals) xs) in
        ap₂ StatementThen (stmt_same result locals x d h.0 (points_former P px pxs p) (points_former Q qx qxs q))
        (stmts_same result (declared_by x locals) xs d h.1 (points_latter P px pxs p) (points_latter Q qx qxs q))

-- a definition's body
abbrev pub SoundBody : (Bytes → Type 0) → Option BareDef → Type 0
SoundBody Called (Some (Function result name parameters body)) = SoundStmts Called body
SoundBody Called _ = Unit {0}

pub body_same : (look other : Definitions) (P Q Called : Bytes → Type 0) → ((u : Bytes) → P u → Q u → LooksSame (look u) (other u))
    → (o : Option BareDef) → SoundBody Called o → EachPoint P (of_body (resolved_body look o)) → EachPoint Q (of_body (resolved_body other o))
    → resolved_body look o ≡ resolved_body other o
body_same look other P Q Called same (Some (Function result name parameters body)) h p q =
    let type = unwrap_or result int in
    let end : List Point = at_depth 0 kind.Return ∷ [] in
    stmts_same look other P Q Called same type (as_locals parameters) body 0 h
    (points_former P (of_statements 0 (statements look type (as_locals parameters) body)) end p.1)
    (points_former Q (of_statements 0 (statements other type (as_locals parameters) body)) end q.1)
body_same look other P Q Called same None h p q = refl
body_same look other P Q Called same (Some (Struct tag members)) h p q = refl
body_same look other P Q Called same (Some (Forward tag)) h p q = refl
body_same look other P Q Called same (Some (Mutex name)) h p q = refl
body_same look other P Q Called same (Some (Prototype result name parameters)) h p q = refl
body_same look other P Q Called same (Some (Global d)) h p q = refl
body_same look other P Q Called same (Some (Array element name length initial)) h p q = refl
body_same look other P Q Called same (Some (TransformStruct tag values)) h p q = refl
body_same look other P Q Called same (Some (TransformGlobal name value)) h p q = refl
