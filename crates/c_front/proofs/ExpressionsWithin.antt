-- What the grammar reads as an expression from tokens that begin at most at a number has its places and faults there.
use Rattle.std.proofs.Common.{ℕ, suc, ◌≤◌, List, [], ◌∷◌, ◌++◌, map, sym, subst, arith}
use Rattle.c_tree.specs.declared.name.CType.{CType}
use Rattle.c_tree.specs.declared.expr.Expr.{Expr}
use Rattle.c_tree.specs.declared.expr.Expr.TheFolds.{map-Expr}
use Rattle.c_tree.specs.declared.expr.ExprNode.{ExprNode}
use Rattle.c_tree.specs.declared.expr.ExprNode.TheVariants as node
use Rattle.c_tree.specs.declared.expr.StepOp.TheVariants.{PreIncrement, PreDecrement, PostIncrement, PostDecrement}
use Rattle.c_expr_parser.specs.Placed.{Placed, at, text, start}
use Rattle.c_expr_parser.specs.Terminals.{name}
use Rattle.c_expr_parser.specs.declared.operators.Joint.{Joint}
use Rattle.c_expr_parser.specs.declared.operators.Joint.TheVariants.{Operation, Both, Either}
use Rattle.c_expr_parser.specs.Operators.{joined}
use Rattle.c_expr_parser.specs.TypeNames.{TypeName}
use Rattle.c_expr_parser.specs.Expressions.{expr, Assignment, Conditional, Binary, Cast, Unary, Postfix, Primary, Arguments, Further}
use Rattle.c_expr_types.specs.declared.found.Part.{Part}
use Rattle.c_definitions.specs.Lookup.{Names}
use Rattle.c_expr_types.specs.Expressions.{infer}
use Rattle.c_types.proofs.FoldsAtNode.{infer_at}
use Rattle.c_front.proofs.FaultsWithin.{PartWithin}
use Rattle.c_front.proofs.ExpressionFaultsWithin.{TypeWithin, PartsWithin, NodeWithin, part_within}

module _ (n : ℕ) where
  -- each token begins at most there
  abbrev pub Below : List Placed → Type 0
  Below [] = Unit {0}
  Below (t ∷ ts) = (at t ≤ n) × Below ts

  pub front : (ts us : List Placed) → Below (ts ++ us) → Below ts
  front [] us h = tt
  front (t ∷ ts) us (p, h) = (p, front ts us h)

  pub rear : (ts us : List Placed) → Below (ts ++ us) → Below us
  rear [] us h = h
  rear (t ∷ ts) us (p, h) = rear ts us h

  -- what comes after a token among others
  pub past : (ts : List Placed) (t : Placed) (us : List Placed) → Below (ts ++ t ∷ us) → Below us
  past ts t us h = (rear ts (t ∷ us) h).1

  pub start_below : (ts : List Placed) → Below ts → start ts ≤ n
  start_below [] h = omega arith
  start_below (t ∷ ts) h = h.0

  pub begins : (ts us : List Placed) → Below (ts ++ us) → start ts ≤ n
  begins ts us h = start_below ts (front ts us h)

  pub type_within : {d : ℕ} {ts : List Placed} {t : CType} → TypeName d ts t → Below ts → TypeWithin n t
  type_within (TypeName.integer words means) h = tt
  type_within (TypeName.handle word tag star) h = h.1.0
  type_within (TypeName.thread word) h = tt

module _ (n : ℕ) (names : Names) where
  -- a node with its parts as they are found
  abbrev inferred : ℕ → ExprNode Expr → ExprNode Part
  inferred place made = (map-Expr Expr Part (infer names) (record { place = place; node = made })).node

  of_node : (place : ℕ) (made : ExprNode Expr) → place ≤ n → NodeWithin n (inferred place made) → PartWithin n (infer names (expr place made))
  of_node place made h k =
      subst {A = Part} (PartWithin n) (sym (infer_at names place made)) (part_within n names place (inferred place made) h k)

  joined_within : (place : ℕ) (joint : Joint) (a b : Expr) → PartWithin n (infer names a) → PartWithin n (infer names b)
      → NodeWithin n (inferred place (joined joint a b))
  joined_within place (Operation op) a b h k = (h, k)
  joined_within place Both a b h k = (h, k)
  joined_within place Either a b h k = (h, k)

  mutual
    pub assignment_within : {d : ℕ} {ts : List Placed} {e : Expr} → Assignment d ts e → Below n ts → PartWithin n (infer names e)
    assignment_within (Assignment.conditional c) h = conditional_within c h
    assignment_within (Assignment.assign {left} {right} {sign} {place} {value} u s a) h =
        of_node (start left) (node.Assign place value) (begins n left (sign ∷ right) h)
        (unary_within u (front n left (sign ∷ right) h), assignment_within a (past n left sign right h))
    assignment_within (Assignment.update {left} {right} {sign} {op} {place} {value} u c s a) h =
        of_node (start left) (node.Update op place value) (begins n left (sign ∷ right) h)
        (unary_within u (front n left (sign ∷ right) h), assignment_within a (past n left sign right h))

    pub conditional_within : {d : ℕ} {ts : List Placed} {e : Expr} → Conditional d ts e → Below n ts → PartWithin n (infer names e)
    conditional_within (Conditional.binary b) h = binary_within b h
    conditional_within (Conditional.choice {test} {first} {second} {question} {colon} {c} {a} {b} t q f s g) h =
        let after_test = past n test question (first ++ colon ∷ second) h in
        of_node (start test) (node.Choice c a b) (begins n test (question ∷ first ++ colon ∷ second) h) (
          binary_within t (front n test (question ∷ first ++ colon ∷ second) h),
          assignment_within f (front n first (colon ∷ second) after_test),
          conditional_within g (past n first colon second after_test),
        )

    pub binary_within : {level d : ℕ} {ts : List Placed} {e : Expr} → Binary level d ts e → Below n ts → PartWithin n (infer names e)
    binary_within (Binary.operand c) h = cast_within c h
    binary_within (Binary.tighter b) h = binary_within b h
    binary_within (Binary.chain {left} {right} {sign} {joint} {a} {b} x o s y) h =
        of_node (start left) (joined joint a b) (begins n left (sign ∷ right) h)
        (joined_within (start left) joint a b (binary_within x (front n left (sign ∷ right) h)) (binary_within y (past n left sign right h)))

    pub cast_within : {d : ℕ} {ts : List Placed} {e : Expr} → Cast d ts e → Below n ts → PartWithin n (infer names e)
    cast_within (Cast.unary u) h = unary_within u h
    cast_within (Cast.cast {paren} {close} {ts} {operand} {t} {e} p ty c o) h =
        of_node (at paren) (node.Cast t e) h.0
        (type_within n ty (front n ts (close ∷ operand) h.1), cast_within o (past n ts close operand h.1))

    pub unary_within : {d : ℕ} {ts : List Placed} {e : Expr} → Unary d ts e → Below n ts → PartWithin n (infer names e)
    unary_within (Unary.postfix p) h = postfix_within p h
    unary_within (Unary.operator {sign} {op} {e} u s c) h = of_node (at sign) (node.Unary op e) h.0 (cast_within c h.1)
    unary_within (Unary.pre_increment {sign} {e} s u) h = of_node (at sign) (node.Step PreIncrement e) h.0 (unary_within u h.1)
    unary_within (Unary.pre_decrement {sign} {e} s u) h = of_node (at sign) (node.Step PreDecrement e) h.0 (unary_within u h.1)

    pub postfix_within : {d : ℕ} {ts : List Placed} {e : Expr} → Postfix d ts e → Below n ts → PartWithin n (infer names e)
    postfix_within (Postfix.primary p) h = primary_within p h
    postfix_within (Postfix.call {function} {close} {ts} {es} f p as' c) h =
        of_node (at function) (node.Call (text function) es) h.0 (arguments_within as' (front n ts (close ∷ []) h.1.1))
    postfix_within (Postfix.element {array} {close} {ts} {index} x b i c) h =
        of_node (at array) (node.Element (text array) index) h.0 (assignment_within i (front n ts (close ∷ []) h.1.1))
    postfix_within (Postfix.arrow {ts} {sign} {field} {e} p s f) h =
        of_node (start ts) (node.Arrow e (name field)) (begins n ts (sign ∷ field ∷ []) h)
        (postfix_within p (front n ts (sign ∷ field ∷ []) h), (past n ts sign (field ∷ []) h).0)
    postfix_within (Postfix.dot {ts} {sign} {field} {e} p s f) h =
        of_node (start ts) (node.Dot e (name field)) (begins n ts (sign ∷ field ∷ []) h)
        (postfix_within p (front n ts (sign ∷ field ∷ []) h))
    postfix_within (Postfix.post_increment {ts} {sign} {e} p s) h =
        of_node (start ts) (node.Step PostIncrement e) (begins n ts (sign ∷ []) h) (postfix_within p (front n ts (sign ∷ []) h))
    postfix_within (Postfix.post_decrement {ts} {sign} {e} p s) h =
        of_node (start ts) (node.Step PostDecrement e) (begins n ts (sign ∷ []) h) (postfix_within p (front n ts (sign ∷ []) h))

    pub primary_within : {d : ℕ} {ts : List Placed} {e : Expr} → Primary d ts e → Below n ts → PartWithin n (infer names e)
    primary_within (Primary.variable {t} i) h = of_node (at t) (node.Variable (text t)) h.0 tt
    primary_within (Primary.number {t} {value} i) h = of_node (at t) (node.Number value) h.0 tt
    primary_within (Primary.character {t} {value} i) h = of_node (at t) (node.Character value) h.0 tt
    primary_within (Primary.null {t} w) h = of_node (at t) node.Null h.0 tt
    primary_within (Primary.success {t} w) h = of_node (at t) node.Success h.0 tt
    primary_within (Primary.error {t} w) h = of_node (at t) node.Error h.0 tt
    primary_within (Primary.parentheses {close} {ts} p a c) h = assignment_within a (front n ts (close ∷ []) h.1)
    primary_within (Primary.print {word} {close} {strings} {ts} {bytes} {es} w p s f c) h =
        of_node (at word) (node.Print (start strings) bytes es) h.0 (
          begins n strings (ts ++ close ∷ []) h.1.1,
          further_within f (front n ts (close ∷ []) (rear n strings (ts ++ close ∷ []) h.1.1)),
        )
    primary_within (Primary.calloc {word} {tag} w p one is comma sizeof inner struct tagged end close) h =
        of_node (at word) (node.Calloc (name tag)) h.0 h.1.1.1.1.1.1.1.0
    primary_within (Primary.free {word} {close} {ts} {e} w p a c) h =
        of_node (at word) (node.Free e) h.0 (assignment_within a (front n ts (close ∷ []) h.1.1))
    primary_within (Primary.create {word} {first} {function} {second} {close} {place} {argument} {p} {a} w o m u c f s x z) h =
        let after_place = rear n place (first ∷ function ∷ second ∷ argument ++ close ∷ []) h.1.1.1 in
        of_node (at word) (node.Create p (name function) a) h.0 (
          unary_within u (front n place (first ∷ function ∷ second ∷ argument ++ close ∷ []) h.1.1.1),
          after_place.1.0,
          assignment_within x (front n argument (close ∷ []) after_place.1.1.1),
        )
    primary_within (Primary.join {word} {comma} {null} {close} {ts} {e} w p a c nothing z) h =
        of_node (at word) (node.Join e) h.0 (assignment_within a (front n ts (comma ∷ null ∷ close ∷ []) h.1.1))
    primary_within (Primary.join_into {word} {comma} {ampersand} {close} {ts} {place} {e} {p} w o a c m u z) h =
        let after_thread = rear n ts (comma ∷ ampersand ∷ place ++ close ∷ []) h.1.1 in
        of_node (at word) (node.JoinInto e p) h.0 (
          assignment_within a (front n ts (comma ∷ ampersand ∷ place ++ close ∷ []) h.1.1),
          unary_within u (front n place (close ∷ []) after_thread.1.1),
        )
    primary_within (Primary.init_mutex {word} {mutex} w p a i c q z) h =
        of_node (at word) (node.InitMutex (name mutex)) h.0 h.1.1.1.0
    primary_within (Primary.lock {word} {mutex} w p a i z) h = of_node (at word) (node.Lock (name mutex)) h.0 h.1.1.1.0
    primary_within (Primary.unlock {word} {mutex} w p a i z) h = of_node (at word) (node.Unlock (name mutex)) h.0 h.1.1.1.0

    pub arguments_within : {d : ℕ} {ts : List Placed} {es : List Expr} → Arguments d ts es → Below n ts → PartsWithin n (map (infer names) es)
    arguments_within Arguments.none h = tt
    arguments_within (Arguments.some {ts} {rest} a f) h =
        (assignment_within a (front n ts rest h), further_within f (rear n ts rest h))

    pub further_within : {d : ℕ} {ts : List Placed} {es : List Expr} → Further d ts es → Below n ts → PartsWithin n (map (infer names) es)
    further_within Further.no_more h = tt
    further_within (Further.more {ts} {rest} c a f) h =
        (assignment_within a (front n ts rest h.1), further_within f (rear n ts rest h.1))
