-- What the grammar reads as an expression from the tokens of a text has its constants in their ranges.
use Rattle.std.proofs.Common.{◌≡◌, ℕ, suc, List, [], ◌∷◌, ◌++◌, map, sym, subst}
use Rattle.c_ints.specs.Number.{value_of}
use Rattle.c_tree.specs.Bare.{bare_arguments, bare_expr, bare_node}
use Rattle.c_tree.specs.BareExpr.{BareExpr, BareExprs}
use Rattle.c_tree.specs.declared.name.CType.{CType}
use Rattle.c_tree.specs.declared.expr.Expr.{Expr}
use Rattle.c_tree.specs.declared.expr.Expr.TheFolds.{fold-roll-Expr, map-Expr}
use Rattle.c_tree.specs.declared.expr.ExprNode.{ExprNode}
use Rattle.c_tree.specs.declared.expr.ExprNode.TheVariants as node
use Rattle.c_tree.specs.declared.expr.StepOp.TheVariants.{PreIncrement, PreDecrement, PostIncrement, PostDecrement}
use Rattle.c_expr_parser.specs.Placed.{Placed, at, text, start}
use Rattle.c_expr_parser.specs.Terminals.{name}
use Rattle.c_expr_parser.specs.declared.operators.Joint.{Joint}
use Rattle.c_expr_parser.specs.declared.operators.Joint.TheVariants.{Operation, Both, Either}
use Rattle.c_expr_parser.specs.Operators.{joined}
use Rattle.c_expr_parser.specs.Expressions.{expr, Assignment, Conditional, Binary, Cast, Unary, Postfix, Primary, Arguments, Further}
use Rattle.constant_ranges.proofs.BareRanges.{AllBareRanged, BareRanged}
use Rattle.constant_ranges.proofs.Characters.{IsSmall}
use Rattle.constant_ranges.proofs.Numbers.{character_ranged, number_ranged}

-- the characters among tokens are of ASCII
abbrev pub AreRead : List Placed → Type 0
AreRead [] = Unit {0}
AreRead (t ∷ ts) = IsSmall t.token × AreRead ts

pub front : (ts us : List Placed) → AreRead (ts ++ us) → AreRead ts
front [] us h = tt
front (t ∷ ts) us h = (h.0, front ts us h.1)

pub rear : (ts us : List Placed) → AreRead (ts ++ us) → AreRead us
rear [] us h = h
rear (t ∷ ts) us h = rear ts us h.1

-- what comes after a token among others
pub past : (ts : List Placed) (t : Placed) (us : List Placed) → AreRead (ts ++ t ∷ us) → AreRead us
past ts t us h = (rear ts (t ∷ us) h).1

-- an expression without its places
abbrev pub IsFine : Expr → Type 0
IsFine e = BareRanged (bare_expr e)

abbrev pub AreFine : List Expr → Type 0
AreFine es = AllBareRanged (bare_arguments (map bare_expr es))

-- a node of expressions without their places
abbrev bared : ℕ → ExprNode Expr → BareExpr
bared place made = bare_node (map-Expr Expr BareExpr bare_expr (record { place = place; node = made })).node

of_node : (place : ℕ) (made : ExprNode Expr) → BareRanged (bared place made) → IsFine (expr place made)
of_node place made h =
    subst BareRanged (sym (fold-roll-Expr BareExpr (λ e. bare_node e.node) (record { place = place; node = made }))) h

joined_fine : (place : ℕ) (joint : Joint) (a b : Expr) → IsFine a → IsFine b → BareRanged (bared place (joined joint a b))
joined_fine place (Operation op) a b h k = (h, k)
joined_fine place Both a b h k = (h, k)
joined_fine place Either a b h k = (h, k)

mutual
  pub assignment_fine : {d : ℕ} {ts : List Placed} {e : Expr} → Assignment d ts e → AreRead ts → IsFine e
  assignment_fine (Assignment.conditional c) h = conditional_fine c h
  assignment_fine (Assignment.assign {left} {right} {sign} {place} {value} u s a) h =
      of_node (start left) (node.Assign place value)
      (unary_fine u (front left (sign ∷ right) h), assignment_fine a (past left sign right h))
  assignment_fine (Assignment.update {left} {right} {sign} {op} {place} {value} u c s a) h =
      of_node (start left) (node.Update op place value)
      (unary_fine u (front left (sign ∷ right) h), assignment_fine a (past left sign right h))

  pub conditional_fine : {d : ℕ} {ts : List Placed} {e : Expr} → Conditional d ts e → AreRead ts → IsFine e
  conditional_fine (Conditional.binary b) h = binary_fine b h
  conditional_fine (Conditional.choice {test} {first} {second} {question} {colon} {c} {a} {b} t q f s g) h =
      let after_test = past test question (first ++ colon ∷ second) h in
      of_node (start test) (node.Choice c a b) (
        binary_fine t (front test (question ∷ first ++ colon ∷ second) h),
        assignment_fine f (front first (colon ∷ second) after_test),
        conditional_fine g (past first colon second after_test),
      )

  pub binary_fine : {level d : ℕ} {ts : List Placed} {e : Expr} → Binary level d ts e → AreRead ts → IsFine e
  binary_fine (Binary.operand c) h = cast_fine c h
  binary_fine (Binary.tighter b) h = binary_fine b h
  binary_fine (Binary.chain {left} {right} {sign} {joint} {a} {b} x o s y) h =
      of_node (start left) (joined joint a b)
      (joined_fine (start left) joint a b (binary_fine x (front left (sign ∷ right) h)) (binary_fine y (past left sign right h)))

  pub cast_fine : {d : ℕ} {ts : List Placed} {e : Expr} → Cast d ts e → AreRead ts → IsFine e
  cast_fine (Cast.unary u) h = unary_fine u h
  cast_fine (Cast.cast {paren} {close} {ts} {operand} {t} {e} p ty c o) h =
      of_node (at paren) (node.Cast t e) (cast_fine o (past ts close operand h.1))

  pub unary_fine : {d : ℕ} {ts : List Placed} {e : Expr} → Unary d ts e → AreRead ts → IsFine e
  unary_fine (Unary.postfix p) h = postfix_fine p h
  unary_fine (Unary.operator {sign} {op} {e} u s c) h = of_node (at sign) (node.Unary op e) (cast_fine c h.1)
  unary_fine (Unary.pre_increment {sign} {e} s u) h = of_node (at sign) (node.Step PreIncrement e) (unary_fine u h.1)
  unary_fine (Unary.pre_decrement {sign} {e} s u) h = of_node (at sign) (node.Step PreDecrement e) (unary_fine u h.1)

  pub postfix_fine : {d : ℕ} {ts : List Placed} {e : Expr} → Postfix d ts e → AreRead ts → IsFine e
  postfix_fine (Postfix.primary p) h = primary_fine p h
  postfix_fine (Postfix.call {function} {close} {ts} {es} f p as' c) h =
      of_node (at function) (node.Call (text function) es) (arguments_fine as' (front ts (close ∷ []) h.1.1))
  postfix_fine (Postfix.element {array} {close} {ts} {index} x b i c) h =
      of_node (at array) (node.Element (text array) index) (assignment_fine i (front ts (close ∷ []) h.1.1))
  postfix_fine (Postfix.arrow {ts} {sign} {field} {e} p s f) h =
      of_node (start ts) (node.Arrow e (name field)) (postfix_fine p (front ts (sign ∷ field ∷ []) h))
  postfix_fine (Postfix.dot {ts} {sign} {field} {e} p s f) h =
      of_node (start ts) (node.Dot e (name field)) (postfix_fine p (front ts (sign ∷ field ∷ []) h))
  postfix_fine (Postfix.post_increment {ts} {sign} {e} p s) h =
      of_node (start ts) (node.Step PostIncrement e) (postfix_fine p (front ts (sign ∷ []) h))
  postfix_fine (Postfix.post_decrement {ts} {sign} {e} p s) h =
      of_node (start ts) (node.Step PostDecrement e) (postfix_fine p (front ts (sign ∷ []) h))

  pub primary_fine : {d : ℕ} {ts : List Placed} {e : Expr} → Primary d ts e → AreRead ts → IsFine e
  primary_fine (Primary.variable {t} i) h = of_node (at t) (node.Variable (text t)) tt
  primary_fine (Primary.number {d} {t} {value} i) h = of_node (at t) (node.Number value) (number_ranged d value t i)
  primary_fine (Primary.character {d} {t} {value} i) h = of_node (at t) (node.Character value) (character_ranged d value t i h.0)
  primary_fine (Primary.null {t} w) h = of_node (at t) node.Null tt
  primary_fine (Primary.success {t} w) h = of_node (at t) node.Success tt
  primary_fine (Primary.error {t} w) h = of_node (at t) node.Error tt
  primary_fine (Primary.parentheses {close} {ts} p a c) h = assignment_fine a (front ts (close ∷ []) h.1)
  primary_fine (Primary.print {word} {close} {strings} {ts} {bytes} {es} w p s f c) h =
      of_node (at word) (node.Print (start strings) bytes es)
      (further_fine f (front ts (close ∷ []) (rear strings (ts ++ close ∷ []) h.1.1)))
  primary_fine (Primary.calloc {word} {tag} w p one is comma sizeof inner struct tagged end close) h =
      of_node (at word) (node.Calloc (name tag)) tt
  primary_fine (Primary.free {word} {close} {ts} {e} w p a c) h =
      of_node (at word) (node.Free e) (assignment_fine a (front ts (close ∷ []) h.1.1))
  primary_fine (Primary.create {word} {first} {function} {second} {close} {place} {argument} {p} {a} w o m u c f s x z) h =
      let after_place = rear place (first ∷ function ∷ second ∷ argument ++ close ∷ []) h.1.1.1 in
      of_node (at word) (node.Create p (name function) a) (
        unary_fine u (front place (first ∷ function ∷ second ∷ argument ++ close ∷ []) h.1.1.1),
        assignment_fine x (front argument (close ∷ []) after_place.1.1.1),
      )
  primary_fine (Primary.join {word} {comma} {null} {close} {ts} {e} w p a c nothing z) h =
      of_node (at word) (node.Join e) (assignment_fine a (front ts (comma ∷ null ∷ close ∷ []) h.1.1))
  primary_fine (Primary.join_into {word} {comma} {ampersand} {close} {ts} {place} {e} {p} w o a c m u z) h =
      let after_thread = rear ts (comma ∷ ampersand ∷ place ++ close ∷ []) h.1.1 in
      of_node (at word) (node.JoinInto e p) (
        assignment_fine a (front ts (comma ∷ ampersand ∷ place ++ close ∷ []) h.1.1),
        unary_fine u (front place (close ∷ []) after_thread.1.1),
      )
  primary_fine (Primary.init_mutex {word} {mutex} w p a i c q z) h = of_node (at word) (node.InitMutex (name mutex)) tt
  primary_fine (Primary.lock {word} {mutex} w p a i z) h = of_node (at word) (node.Lock (name mutex)) tt
  primary_fine (Primary.unlock {word} {mutex} w p a i z) h = of_node (at word) (node.Unlock (name mutex)) tt

  pub arguments_fine : {d : ℕ} {ts : List Placed} {es : List Expr} → Arguments d ts es → AreRead ts → AreFine es
  arguments_fine Arguments.none h = tt
  arguments_fine (Arguments.some {ts} {rest} a f) h = (assignment_fine a (front ts rest h), further_fine f (rear ts rest h))

  pub further_fine : {d : ℕ} {ts : List Placed} {es : List Expr} → Further d ts es → AreRead ts → AreFine es
  further_fine Further.no_more h = tt
  further_fine (Further.more {ts} {rest} c a f) h =
      (assignment_fine a (front ts rest h.1), further_fine f (rear ts rest h.1))
