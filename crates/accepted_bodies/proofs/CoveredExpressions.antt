-- What the grammar reads as an expression has at most two calls for three tokens.
use Rattle.std.proofs.Common.{ℕ, ◌+◌, ◌*◌, ◌≤◌, List, [], ◌∷◌, ◌++◌, map, length, length-append, sym, subst, arith}
use Rattle.c_tree.specs.BareExpr.{BareExpr}
use Rattle.c_tree.specs.Bare.{bare_arguments, bare_expr, bare_node}
use Rattle.c_tree.specs.declared.expr.Expr.{Expr}
use Rattle.c_tree.specs.declared.expr.Expr.TheFolds.{fold-roll-Expr, map-Expr}
use Rattle.c_tree.specs.declared.expr.ExprNode.{ExprNode}
use Rattle.c_tree.specs.declared.expr.ExprNode.TheVariants as node
use Rattle.c_tree.specs.declared.expr.StepOp.TheVariants.{PreIncrement, PreDecrement, PostIncrement, PostDecrement}
use Rattle.c_expr_parser.specs.Placed.{Placed, at, text, start}
use Rattle.c_expr_parser.specs.Terminals.{name}
use Rattle.c_expr_parser.specs.declared.operators.Joint.{Joint}
use Rattle.c_expr_parser.specs.declared.operators.Joint.TheVariants.{Operation, Both, Either}
use Rattle.c_expr_parser.specs.Operators.{joined}
use Rattle.c_expr_parser.specs.Expressions.{expr, Assignment, Conditional, Binary, Cast, Unary, Postfix, Primary, Arguments, Further}
use Rattle.accepted_bodies.proofs.ResolvedCheckIns.{of_expression, of_expressions}

-- at most two for three of some tokens
abbrev pub Covers : List Placed → ℕ → Type 0
Covers ts n = 3 * n ≤ 2 * length ts

abbrev calls : Expr → ℕ
calls e = of_expression (bare_expr e)

abbrev calls_in : List Expr → ℕ
calls_in es = of_expressions (bare_arguments (map bare_expr es))

-- an expression that is written out
of_node : (ts : List Placed) (place : ℕ) (made : ExprNode Expr)
    → Covers ts (of_expression (bare_node (map-Expr Expr BareExpr bare_expr (record { place = place; node = made })).node))
    → Covers ts (calls (expr place made))
of_node ts place made =
    subst (λ e. Covers ts (of_expression e)) (sym (fold-roll-Expr BareExpr (λ e. bare_node e.node) (record { place = place; node = made })))

-- an expression of its parts' calls and no others
one : (ts us : List Placed) (n m : ℕ) → Covers us n → m ≤ n → length us ≤ length ts → Covers ts m
one ts us n m c few long = omega (arith, c, few, long)

two : (ts us vs : List Placed) (n m k : ℕ) → Covers us n → Covers vs m → k ≤ n + m → length us + length vs ≤ length ts → Covers ts k
two ts us vs n m k c d few long = omega (arith, c, d, few, long)

joined_covered : (ts us vs : List Placed) (place : ℕ) (joint : Joint) (a b : Expr) → Covers us (calls a) → Covers vs (calls b)
    → length us + length vs ≤ length ts → Covers ts (calls (expr place (joined joint a b)))
joined_covered ts us vs place (Operation op) a b c d long =
    of_node ts place (node.Binary op a b) (two ts us vs (calls a) (calls b) _ c d (omega arith) long)
joined_covered ts us vs place Both a b c d long =
    of_node ts place (node.And a b) (two ts us vs (calls a) (calls b) _ c d (omega arith) long)
joined_covered ts us vs place Either a b c d long =
    of_node ts place (node.Or a b) (two ts us vs (calls a) (calls b) _ c d (omega arith) long)

-- tokens before others, and one between
before : (ts us : List Placed) → length ts ≤ length (ts ++ us)
before ts us = let sum = length-append ts us in omega (arith, sum)

around : (ts : List Placed) (t : Placed) (us : List Placed) → length ts + length us ≤ length (ts ++ t ∷ us)
around ts t us = let sum = length-append ts (t ∷ us) in omega (arith, sum)

mutual
  pub assignment_covered : {d : ℕ} {ts : List Placed} {e : Expr} → Assignment d ts e → Covers ts (calls e)
  assignment_covered (Assignment.conditional c) = conditional_covered c
  assignment_covered (Assignment.assign {left} {right} {sign} {place} {value} u s a) =
      of_node (left ++ sign ∷ right) (start left) (node.Assign place value)
      (two (left ++ sign ∷ right) left right (calls place) (calls value) _ (unary_covered u) (assignment_covered a) (omega arith) (around left sign right))
  assignment_covered (Assignment.update {left} {right} {sign} {op} {place} {value} u c s a) =
      of_node (left ++ sign ∷ right) (start left) (node.Update op place value)
      (two (left ++ sign ∷ right) left right (calls place) (calls value) _ (unary_covered u) (assignment_covered a) (omega arith) (around left sign right))

  pub conditional_covered : {d : ℕ} {ts : List Placed} {e : Expr} → Conditional d ts e → Covers ts (calls e)
  conditional_covered (Conditional.binary b) = binary_covered b
  conditional_covered (Conditional.choice {test} {first} {second} {question} {colon} {c} {a} {b} t q f s g) =
      let x = binary_covered t in
      let y = assignment_covered f in
      let z = conditional_covered g in
      let whole = around test question (first ++ colon ∷ second) in
      let rest = around first colon second in
      of_node (test ++ (question ∷ first ++ colon ∷ second)) (start test) (node.Choice c a b)
      (two (test ++ (question ∷ first ++ colon ∷ second)) test (first ++ colon ∷ second) (calls c) (calls a + calls b) _ x
      (two (first ++ colon ∷ second) first second (calls a) (calls b) _ y z (omega arith) rest) (omega arith) whole)

  binary_covered : {level d : ℕ} {ts : List Placed} {e : Expr} → Binary level d ts e → Covers ts (calls e)
  binary_covered (Binary.operand c) = cast_covered c
  binary_covered (Binary.tighter b) = binary_covered b
  binary_covered (Binary.chain {left} {right} {sign} {joint} {a} {b} x o s y) =
      joined_covered (left ++ sign ∷ right) left right (start left) joint a b (binary_covered x) (binary_covered y) (around left sign right)

  cast_covered : {d : ℕ} {ts : List Placed} {e : Expr} → Cast d ts e → Covers ts (calls e)
  cast_covered (Cast.unary u) = unary_covered u
  cast_covered (Cast.cast {paren} {close} {ts} {operand} {t} {e} p ty c o) =
      let long = around ts close operand in
      of_node (paren ∷ ts ++ close ∷ operand) (at paren) (node.Cast t e)
      (one (paren ∷ ts ++ close ∷ operand) operand (calls e) _ (cast_covered o) (omega arith) (omega (arith, long)))

  unary_covered : {d : ℕ} {ts : List Placed} {e : Expr} → Unary d ts e → Covers ts (calls e)
  unary_covered (Unary.postfix p) = postfix_covered p
  unary_covered (Unary.operator {sign} {operand} {op} {e} u s c) =
      of_node (sign ∷ operand) (at sign) (node.Unary op e) (one (sign ∷ operand) operand (calls e) _ (cast_covered c) (omega arith) (omega arith))
  unary_covered (Unary.pre_increment {sign} {operand} {e} s u) =
      of_node (sign ∷ operand) (at sign) (node.Step PreIncrement e) (one (sign ∷ operand) operand (calls e) _ (unary_covered u) (omega arith) (omega arith))
  unary_covered (Unary.pre_decrement {sign} {operand} {e} s u) =
      of_node (sign ∷ operand) (at sign) (node.Step PreDecrement e) (one (sign ∷ operand) operand (calls e) _ (unary_covered u) (omega arith) (omega arith))

  postfix_covered : {d : ℕ} {ts : List Placed} {e : Expr} → Postfix d ts e → Covers ts (calls e)
  postfix_covered (Postfix.primary p) = primary_covered p
  postfix_covered (Postfix.call {function} {paren} {close} {ts} {es} f p as' c) =
      let within = arguments_covered as' in
      let long = length-append ts (close ∷ []) in
      of_node (function ∷ paren ∷ ts ++ close ∷ []) (at function) (node.Call (text function) es) (omega (arith, within, long))
  postfix_covered (Postfix.element {array} {bracket} {close} {ts} {index} x b i c) =
      let long = before ts (close ∷ []) in
      of_node (array ∷ bracket ∷ ts ++ close ∷ []) (at array) (node.Element (text array) index)
      (one (array ∷ bracket ∷ ts ++ close ∷ []) ts (calls index) _ (assignment_covered i) (omega arith) (omega (arith, long)))
  postfix_covered (Postfix.arrow {ts} {sign} {field} {e} p s f) =
      of_node (ts ++ sign ∷ field ∷ []) (start ts) (node.Arrow e (name field))
      (one (ts ++ sign ∷ field ∷ []) ts (calls e) _ (postfix_covered p) (omega arith) (before ts (sign ∷ field ∷ [])))
  postfix_covered (Postfix.dot {ts} {sign} {field} {e} p s f) =
      of_node (ts ++ sign ∷ field ∷ []) (start ts) (node.Dot e (name field))
      (one (ts ++ sign ∷ field ∷ []) ts (calls e) _ (postfix_covered p) (omega arith) (before ts (sign ∷ field ∷ [])))
  postfix_covered (Postfix.post_increment {ts} {sign} {e} p s) =
      of_node (ts ++ sign ∷ []) (start ts) (node.Step PostIncrement e)
      (one (ts ++ sign ∷ []) ts (calls e) _ (postfix_covered p) (omega arith) (before ts (sign ∷ [])))
  postfix_covered (Postfix.post_decrement {ts} {sign} {e} p s) =
      of_node (ts ++ sign ∷ []) (start ts) (node.Step PostDecrement e)
      (one (ts ++ sign ∷ []) ts (calls e) _ (postfix_covered p) (omega arith) (before ts (sign ∷ [])))

  primary_covered : {d : ℕ} {ts : List Placed} {e : Expr} → Primary d ts e → Covers ts (calls e)
  primary_covered (Primary.variable {t} i) = of_node (t ∷ []) (at t) (node.Variable (text t)) (omega arith)
  primary_covered (Primary.number {t} {value} i) = of_node (t ∷ []) (at t) (node.Number value) (omega arith)
  primary_covered (Primary.character {t} {value} i) = of_node (t ∷ []) (at t) (node.Character value) (omega arith)
  primary_covered (Primary.null {t} w) = of_node (t ∷ []) (at t) node.Null (omega arith)
  primary_covered (Primary.success {t} w) = of_node (t ∷ []) (at t) node.Success (omega arith)
  primary_covered (Primary.error {t} w) = of_node (t ∷ []) (at t) node.Error (omega arith)
  primary_covered (Primary.parentheses {paren} {close} {ts} {e} p a c) =
      let long = before ts (close ∷ []) in
      one (paren ∷ ts ++ close ∷ []) ts (calls e) (calls e) (assignment_covered a) (omega arith) (omega (arith, long))
  primary_covered (Primary.print {word} {paren} {close} {strings} {ts} {bytes} {es} w p s f c) =
      let within = further_covered f in
      let all = length-append strings (ts ++ close ∷ []) in
      let rest = length-append ts (close ∷ []) in
      of_node (word ∷ paren ∷ strings ++ (ts ++ close ∷ [])) (at word) (node.Print (start strings) bytes es) (omega (arith, within, all, rest))
  primary_covered (Primary.calloc {word} {paren} {one = unit} {comma} {sizeof} {inner} {struct} {tag} {end} {close} w p o is c s i st tg e z) =
      of_node (word ∷ paren ∷ unit ∷ comma ∷ sizeof ∷ inner ∷ struct ∷ tag ∷ end ∷ close ∷ []) (at word) (node.Calloc (name tag)) (omega arith)
  primary_covered (Primary.free {word} {paren} {close} {ts} {e} w p a c) =
      let long = before ts (close ∷ []) in
      of_node (word ∷ paren ∷ ts ++ close ∷ []) (at word) (node.Free e)
      (one (word ∷ paren ∷ ts ++ close ∷ []) ts (calls e) _ (assignment_covered a) (omega arith) (omega (arith, long)))
  primary_covered (Primary.create {word} {paren} {ampersand} {first} {function} {second} {close} {place} {argument} {p} {a} w o m u c f s x z) =
      let whole = length-append place (first ∷ function ∷ second ∷ argument ++ close ∷ []) in
      let rest = length-append argument (close ∷ []) in
      of_node (word ∷ paren ∷ ampersand ∷ place ++ (first ∷ function ∷ second ∷ argument ++ close ∷ [])) (at word) (node.Create p (name function) a)
      (two (word ∷ paren ∷ ampersand ∷ place ++ (first ∷ function ∷ second ∷ argument ++ close ∷ [])) place argument (calls p) (calls a) _
      (unary_covered u) (assignment_covered x) (omega arith) (omega (arith, whole, rest)))
  primary_covered (Primary.join {word} {paren} {comma} {null} {close} {ts} {e} w p a c nothing z) =
      let long = before ts (comma ∷ null ∷ close ∷ []) in
      of_node (word ∷ paren ∷ ts ++ comma ∷ null ∷ close ∷ []) (at word) (node.Join e)
      (one (word ∷ paren ∷ ts ++ comma ∷ null ∷ close ∷ []) ts (calls e) _ (assignment_covered a) (omega arith) (omega (arith, long)))
  primary_covered (Primary.join_into {word} {paren} {comma} {ampersand} {close} {ts} {place} {e} {p} w o a c m u z) =
      let whole = length-append ts (comma ∷ ampersand ∷ place ++ close ∷ []) in
      let rest = length-append place (close ∷ []) in
      of_node (word ∷ paren ∷ ts ++ (comma ∷ ampersand ∷ place ++ close ∷ [])) (at word) (node.JoinInto e p)
      (two (word ∷ paren ∷ ts ++ (comma ∷ ampersand ∷ place ++ close ∷ [])) ts place (calls e) (calls p) _
      (assignment_covered a) (unary_covered u) (omega arith) (omega (arith, whole, rest)))
  primary_covered (Primary.init_mutex {word} {paren} {ampersand} {mutex} {comma} {plain} {close} w p a i c q z) =
      of_node (word ∷ paren ∷ ampersand ∷ mutex ∷ comma ∷ plain ∷ close ∷ []) (at word) (node.InitMutex (name mutex)) (omega arith)
  primary_covered (Primary.lock {word} {paren} {ampersand} {mutex} {close} w p a i z) =
      of_node (word ∷ paren ∷ ampersand ∷ mutex ∷ close ∷ []) (at word) (node.Lock (name mutex)) (omega arith)
  primary_covered (Primary.unlock {word} {paren} {ampersand} {mutex} {close} w p a i z) =
      of_node (word ∷ paren ∷ ampersand ∷ mutex ∷ close ∷ []) (at word) (node.Unlock (name mutex)) (omega arith)

  arguments_covered : {d : ℕ} {ts : List Placed} {es : List Expr} → Arguments d ts es → Covers ts (calls_in es)
  arguments_covered Arguments.none = omega arith
  arguments_covered (Arguments.some {ts} {rest} {e} {es} a f) =
      let long = length-append ts rest in
      two (ts ++ rest) ts rest (calls e) (calls_in es) _ (assignment_covered a) (further_covered f) (omega arith) (omega (arith, long))

  further_covered : {d : ℕ} {ts : List Placed} {es : List Expr} → Further d ts es → Covers ts (calls_in es)
  further_covered Further.no_more = omega arith
  further_covered (Further.more {comma} {ts} {rest} {e} {es} c a f) =
      let long = length-append ts rest in
      two (comma ∷ ts ++ rest) ts rest (calls e) (calls_in es) _ (assignment_covered a) (further_covered f) (omega arith) (omega (arith, long))
