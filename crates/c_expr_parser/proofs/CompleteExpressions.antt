-- The walk reads what is an expression: the tokens of a phrase, after which no token goes on with it, are taken, and the
-- walk goes on with the phrase's tree.
use Rattle.std.specs.Prelude.{◌≡◌, ℕ, zero, suc, Bool, true, false, List, [], ◌∷◌, ◌++◌, Some, None, codes}
use Rattle.std.proofs.Common.{refl, ap, sym, subst, ◌∙◌, append_assoc, append-nil}
use Rattle.c_ints.specs.declared.int.Int.{Int}
use Rattle.c_ints.specs.declared.operator.BinOp.{BinOp}
use Rattle.c_lexer.specs.declared.token.Token.{Token}
use Rattle.c_lexer.specs.declared.token.TokenKind.{TokenKind}
use Rattle.c_lexer.specs.declared.token.TokenKind.TheVariants.{Punctuator}
use Rattle.c_tree.specs.declared.name.CType.{CType}
use Rattle.c_tree.specs.declared.expr.Expr.{Expr}
use Rattle.c_tree.specs.declared.expr.ExprNode.TheVariants as node
use Rattle.c_tree.specs.declared.expr.StepOp.TheVariants.{PreIncrement, PreDecrement, PostIncrement, PostDecrement}
use Rattle.c_expr_parser.specs.declared.operand.Operand.{Operand}
use Rattle.c_expr_parser.specs.Placed.{Placed, tokens, at, text, start}
use Rattle.c_expr_parser.specs.Terminals.{Spells, IsPunctuator, IsIdentifier, IsNumber, IsCharacter, name}
use Rattle.c_expr_parser.specs.declared.operators.Joint.{Joint}
use Rattle.c_expr_parser.specs.Operators.{loosest, joined, BinaryOperator, CompoundOperator}
use Rattle.c_expr_parser.specs.TypeNames.{TypeName}
use Rattle.c_expr_parser.specs.Expressions.{expr, Assignment, Conditional, Binary, Cast, Unary, Postfix, Primary, Arguments, Further}
use Rattle.c_expr_parser.specs.Plans.{Value, Wanted, Plan, Trace, after, takes, run, as_operand, as_expr, unary, other, assigned, assignment, assignment_rest, expr_then, conditional, conditional_rest, binary, primary, punctuator, operand_plan}
use Rattle.c_expr_parser.specs.Plans.Value.{operand, listed, typed}
use Rattle.c_expr_parser.specs.Plans.Plan.{Return, Then}
use Rattle.c_expr_parser.proofs.Beginnings.{Opens, opens, type_opens, postfix_opens, unary_opens, binary_opens}
use Rattle.c_expr_parser.proofs.CompletePlans.{after_after, tokens_append, Reaches, Skips, puts, stays, taken, and_then, skipped, replaced, valued}
use Rattle.c_expr_parser.proofs.CompleteTokens.{word, naming, one, constant_is, unquoted_is, strings, first, began, began_spelled, taken_spelled}
use Rattle.c_expr_parser.proofs.CompleteEnds.{EndsUnary, EndsBinary, EndsExpression, Closing, closes, joins, joint_is, asks, no_chain_asks, equals, updates, compound_is, unary_is}
use Rattle.c_expr_parser.proofs.CompleteTypes.{EndsType, type_walk, no_type, is_type}
use Rattle.c_expr_parser.proofs.CompleteLoops.{read, opening, loop, opened, opening_ends, loop_ends, looser, as_binary, conditional_ends, inside_type, inside_expression, first_argument, cast_behind, close_behind, argument_behind}

-- whether the operand is a unary expression
abbrev pub cast_flag : {d : ℕ} {ts : List Placed} {e : Expr} → Cast d ts e → Bool
cast_flag (Cast.unary u) = true
cast_flag (Cast.cast p t c o) = false

abbrev pub binary_flag : {level d : ℕ} {ts : List Placed} {e : Expr} → Binary level d ts e → Bool
binary_flag (Binary.operand c) = cast_flag c
binary_flag (Binary.tighter b) = binary_flag b
binary_flag (Binary.chain a o s b) = false

abbrev pub conditional_flag : {d : ℕ} {ts : List Placed} {e : Expr} → Conditional d ts e → Bool
conditional_flag (Conditional.binary b) = binary_flag b
conditional_flag (Conditional.choice t q a c b) = false

abbrev pub assignment_flag : {d : ℕ} {ts : List Placed} {e : Expr} → Assignment d ts e → Bool
assignment_flag (Assignment.conditional c) = conditional_flag c
assignment_flag (Assignment.assign u s a) = false
assignment_flag (Assignment.update u o s a) = false

-- a phrase's first token stays the first before others
starts : {test : TokenKind → List ℕ → Bool} {d : ℕ} {ts : List Placed} → Opens test d ts → (more : List Placed)
    → start (ts ++ more) ≡ start ts
starts o more = ap (λ ts. start (ts ++ more)) o.are ∙ sym (ap start o.are)

moved : {test : TokenKind → List ℕ → Bool} {d : ℕ} {ts : List Placed} → Opens test d ts → (more : List Placed) (b : Bool) (e : Expr)
    → read b ts e ≡ read b (ts ++ more) e
moved {ts} o more b e = ap (λ place. operand (record { expr = e; start = place; is_unary = b })) (sym (starts o more))

-- a type inside parentheses, an expression there, and a first argument
type_inside : {d : ℕ} {ts : List Placed} {t : CType} → TypeName (suc d) ts t → (place : ℕ) (rest : List Token) (k : Value → Plan)
    → run (tokens ts ++ rest) (Then (Wanted.Inside true d place) k)
    ≡ run (tokens ts ++ rest) (Then (Wanted.Typing (suc d)) (λ ty. after (cast_behind d place ty) k))
type_inside {d} t place rest k =
    let o = type_opens t in
    subst (λ ts. run (tokens ts ++ rest) (Then (Wanted.Inside true d place) k)
    ≡ run (tokens ts ++ rest) (Then (Wanted.Typing (suc d)) (λ ty. after (cast_behind d place ty) k))) (sym o.are)
    (inside_type d place o.first.token (tokens o.rest ++ rest) k (is_type o.first.token o.begins))

expression_inside : {d : ℕ} {ts : List Placed} {e : Expr} → Assignment (suc d) ts e → (casts : Bool) (place : ℕ) (rest : List Token)
    (k : Value → Plan)
    → run (tokens ts ++ rest) (Then (Wanted.Inside casts d place) k)
    ≡ run (tokens ts ++ rest) (after (assignment (suc d)) (λ v. after (close_behind d place v) k))
expression_inside {d} a casts place rest k =
    let o = opens a in
    subst (λ ts. run (tokens ts ++ rest) (Then (Wanted.Inside casts d place) k)
    ≡ run (tokens ts ++ rest) (after (assignment (suc d)) (λ v. after (close_behind d place v) k))) (sym o.are)
    (inside_expression casts d place o.first.token (tokens o.rest ++ rest) k (no_type o.first.token o.begins))

argument_first : {d : ℕ} {ts : List Placed} {e : Expr} → Assignment d ts e → (rest : List Token) (k : Value → Plan) (tr : Trace)
    → run (tokens ts ++ rest) (after (assignment d) (λ v. after (argument_behind d v) k)) ≡ puts ts tr
    → run (tokens ts ++ rest) (Then (Wanted.Arguments d) k)
    ≡ run (tokens ts ++ rest) (after (assignment d) (λ v. after (argument_behind d v) k))
argument_first {d} a rest k tr =
    let o = opens a in
    subst (λ ts. run (tokens ts ++ rest) (after (assignment d) (λ v. after (argument_behind d v) k)) ≡ puts ts tr
    → run (tokens ts ++ rest) (Then (Wanted.Arguments d) k)
    ≡ run (tokens ts ++ rest) (after (assignment d) (λ v. after (argument_behind d v) k))) (sym o.are)
    (first_argument d o.first.token (tokens o.rest ++ rest) k o.first (puts o.rest tr))

-- no name goes on
abbrev Quiet : List Token → Type 0
Quiet rest = (d place : ℕ) (text : List ℕ) → Skips (Wanted.Behind d place text) rest

-- no further argument or string
pub record EndsList (rest : List Token) : Type 0 where
  pub expression : EndsExpression rest
  pub further : (d : ℕ) (es : List Expr) → Skips (Wanted.Further d es) rest
  pub arguments : (d : ℕ) → Skips (Wanted.Arguments d) rest
  pub strings : (d place : ℕ) (bytes : List ℕ) → Skips (Wanted.MoreStrings d place bytes) rest

pub list_closes : {d : ℕ} {t : Placed} → IsPunctuator d ")" t → (rest : List Token) → EndsList (t.token ∷ rest)
list_closes s rest = record {
  expression = closes Closing.paren s rest;
  further = λ d es. rw (s.sort, s.spelled) refl;
  arguments = λ d. rw (s.sort, s.spelled) refl;
  strings = λ d place bytes. rw s.sort refl;
}

-- an argument ends where the next begins or the list does
further_ends : {d : ℕ} {ts : List Placed} {es : List Expr} {rest : List Token} → Further d ts es → EndsList rest
    → EndsExpression (tokens ts ++ rest)
further_ends Further.no_more ends = ends.expression
further_ends (Further.more comma a f) ends = closes Closing.comma comma _

further_no_string : {d : ℕ} {ts : List Placed} {es : List Expr} {rest : List Token} → Further d ts es → EndsList rest
    → (d place : ℕ) (bytes : List ℕ) → Skips (Wanted.MoreStrings d place bytes) (tokens ts ++ rest)
further_no_string Further.no_more ends d place bytes = ends.strings d place bytes
further_no_string (Further.more comma a f) ends d place bytes = rw comma.sort refl

pub type_closes : {d : ℕ} {t : Placed} → IsPunctuator d ")" t → (rest : List Token) → EndsType (t.token ∷ rest)
type_closes s rest = record { words = λ d words. rw s.sort refl }

-- a loop's operand begins where its left part does
abbrev postfix_loop : ℕ → (Value → Plan) → Value → Plan
postfix_loop d k v = Then (Wanted.Postfix d (as_operand v)) k

-- a number and a character
number_is : {d : ℕ} {value : Int} {t : Placed} → IsNumber d value t → (casts : Bool)
    → operand_plan casts d t.token ≡ Some (primary d (at t) (node.Number value))
number_is n casts = rw (n.sort, constant_is n.constant) refl

character_is : {d : ℕ} {value : Int} {t : Placed} → IsCharacter d value t → (casts : Bool)
    → operand_plan casts d t.token ≡ Some (primary d (at t) (node.Character value))
character_is c casts = rw (c.sort, unquoted_is c.quoted, c.typed) refl

variable_is : {d : ℕ} {t : Placed} → IsIdentifier d t → (casts : Bool)
    → operand_plan casts d t.token ≡ Some (Then (Wanted.Behind d (at t) (text t)) (λ v. Then (Wanted.Postfix d (as_operand v)) Return))
variable_is s casts = rw s.sort refl

-- what follows the second part of a choice, a chain's right operand and an index
abbrev choice_then : ℕ → Operand → (Value → Plan) → Value → Plan
choice_then d a k v =
    punctuator (codes ":") d (after (conditional (suc d)) (λ c. k (operand (other a.start (node.Choice a.expr (as_expr v) (as_expr c))))))

abbrev chain_then : ℕ → ℕ → Operand → Joint → (Value → Plan) → Value → Plan
chain_then level d a joint k v = Then (Wanted.Chain level d (other a.start (joined joint a.expr (as_expr v)))) k

abbrev element_then : ℕ → ℕ → List ℕ → (Value → Plan) → Value → Plan
element_then d place array k v = punctuator (codes "]") d (postfix_loop d k (operand (unary place (node.Element array (as_expr v)))))

-- what an operator of assignment and a binary operator are followed by
update_is : {d : ℕ} {spelling : List ℕ} {op : BinOp} {t : Placed} → CompoundOperator spelling op → Spells Punctuator d spelling t → (place : Expr) (from : ℕ)
    → takes (Wanted.Assigned d (record { expr = place; start = from; is_unary = true })) t.token
    ≡ Some (after (assignment (suc d)) (λ b. Return (operand (other from (assigned (Some op) place (as_expr b))))))
update_is c s place from = rw (compound_is c s) refl

chain_is : {level d : ℕ} {spelling : List ℕ} {joint : Joint} {t : Placed} → BinaryOperator (suc level) spelling joint
    → Spells Punctuator d spelling t → (a : Operand)
    → takes (Wanted.Chain level d a) t.token ≡ Some (after (binary level d) (λ b. chain_then level d a joint Return b))
chain_is op s a = rw (joint_is op s) refl

right_part : (level d : ℕ) (a : Operand) (joint : Joint) (k : Value → Plan) {ts : List Placed} {rest : List Token} {q : Plan}
    → Reaches ts rest (Then (Wanted.Cast d) (opening false level d (chain_then level d a joint k))) q
    → Reaches ts rest (after (after (binary level d) (λ b. chain_then level d a joint Return b)) k) q
right_part level d a joint k {ts} {rest} {q} r =
    subst (λ p. Reaches ts rest p q) (sym (after_after (binary level d) (λ b. chain_then level d a joint Return b) k)) r

mutual
  pub assignment_walk : {d : ℕ} {ts : List Placed} {e : Expr} → (a : Assignment d ts e) → (rest : List Token) → EndsExpression rest
      → (k : Value → Plan) → Reaches ts rest (after (assignment d) k) (k (read (assignment_flag a) ts e))
  assignment_walk (Assignment.conditional c) rest ends k = conditional_walk c true rest ends k
  assignment_walk {d} (Assignment.assign {left} {right} {sign} {place} {value} u s a) rest ends k =
      valued k (moved (unary_opens u) (sign ∷ right) false (expr (start left) (node.Assign place value)))
      (conditional_ends d (record { expr = expr (start left) (node.Assign place value); start = start left; is_unary = false }) k ends
      (and_then (unary_walk u true (sign.token ∷ (tokens right ++ rest)) (equals s _) (λ v. after (assignment_rest d v) k))
      (taken_spelled s refl refl (assignment_walk a rest ends
      (λ v. after (conditional_rest d (operand (other (start left) (assigned None place (as_expr v))))) k)))))
  assignment_walk {d} (Assignment.update {left} {right} {sign} {op} {place} {value} u c s a) rest ends k =
      valued k (moved (unary_opens u) (sign ∷ right) false (expr (start left) (node.Update op place value)))
      (conditional_ends d (record { expr = expr (start left) (node.Update op place value); start = start left; is_unary = false }) k ends
      (and_then (unary_walk u true (sign.token ∷ (tokens right ++ rest)) (updates c s _) (λ v. after (assignment_rest d v) k))
      (taken (update_is c s place (start left)) s.stands
      (assignment_walk a rest ends
      (λ v. after (conditional_rest d (operand (other (start left) (assigned (Some op) place (as_expr v))))) k)))))

  conditional_walk : {d : ℕ} {ts : List Placed} {e : Expr} → (c : Conditional d ts e) → (assigns : Bool) (rest : List Token)
      → EndsExpression rest → (k : Value → Plan)
      → Reaches ts rest (Then (Wanted.Cast d) (opening assigns loosest d (λ w. Then (Wanted.Chosen d (as_operand w)) k)))
      (k (read (conditional_flag c) ts e))
  conditional_walk {d} {ts} {e} (Conditional.binary b) assigns rest ends k =
      let a : Operand = record { expr = e; start = start ts; is_unary = binary_flag b } in
      skipped
      (skipped (binary_walk b assigns rest (as_binary loosest ends) (λ w. Then (Wanted.Chosen d (as_operand w)) k)) refl (ends.chains 9 d a))
      refl (ends.chosen d a)
  conditional_walk {d} (Conditional.choice {test} {first} {second} {question} {colon} {c} {a} {b} t q f s g) assigns rest ends k =
      let left : Operand = record { expr = c; start = start test; is_unary = binary_flag t } in
      valued k (moved (binary_opens t) (question ∷ first ++ colon ∷ second) false (expr (start test) (node.Choice c a b)))
      (and_then
      (skipped (binary_walk t assigns (question.token ∷ (tokens (first ++ colon ∷ second) ++ rest)) (asks q loosest _)
      (λ w. Then (Wanted.Chosen d (as_operand w)) k)) refl (no_chain_asks q 9 d left))
      (taken_spelled {w = Wanted.Chosen d left} q refl refl
      (and_then (assignment_walk f (colon.token ∷ (tokens second ++ rest)) (closes Closing.colon s _) (λ v. choice_then d left k v))
      (word s
      (conditional_walk g false rest ends (λ v. k (operand (other (start test) (node.Choice c a (as_expr v))))))))))

  binary_walk : {level d : ℕ} {ts : List Placed} {e : Expr} → (b : Binary level d ts e) → (assigns : Bool) (rest : List Token)
      → EndsBinary level rest → (k : Value → Plan)
      → Reaches ts rest (Then (Wanted.Cast d) (opening assigns level d k)) (loop level d (read (binary_flag b) ts e) k)
  binary_walk {d = d} {ts} {e} (Binary.operand c) assigns rest ends k =
      opening_ends assigns d (record { expr = e; start = start ts; is_unary = cast_flag c }) k ends.assigned
      (cast_walk c rest ends.unary (opening assigns zero d k))
  binary_walk {d = d} {ts} {e} (Binary.tighter {level} b) assigns rest ends k =
      let a : Operand = record { expr = e; start = start ts; is_unary = binary_flag b } in
      subst (λ next. Reaches ts rest (Then (Wanted.Cast d) next) (Then (Wanted.Chain level d a) k)) (opened assigns level d k)
      (loop_ends level d a (λ w. Then (Wanted.Chain level d (as_operand w)) k) ends
      (binary_walk b assigns rest (looser ends) (λ w. Then (Wanted.Chain level d (as_operand w)) k)))
  binary_walk {d = d} (Binary.chain {level} {left} {right} {sign} {joint} {a} {b} l op s r) assigns rest ends k =
      let left_operand : Operand = record { expr = a; start = start left; is_unary = binary_flag l } in
      valued (λ w. Then (Wanted.Chain level d (as_operand w)) k)
      (moved (binary_opens l) (sign ∷ right) false (expr (start left) (joined joint a b)))
      (and_then (binary_walk l assigns (sign.token ∷ (tokens right ++ rest)) (joins op s _) k)
      (taken (chain_is op s left_operand) s.stands
      (right_part level d left_operand joint k
      (loop_ends level d (record { expr = b; start = start right; is_unary = binary_flag r }) (chain_then level d left_operand joint k) ends
      (binary_walk r false rest (looser ends) (chain_then level d left_operand joint k))))))

  pub cast_walk : {d : ℕ} {ts : List Placed} {e : Expr} → (c : Cast d ts e) → (rest : List Token) → EndsUnary rest
      → (k : Value → Plan) → Reaches ts rest (Then (Wanted.Cast d) k) (k (read (cast_flag c) ts e))
  cast_walk (Cast.unary u) rest ends k = unary_walk u true rest ends k
  cast_walk {d} (Cast.cast {paren} {close} {ts} {operand} {t} {e} p ty c o) rest ends k =
      taken_spelled p refl refl
      (and_then (replaced (type_inside ty (at paren) (close.token ∷ (tokens operand ++ rest)) k)
      (type_walk ty (close.token ∷ (tokens operand ++ rest)) (type_closes c _) (λ ty. after (cast_behind d (at paren) ty) k)))
      (word c (cast_walk o rest ends (λ v. k (Value.operand (other (at paren) (node.Cast t (as_expr v))))))))

  pub unary_walk : {d : ℕ} {ts : List Placed} {e : Expr} → Unary d ts e → (casts : Bool) (rest : List Token) → EndsUnary rest
      → (k : Value → Plan) → Reaches ts rest (Then (first casts d) k) (k (read true ts e))
  unary_walk {d} {ts} {e} (Unary.postfix p) casts rest ends k =
      skipped (postfix_walk p casts rest ends.behind k) refl (ends.postfix d (record { expr = e; start = start ts; is_unary = true }))
  unary_walk (Unary.operator {sign} {op} u s c) casts rest ends k =
      began casts (unary_is u s casts) s.stands (cast_walk c rest ends (λ v. k (operand (unary (at sign) (node.Unary op (as_expr v))))))
  unary_walk (Unary.pre_increment {sign} s u) casts rest ends k =
      began_spelled casts s refl (unary_walk u false rest ends (λ v. k (operand (unary (at sign) (node.Step PreIncrement (as_expr v))))))
  unary_walk (Unary.pre_decrement {sign} s u) casts rest ends k =
      began_spelled casts s refl (unary_walk u false rest ends (λ v. k (operand (unary (at sign) (node.Step PreDecrement (as_expr v))))))

  postfix_walk : {d : ℕ} {ts : List Placed} {e : Expr} → Postfix d ts e → (casts : Bool) (rest : List Token) → Quiet rest
      → (k : Value → Plan) → Reaches ts rest (Then (first casts d) k) (postfix_loop d k (read true ts e))
  postfix_walk (Postfix.primary p) casts rest quiet k = primary_walk p casts rest quiet k
  postfix_walk {d} (Postfix.call {function} {paren} {close} {ts} {es} f p given c) casts rest quiet k =
      began casts (variable_is f casts) f.stands
      (taken_spelled p refl refl
      (and_then (arguments_walk given (close.token ∷ rest) (list_closes c rest) _) (word c stays)))
  postfix_walk {d} (Postfix.element {array} {bracket} {close} {ts} {index} f p a c) casts rest quiet k =
      began casts (variable_is f casts) f.stands
      (taken_spelled p refl refl
      (and_then (assignment_walk a (close.token ∷ rest) (closes Closing.bracket c rest)
      (λ v. element_then d (at array) (text array) k v)) (word c stays)))
  postfix_walk {d} (Postfix.arrow {ts} {sign} {field} {e} p s f) casts rest quiet k =
      valued (postfix_loop d k) (moved (postfix_opens p) (sign ∷ field ∷ []) true (expr (start ts) (node.Arrow e (name field))))
      (and_then (postfix_walk p casts (sign.token ∷ field.token ∷ rest) (λ d place text. rw (s.sort, s.spelled) refl) k)
      (taken_spelled s refl refl (naming f stays)))
  postfix_walk {d} (Postfix.dot {ts} {sign} {field} {e} p s f) casts rest quiet k =
      valued (postfix_loop d k) (moved (postfix_opens p) (sign ∷ field ∷ []) true (expr (start ts) (node.Dot e (name field))))
      (and_then (postfix_walk p casts (sign.token ∷ field.token ∷ rest) (λ d place text. rw (s.sort, s.spelled) refl) k)
      (taken_spelled s refl refl (naming f stays)))
  postfix_walk {d} (Postfix.post_increment {ts} {sign} {e} p s) casts rest quiet k =
      valued (postfix_loop d k) (moved (postfix_opens p) (sign ∷ []) true (expr (start ts) (node.Step PostIncrement e)))
      (and_then (postfix_walk p casts (sign.token ∷ rest) (λ d place text. rw (s.sort, s.spelled) refl) k)
      (taken_spelled s refl refl stays))
  postfix_walk {d} (Postfix.post_decrement {ts} {sign} {e} p s) casts rest quiet k =
      valued (postfix_loop d k) (moved (postfix_opens p) (sign ∷ []) true (expr (start ts) (node.Step PostDecrement e)))
      (and_then (postfix_walk p casts (sign.token ∷ rest) (λ d place text. rw (s.sort, s.spelled) refl) k)
      (taken_spelled s refl refl stays))

  primary_walk : {d : ℕ} {ts : List Placed} {e : Expr} → Primary d ts e → (casts : Bool) (rest : List Token) → Quiet rest
      → (k : Value → Plan) → Reaches ts rest (Then (first casts d) k) (postfix_loop d k (read true ts e))
  primary_walk {d} (Primary.variable {t} s) casts rest quiet k =
      began casts (variable_is s casts) s.stands (skipped stays refl (quiet d (at t) (text t)))
  primary_walk (Primary.number n) casts rest quiet k = began casts (number_is n casts) n.stands stays
  primary_walk (Primary.character c) casts rest quiet k = began casts (character_is c casts) c.stands stays
  primary_walk (Primary.null s) casts rest quiet k = began_spelled casts s refl stays
  primary_walk (Primary.success s) casts rest quiet k = began_spelled casts s refl stays
  primary_walk (Primary.error s) casts rest quiet k = began_spelled casts s refl stays
  primary_walk {d} (Primary.parentheses {paren} {close} {ts} p a c) casts rest quiet k =
      began_spelled casts p refl
      (and_then (replaced (expression_inside a casts (at paren) (close.token ∷ rest) k)
      (assignment_walk a (close.token ∷ rest) (closes Closing.paren c rest) (λ v. after (close_behind d (at paren) v) k)))
      (word c stays))
  primary_walk {d} (Primary.print {close} {strings = quotes} {ts} {bytes} s p q f c) casts rest quiet k =
      began_spelled casts s refl
      (word p
      (and_then (skipped (strings q) refl (subst (Skips (Wanted.MoreStrings (suc d) (start quotes) bytes)) (sym (tokens_append ts (close ∷ []) rest))
      (further_no_string f (list_closes c rest) (suc d) (start quotes) bytes)))
      (and_then (further_walk f (close.token ∷ rest) (list_closes c rest) [] _) (word c stays))))
  primary_walk (Primary.calloc s p n v comma sizeof inner struct tag end c) casts rest quiet k =
      began_spelled casts s refl
      (word p (one n v (word comma (word sizeof (word inner (word struct (naming tag (word end (word c stays)))))))))
  primary_walk (Primary.free {close} s p a c) casts rest quiet k =
      began_spelled casts s refl
      (word p (and_then (assignment_walk a (close.token ∷ rest) (closes Closing.paren c rest) _) (word c stays)))
  primary_walk (Primary.create {close} s p m u x f y a c) casts rest quiet k =
      began_spelled casts s refl
      (word p
      (word m
      (and_then (unary_walk u false _ ((closes Closing.comma x _).unary) _)
      (word x
      (naming f (word y (and_then (assignment_walk a (close.token ∷ rest) (closes Closing.paren c rest) _) (word c stays))))))))
  primary_walk (Primary.join s p a m n c) casts rest quiet k =
      began_spelled casts s refl
      (word p (and_then (assignment_walk a _ (closes Closing.comma m _) _) (word m (taken_spelled n refl refl (word c stays)))))
  primary_walk (Primary.join_into {close} s p a m n u c) casts rest quiet k =
      began_spelled casts s refl
      (word p
      (and_then (assignment_walk a _ (closes Closing.comma m _) _)
      (word m
      (taken_spelled n refl refl (and_then (unary_walk u false (close.token ∷ rest) ((closes Closing.paren c rest).unary) _) (word c stays))))))
  primary_walk (Primary.init_mutex s p m n comma plain c) casts rest quiet k =
      began_spelled casts s refl (word p (word m (naming n (word comma (word plain (word c stays))))))
  primary_walk (Primary.lock s p m n c) casts rest quiet k = began_spelled casts s refl (word p (word m (naming n (word c stays))))
  primary_walk (Primary.unlock s p m n c) casts rest quiet k = began_spelled casts s refl (word p (word m (naming n (word c stays))))

  arguments_walk : {d : ℕ} {ts : List Placed} {es : List Expr} → Arguments d ts es → (rest : List Token) → EndsList rest
      → (k : Value → Plan) → Reaches ts rest (Then (Wanted.Arguments d) k) (k (listed es))
  arguments_walk {d} Arguments.none rest ends k = skipped stays refl (ends.arguments d)
  arguments_walk {d} (Arguments.some {ts} {rest = others} {e} {es} a f) rest ends k =
      let one = assignment_walk a (tokens others ++ rest) (further_ends f ends) (λ v. after (argument_behind d v) k) in
      and_then (replaced (argument_first a (tokens others ++ rest) k _ one.carried) one)
      (further_walk f rest ends (e ∷ []) k)

  further_walk : {d : ℕ} {ts : List Placed} {es : List Expr} → Further d ts es → (rest : List Token) → EndsList rest
      → (before : List Expr) (k : Value → Plan) → Reaches ts rest (Then (Wanted.Further d before) k) (k (listed (before ++ es)))
  further_walk {d} Further.no_more rest ends before k =
      valued k (ap listed (sym (append-nil before))) (skipped stays refl (ends.further d before))
  further_walk {d} (Further.more {ts} {rest = others} {e} {es} comma a f) rest ends before k =
      valued k (ap listed (append_assoc before (e ∷ []) es))
      (taken_spelled comma refl refl
      (and_then (assignment_walk a (tokens others ++ rest) (further_ends f ends) (λ v. Then (Wanted.Further d (before ++ as_expr v ∷ [])) k))
      (further_walk f rest ends (before ++ e ∷ []) k)))

-- an assignment's tokens, with tokens after them that don't go on with it, are read as its tree (6.5.16)
pub assignment_complete : {d : ℕ} {ts : List Placed} {e : Expr} → Assignment d ts e → (rest : List Token) → EndsExpression rest
    → (k : Value → Plan)
    → (b : Bool) × (run (tokens ts ++ rest) (after (assignment d) k)
    ≡ puts ts (run rest (k (operand (record { expr = e; start = start ts; is_unary = b })))))
assignment_complete a rest ends k = (assignment_flag a, (assignment_walk a rest ends k).carried)

-- where only the tree is wanted
pub expression_complete : {d : ℕ} {ts : List Placed} {e : Expr} → Assignment d ts e → (rest : List Token) → EndsExpression rest
    → (k : Expr → Plan) → run (tokens ts ++ rest) (expr_then d k) ≡ puts ts (run rest (k e))
expression_complete a rest ends k = (assignment_walk a rest ends (λ v. k (as_expr v))).carried

-- a conditional expression (6.5.15)
pub conditional_complete : {d : ℕ} {ts : List Placed} {e : Expr} → Conditional d ts e → (rest : List Token) → EndsExpression rest
    → (k : Value → Plan)
    → (b : Bool) × (run (tokens ts ++ rest) (after (conditional d) k)
    ≡ puts ts (run rest (k (operand (record { expr = e; start = start ts; is_unary = b })))))
conditional_complete c rest ends k = (conditional_flag c, (conditional_walk c false rest ends k).carried)

-- a chain of operators of the levels up to one, after which no operator of these levels stands (6.5.5 to 6.5.14)
pub binary_complete : {level d : ℕ} {ts : List Placed} {e : Expr} → Binary level d ts e → (rest : List Token)
    → EndsBinary (suc level) rest → (k : Value → Plan)
    → (b : Bool) × (run (tokens ts ++ rest) (after (binary level d) k)
    ≡ puts ts (run rest (k (operand (record { expr = e; start = start ts; is_unary = b })))))
binary_complete {level} {d} {ts} {e} b rest ends k = (
  binary_flag b,
  (loop_ends level d (record { expr = e; start = start ts; is_unary = binary_flag b }) k ends
      (binary_walk b false rest (looser ends) k)).carried,
)

-- a cast (6.5.4)
pub cast_complete : {d : ℕ} {ts : List Placed} {e : Expr} → Cast d ts e → (rest : List Token) → EndsUnary rest → (k : Value → Plan)
    → (b : Bool) × (run (tokens ts ++ rest) (Then (Wanted.Cast d) k)
    ≡ puts ts (run rest (k (operand (record { expr = e; start = start ts; is_unary = b })))))
cast_complete c rest ends k = (cast_flag c, (cast_walk c rest ends k).carried)

-- a unary expression (6.5.3): where one is wanted, and where a cast is wanted
pub unary_complete : {d : ℕ} {ts : List Placed} {e : Expr} → Unary d ts e → (rest : List Token) → EndsUnary rest → (k : Value → Plan)
    → run (tokens ts ++ rest) (Then (Wanted.Unary d) k)
    ≡ puts ts (run rest (k (operand (record { expr = e; start = start ts; is_unary = true }))))
unary_complete u rest ends k = (unary_walk u false rest ends k).carried

pub unary_cast_complete : {d : ℕ} {ts : List Placed} {e : Expr} → Unary d ts e → (rest : List Token) → EndsUnary rest
    → (k : Value → Plan)
    → run (tokens ts ++ rest) (Then (Wanted.Cast d) k)
    ≡ puts ts (run rest (k (operand (record { expr = e; start = start ts; is_unary = true }))))
unary_cast_complete u rest ends k = (unary_walk u true rest ends k).carried

-- the arguments of a call (6.5.2)
pub arguments_complete : {d : ℕ} {ts : List Placed} {es : List Expr} → Arguments d ts es → (rest : List Token) → EndsList rest
    → (k : Value → Plan) → run (tokens ts ++ rest) (Then (Wanted.Arguments d) k) ≡ puts ts (run rest (k (listed es)))
arguments_complete given rest ends k = (arguments_walk given rest ends k).carried

-- a type (6.7.2)
pub type_complete : {d : ℕ} {ts : List Placed} {t : CType} → TypeName d ts t → (rest : List Token) → EndsType rest → (k : Value → Plan)
    → run (tokens ts ++ rest) (Then (Wanted.Typing d) k) ≡ puts ts (run rest (k (typed t)))
type_complete t rest ends k = (type_walk t rest ends k).carried
