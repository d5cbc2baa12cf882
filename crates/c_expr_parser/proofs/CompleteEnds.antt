-- Where a phrase ends: which tokens don't go on with it, and which operators do.
use Rattle.std.specs.Prelude.{◌≡◌, ◌<◌, ℕ, suc, Bool, true, false, List, [], ◌∷◌, Option, Some, None, codes}
use Rattle.std.proofs.Common.{refl, sym, subst, arith}
use Rattle.std.proofs.lemmas.Bool.{eq-eqb, ne_eqb}
use Rattle.c_ints.specs.declared.operator.BinOp.{BinOp}
use Rattle.c_ints.specs.declared.operator.UnOp.{UnOp}
use Rattle.c_lexer.specs.declared.token.Token.{Token}
use Rattle.c_lexer.specs.declared.token.TokenKind.TheVariants.{Punctuator}
use Rattle.c_tree.specs.declared.expr.ExprNode.TheVariants as node
use Rattle.c_expr_parser.specs.declared.operand.Operand.{Operand}
use Rattle.c_expr_parser.specs.Placed.{Placed, at, text}
use Rattle.c_expr_parser.specs.Terminals.{Spells}
use Rattle.c_expr_parser.specs.declared.operators.Joint.{Joint}
use Rattle.c_expr_parser.specs.Operators.{BinaryOperator, UnaryOperator, CompoundOperator}
use Rattle.c_expr_parser.specs.Tables.{look, binary_operators, binary_operator, when_some}
use Rattle.c_expr_parser.specs.Plans.{Wanted, Plan, takes, unary, as_expr, punctuator_operand, operand_plan, assignment_operator}
use Rattle.c_expr_parser.specs.Plans.Value.{operand}
use Rattle.c_expr_parser.specs.Plans.Wanted.{Cast, Behind, Postfix, Assigned, Chain, Chosen}
use Rattle.c_expr_parser.specs.Plans.Plan.{Return, Then}
use Rattle.c_expr_parser.proofs.Tables.{binary_look}
use Rattle.c_expr_parser.proofs.CompletePlans.{Skips}
use Rattle.c_expr_parser.proofs.CompleteTokens.{token_of, as_spelled}

-- nothing wanted so begins with a punctuator
abbrev Misses : Wanted → List ℕ → Type 0
Misses w spelling = (place many : ℕ) → takes w (token_of Punctuator place many spelling) ≡ None

missed : (w : Wanted) {d : ℕ} {spelling : List ℕ} {t : Placed} → Spells Punctuator d spelling t → Misses w spelling → takes w t.token ≡ None
missed w {t} s m = subst (λ u. takes w u ≡ None) (sym (as_spelled s)) (m (at t) t.token.len)

-- the tokens go on with no name, and with no unary expression
pub record EndsUnary (rest : List Token) : Type 0 where
  pub behind : (d place : ℕ) (text : List ℕ) → Skips (Behind d place text) rest
  pub postfix : (d : ℕ) (a : Operand) → Skips (Postfix d a) rest

-- nor with an operand of a chain of a level
pub record EndsBinary (level : ℕ) (rest : List Token) : Type 0 where
  pub unary : EndsUnary rest
  pub assigned : (d : ℕ) (a : Operand) → Skips (Assigned d a) rest
  pub chains : (i d : ℕ) (a : Operand) → suc i < level → Skips (Chain i d a) rest

-- nor with an expression
pub record EndsExpression (rest : List Token) : Type 0 where
  pub unary : EndsUnary rest
  pub assigned : (d : ℕ) (a : Operand) → Skips (Assigned d a) rest
  pub chains : (i d : ℕ) (a : Operand) → Skips (Chain i d a) rest
  pub chosen : (d : ℕ) (a : Operand) → Skips (Chosen d a) rest

-- where no token is left
pub at_end : EndsExpression []
at_end = record {
  unary = record { behind = λ d place text. tt; postfix = λ d a. tt };
  assigned = λ d a. tt;
  chains = λ i d a. tt;
  chosen = λ d a. tt;
}

-- the punctuators that come after expressions
pub data Closing : List ℕ → Type 0 where
  paren : Closing (codes ")")
  bracket : Closing (codes "]")
  brace : Closing (codes "}")
  comma : Closing (codes ",")
  colon : Closing (codes ":")
  semicolon : Closing (codes ";")

closing_behind : {spelling : List ℕ} → Closing spelling → (d place : ℕ) (text : List ℕ) → Misses (Behind d place text) spelling
closing_behind Closing.paren d place text p m = refl
closing_behind _ d place text p m = refl

closing_postfix : {spelling : List ℕ} → Closing spelling → (d : ℕ) (a : Operand) → Misses (Postfix d a) spelling
closing_postfix Closing.paren d a p m = refl
closing_postfix _ d a p m = refl

when_none : (test : Bool) (o : Option Plan) → o ≡ None → when_some test o ≡ None
when_none true o e = e
when_none false o e = refl

closing_assigned : {spelling : List ℕ} → Closing spelling → (place many : ℕ) → assignment_operator (token_of Punctuator place many spelling) ≡ None
closing_assigned Closing.paren p m = refl
closing_assigned _ p m = refl

closing_look : {spelling : List ℕ} → Closing spelling → look spelling binary_operators ≡ None
closing_look Closing.paren = refl
closing_look _ = refl

closing_chosen : {spelling : List ℕ} → Closing spelling → (d : ℕ) (a : Operand) → Misses (Chosen d a) spelling
closing_chosen Closing.paren d a p m = refl
closing_chosen _ d a p m = refl

pub no_assignment : (d : ℕ) (a : Operand) (t : Token) → assignment_operator t ≡ None → takes (Assigned d a) t ≡ None
no_assignment d a t e = when_none a.is_unary _ (rw e refl)

-- what comes after an expression doesn't go on with it
pub closes : {d : ℕ} {spelling : List ℕ} {t : Placed} → Closing spelling → Spells Punctuator d spelling t → (rest : List Token)
    → EndsExpression (t.token ∷ rest)
closes {spelling = spelling} c s rest = record {
  unary = record {
    behind = λ d place text. missed (Behind d place text) s (closing_behind c d place text);
    postfix = λ d a. missed (Postfix d a) s (closing_postfix c d a);
  };
  assigned = λ d a. missed (Assigned d a) s (λ p m. no_assignment d a (token_of Punctuator p m spelling) (closing_assigned c p m));
  chains = λ i d a. missed (Chain i d a) s (λ p m. rw (closing_look c) refl);
  chosen = λ d a. missed (Chosen d a) s (closing_chosen c d a);
}

-- binary operators
binary_behind : {level : ℕ} {spelling : List ℕ} {joint : Joint} → BinaryOperator level spelling joint → (d place : ℕ) (text : List ℕ)
    → Misses (Behind d place text) spelling
binary_behind BinaryOperator.times d place text p m = refl
binary_behind _ d place text p m = refl

binary_postfix : {level : ℕ} {spelling : List ℕ} {joint : Joint} → BinaryOperator level spelling joint → (d : ℕ) (a : Operand)
    → Misses (Postfix d a) spelling
binary_postfix BinaryOperator.times d a p m = refl
binary_postfix _ d a p m = refl

binary_assigned : {level : ℕ} {spelling : List ℕ} {joint : Joint} → BinaryOperator level spelling joint → (place many : ℕ)
    → assignment_operator (token_of Punctuator place many spelling) ≡ None
binary_assigned BinaryOperator.times p m = refl
binary_assigned _ p m = refl

-- an operator of a level doesn't go on with the levels below
pub joins : {level d : ℕ} {spelling : List ℕ} {joint : Joint} {t : Placed} → BinaryOperator level spelling joint
    → Spells Punctuator d spelling t → (rest : List Token) → EndsBinary level (t.token ∷ rest)
joins {level} {spelling = spelling} op s rest = record {
  unary = record {
    behind = λ d place text. missed (Behind d place text) s (binary_behind op d place text);
    postfix = λ d a. missed (Postfix d a) s (binary_postfix op d a);
  };
  assigned = λ d a. missed (Assigned d a) s (λ p m. no_assignment d a (token_of Punctuator p m spelling) (binary_assigned op p m));
  chains = λ i d a less. missed (Chain i d a) s (λ p m. rw (binary_look op, ne_eqb level (suc i) (λ e. absurd (omega arith))) refl);
}

pub joint_is : {level d : ℕ} {spelling : List ℕ} {joint : Joint} {t : Placed} → BinaryOperator level spelling joint
    → Spells Punctuator d spelling t → binary_operator level t.token ≡ Some joint
joint_is {level} op s = rw (s.sort, s.spelled, binary_look op, eq-eqb level level refl) refl

-- the sign of a choice ends each chain
pub asks : {d : ℕ} {t : Placed} → Spells Punctuator d (codes "?") t → (level : ℕ) (rest : List Token) → EndsBinary level (t.token ∷ rest)
asks s level rest = record {
  unary = record {
    behind = λ d place text. missed (Behind d place text) s (λ p m. refl);
    postfix = λ d a. missed (Postfix d a) s (λ p m. refl);
  };
  assigned = λ d a. missed (Assigned d a) s (λ p m. no_assignment d a (token_of Punctuator p m (codes "?")) refl);
  chains = λ i d a less. missed (Chain i d a) s (λ p m. refl);
}

pub no_chain_asks : {d : ℕ} {t : Placed} → Spells Punctuator d (codes "?") t → (i e : ℕ) (a : Operand) → takes (Chain i e a) t.token ≡ None
no_chain_asks s i e a = missed (Chain i e a) s (λ p m. refl)

-- the operators of assignment end a unary expression
pub equals : {d : ℕ} {t : Placed} → Spells Punctuator d (codes "=") t → (rest : List Token) → EndsUnary (t.token ∷ rest)
equals s rest = record {
  behind = λ d place text. missed (Behind d place text) s (λ p m. refl);
  postfix = λ d a. missed (Postfix d a) s (λ p m. refl);
}

compound_behind : {spelling : List ℕ} {op : BinOp} → CompoundOperator spelling op → (d place : ℕ) (text : List ℕ)
    → Misses (Behind d place text) spelling
compound_behind CompoundOperator.add d place text p m = refl
compound_behind _ d place text p m = refl

compound_postfix : {spelling : List ℕ} {op : BinOp} → CompoundOperator spelling op → (d : ℕ) (a : Operand) → Misses (Postfix d a) spelling
compound_postfix CompoundOperator.add d a p m = refl
compound_postfix _ d a p m = refl

pub updates : {d : ℕ} {spelling : List ℕ} {op : BinOp} {t : Placed} → CompoundOperator spelling op → Spells Punctuator d spelling t
    → (rest : List Token) → EndsUnary (t.token ∷ rest)
updates op s rest = record {
  behind = λ d place text. missed (Behind d place text) s (compound_behind op d place text);
  postfix = λ d a. missed (Postfix d a) s (compound_postfix op d a);
}

compound_known : {spelling : List ℕ} {op : BinOp} → CompoundOperator spelling op → (place many : ℕ)
    → assignment_operator (token_of Punctuator place many spelling) ≡ Some (Some op)
compound_known CompoundOperator.add p m = refl
compound_known _ p m = refl

pub compound_is : {d : ℕ} {spelling : List ℕ} {op : BinOp} {t : Placed} → CompoundOperator spelling op → Spells Punctuator d spelling t
    → assignment_operator t.token ≡ Some (Some op)
compound_is {op} {t} c s = subst (λ u. assignment_operator u ≡ Some (Some op)) (sym (as_spelled s)) (compound_known c (at t) t.token.len)

-- prefix operators
unary_known : {spelling : List ℕ} {op : UnOp} → UnaryOperator spelling op → (casts : Bool) (d place many : ℕ)
    → punctuator_operand casts d (token_of Punctuator place many spelling)
    ≡ Some (Then (Cast (suc d)) (λ v. Return (operand (unary place (node.Unary op (as_expr v))))))
unary_known UnaryOperator.plus casts d p m = refl
unary_known _ casts d p m = refl

pub unary_is : {d : ℕ} {spelling : List ℕ} {op : UnOp} {t : Placed} → UnaryOperator spelling op → Spells Punctuator d spelling t
    → (casts : Bool) → operand_plan casts d t.token ≡ Some (Then (Cast (suc d)) (λ v. Return (operand (unary (at t) (node.Unary op (as_expr v))))))
unary_is {d} {op} {t} u s casts =
    subst (λ w. operand_plan casts d w ≡ Some (Then (Cast (suc d)) (λ v. Return (operand (unary w.at (node.Unary op (as_expr v)))))))
    (sym (as_spelled s)) (unary_known u casts d (at t) t.token.len)
