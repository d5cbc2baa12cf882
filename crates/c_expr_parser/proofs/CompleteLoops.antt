-- What comes after an operand: chains of operators, and where the walk comes after a part of one.
use Rattle.std.specs.Prelude.{◌≡◌, ℕ, zero, suc, Bool, true, false, List, [], ◌∷◌, Option, Some, None, codes}
use Rattle.std.proofs.Common.{refl, ap, sym, subst, ◌∙◌, arith}
use Rattle.std.proofs.Math.Path.{fun_ext}
use Rattle.c_lexer.specs.declared.token.Token.{Token}
use Rattle.c_tree.specs.declared.expr.Expr.{Expr}
use Rattle.c_tree.specs.declared.expr.ExprNode.TheVariants as node
use Rattle.c_expr_parser.specs.declared.operand.Operand.{Operand}
use Rattle.c_expr_parser.specs.Placed.{Placed, start}
use Rattle.c_expr_parser.specs.Operators.{loosest}
use Rattle.c_expr_parser.specs.Tables.{begins_type}
use Rattle.c_expr_parser.specs.Plans.{Value, Plan, Trace, after, run, as_operand, as_expr, as_type, other, chains, conditional_rest, assignment, assignment_rest, punctuator, type_plan, operand_plan}
use Rattle.c_expr_parser.specs.Plans.Value.{operand}
use Rattle.c_expr_parser.specs.Plans.Wanted.{Typing, Cast, Inside, Postfix, Assigned, Chain, Chosen, Arguments, Further}
use Rattle.c_expr_parser.specs.Plans.Plan.{Return, Then}
use Rattle.c_expr_parser.specs.Plans.Trace.{Put, Dead}
use Rattle.c_expr_parser.proofs.CompletePlans.{Reaches, Skips, after_after, at_token, at_none, skipped}
use Rattle.c_expr_parser.proofs.CompleteEnds.{EndsBinary, EndsExpression}

-- the operand of some tokens
abbrev pub read : Bool → List Placed → Expr → Value
read is_unary ts e = operand (record { expr = e; start = start ts; is_unary = is_unary })

-- what may follow a chain's first operand: where it may be assigned to, also an assignment
abbrev pub opening : Bool → ℕ → ℕ → (Value → Plan) → Value → Plan
opening false level d k v = after (chains level d v) k
opening true level d k v = Then (Assigned d (as_operand v)) (λ w. after (chains level d w) k)

-- where the walk comes after an operand of a level
abbrev pub loop : ℕ → ℕ → Value → (Value → Plan) → Plan
loop zero d v k = k v
loop (suc level) d v k = Then (Chain level d (as_operand v)) k

chains_open : (level d : ℕ) (k : Value → Plan) (v : Value)
    → after (chains (suc level) d v) k ≡ after (chains level d v) (λ w. Then (Chain level d (as_operand w)) k)
chains_open level d k v = after_after (chains level d v) (λ w. Then (Chain level d (as_operand w)) Return) k

pub opened : (assigns : Bool) (level d : ℕ) (k : Value → Plan)
    → opening assigns level d (λ w. Then (Chain level d (as_operand w)) k) ≡ opening assigns (suc level) d k
opened false level d k = fun_ext (λ v. sym (chains_open level d k v))
opened true level d k =
    fun_ext (λ v. ap (Then (Assigned d (as_operand v))) (fun_ext (λ w. sym (chains_open level d k w))))

-- the first operand alone is the chain
pub opening_ends : (assigns : Bool) (d : ℕ) {ts : List Placed} {rest : List Token} {p : Plan} (a : Operand) (k : Value → Plan)
    → ((d : ℕ) (a : Operand) → Skips (Assigned d a) rest)
    → Reaches ts rest p (opening assigns zero d k (operand a)) → Reaches ts rest p (k (operand a))
opening_ends false d a k ends r = r
opening_ends true d a k ends r = skipped r refl (ends d a)

-- no operator of the level goes on with it
pub loop_ends : (level d : ℕ) {ts : List Placed} {rest : List Token} {p : Plan} (a : Operand) (k : Value → Plan)
    → EndsBinary (suc level) rest → Reaches ts rest p (loop level d (operand a) k) → Reaches ts rest p (k (operand a))
loop_ends zero d a k ends r = r
loop_ends (suc level) d a k ends r = skipped r refl (ends.chains level d a (omega arith))

pub looser : {level : ℕ} {rest : List Token} → EndsBinary (suc level) rest → EndsBinary level rest
looser ends = record { unary = ends.unary; assigned = ends.assigned; chains = λ i d a less. ends.chains i d a (omega arith) }

pub as_binary : {rest : List Token} (level : ℕ) → EndsExpression rest → EndsBinary level rest
as_binary level ends = record { unary = ends.unary; assigned = ends.assigned; chains = λ i d a less. ends.chains i d a }

-- no operator goes on with what was assigned
chains_end : (level d : ℕ) {ts : List Placed} {rest : List Token} {p : Plan} (a : Operand) (k : Value → Plan)
    → EndsExpression rest → Reaches ts rest p (after (chains level d (operand a)) k) → Reaches ts rest p (k (operand a))
chains_end zero d a k ends r = r
chains_end (suc level) d {ts} {rest} {p} a k ends r =
    let here = subst (Reaches ts rest p) (chains_open level d k (operand a)) r in
    skipped (chains_end level d a (λ w. Then (Chain level d (as_operand w)) k) ends here) refl (ends.chains level d a)

pub conditional_ends : (d : ℕ) {ts : List Placed} {rest : List Token} {p : Plan} (a : Operand) (k : Value → Plan) → EndsExpression rest
    → Reaches ts rest p (after (conditional_rest d (operand a)) k) → Reaches ts rest p (k (operand a))
conditional_ends d {ts} {rest} {p} a k ends r =
    let here =
    subst (Reaches ts rest p) (after_after (chains loosest d (operand a)) (λ w. Then (Chosen d (as_operand w)) Return) k) r
    in
    skipped (chains_end loosest d a (λ w. Then (Chosen d (as_operand w)) k) ends here) refl (ends.chosen d a)

-- what follows a type inside parentheses, an expression there, and a first argument
abbrev pub cast_behind : ℕ → ℕ → Value → Plan
cast_behind d place ty =
    punctuator (codes ")") d (Then (Cast (suc d)) (λ v. Return (operand (other place (node.Cast (as_type ty) (as_expr v))))))

abbrev pub close_behind : ℕ → ℕ → Value → Plan
close_behind d place v = punctuator (codes ")") d (Then (Postfix d (record { expr = as_expr v; start = place; is_unary = true })) Return)

abbrev pub argument_behind : ℕ → Value → Plan
argument_behind d v = Then (Further d (as_expr v ∷ [])) Return

-- a type inside parentheses makes a cast
pub inside_type : (d place : ℕ) (t : Token) (ts : List Token) (k : Value → Plan) → begins_type t ≡ true
    → run (t ∷ ts) (Then (Inside true d place) k) ≡ run (t ∷ ts) (Then (Typing (suc d)) (λ ty. after (cast_behind d place ty) k))
inside_type d place t ts k b = by_plan (type_plan (suc d) t) refl
  where
    by_plan : (o : Option Plan) → type_plan (suc d) t ≡ o
        → run (t ∷ ts) (Then (Inside true d place) k) ≡ run (t ∷ ts) (Then (Typing (suc d)) (λ ty. after (cast_behind d place ty) k))
    by_plan None e = at_none (Inside true d place) t ts k (rw (b, e) refl) refl ∙ sym (at_none (Typing (suc d)) t ts _ e refl)
    by_plan (Some p) e =
        at_token (Inside true d place) t ts k (after p (cast_behind d place)) (rw (b, e) refl)
        ∙ (ap (λ q. Put (record { token = t; depth = suc d }) (run ts q)) (after_after p (cast_behind d place) k)
        ∙ sym (at_token (Typing (suc d)) t ts _ p e))

-- and an expression there what the parentheses are
pub inside_expression : (casts : Bool) (d place : ℕ) (t : Token) (ts : List Token) (k : Value → Plan) → begins_type t ≡ false
    → run (t ∷ ts) (Then (Inside casts d place) k)
    ≡ run (t ∷ ts) (after (assignment (suc d)) (λ v. after (close_behind d place v) k))
inside_expression casts d place t ts k b = by_plan (operand_plan true (suc d) t) refl
  where
    by_plan : (o : Option Plan) → operand_plan true (suc d) t ≡ o
        → run (t ∷ ts) (Then (Inside casts d place) k)
        ≡ run (t ∷ ts) (after (assignment (suc d)) (λ v. after (close_behind d place v) k))
    by_plan None e = at_none (Inside casts d place) t ts k (rw (b, e) refl) refl ∙ sym (at_none (Cast (suc d)) t ts _ e refl)
    by_plan (Some p) e =
        at_token (Inside casts d place) t ts k (after (after p (assignment_rest (suc d))) (close_behind d place)) (rw (b, e) refl)
        ∙ (ap (λ q. Put (record { token = t; depth = suc d }) (run ts q))
        (after_after (after p (assignment_rest (suc d))) (close_behind d place) k
        ∙ after_after p (assignment_rest (suc d)) (λ v. after (close_behind d place v) k))
        ∙ sym (at_token (Cast (suc d)) t ts _ p e))

-- the first argument
pub first_argument : (d : ℕ) (t : Token) (ts : List Token) (k : Value → Plan) (u : Placed) (taken : Trace)
    → run (t ∷ ts) (after (assignment d) (λ v. after (argument_behind d v) k)) ≡ Put u taken
    → run (t ∷ ts) (Then (Arguments d) k) ≡ run (t ∷ ts) (after (assignment d) (λ v. after (argument_behind d v) k))
first_argument d t ts k u taken goes = by_plan (operand_plan true d t) refl
  where
    by_plan : (o : Option Plan) → operand_plan true d t ≡ o
        → run (t ∷ ts) (Then (Arguments d) k) ≡ run (t ∷ ts) (after (assignment d) (λ v. after (argument_behind d v) k))
    by_plan None e =
        let dead : Dead (t ∷ ts) ≡ Put u taken = sym (at_none (Cast d) t ts _ e refl) ∙ goes in
        absurd (cc)
    by_plan (Some p) e =
        at_token (Arguments d) t ts k (after (after p (assignment_rest d)) (argument_behind d)) (rw e refl)
        ∙ (ap (λ q. Put (record { token = t; depth = d }) (run ts q))
        (after_after (after p (assignment_rest d)) (argument_behind d) k
        ∙ after_after p (assignment_rest d) (λ v. after (argument_behind d v) k))
        ∙ sym (at_token (Cast d) t ts _ p e))
