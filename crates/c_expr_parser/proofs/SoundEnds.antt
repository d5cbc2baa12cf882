-- Where the plans of expressions end: at a token that doesn't go on with them. So after the right side of an assignment,
-- what could go on with its left side stays out.
use Rattle.std.specs.Prelude.{◌≡◌, ℕ, zero, suc, ◌<◌, ◌≤◌, Bool, true, false, List, [], ◌∷◌, length, Option, Some, None, option_map, codes}
use Rattle.std.proofs.Common.{refl, ap, sym, subst, ◌∙◌, arith, ◌⊎◌, inl, inr}
use Rattle.c_lexer.specs.declared.token.Token.{Token}
use Rattle.c_lexer.specs.declared.token.TokenKind.TheVariants.{Punctuator}
use Rattle.c_tree.specs.declared.expr.ExprNode.TheVariants as node
use Rattle.c_expr_parser.specs.declared.operand.Operand.{Operand}
use Rattle.c_expr_parser.specs.Placed.{Placed}
use Rattle.c_expr_parser.specs.declared.operators.Joint.{Joint}
use Rattle.c_expr_parser.specs.Operators.{joined, loosest}
use Rattle.c_expr_parser.specs.Tables.{is, when_some, binary_operator}
use Rattle.c_expr_parser.specs.Plans.{Value, Wanted, Plan, met, after, Trace, run, remaining, as_operand, chains, binary, conditional, conditional_rest, assignment, other, as_expr, expr_then, punctuator}
use Rattle.c_expr_parser.specs.Plans.Value.{operand}
use Rattle.c_expr_parser.specs.Plans.Plan.{Return, Then}
use Rattle.c_expr_parser.specs.Plans.Trace.{Put, Took, Dead}
use Rattle.c_expr_parser.proofs.JoinedTraces.{bind, after_after, after_return, run_after, remaining_run}

-- where something was read, the tokens after it are as R says
abbrev Ends : (List Token → Type 0) → Trace → Type 0
Ends R (Put t tr) = Ends R tr
Ends R (Took v rest) = R rest
Ends R (Dead rest) = Unit {0}

ends_bind : (n : ℕ) (R S : List Token → Type 0) (tr : Trace) (k : Value → List Token → Trace) → Ends R tr → length (remaining tr) ≤ n
    → ((v : Value) (rest : List Token) → length rest ≤ n → R rest → Ends S (k v rest)) → Ends S (bind tr k)
ends_bind n R S (Put t tr) k e h f = ends_bind n R S tr k e (omega arith) f
ends_bind n R S (Took v rest) k e h f = f v rest h e
ends_bind n R S (Dead rest) k e h f = tt

anywhere : (tr : Trace) → Ends (λ rest. Unit {0}) tr
anywhere (Put t tr) = anywhere tr
anywhere (Took v rest) = tt
anywhere (Dead rest) = tt

same_bind : (R : List Token → Type 0) (tr : Trace) (f g : Value → List Token → Trace) → Ends R tr
    → ((v : Value) (rest : List Token) → R rest → f v rest ≡ g v rest) → bind tr f ≡ bind tr g
same_bind R (Put t tr) f g e same = ap (Put t) (same_bind R tr f g e same)
same_bind R (Took v rest) f g e same = same v rest e
same_bind R (Dead rest) f g e same = refl

-- on at most so many tokens, a plan ends so
record Leaves (n : ℕ) (R : List Token → Type 0) (p : Plan) : Type 0 where
  trace : (ts : List Token) → length ts ≤ n → Ends R (run ts p)

leaves_after : {n : ℕ} {R S : List Token → Type 0} {p : Plan} {k : Value → Plan} → Leaves n R p
    → ((v : Value) (rest : List Token) → length rest ≤ n → R rest → Ends S (run rest (k v))) → Leaves n S (after p k)
leaves_after {n} {R} {S} {p} {k} s f = record {
  trace = λ ts h.
      subst (Ends S) (sym (run_after ts p k))
      (ends_bind n R S (run ts p) (λ v rest. run rest (k v)) (s.trace ts h) (subst (λ rest. length rest ≤ n) (sym (remaining_run ts p)) h) f);
}

-- the end of a plan is that of its last part
leaves_last : {n : ℕ} {S : List Token → Type 0} (p : Plan) {k : Value → Plan} → ((v : Value) → Leaves n S (k v)) → Leaves n S (after p k)
leaves_last p s = leaves_after {R = λ rest. Unit {0}} (record { trace = λ ts h. anywhere (run ts p) }) (λ v rest h r. (s v).trace rest h)

leaves_then : {n : ℕ} {S : List Token → Type 0} (w : Wanted) {k : Value → Plan} → ((v : Value) → Leaves n S (k v)) → Leaves n S (Then w k)
leaves_then w {k} s = leaves_last (Then w Return) {k = k} s

-- the next token is no operator of the first levels
abbrev NoOperator : ℕ → List Token → Type 0
NoOperator levels [] = Unit {0}
NoOperator levels (t ∷ ts) = (level : ℕ) → level < levels → binary_operator (suc level) t ≡ None

one_more : (levels : ℕ) (t : Token) (ts : List Token) → NoOperator levels (t ∷ ts) → binary_operator (suc levels) t ≡ None
    → NoOperator (suc levels) (t ∷ ts)
one_more levels t ts before here level h = by_order (split level levels h)
  where
    split : (a b : ℕ) → a < suc b → (a < b) ⊎ (a ≡ b)
    split a b l = grind arith

    by_order : (level < levels) ⊎ (level ≡ levels) → binary_operator (suc level) t ≡ None
    by_order (inl l) = before level l
    by_order (inr e) = rw e here

chain_met : (levels : ℕ) (t : Token) (ts : List Token) (place : Placed) (later : Plan → Trace) (v : Value) (made : Joint → Plan)
    (o : Option Joint) → binary_operator (suc levels) t ≡ o → NoOperator levels (t ∷ ts)
    → ((joint : Joint) → Ends (NoOperator (suc levels)) (later (made joint)))
    → Ends (NoOperator (suc levels)) (met place later (Took v (t ∷ ts)) (option_map made o))
chain_met levels t ts place later v made None e before f = one_more levels t ts before e
chain_met levels t ts place later v made (Some joint) e before f = f joint

chain_ends : (level : ℕ) → ((n d : ℕ) (v : Value) → Leaves n (NoOperator level) (chains level d v))
    → (n d : ℕ) (a : Operand) (ts : List Token) → length ts ≤ n → NoOperator level ts
    → Ends (NoOperator (suc level)) (run ts (Then (Wanted.Chain level d a) Return))
chain_ends level tighter n d a [] h before = tt
chain_ends level tighter zero d a (t ∷ ts) h before = absurd (omega arith)
chain_ends level tighter (suc n) d a (t ∷ ts) h before =
    chain_met level t ts (record { token = t; depth = d }) (λ p. run ts (after p Return)) (operand a) made
    (binary_operator (suc level) t) refl before
    (λ joint. subst (λ p. Ends (NoOperator (suc level)) (run ts p)) (sym (after_return (made joint)))
    ((leaves_after {n = n} {R = NoOperator level} (leaves_then (Wanted.Cast d) (λ v. tighter n d v))
    (λ b rest l r. chain_ends level tighter n d (next joint b) rest l r)).trace ts (omega arith)))
  where
    next : Joint → Value → Operand
    next joint b = other a.start (joined joint a.expr (as_expr b))

    made : Joint → Plan
    made joint = after (binary level d) (λ b. Then (Wanted.Chain level d (next joint b)) Return)

nowhere : (v : Value) (ts : List Token) → Ends (NoOperator zero) (run ts (Return v))
nowhere v [] = tt
nowhere v (t ∷ ts) = λ level h. absurd (omega arith)

chains_leave : (level n d : ℕ) (v : Value) → Leaves n (NoOperator level) (chains level d v)
chains_leave zero n d v = record { trace = λ ts h. nowhere v ts }
chains_leave (suc level) n d v =
    leaves_after (chains_leave level n d v) (λ w rest h r. chain_ends level (chains_leave level) n d (as_operand w) rest h r)

-- the next token goes on with no operand of `?:`, nor with its first part
abbrev Still : List Token → Type 0
Still [] = Unit {0}
Still (t ∷ ts) = ((level : ℕ) → level < loosest → binary_operator (suc level) t ≡ None) × (is Punctuator (codes "?") t ≡ false)

question_met : (t : Token) (ts : List Token) (place : Placed) (later : Plan → Trace) (v : Value) (p : Plan) (test : Bool)
    → is Punctuator (codes "?") t ≡ test → NoOperator loosest (t ∷ ts) → Ends Still (later p)
    → Ends Still (met place later (Took v (t ∷ ts)) (when_some test (Some p)))
question_met t ts place later v p false e before f = (before, e)
question_met t ts place later v p true e before f = f

chosen_nowhere : (d : ℕ) (a : Operand) (ts : List Token) → length ts ≤ 0 → Ends Still (run ts (Then (Wanted.Chosen d a) Return))
chosen_nowhere d a [] h = tt
chosen_nowhere d a (t ∷ ts) h = absurd (omega arith)

chosen_ends : (n : ℕ) → ((d : ℕ) (v : Value) → Leaves n Still (conditional_rest d v))
    → (d : ℕ) (a : Operand) (ts : List Token) → length ts ≤ suc n → NoOperator loosest ts
    → Ends Still (run ts (Then (Wanted.Chosen d a) Return))
chosen_ends n shorter d a [] h before = tt
chosen_ends n shorter d a (t ∷ ts) h before =
    question_met t ts (record { token = t; depth = d }) (λ p. run ts (after p Return)) (operand a) made
    (is Punctuator (codes "?") t) refl before
    (subst (λ p. Ends Still (run ts p)) (sym (after_return made))
    ((leaves_last {n = n} (assignment d) (λ b. leaves_then (Wanted.Word Punctuator (codes ":") d) (λ u. leaves_after {R = Still}
    (leaves_then (Wanted.Cast (suc d)) (λ v. shorter (suc d) v)) (λ c rest l r. stays (third b c) rest r)))).trace ts (omega arith)))
  where
    third : Value → Value → Value
    third b c = operand (other a.start (node.Choice a.expr (as_expr b) (as_expr c)))

    made : Plan
    made = expr_then d (λ b. punctuator (codes ":") d (after (conditional (suc d)) (λ c.
        Return (operand (other a.start (node.Choice a.expr b (as_expr c)))))))

    stays : (v : Value) (rest : List Token) → Still rest → Ends Still (run rest (Return v))
    stays v [] s = s
    stays v (x ∷ xs) s = s

conditional_leaves : (n d : ℕ) (v : Value) → Leaves n Still (conditional_rest d v)
conditional_leaves zero d v =
    leaves_after (chains_leave loosest zero d v) (λ w rest h r. chosen_nowhere d (as_operand w) rest h)
conditional_leaves (suc n) d v =
    leaves_after (chains_leave loosest (suc n) d v) (λ w rest h r. chosen_ends n (conditional_leaves n) d (as_operand w) rest h r)

chain_passes : (level d : ℕ) (a : Operand) (k : Value → Plan) (t : Token) (ts : List Token) → binary_operator (suc level) t ≡ None
    → run (t ∷ ts) (Then (Wanted.Chain level d a) k) ≡ run (t ∷ ts) (k (operand a))
chain_passes level d a k t ts e = rw e refl

chains_pass : (level d : ℕ) (a : Operand) (k : Value → Plan) (t : Token) (ts : List Token) → NoOperator level (t ∷ ts)
    → run (t ∷ ts) (after (chains level d (operand a)) k) ≡ run (t ∷ ts) (k (operand a))
chains_pass zero d a k t ts e = refl
chains_pass (suc level) d a k t ts e =
    ap (run (t ∷ ts)) (after_after (chains level d (operand a)) (λ w. Then (Wanted.Chain level d (as_operand w)) Return) k)
    ∙ (chains_pass level d a (λ w. Then (Wanted.Chain level d (as_operand w)) k) t ts (λ l h. e l (omega arith))
    ∙ chain_passes level d a k t ts (e level (omega arith)))

chosen_passes : (d : ℕ) (a : Operand) (k : Value → Plan) (t : Token) (ts : List Token) → is Punctuator (codes "?") t ≡ false
    → run (t ∷ ts) (Then (Wanted.Chosen d a) k) ≡ run (t ∷ ts) (k (operand a))
chosen_passes d a k t ts e = rw e refl

conditional_passes : (d : ℕ) (a : Operand) (ts : List Token) → Still ts
    → run ts (conditional_rest d (operand a)) ≡ run ts (Return (operand a))
conditional_passes d a [] s = refl
conditional_passes d a (t ∷ ts) s =
    chains_pass loosest d a (λ w. Then (Wanted.Chosen d (as_operand w)) Return) t ts s.0 ∙ chosen_passes d a Return t ts s.1

assignment_leaves : (n d : ℕ) → Leaves n Still (assignment d)
assignment_leaves n d =
    leaves_then (Wanted.Cast d) (λ v. leaves_then (Wanted.Assigned d (as_operand v)) (λ w. conditional_leaves n d w))

-- after an assignment, what could go on with its left side stays out
pub assignment_stays : (d e : ℕ) (made : Value → Operand) (ts : List Token)
    → run ts (after (after (assignment d) (λ v. Return (operand (made v)))) (conditional_rest e))
    ≡ run ts (after (assignment d) (λ v. Return (operand (made v))))
assignment_stays d e made ts =
    ap (run ts) (after_after (assignment d) (λ v. Return (operand (made v))) (conditional_rest e))
    ∙ (run_after ts (assignment d) (λ v. conditional_rest e (operand (made v)))
    ∙ (same_bind Still (run ts (assignment d)) (λ v rest. run rest (conditional_rest e (operand (made v))))
    (λ v rest. run rest (Return (operand (made v)))) ((assignment_leaves (length ts) d).trace ts (omega arith))
    (λ v rest s. conditional_passes e (made v) rest s)
    ∙ sym (run_after ts (assignment d) (λ v. Return (operand (made v))))))
