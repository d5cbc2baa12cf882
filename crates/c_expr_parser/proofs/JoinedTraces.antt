-- Plans one after another, and their traces.
use Rattle.std.specs.Prelude.{◌≡◌, List, [], ◌∷◌, Option, Some, None}
use Rattle.std.proofs.Common.{refl, ap, sym, ◌∙◌}
use Rattle.std.proofs.Math.Path.{fun_ext}
use Rattle.c_lexer.specs.declared.token.Token.{Token}
use Rattle.c_expr_parser.specs.Placed.{Placed}
use Rattle.c_expr_parser.specs.Plans.{passed, met, Value, Plan, after, takes, left_out, depth_of, Trace, finish, run, remaining}
use Rattle.c_expr_parser.specs.Plans.Plan.{Return, Then}
use Rattle.c_expr_parser.specs.Plans.Trace.{Put, Took, Dead}

-- a trace, and another after what it took
abbrev pub bind : Trace → (Value → List Token → Trace) → Trace
bind (Put t tr) k = Put t (bind tr k)
bind (Took v rest) k = k v rest
bind (Dead rest) k = Dead rest

pub after_after : (p : Plan) (q k : Value → Plan) → after (after p q) k ≡ after p (λ v. after (q v) k)
after_after (Return v) q k = refl
after_after (Then w p) q k = ap (Then w) (fun_ext (λ v. after_after (p v) q k))

pub after_return : (p : Plan) → after p Return ≡ p
after_return (Return v) = refl
after_return (Then w p) = ap (Then w) (fun_ext (λ v. after_return (p v)))

passed_bind : (ts : List Token) (o : Option Value) (f g : Value → Trace) (k : Value → List Token → Trace)
    → ((v : Value) → f v ≡ bind (g v) k) → passed ts o f ≡ bind (passed ts o g) k
passed_bind ts (Some v) f g k e = e v
passed_bind ts None f g k e = refl

met_bind : (t : Placed) (o : Option Plan) (f g : Plan → Trace) (a b : Trace) (k : Value → List Token → Trace)
    → ((p : Plan) → f p ≡ bind (g p) k) → a ≡ bind b k → met t f a o ≡ bind (met t g b o) k
met_bind t (Some p) f g a b k e other = ap (Put t) (e p)
met_bind t None f g a b k e other = other

finish_after : (p : Plan) (k : Value → Plan) → finish (after p k) ≡ bind (finish p) (λ v rest. run rest (k v))
finish_after (Return v) k = refl
finish_after (Then w q) k =
    passed_bind [] (left_out w) (λ v. finish (after (q v) k)) (λ v. finish (q v)) (λ v rest. run rest (k v))
    (λ v. finish_after (q v) k)

step_after : (t : Token) (ts : List Token)
    → ((p : Plan) (k : Value → Plan) → run ts (after p k) ≡ bind (run ts p) (λ v rest. run rest (k v)))
    → (p : Plan) (k : Value → Plan) → run (t ∷ ts) (after p k) ≡ bind (run (t ∷ ts) p) (λ v rest. run rest (k v))
step_after t ts later (Return v) k = refl
step_after t ts later (Then w q) k =
    met_bind (record { token = t; depth = depth_of w }) (takes w t)
    (λ p. run ts (after p (λ v. after (q v) k))) (λ p. run ts (after p q))
    (passed (t ∷ ts) (left_out w) (λ v. run (t ∷ ts) (after (q v) k))) (passed (t ∷ ts) (left_out w) (λ v. run (t ∷ ts) (q v)))
    (λ v rest. run rest (k v))
    (λ p. ap (run ts) (sym (after_after p q k)) ∙ later (after p q) k)
    (passed_bind (t ∷ ts) (left_out w) (λ v. run (t ∷ ts) (after (q v) k)) (λ v. run (t ∷ ts) (q v)) (λ v rest. run rest (k v))
    (λ v. step_after t ts later (q v) k))

-- a plan after another is carried out where the other ends
pub run_after : (ts : List Token) (p : Plan) (k : Value → Plan) → run ts (after p k) ≡ bind (run ts p) (λ v rest. run rest (k v))
run_after [] p k = finish_after p k
run_after (t ∷ ts) p k = step_after t ts (run_after ts) p k

passed_remaining : (ts : List Token) (o : Option Value) (f : Value → Trace) → ((v : Value) → remaining (f v) ≡ ts)
    → remaining (passed ts o f) ≡ ts
passed_remaining ts (Some v) f e = e v
passed_remaining ts None f e = refl

met_remaining : (t : Placed) (ts : List Token) (o : Option Plan) (f : Plan → Trace) (other : Trace)
    → ((p : Plan) → remaining (f p) ≡ ts) → remaining other ≡ t.token ∷ ts → remaining (met t f other o) ≡ t.token ∷ ts
met_remaining t ts (Some p) f other e left = ap (λ rest. t.token ∷ rest) (e p)
met_remaining t ts None f other e left = left

finish_remaining : (p : Plan) → remaining (finish p) ≡ []
finish_remaining (Return v) = refl
finish_remaining (Then w k) = passed_remaining [] (left_out w) (λ v. finish (k v)) (λ v. finish_remaining (k v))

step_remaining : (t : Token) (ts : List Token) → ((p : Plan) → remaining (run ts p) ≡ ts) → (p : Plan)
    → remaining (run (t ∷ ts) p) ≡ t ∷ ts
step_remaining t ts later (Return v) = refl
step_remaining t ts later (Then w k) =
    met_remaining (record { token = t; depth = depth_of w }) ts (takes w t) (λ p. run ts (after p k))
    (passed (t ∷ ts) (left_out w) (λ v. run (t ∷ ts) (k v))) (λ p. later (after p k))
    (passed_remaining (t ∷ ts) (left_out w) (λ v. run (t ∷ ts) (k v)) (λ v. step_remaining t ts later (k v)))

-- a trace has all tokens
pub remaining_run : (ts : List Token) (p : Plan) → remaining (run ts p) ≡ ts
remaining_run [] p = finish_remaining p
remaining_run (t ∷ ts) p = step_remaining t ts (remaining_run ts) p
