-- Plans of texts one after another, their traces, and the walk through expressions in them.
use Rattle.std.specs.Prelude.{◌≡◌, ℕ, zero, suc, List, [], ◌∷◌, ◌++◌, take, Option, Some, None, option_map}
use Rattle.std.proofs.Common.{refl, ap, sym, ◌∙◌}
use Rattle.std.proofs.Math.Path.{fun_ext}
use Rattle.c_lexer.specs.declared.token.Token.{Token}
use Rattle.c_expr_parser.specs.Placed.{Placed}
use Rattle.c_expr_parser.specs.Plans.{Value, Plan, Trace, after, takes, left_out, depth_of, passed, met, finish, run}
use Rattle.c_expr_parser.specs.Plans.Plan.{Return, Then}
use Rattle.c_expr_parser.specs.Plans.Trace.{Put, Took, Dead}
use Rattle.c_parser.specs.TextPlans.{Found, TextPlan, TextTrace, then_text, behind, as_part, text_depth, text_takes, text_left_out, text_passed, text_met, text_finish, run_text}
use Rattle.c_parser.specs.TextPlans.Found.{part}
use Rattle.c_parser.specs.TextPlans.TextPlan.{Give, Want}
use Rattle.c_parser.specs.TextPlans.TextWanted.{Of}
use Rattle.c_parser.specs.TextPlans.TextTrace.{Next, Gave, Stopped}

pub then_then : (p : TextPlan) (q k : Found → TextPlan) → then_text (then_text p q) k ≡ then_text p (λ f. then_text (q f) k)
then_then (Give f) q k = refl
then_then (Want w p) q k = ap (Want w) (fun_ext (λ f. then_then (p f) q k))

pub then_behind : (p : Plan) (q : Value → TextPlan) (k : Found → TextPlan)
    → then_text (behind p q) k ≡ behind p (λ v. then_text (q v) k)
then_behind (Return v) q k = refl
then_behind (Then w p) q k = ap (Want (Of w)) (fun_ext (λ f. then_behind (p (as_part f)) q k))

pub behind_after : (p : Plan) (q : Value → Plan) (k : Value → TextPlan) → behind (after p q) k ≡ behind p (λ v. behind (q v) k)
behind_after (Return v) q k = refl
behind_after (Then w p) q k = ap (Want (Of w)) (fun_ext (λ f. behind_after (p (as_part f)) q k))

-- a trace of the walk through expressions, and one of a text after what it took
abbrev pub lift : Trace → (Value → List Token → TextTrace) → TextTrace
lift (Put t tr) k = Next t (lift tr k)
lift (Took v rest) k = k v rest
lift (Dead rest) k = Stopped rest

passed_lift : (ts : List Token) (o : Option Value) (f : Found → TextTrace) (g : Value → Trace) (k : Value → List Token → TextTrace)
    → ((v : Value) → f (part v) ≡ lift (g v) k) → text_passed ts (option_map (λ v. part v) o) f ≡ lift (passed ts o g) k
passed_lift ts (Some v) f g k e = e v
passed_lift ts None f g k e = refl

met_lift : (t : Placed) (o : Option Plan) (f : TextPlan → TextTrace) (g : Plan → Trace) (a : TextTrace) (b : Trace)
    (k : Value → List Token → TextTrace)
    → ((p : Plan) → f (behind p (λ v. Give (part v))) ≡ lift (g p) k) → a ≡ lift b k
    → text_met t f a (option_map (λ p. behind p (λ v. Give (part v))) o) ≡ lift (met t g b o) k
met_lift t (Some p) f g a b k e other = ap (Next t) (e p)
met_lift t None f g a b k e other = other

finish_behind : (p : Plan) (k : Value → TextPlan) → text_finish (behind p k) ≡ lift (finish p) (λ v rest. run_text rest (k v))
finish_behind (Return v) k = refl
finish_behind (Then w q) k =
    passed_lift [] (left_out w) (λ f. text_finish (behind (q (as_part f)) k)) (λ v. finish (q v)) (λ v rest. run_text rest (k v))
    (λ v. finish_behind (q v) k)

step_behind : (t : Token) (ts : List Token)
    → ((p : Plan) (k : Value → TextPlan) → run_text ts (behind p k) ≡ lift (run ts p) (λ v rest. run_text rest (k v)))
    → (p : Plan) (k : Value → TextPlan) → run_text (t ∷ ts) (behind p k) ≡ lift (run (t ∷ ts) p) (λ v rest. run_text rest (k v))
step_behind t ts later (Return v) k = refl
step_behind t ts later (Then w q) k =
    met_lift (record { token = t; depth = depth_of w }) (takes w t)
    (λ p. run_text ts (then_text p (λ f. behind (q (as_part f)) k))) (λ p. run ts (after p q))
    (text_passed (t ∷ ts) (option_map (λ v. part v) (left_out w)) (λ f. run_text (t ∷ ts) (behind (q (as_part f)) k)))
    (passed (t ∷ ts) (left_out w) (λ v. run (t ∷ ts) (q v)))
    (λ v rest. run_text rest (k v))
    (λ p. ap (run_text ts) (then_behind p (λ v. Give (part v)) (λ f. behind (q (as_part f)) k) ∙ sym (behind_after p q k))
    ∙ later (after p q) k)
    (passed_lift (t ∷ ts) (left_out w) (λ f. run_text (t ∷ ts) (behind (q (as_part f)) k)) (λ v. run (t ∷ ts) (q v))
    (λ v rest. run_text rest (k v)) (λ v. step_behind t ts later (q v) k))

-- a plan of expressions is carried out as the walk through expressions does it
pub run_behind : (ts : List Token) (p : Plan) (k : Value → TextPlan)
    → run_text ts (behind p k) ≡ lift (run ts p) (λ v rest. run_text rest (k v))
run_behind [] p k = finish_behind p k
run_behind (t ∷ ts) p k = step_behind t ts (run_behind ts) p k

-- placed tokens before a trace
abbrev pub nexts : List Placed → TextTrace → TextTrace
nexts [] tr = tr
nexts (t ∷ ts) tr = Next t (nexts ts tr)

pub nexts_append : (ts us : List Placed) (tr : TextTrace) → nexts (ts ++ us) tr ≡ nexts ts (nexts us tr)
nexts_append [] us tr = refl
nexts_append (t ∷ ts) us tr = ap (Next t) (nexts_append ts us tr)

-- the tokens that a trace took, and how it ends after them
abbrev pub text_placed : TextTrace → List Placed
text_placed (Next t tr) = t ∷ text_placed tr
text_placed (Gave f rest) = []
text_placed (Stopped rest) = []

abbrev pub text_end : TextTrace → TextTrace
text_end (Next t tr) = text_end tr
text_end (Gave f rest) = Gave f rest
text_end (Stopped rest) = Stopped rest

pub placed_nexts : (ts : List Placed) (f : Found) (rest : List Token) → text_placed (nexts ts (Gave f rest)) ≡ ts
placed_nexts [] f rest = refl
placed_nexts (t ∷ ts) f rest = ap (λ us. t ∷ us) (placed_nexts ts f rest)

pub end_nexts : (ts : List Placed) (f : Found) (rest : List Token) → text_end (nexts ts (Gave f rest)) ≡ Gave f rest
end_nexts [] f rest = refl
end_nexts (t ∷ ts) f rest = end_nexts ts f rest

-- a plan looks at a token when it takes or refuses it: what it takes of a prefix depends on that prefix alone
met_same : (n : ℕ) (x : Placed) (f g : TextPlan → TextTrace) (a b : TextTrace) (o : Option TextPlan)
    → ((p : TextPlan) → take n (text_placed (f p)) ≡ take n (text_placed (g p)))
    → take (suc n) (text_placed a) ≡ take (suc n) (text_placed b)
    → take (suc n) (text_placed (text_met x f a o)) ≡ take (suc n) (text_placed (text_met x g b o))
met_same n x f g a b (Some p) e other = ap (λ us. x ∷ us) (e p)
met_same n x f g a b None e other = other

passed_same : (n : ℕ) (ts us : List Token) (f g : Found → TextTrace) (o : Option Found)
    → ((v : Found) → take (suc n) (text_placed (f v)) ≡ take (suc n) (text_placed (g v)))
    → take (suc n) (text_placed (text_passed ts o f)) ≡ take (suc n) (text_placed (text_passed us o g))
passed_same n ts us f g (Some v) e = e v
passed_same n ts us f g None e = refl

step_same : (n : ℕ) (t : Token) (ts us : List Token)
    → ((p : TextPlan) → take n (text_placed (run_text ts p)) ≡ take n (text_placed (run_text us p))) → (p : TextPlan)
    → take (suc n) (text_placed (run_text (t ∷ ts) p)) ≡ take (suc n) (text_placed (run_text (t ∷ us) p))
step_same n t ts us later (Give f) = refl
step_same n t ts us later (Want w k) =
    met_same n (record { token = t; depth = text_depth w }) (λ p. run_text ts (then_text p k)) (λ p. run_text us (then_text p k))
    (text_passed (t ∷ ts) (text_left_out w) (λ f. run_text (t ∷ ts) (k f))) (text_passed (t ∷ us) (text_left_out w) (λ f. run_text (t ∷ us) (k f)))
    (text_takes w t) (λ p. later (then_text p k))
    (passed_same n (t ∷ ts) (t ∷ us) (λ f. run_text (t ∷ ts) (k f)) (λ f. run_text (t ∷ us) (k f)) (text_left_out w)
    (λ f. step_same n t ts us later (k f)))

same_first : (t u : Token) (ts us : List Token) → t ∷ ts ≡ u ∷ us → (t ≡ u) × (ts ≡ us)
same_first t u ts us e = (cc, cc)

pub run_text_same : (n : ℕ) (ts us : List Token) (p : TextPlan) → take n ts ≡ take n us
    → take n (text_placed (run_text ts p)) ≡ take n (text_placed (run_text us p))
run_text_same zero ts us p e = refl
run_text_same (suc n) [] [] p e = refl
run_text_same (suc n) [] (u ∷ us) p e = absurd (cc)
run_text_same (suc n) (t ∷ ts) [] p e = absurd (cc)
run_text_same (suc n) (t ∷ ts) (u ∷ us) p e =
    let same = same_first t u (take n ts) (take n us) e in
    step_same n t ts us (λ q. run_text_same n ts us q same.1) p
    ∙ ap (λ x. take (suc n) (text_placed (run_text (x ∷ us) p))) same.0
