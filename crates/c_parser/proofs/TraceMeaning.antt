-- What the traces of a plan of texts mean.
use Rattle.std.specs.Prelude.{◌≡◌, ℕ, ◌≤◌, List, [], ◌∷◌, ◌++◌, length, Option, Some, None}
use Rattle.std.proofs.Common.{refl, ap, sym, subst, ◌∙◌, arith}
use Rattle.c_lexer.specs.declared.token.Token.{Token}
use Rattle.c_expr_parser.specs.Placed.{Placed}
use Rattle.c_expr_parser.specs.Plans.{Value, Plan, Trace, run, remaining}
use Rattle.c_expr_parser.specs.Plans.Trace.{Put, Took, Dead}
use Rattle.c_expr_parser.proofs.JoinedTraces.{remaining_run}
use Rattle.c_expr_parser.proofs.TraceMeaning.{Explained, Sound}
use Rattle.c_parser.specs.TextPlans.{Found, TextPlan, TextTrace, then_text, behind, text_depth, text_takes, text_left_out, text_passed, text_met, text_finish, run_text, text_remaining}
use Rattle.c_parser.specs.TextPlans.TextPlan.{Give, Want}
use Rattle.c_parser.specs.TextPlans.TextTrace.{Next, Gave, Stopped}
use Rattle.c_parser.proofs.JoinedTraces.{then_then, lift, run_behind}

-- a trace, and another after what it gave
abbrev pub text_bind : TextTrace → (Found → List Token → TextTrace) → TextTrace
text_bind (Next t tr) k = Next t (text_bind tr k)
text_bind (Gave f rest) k = k f rest
text_bind (Stopped rest) k = Stopped rest

passed_bind : (ts : List Token) (o : Option Found) (f g : Found → TextTrace) (k : Found → List Token → TextTrace)
    → ((v : Found) → f v ≡ text_bind (g v) k) → text_passed ts o f ≡ text_bind (text_passed ts o g) k
passed_bind ts (Some v) f g k e = e v
passed_bind ts None f g k e = refl

met_bind : (t : Placed) (o : Option TextPlan) (f g : TextPlan → TextTrace) (a b : TextTrace) (k : Found → List Token → TextTrace)
    → ((p : TextPlan) → f p ≡ text_bind (g p) k) → a ≡ text_bind b k → text_met t f a o ≡ text_bind (text_met t g b o) k
met_bind t (Some p) f g a b k e other = ap (Next t) (e p)
met_bind t None f g a b k e other = other

finish_then : (p : TextPlan) (k : Found → TextPlan) → text_finish (then_text p k) ≡ text_bind (text_finish p) (λ f rest. run_text rest (k f))
finish_then (Give f) k = refl
finish_then (Want w q) k =
    passed_bind [] (text_left_out w) (λ f. text_finish (then_text (q f) k)) (λ f. text_finish (q f)) (λ f rest. run_text rest (k f))
    (λ f. finish_then (q f) k)

step_then : (t : Token) (ts : List Token)
    → ((p : TextPlan) (k : Found → TextPlan) → run_text ts (then_text p k) ≡ text_bind (run_text ts p) (λ f rest. run_text rest (k f)))
    → (p : TextPlan) (k : Found → TextPlan) → run_text (t ∷ ts) (then_text p k) ≡ text_bind (run_text (t ∷ ts) p) (λ f rest. run_text rest (k f))
step_then t ts later (Give f) k = refl
step_then t ts later (Want w q) k =
    met_bind (record { token = t; depth = text_depth w }) (text_takes w t)
    (λ p. run_text ts (then_text p (λ f. then_text (q f) k))) (λ p. run_text ts (then_text p q))
    (text_passed (t ∷ ts) (text_left_out w) (λ f. run_text (t ∷ ts) (then_text (q f) k)))
    (text_passed (t ∷ ts) (text_left_out w) (λ f. run_text (t ∷ ts) (q f)))
    (λ f rest. run_text rest (k f))
    (λ p. ap (run_text ts) (sym (then_then p q k)) ∙ later (then_text p q) k)
    (passed_bind (t ∷ ts) (text_left_out w) (λ f. run_text (t ∷ ts) (then_text (q f) k)) (λ f. run_text (t ∷ ts) (q f))
    (λ f rest. run_text rest (k f)) (λ f. step_then t ts later (q f) k))

-- a plan after another is carried out where the other ends
pub run_then : (ts : List Token) (p : TextPlan) (k : Found → TextPlan)
    → run_text ts (then_text p k) ≡ text_bind (run_text ts p) (λ f rest. run_text rest (k f))
run_then [] p k = finish_then p k
run_then (t ∷ ts) p k = step_then t ts (run_then ts) p k

passed_remaining : (ts : List Token) (o : Option Found) (f : Found → TextTrace) → ((v : Found) → text_remaining (f v) ≡ ts)
    → text_remaining (text_passed ts o f) ≡ ts
passed_remaining ts (Some v) f e = e v
passed_remaining ts None f e = refl

met_remaining : (t : Placed) (ts : List Token) (o : Option TextPlan) (f : TextPlan → TextTrace) (other : TextTrace)
    → ((p : TextPlan) → text_remaining (f p) ≡ ts) → text_remaining other ≡ t.token ∷ ts
    → text_remaining (text_met t f other o) ≡ t.token ∷ ts
met_remaining t ts (Some p) f other e left = ap (λ rest. t.token ∷ rest) (e p)
met_remaining t ts None f other e left = left

finish_remaining : (p : TextPlan) → text_remaining (text_finish p) ≡ []
finish_remaining (Give f) = refl
finish_remaining (Want w k) = passed_remaining [] (text_left_out w) (λ f. text_finish (k f)) (λ f. finish_remaining (k f))

step_remaining : (t : Token) (ts : List Token) → ((p : TextPlan) → text_remaining (run_text ts p) ≡ ts) → (p : TextPlan)
    → text_remaining (run_text (t ∷ ts) p) ≡ t ∷ ts
step_remaining t ts later (Give f) = refl
step_remaining t ts later (Want w k) =
    met_remaining (record { token = t; depth = text_depth w }) ts (text_takes w t) (λ p. run_text ts (then_text p k))
    (text_passed (t ∷ ts) (text_left_out w) (λ f. run_text (t ∷ ts) (k f))) (λ p. later (then_text p k))
    (passed_remaining (t ∷ ts) (text_left_out w) (λ f. run_text (t ∷ ts) (k f)) (λ f. step_remaining t ts later (k f)))

-- a trace has all tokens
pub remaining_text : (ts : List Token) (p : TextPlan) → text_remaining (run_text ts p) ≡ ts
remaining_text [] p = finish_remaining p
remaining_text (t ∷ ts) p = step_remaining t ts (remaining_text ts) p

-- what some tokens are, by what was found and the tokens after them
abbrev pub Meaning : Type 1
Meaning = List Placed → Found → List Token → Type 0

-- the same after some tokens
abbrev pub From : List Placed → Meaning → Meaning
From front Q = λ ts f rest. Q (front ++ ts) f rest

-- the tokens that were taken and what was found are as Q says; where nothing fits, more tokens would make them so
abbrev pub TextExplained : Meaning → TextTrace → Type 0
TextExplained Q (Next t tr) = TextExplained (λ ts f rest. Q (t ∷ ts) f rest) tr
TextExplained Q (Gave f rest) = Q [] f rest
TextExplained Q (Stopped rest) = (more : List Placed) × (f : Found) × Q more f []

pub text_explained_map : (P Q : Meaning) (tr : TextTrace)
    → ((ts : List Placed) (f : Found) (rest : List Token) → P ts f rest → Q ts f rest) → TextExplained P tr → TextExplained Q tr
text_explained_map P Q (Next t tr) g e =
    text_explained_map (λ ts f rest. P (t ∷ ts) f rest) (λ ts f rest. Q (t ∷ ts) f rest) tr (λ ts f rest p. g (t ∷ ts) f rest p) e
text_explained_map P Q (Gave f rest) g e = g [] f rest e
text_explained_map P Q (Stopped rest) g e = (e.0, e.1, g e.0 e.1 [] e.2)

-- what is explained has an example
text_example : (Q : Meaning) (tr : TextTrace) → TextExplained Q tr → text_remaining tr ≡ []
    → (more : List Placed) × (f : Found) × Q more f []
text_example Q (Next t tr) e h = absurd (cc)
text_example Q (Gave f rest) e h = ([], f, subst (Q [] f) h e)
text_example Q (Stopped rest) e h = e

completed : (Q : Meaning) (front : List Placed) → (more : List Placed) × (f : Found) × Q (front ++ more) f []
    → (more : List Placed) × (f : Found) × Q more f []
completed Q front w = (front ++ w.0, w.1, w.2)

bind_explained : (n : ℕ) (P Q : Meaning) (tr : TextTrace) (k : Found → TextPlan) → TextExplained P tr → length (text_remaining tr) ≤ n
    → ((us : List Placed) (f : Found) (rest : List Token) → P us f rest → length rest ≤ n → TextExplained (From us Q) (run_text rest (k f)))
    → TextExplained Q (text_bind tr (λ f rest. run_text rest (k f)))
bind_explained n P Q (Next t tr) k e h g =
    bind_explained n (λ ts f rest. P (t ∷ ts) f rest) (λ ts f rest. Q (t ∷ ts) f rest) tr k e (omega arith) (λ us f rest p. g (t ∷ us) f rest p)
bind_explained n P Q (Gave f rest) k e h g = g [] f rest e h
bind_explained n P Q (Stopped rest) k e h g =
    completed Q e.0 (text_example (From e.0 Q) (run_text [] (k e.1)) (g e.0 e.1 [] e.2 (omega arith)) (remaining_text [] (k e.1)))

lift_explained : (n : ℕ) (P : List Placed → Value → Type 0) (Q : Meaning) (tr : Trace) (k : Value → TextPlan) → Explained P tr
    → length (remaining tr) ≤ n
    → ((us : List Placed) (v : Value) (rest : List Token) → P us v → length rest ≤ n → TextExplained (From us Q) (run_text rest (k v)))
    → TextExplained Q (lift tr (λ v rest. run_text rest (k v)))
lift_explained n P Q (Put t tr) k e h g =
    lift_explained n (λ ts v. P (t ∷ ts) v) (λ ts f rest. Q (t ∷ ts) f rest) tr k e (omega arith) (λ us v rest p. g (t ∷ us) v rest p)
lift_explained n P Q (Took v rest) k e h g = g [] v rest e h
lift_explained n P Q (Dead rest) k e h g =
    completed Q e.0 (text_example (From e.0 Q) (run_text [] (k e.1)) (g e.0 e.1 [] e.2 (omega arith)) (remaining_text [] (k e.1)))

-- on at most so many tokens, a plan's traces are as Q says
pub record Explains (n : ℕ) (Q : Meaning) (p : TextPlan) : Type 0 where
  pub trace : (ts : List Token) → length ts ≤ n → TextExplained Q (run_text ts p)

gave : (Q : Meaning) (f : Found) → ((rest : List Token) → Q [] f rest) → (ts : List Token) → TextExplained Q (run_text ts (Give f))
gave Q f q [] = q []
gave Q f q (t ∷ ts) = q (t ∷ ts)

pub gives : {n : ℕ} {Q : Meaning} {f : Found} → ((rest : List Token) → Q [] f rest) → Explains n Q (Give f)
gives {Q} {f} q = record { trace = λ ts h. gave Q f q ts }

pub explains_map : {n : ℕ} {P Q : Meaning} {p : TextPlan}
    → ((ts : List Placed) (f : Found) (rest : List Token) → P ts f rest → Q ts f rest) → Explains n P p → Explains n Q p
explains_map {P} {Q} {p} g s = record { trace = λ ts h. text_explained_map P Q (run_text ts p) g (s.trace ts h) }

-- where it matters which tokens follow
pub explains_at : {n : ℕ} {P Q : Meaning} {p : TextPlan} {k : Found → TextPlan} → Explains n P p
    → ((us : List Placed) (f : Found) (rest : List Token) → P us f rest → length rest ≤ n → TextExplained (From us Q) (run_text rest (k f)))
    → Explains n Q (then_text p k)
explains_at {n} {P} {Q} {p} {k} s g = record {
  trace = λ ts h.
      subst (TextExplained Q) (sym (run_then ts p k))
      (bind_explained n P Q (run_text ts p) k (s.trace ts h) (subst (λ rest. length rest ≤ n) (sym (remaining_text ts p)) h) g);
}

pub explains_then : {n : ℕ} {P Q : Meaning} {p : TextPlan} {k : Found → TextPlan} → Explains n P p
    → ((us : List Placed) (f : Found) (rest : List Token) → P us f rest → Explains n (From us Q) (k f)) → Explains n Q (then_text p k)
explains_then s g = explains_at s (λ us f rest p h. (g us f rest p).trace rest h)

pub explains_behind : {n : ℕ} {P : List Placed → Value → Type 0} {Q : Meaning} {p : Plan} {k : Value → TextPlan} → Sound n P p
    → ((us : List Placed) (v : Value) → P us v → Explains n (From us Q) (k v)) → Explains n Q (behind p k)
explains_behind {n} {P} {Q} {p} {k} s g = record {
  trace = λ ts h.
      subst (TextExplained Q) (sym (run_behind ts p k))
      (lift_explained n P Q (run ts p) k (s.trace ts h) (subst (λ rest. length rest ≤ n) (sym (remaining_run ts p)) h)
      (λ us v rest q l. (g us v q).trace rest l));
}
