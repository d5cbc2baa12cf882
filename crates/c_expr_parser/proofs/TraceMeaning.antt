-- What the traces of a plan mean.
use Rattle.std.specs.Prelude.{ℕ, suc, ◌≤◌, List, [], ◌∷◌, ◌++◌, length}
use Rattle.std.proofs.Common.{sym, subst, arith, append_assoc, append-nil}
use Rattle.c_lexer.specs.declared.token.Token.{Token}
use Rattle.c_expr_parser.specs.Placed.{Placed}
use Rattle.c_expr_parser.specs.Plans.{Value, Plan, after, Trace, run, remaining}
use Rattle.c_expr_parser.specs.Plans.Plan.{Return}
use Rattle.c_expr_parser.specs.Plans.Trace.{Put, Took, Dead}
use Rattle.c_expr_parser.proofs.JoinedTraces.{bind, run_after, remaining_run}

-- the tokens that were taken and the value that was read are as Q says; where nothing fits, more tokens would make them so
abbrev pub Explained : (List Placed → Value → Type 0) → Trace → Type 0
Explained Q (Put t tr) = Explained (λ ts v. Q (t ∷ ts) v) tr
Explained Q (Took v rest) = Q [] v
Explained Q (Dead rest) = (more : List Placed) × (v : Value) × Q more v

pub explained_map : (P Q : List Placed → Value → Type 0) (tr : Trace) → ((ts : List Placed) (v : Value) → P ts v → Q ts v)
    → Explained P tr → Explained Q tr
explained_map P Q (Put t tr) f e = explained_map (λ ts v. P (t ∷ ts) v) (λ ts v. Q (t ∷ ts) v) tr (λ ts v p. f (t ∷ ts) v p) e
explained_map P Q (Took v rest) f e = f [] v e
explained_map P Q (Dead rest) f e = (e.0, e.1, f e.0 e.1 e.2)

-- what is explained has an example
example : (Q : List Placed → Value → Type 0) (tr : Trace) → Explained Q tr → (more : List Placed) × (v : Value) × Q more v
example Q (Put t tr) e = let w = example (λ ts v. Q (t ∷ ts) v) tr e in (t ∷ w.0, w.1, w.2)
example Q (Took v rest) e = ([], v, e)
example Q (Dead rest) e = e

completed : (Q : List Placed → Value → Type 0) (front : List Placed)
    → (more : List Placed) × (v : Value) × Q (front ++ more) v → (more : List Placed) × (v : Value) × Q more v
completed Q front w = (front ++ w.0, w.1, w.2)

explained_bind : (n : ℕ) (P Q : List Placed → Value → Type 0) (tr : Trace) (k : Value → List Token → Trace) → Explained P tr
    → length (remaining tr) ≤ n
    → ((ts : List Placed) (v : Value) → P ts v → (rest : List Token) → length rest ≤ n → Explained (λ more u. Q (ts ++ more) u) (k v rest))
    → Explained Q (bind tr k)
explained_bind n P Q (Put t tr) k e h f =
    explained_bind n (λ ts v. P (t ∷ ts) v) (λ ts v. Q (t ∷ ts) v) tr k e (omega arith) (λ ts v p. f (t ∷ ts) v p)
explained_bind n P Q (Took v rest) k e h f = f [] v e rest h
explained_bind n P Q (Dead rest) k e h f =
    completed Q e.0 (example (λ more u. Q (e.0 ++ more) u) (k e.1 []) (f e.0 e.1 e.2 [] (omega arith)))

-- on at most so many tokens, a plan's traces are as Q says
pub record Sound (n : ℕ) (Q : List Placed → Value → Type 0) (p : Plan) : Type 0 where
  pub trace : (ts : List Token) → length ts ≤ n → Explained Q (run ts p)

returned : (Q : List Placed → Value → Type 0) (v : Value) → Q [] v → (ts : List Token) → Explained Q (run ts (Return v))
returned Q v q [] = q
returned Q v q (t ∷ ts) = q

pub sound_return : {n : ℕ} {Q : List Placed → Value → Type 0} {v : Value} → Q [] v → Sound n Q (Return v)
sound_return {Q} {v} q = record { trace = λ ts h. returned Q v q ts }

pub sound_map : {n : ℕ} {P Q : List Placed → Value → Type 0} {p : Plan} → ((ts : List Placed) (v : Value) → P ts v → Q ts v)
    → Sound n P p → Sound n Q p
sound_map {P} {Q} {p} f s = record { trace = λ ts h. explained_map P Q (run ts p) f (s.trace ts h) }

pub sound_after : {n : ℕ} {P Q : List Placed → Value → Type 0} {p : Plan} {k : Value → Plan} → Sound n P p
    → ((ts : List Placed) (v : Value) → P ts v → Sound n (λ more u. Q (ts ++ more) u) (k v)) → Sound n Q (after p k)
sound_after {n} {P} {Q} {p} {k} s f = record {
  trace = λ ts h.
      subst (Explained Q) (sym (run_after ts p k))
      (explained_bind n P Q (run ts p) (λ v rest. run rest (k v)) (s.trace ts h) (subst (λ rest. length rest ≤ n) (sym (remaining_run ts p)) h)
      (λ more v q rest l. (f more v q).trace rest l));
}

-- after some tokens, a plan's traces are as Q says
abbrev pub Behind : ℕ → (List Placed → Value → Type 0) → List Placed → Plan → Type 0
Behind n Q front p = Sound n (λ more v. Q (front ++ more) v) p

pub behind_return : {n : ℕ} {v : Value} (Q : List Placed → Value → Type 0) (front : List Placed) → Q front v → Behind n Q front (Return v)
behind_return {v} Q front q = sound_return (subst (λ ts. Q ts v) (sym (append-nil front)) q)

regrouped : {n : ℕ} {p : Plan} (Q : List Placed → Value → Type 0) (front ts : List Placed) → Behind n Q (front ++ ts) p
    → Sound n (λ more u. Q (front ++ (ts ++ more)) u) p
regrouped Q front ts s = sound_map (λ more v q. subst (λ l. Q l v) (append_assoc front ts more) q) s

pub behind_after : {n : ℕ} (P Q : List Placed → Value → Type 0) (p : Plan) (k : Value → Plan) (front : List Placed) → Behind n P front p
    → ((ts : List Placed) (v : Value) → P ts v → Behind n Q ts (k v)) → Behind n Q front (after p k)
behind_after P Q p k front s f =
    sound_after {p = p} {k = k} s (λ ts v q. regrouped Q front ts (f (front ++ ts) v q))

-- on fewer tokens it's so all the more
pub sound_fewer : {n : ℕ} {Q : List Placed → Value → Type 0} {p : Plan} → Sound (suc n) Q p → Sound n Q p
sound_fewer {n} s = record { trace = λ ts h. s.trace ts (omega arith) }
