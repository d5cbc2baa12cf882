-- What a plan's trace took, how it ends, and where it is cut.
use Rattle.std.specs.Prelude.{nat_le, if◌then◌else◌}
use Rattle.std.proofs.Common.{◌≡◌, ◌<◌, ◌≤◌, ◌+◌, ℕ, zero, suc, true, false, List, [], ◌∷◌, ◌++◌, length, take, Option, Some, None, refl, ap, ◌∙◌, subst, arith}
use Rattle.std.proofs.lemmas.Bool.{leb-true, leb-false}
use Rattle.std.proofs.lemmas.List.Elements.{All-nil, All-cons, All-head, All-tail}
use Rattle.c_lexer.specs.declared.token.Token.{Token}
use Rattle.c_expr_parser.specs.Placed.{Placed, tokens}
use Rattle.c_expr_parser.specs.Readings.{most_depth, IsShallow}
use Rattle.c_expr_parser.specs.Plans.{Value, Plan, after, takes, left_out, depth_of, Trace, passed, met, finish, run, remaining, Parsed, cut}
use Rattle.c_expr_parser.specs.Plans.Plan.{Return, Then}
use Rattle.c_expr_parser.specs.Plans.Trace.{Put, Took, Dead}
use Rattle.c_expr_parser.specs.Plans.Parsed.{read, stuck, deep}
use Rattle.c_expr_parser.proofs.JoinedTraces.{remaining_run}
use Rattle.c_expr_parser.proofs.CompletePlans.{puts}
use Rattle.c_expr_parser.proofs.TraceMeaning.{Explained}

-- the tokens that a trace took
abbrev pub placed_of : Trace → List Placed
placed_of (Put t tr) = t ∷ placed_of tr
placed_of (Took v rest) = []
placed_of (Dead rest) = []

-- how it ends after them
abbrev pub end_of : Trace → Trace
end_of (Put t tr) = end_of tr
end_of (Took v rest) = Took v rest
end_of (Dead rest) = Dead rest

pub placed_puts : (ts : List Placed) (v : Value) (rest : List Token) → placed_of (puts ts (Took v rest)) ≡ ts
placed_puts [] v rest = refl
placed_puts (t ∷ ts) v rest = ap (λ us. t ∷ us) (placed_puts ts v rest)

pub end_puts : (ts : List Placed) (v : Value) (rest : List Token) → end_of (puts ts (Took v rest)) ≡ Took v rest
end_puts [] v rest = refl
end_puts (t ∷ ts) v rest = end_puts ts v rest

-- the tokens that a trace took, and those that it left
pub took_and_left : (tr : Trace) → tokens (placed_of tr) ++ remaining (end_of tr) ≡ remaining tr
took_and_left (Put t tr) = ap (λ ts. t.token ∷ ts) (took_and_left tr)
took_and_left (Took v rest) = refl
took_and_left (Dead rest) = refl

-- a plan looks at a token when it takes or refuses it: what it takes of a prefix depends on that prefix alone
met_same : (n : ℕ) (x : Placed) (f g : Plan → Trace) (a b : Trace) (o : Option Plan)
    → ((p : Plan) → take n (placed_of (f p)) ≡ take n (placed_of (g p))) → take (suc n) (placed_of a) ≡ take (suc n) (placed_of b)
    → take (suc n) (placed_of (met x f a o)) ≡ take (suc n) (placed_of (met x g b o))
met_same n x f g a b (Some p) e other = ap (λ us. x ∷ us) (e p)
met_same n x f g a b None e other = other

passed_same : (n : ℕ) (ts us : List Token) (f g : Value → Trace) (o : Option Value)
    → ((v : Value) → take (suc n) (placed_of (f v)) ≡ take (suc n) (placed_of (g v)))
    → take (suc n) (placed_of (passed ts o f)) ≡ take (suc n) (placed_of (passed us o g))
passed_same n ts us f g (Some v) e = e v
passed_same n ts us f g None e = refl

step_same : (n : ℕ) (t : Token) (ts us : List Token)
    → ((p : Plan) → take n (placed_of (run ts p)) ≡ take n (placed_of (run us p))) → (p : Plan)
    → take (suc n) (placed_of (run (t ∷ ts) p)) ≡ take (suc n) (placed_of (run (t ∷ us) p))
step_same n t ts us later (Return v) = refl
step_same n t ts us later (Then w k) =
    met_same n (record { token = t; depth = depth_of w }) (λ p. run ts (after p k)) (λ p. run us (after p k))
    (passed (t ∷ ts) (left_out w) (λ v. run (t ∷ ts) (k v))) (passed (t ∷ us) (left_out w) (λ v. run (t ∷ us) (k v)))
    (takes w t) (λ p. later (after p k))
    (passed_same n (t ∷ ts) (t ∷ us) (λ v. run (t ∷ ts) (k v)) (λ v. run (t ∷ us) (k v)) (left_out w) (λ v. step_same n t ts us later (k v)))

same_first : (t u : Token) (ts us : List Token) → t ∷ ts ≡ u ∷ us → (t ≡ u) × (ts ≡ us)
same_first t u ts us e = (cc, cc)

pub run_same : (n : ℕ) (ts us : List Token) (p : Plan) → take n ts ≡ take n us
    → take n (placed_of (run ts p)) ≡ take n (placed_of (run us p))
run_same zero ts us p e = refl
run_same (suc n) [] [] p e = refl
run_same (suc n) [] (u ∷ us) p e = absurd (cc)
run_same (suc n) (t ∷ ts) [] p e = absurd (cc)
run_same (suc n) (t ∷ ts) (u ∷ us) p e =
    let same = same_first t u (take n ts) (take n us) e in
    step_same n t ts us (λ q. run_same n ts us q same.1) p
    ∙ ap (λ x. take (suc n) (placed_of (run (x ∷ us) p))) same.0

-- where the first trace reads all its tokens, the second isn't dead at these
abbrev Lives : List Token → Trace → Trace → Type 0
Lives us a b = (v : Value) → end_of a ≡ Took v [] → ¬ (end_of b ≡ Dead us)

lives_by_length : (us : List Token) (a b : Trace) → length (remaining b) < length us → Lives us a b
lives_by_length us a (Put t b) h v e d = lives_by_length us a b (omega arith) v e d
lives_by_length us a (Took w rest) h v e d = absurd (cc)
lives_by_length us a (Dead rest) h v e d = let same : rest ≡ us = cc in absurd (omega (arith, ap length same))

met_lives : (us : List Token) (x : Placed) (f g : Plan → Trace) (a b : Trace) (o : Option Plan)
    → ((p : Plan) → Lives us (f p) (g p)) → Lives us a b → Lives us (met x f a o) (met x g b o)
met_lives us x f g a b (Some p) e other = e p
met_lives us x f g a b None e other = other

passed_lives : (us here there : List Token) (f g : Value → Trace) (o : Option Value) → ((v : Value) → Lives us (f v) (g v))
    → Lives us (passed here o f) (passed there o g)
passed_lives us here there f g (Some v) e = e v
passed_lives us here there f g None e = λ v h d. absurd (cc)

met_at_end : (us : List Token) (x : Placed) (f : Plan → Trace) (a b : Trace) (o : Option Plan)
    → ((p : Plan) → length (remaining (f p)) < length us) → Lives us a b → Lives us a (met x f b o)
met_at_end us x f a b (Some p) e other = lives_by_length us a (f p) (e p)
met_at_end us x f a b None e other = other

end_lives : (u : Token) (us : List Token) (p : Plan) → Lives (u ∷ us) (finish p) (run (u ∷ us) p)
end_lives u us (Return w) = λ v e d. absurd (cc)
end_lives u us (Then w k) =
    met_at_end (u ∷ us) (record { token = u; depth = depth_of w }) (λ p. run us (after p k))
    (passed [] (left_out w) (λ v. finish (k v))) (passed (u ∷ us) (left_out w) (λ v. run (u ∷ us) (k v))) (takes w u)
    (λ p. omega (arith, ap length (remaining_run us (after p k))))
    (passed_lives (u ∷ us) [] (u ∷ us) (λ v. finish (k v)) (λ v. run (u ∷ us) (k v)) (left_out w) (λ v. end_lives u us (k v)))

step_lives : (t : Token) (ts us more : List Token) → ((p : Plan) → Lives us (run ts p) (run more p)) → (p : Plan)
    → Lives us (run (t ∷ ts) p) (run (t ∷ more) p)
step_lives t ts us more later (Return w) = λ v e d. absurd (cc)
step_lives t ts us more later (Then w k) =
    met_lives us (record { token = t; depth = depth_of w }) (λ p. run ts (after p k)) (λ p. run more (after p k))
    (passed (t ∷ ts) (left_out w) (λ v. run (t ∷ ts) (k v))) (passed (t ∷ more) (left_out w) (λ v. run (t ∷ more) (k v))) (takes w t)
    (λ p. later (after p k))
    (passed_lives us (t ∷ ts) (t ∷ more) (λ v. run (t ∷ ts) (k v)) (λ v. run (t ∷ more) (k v)) (left_out w)
    (λ v. step_lives t ts us more later (k v)))

-- a plan that reads all of some tokens isn't dead after them where others follow
pub run_lives : (ts : List Token) (u : Token) (us : List Token) (p : Plan) → Lives (u ∷ us) (run ts p) (run (ts ++ u ∷ us) p)
run_lives [] u us p = end_lives u us p
run_lives (t ∷ ts) u us p = step_lives t ts (u ∷ us) (ts ++ u ∷ us) (λ q. run_lives ts u us q) p

-- what is explained begins a phrase, and is one where it was read
pub explained_begins : (Q : List Placed → Value → Type 0) (tr : Trace) → Explained Q tr
    → (more : List Placed) × (v : Value) × Q (placed_of tr ++ more) v
explained_begins Q (Put t tr) e = explained_begins (λ ts v. Q (t ∷ ts) v) tr e
explained_begins Q (Took v rest) e = ([], v, e)
explained_begins Q (Dead rest) e = e

pub explained_is : (Q : List Placed → Value → Type 0) (tr : Trace) (v : Value) (rest : List Token) → Explained Q tr → end_of tr ≡ Took v rest
    → Q (placed_of tr) v
explained_is Q (Put t tr) v rest e h = explained_is (λ ts v. Q (t ∷ ts) v) tr v rest e h
explained_is Q (Took w us) v rest e h = let same : w ≡ v = cc in subst (λ x. Q [] x) same e
explained_is Q (Dead us) v rest e h = absurd (cc)

-- the token at a place is too deep, and none before it
abbrev pub SinksAt : List Placed → ℕ → Type 0
SinksAt [] k = ⊥
SinksAt (t ∷ ts) zero = most_depth < t.depth
SinksAt (t ∷ ts) (suc k) = (t.depth ≤ most_depth) × SinksAt ts k

pub sinks_once : (ts : List Placed) (j k : ℕ) → SinksAt ts j → SinksAt ts k → j ≡ k
sinks_once [] j k a b = absurd a
sinks_once (t ∷ ts) zero zero a b = refl
sinks_once (t ∷ ts) zero (suc k) a b = absurd (omega (arith, a, b.0))
sinks_once (t ∷ ts) (suc j) zero a b = absurd (omega (arith, a.0, b))
sinks_once (t ∷ ts) (suc j) (suc k) a b = ap suc (sinks_once ts j k a.1 b.1)

pub shallow_not_sinks : (ts : List Placed) (k : ℕ) → IsShallow ts → ¬ SinksAt ts k
shallow_not_sinks [] k s a = a
shallow_not_sinks (t ∷ ts) zero s a =
    let here : t.depth ≤ most_depth = All-head (λ x. x.depth ≤ most_depth) t ts s in absurd (omega (arith, a))
shallow_not_sinks (t ∷ ts) (suc k) s a = shallow_not_sinks ts k (All-tail (λ x. x.depth ≤ most_depth) t ts s) a.1

pub sinks_within : (ts : List Placed) (k : ℕ) → SinksAt ts k → k < length ts
sinks_within [] k a = absurd a
sinks_within (t ∷ ts) zero a = omega arith
sinks_within (t ∷ ts) (suc k) a = let h : k < length ts = sinks_within ts k a.1 in omega arith

-- the tokens around it
pub record Sunk (ts : List Placed) (k : ℕ) : Type 0 where
  pub above : List Placed
  pub last : Placed
  pub more : List Placed
  pub are : ts ≡ above ++ last ∷ more
  pub count : length above ≡ k
  pub shallow : IsShallow above
  pub low : most_depth < last.depth

pub sunk : (ts : List Placed) (k : ℕ) → SinksAt ts k → Sunk ts k
sunk [] k a = absurd a
sunk (t ∷ ts) zero a = record {
  above = [];
  last = t;
  more = ts;
  are = refl;
  count = refl;
  shallow = All-nil (λ x. x.depth ≤ most_depth);
  low = a;
}
sunk (t ∷ ts) (suc k) a = let s = sunk ts k a.1 in record {
  above = t ∷ s.above;
  last = s.last;
  more = s.more;
  are = ap (λ us. t ∷ us) s.are;
  count = ap suc s.count;
  shallow = All-cons (λ x. x.depth ≤ most_depth) t s.above a.0 s.shallow;
  low = s.low;
}

pub sinks_behind : (above : List Placed) (last : Placed) (more : List Placed) → IsShallow above → most_depth < last.depth
    → SinksAt (above ++ last ∷ more) (length above)
sinks_behind [] last more s low = low
sinks_behind (t ∷ above) last more s low =
    (All-head (λ x. x.depth ≤ most_depth) t above s, sinks_behind above last more (All-tail (λ x. x.depth ≤ most_depth) t above s) low)

-- what a trace was by where it is cut
abbrev pub IsCut : Trace → Parsed → Type 0
IsCut tr (read v rest) = IsShallow (placed_of tr) × (end_of tr ≡ Took v rest)
IsCut tr (stuck left) = (rest : List Token) × IsShallow (placed_of tr) × (end_of tr ≡ Dead rest) × (length rest ≡ left)
IsCut tr (deep left) = (k : ℕ) × SinksAt (placed_of tr) k × (k + left ≡ length (remaining tr))

put_cut : (t : Placed) (tr : Trace) (m : Parsed) → t.depth ≤ most_depth → IsCut tr m → IsCut (Put t tr) m
put_cut t tr (read v rest) h c = (All-cons (λ x. x.depth ≤ most_depth) t (placed_of tr) h c.0, c.1)
put_cut t tr (stuck left) h c = (c.0, All-cons (λ x. x.depth ≤ most_depth) t (placed_of tr) h c.1, c.2, c.3)
put_cut t tr (deep left) h c = (suc c.0, (h, c.1), omega (arith, c.2))

pub was_cut : (tr : Trace) → IsCut tr (cut tr)
was_cut (Took v rest) = (All-nil (λ x. x.depth ≤ most_depth), refl)
was_cut (Dead rest) = (rest, All-nil (λ x. x.depth ≤ most_depth), refl, refl)
was_cut (Put t tr) = elim (nat_le t.depth most_depth) as (λ b. nat_le t.depth most_depth ≡ b
    → IsCut (Put t tr) (if b then cut tr else deep (length (remaining (Put t tr))))) [
      | true ↦ λ e. put_cut t tr (cut tr) (leb-true t.depth most_depth e) (was_cut tr)
      | false ↦ λ e. (0, leb-false t.depth most_depth e, omega arith)
    ] refl
