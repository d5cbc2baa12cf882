-- What a plan's trace was by where it was cut, and what the first tokens alone say of it.
use Rattle.std.specs.Prelude.{◌≡◌, ◌<◌, ◌≤◌, ◌+◌, ℕ, zero, suc, true, false, nat_le, if◌then◌else◌, List, [], ◌∷◌, ◌++◌, length, take, Option, Some, None}
use Rattle.std.proofs.Common.{refl, ap, ◌∙◌, arith}
use Rattle.std.proofs.lemmas.Bool.{leb-true, leb-false}
use Rattle.std.proofs.lemmas.List.Elements.{All-nil, All-cons}
use Rattle.c_lexer.specs.declared.token.Token.{Token}
use Rattle.c_expr_parser.specs.Placed.{Placed, tokens}
use Rattle.c_expr_parser.specs.Readings.{most_depth, IsShallow}
use Rattle.c_parser.specs.TextPlans.{Found, TextPlan, TextTrace, TextParsed, then_text, text_depth, text_takes, text_left_out, text_passed, text_met, run_text, text_remaining, text_cut}
use Rattle.c_parser.specs.TextPlans.TextPlan.{Give, Want}
use Rattle.c_parser.specs.TextPlans.TextTrace.{Next, Gave, Stopped}
use Rattle.c_parser.specs.TextPlans.TextParsed.{found, stuck_at, deep_at}
use Rattle.c_parser.proofs.JoinedTraces.{nexts, text_placed}
use Rattle.c_parser.proofs.TraceMeaning.{Meaning, From, TextExplained}

-- the tokens that were taken before the trace was cut, and what became of the others
abbrev pub IsCut : TextTrace → TextParsed → Type 0
IsCut tr (found f rest) = (ps : List Placed) × IsShallow ps × (tr ≡ nexts ps (Gave f rest))
IsCut tr (stuck_at left) = (ps : List Placed) × (rest : List Token) × IsShallow ps × (tr ≡ nexts ps (Stopped rest)) × (length rest ≡ left)
IsCut tr (deep_at left) =
    (ps : List Placed) × (last : Placed) × (more : TextTrace) × IsShallow ps × (most_depth < last.depth) × (tr ≡ nexts ps (Next last more))
    × (suc (length (text_remaining more)) ≡ left)

next_cut : (t : Placed) (tr : TextTrace) (m : TextParsed) → t.depth ≤ most_depth → IsCut tr m → IsCut (Next t tr) m
next_cut t tr (found f rest) h c = (t ∷ c.0, All-cons (λ x. x.depth ≤ most_depth) t c.0 h c.1, ap (Next t) c.2)
next_cut t tr (stuck_at left) h c = (t ∷ c.0, c.1, All-cons (λ x. x.depth ≤ most_depth) t c.0 h c.2, ap (Next t) c.3, c.4)
next_cut t tr (deep_at left) h c =
    (t ∷ c.0, c.1, c.2, All-cons (λ x. x.depth ≤ most_depth) t c.0 h c.3, c.4, ap (Next t) c.5, c.6)

pub was_cut : (tr : TextTrace) → IsCut tr (text_cut tr)
was_cut (Gave f rest) = ([], All-nil (λ x. x.depth ≤ most_depth), refl)
was_cut (Stopped rest) = ([], rest, All-nil (λ x. x.depth ≤ most_depth), refl, refl)
was_cut (Next t tr) = elim (nat_le t.depth most_depth) as (λ b. nat_le t.depth most_depth ≡ b
    → IsCut (Next t tr) (if b then text_cut tr else deep_at (length (text_remaining (Next t tr))))) [
      | true ↦ λ e. next_cut t tr (text_cut tr) (leb-true t.depth most_depth e) (was_cut tr)
      | false ↦ λ e. ([], t, tr, All-nil (λ x. x.depth ≤ most_depth), leb-false t.depth most_depth e, refl, refl)
    ] refl

-- the tokens before a trace
pub remaining_nexts : (ps : List Placed) (tr : TextTrace) → text_remaining (nexts ps tr) ≡ tokens ps ++ text_remaining tr
remaining_nexts [] tr = refl
remaining_nexts (t ∷ ps) tr = ap (λ ts. t.token ∷ ts) (remaining_nexts ps tr)

pub explained_nexts : (Q : Meaning) (ps : List Placed) (tr : TextTrace) → TextExplained Q (nexts ps tr) → TextExplained (From ps Q) tr
explained_nexts Q [] tr e = e
explained_nexts Q (t ∷ ps) tr e = explained_nexts (λ ts f rest. Q (t ∷ ts) f rest) ps tr e

-- what is explained begins with the tokens that were taken
pub explained_begins : (Q : Meaning) (tr : TextTrace) → TextExplained Q tr
    → (more : List Placed) × (f : Found) × (rest : List Token) × Q (text_placed tr ++ more) f rest
explained_begins Q (Next t tr) e = explained_begins (λ ts f rest. Q (t ∷ ts) f rest) tr e
explained_begins Q (Gave f rest) e = ([], f, rest, e)
explained_begins Q (Stopped rest) e = (e.0, e.1, [], e.2)

-- the first tokens of a trace, and how it ends where that is seen by them
abbrev pub first_of : ℕ → TextTrace → TextTrace
first_of zero tr = Stopped []
first_of (suc n) (Next t tr) = Next t (first_of n tr)
first_of (suc n) (Gave f rest) = Gave f (take (suc n) rest)
first_of (suc n) (Stopped rest) = Stopped (take (suc n) rest)

met_first : (n : ℕ) (x : Placed) (f g : TextPlan → TextTrace) (a b : TextTrace) (o : Option TextPlan)
    → ((p : TextPlan) → first_of n (f p) ≡ first_of n (g p)) → first_of (suc n) a ≡ first_of (suc n) b
    → first_of (suc n) (text_met x f a o) ≡ first_of (suc n) (text_met x g b o)
met_first n x f g a b (Some p) e other = ap (Next x) (e p)
met_first n x f g a b None e other = other

passed_first : (n : ℕ) (ts us : List Token) (f g : Found → TextTrace) (o : Option Found) → take (suc n) ts ≡ take (suc n) us
    → ((v : Found) → first_of (suc n) (f v) ≡ first_of (suc n) (g v))
    → first_of (suc n) (text_passed ts o f) ≡ first_of (suc n) (text_passed us o g)
passed_first n ts us f g (Some v) h e = e v
passed_first n ts us f g None h e = ap Stopped h

step_first : (n : ℕ) (t : Token) (ts us : List Token) → take n ts ≡ take n us
    → ((p : TextPlan) → first_of n (run_text ts p) ≡ first_of n (run_text us p)) → (p : TextPlan)
    → first_of (suc n) (run_text (t ∷ ts) p) ≡ first_of (suc n) (run_text (t ∷ us) p)
step_first n t ts us h later (Give f) = ap (λ l. Gave f (t ∷ l)) h
step_first n t ts us h later (Want w k) =
    met_first n (record { token = t; depth = text_depth w }) (λ p. run_text ts (then_text p k)) (λ p. run_text us (then_text p k))
    (text_passed (t ∷ ts) (text_left_out w) (λ f. run_text (t ∷ ts) (k f))) (text_passed (t ∷ us) (text_left_out w) (λ f. run_text (t ∷ us) (k f)))
    (text_takes w t) (λ p. later (then_text p k))
    (passed_first n (t ∷ ts) (t ∷ us) (λ f. run_text (t ∷ ts) (k f)) (λ f. run_text (t ∷ us) (k f)) (text_left_out w)
    (ap (λ l. t ∷ l) h) (λ f. step_first n t ts us h later (k f)))

same_first : (t u : Token) (ts us : List Token) → t ∷ ts ≡ u ∷ us → (t ≡ u) × (ts ≡ us)
same_first t u ts us e = (cc, cc)

-- each decision of a plan depends on the tokens up to it alone
pub run_first : (n : ℕ) (ts us : List Token) (p : TextPlan) → take n ts ≡ take n us
    → first_of n (run_text ts p) ≡ first_of n (run_text us p)
run_first zero ts us p e = refl
run_first (suc n) [] [] p e = refl
run_first (suc n) [] (u ∷ us) p e = absurd (cc)
run_first (suc n) (t ∷ ts) [] p e = absurd (cc)
run_first (suc n) (t ∷ ts) (u ∷ us) p e =
    let same = same_first t u (take n ts) (take n us) e in
    step_first n t ts us same.1 (λ q. run_first n ts us q same.1) p
    ∙ ap (λ x. first_of (suc n) (run_text (x ∷ us) p)) same.0

-- so many tokens and one more after some
abbrev pub beyond : List Placed → ℕ → ℕ
beyond [] n = suc n
beyond (t ∷ ps) n = suc (beyond ps n)

pub beyond_is : (ps : List Placed) (n : ℕ) → beyond ps n ≡ length ps + n + 1
beyond_is [] n = omega arith
beyond_is (t ∷ ps) n = omega (arith, beyond_is ps n)

next_same : (t u : Placed) (a b : TextTrace) → Next t a ≡ Next u b → (t ≡ u) × (a ≡ b)
next_same t u a b e = (cc, cc)

gave_rest : (f g : Found) (r s : List Token) → Gave f r ≡ Gave g s → r ≡ s
gave_rest f g r s e = cc

-- what gave something after the same tokens took the same of them
pub gave_same : (ps qs : List Placed) (f g : Found) (r s : List Token) (n : ℕ)
    → first_of (beyond ps n) (nexts ps (Gave f r)) ≡ first_of (beyond ps n) (nexts qs (Gave g s))
    → (ps ≡ qs) × (take (suc n) r ≡ take (suc n) s)
gave_same [] [] f g r s n e = (refl, gave_rest f g (take (suc n) r) (take (suc n) s) e)
gave_same [] (u ∷ qs) f g r s n e = absurd (cc)
gave_same (t ∷ ps) [] f g r s n e = absurd (cc)
gave_same (t ∷ ps) (u ∷ qs) f g r s n e =
    let first = next_same t u (first_of (beyond ps n) (nexts ps (Gave f r))) (first_of (beyond ps n) (nexts qs (Gave g s))) e in
    let later = gave_same ps qs f g r s n first.1 in
    (λ i. first.0 i ∷ later.0 i, later.1)

-- and where nothing fits after some tokens, nothing is given after them or others
pub stopped_differs : (ps qs : List Placed) (g : Found) (r s : List Token) (n : ℕ)
    → ¬ (first_of (beyond ps n) (nexts ps (Stopped r)) ≡ first_of (beyond ps n) (nexts qs (Gave g s)))
stopped_differs [] [] g r s n e = absurd (cc)
stopped_differs [] (u ∷ qs) g r s n e = absurd (cc)
stopped_differs (t ∷ ps) [] g r s n e = absurd (cc)
stopped_differs (t ∷ ps) (u ∷ qs) g r s n e =
    stopped_differs ps qs g r s n
    (next_same t u (first_of (beyond ps n) (nexts ps (Stopped r))) (first_of (beyond ps n) (nexts qs (Gave g s))) e).1

pub nothing_gives : (qs : List Placed) (g : Found) (s : List Token) (n : ℕ)
    → ¬ (first_of (beyond qs n) (Stopped []) ≡ first_of (beyond qs n) (nexts qs (Gave g s)))
nothing_gives [] g s n e = absurd (cc)
nothing_gives (u ∷ qs) g s n e = absurd (cc)
