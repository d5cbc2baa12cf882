-- What a plan gives on tokens, by its first token and by its parts.
use Rattle.std.proofs.Common.{◌≡◌, ◌<◌, ◌≤◌, ℕ, true, false, List, [], ◌∷◌, length, Some, None, refl, sym, ap, ◌∙◌, arith, le-leb}
use Rattle.std.specs.Prelude.{nat_le, if◌then◌else◌}
use Rattle.std.proofs.lemmas.Bool.{leb-true}
use Rattle.c_lexer.specs.declared.token.Token.{Token}
use Rattle.c_expr_parser.specs.Readings.{most_depth}
use Rattle.c_expr_parser.specs.Plans.{Value, Wanted, Plan, Return, Then, after, depth_of, takes, left_out, Trace, Put, Took, Dead, run, remaining, Parsed, read, stuck, deep, at_depth, cut, parsed, reads}
use Rattle.c_expr_parser.proofs.JoinedTraces.{bind, run_after, remaining_run}

-- what is carried out at a token: by what is wanted, and by what may be left out
run_takes : (w : Wanted) (k : Value → Plan) (t : Token) (ts : List Token) (p : Plan) → takes w t ≡ Some p
    → run (t ∷ ts) (Then w k) ≡ Put (record { token = t; depth = depth_of w }) (run ts (after p k))
run_takes w k t ts p e = rw e refl

run_left : (w : Wanted) (k : Value → Plan) (t : Token) (ts : List Token) (v : Value) → takes w t ≡ None → left_out w ≡ Some v
    → run (t ∷ ts) (Then w k) ≡ run (t ∷ ts) (k v)
run_left w k t ts v e f = rw (e, f) refl

run_dead : (w : Wanted) (k : Value → Plan) (t : Token) (ts : List Token) → takes w t ≡ None → left_out w ≡ None
    → run (t ∷ ts) (Then w k) ≡ Dead (t ∷ ts)
run_dead w k t ts e f = rw (e, f) refl

-- a token that is too deep, and one that isn't
at_most : (d : ℕ) → most_depth < d → nat_le d most_depth ≡ false
at_most d h = elim (nat_le d most_depth) as (λ b. nat_le d most_depth ≡ b → nat_le d most_depth ≡ false) [
  | true ↦ λ e. absurd (omega (arith, leb-true d most_depth e, h))
  | false ↦ λ e. e
] refl

pub sinks : (d left : ℕ) (behind : Parsed) → most_depth < d → at_depth d left behind ≡ deep left
sinks d left behind h = rw (at_most d h) refl

pub fits : (d left : ℕ) (behind : Parsed) → d ≤ most_depth → at_depth d left behind ≡ behind
fits d left behind h = rw (le-leb d most_depth h) refl

-- one thing after another
abbrev pub next : Parsed → (Value → List Token → Parsed) → Parsed
next (read v rest) k = k v rest
next (stuck left) k = stuck left
next (deep left) k = deep left

pub next_at : (d left : ℕ) (m : Parsed) (k : Value → List Token → Parsed) → next (at_depth d left m) k ≡ at_depth d left (next m k)
next_at d left m k = elim (nat_le d most_depth) as (λ b. next (if b then m else deep left) k ≡ (if b then next m k else deep left)) [
  | true ↦ refl
  | false ↦ refl
]

remaining_bind : (tr : Trace) (k : Value → List Token → Trace) → ((v : Value) (rest : List Token) → remaining (k v rest) ≡ rest)
    → remaining (bind tr k) ≡ remaining tr
remaining_bind (Put t tr) k e = ap (λ rest. t.token ∷ rest) (remaining_bind tr k e)
remaining_bind (Took v rest) k e = e v rest
remaining_bind (Dead rest) k e = refl

cut_bind : (tr : Trace) (k : Value → List Token → Trace) → ((v : Value) (rest : List Token) → remaining (k v rest) ≡ rest)
    → cut (bind tr k) ≡ next (cut tr) (λ v rest. cut (k v rest))
cut_bind (Put t tr) k e =
    ap (λ rest. at_depth t.depth (length (t.token ∷ rest)) (cut (bind tr k))) (remaining_bind tr k e)
    ∙ ap (at_depth t.depth (length (remaining (Put t tr)))) (cut_bind tr k e)
    ∙ sym (next_at t.depth (length (remaining (Put t tr))) (cut tr) (λ v rest. cut (k v rest)))
cut_bind (Took v rest) k e = refl
cut_bind (Dead rest) k e = refl

-- a plan after another, and after one thing that is wanted
pub parsed_after : (p : Plan) (k : Value → Plan) (ts : List Token) → parsed (after p k) ts ≡ next (parsed p ts) (λ v rest. parsed (k v) rest)
unfolding parsed
parsed_after p k ts = ap cut (run_after ts p k) ∙ cut_bind (run ts p) (λ v rest. run rest (k v)) (λ v rest. remaining_run rest (k v))

pub parsed_then : (w : Wanted) (k : Value → Plan) (ts : List Token) → parsed (Then w k) ts ≡ next (reads w ts) (λ v rest. parsed (k v) rest)
parsed_then w k ts = parsed_after (Then w Return) k ts

pub parsed_return : (v : Value) (ts : List Token) → parsed (Return v) ts ≡ read v ts
unfolding parsed
parsed_return v [] = refl
parsed_return v (t ∷ ts) = refl

-- by the first token
pub parsed_takes : (w : Wanted) (k : Value → Plan) (t : Token) (ts : List Token) (p : Plan) → takes w t ≡ Some p
    → parsed (Then w k) (t ∷ ts) ≡ at_depth (depth_of w) (length (t ∷ ts)) (parsed (after p k) ts)
unfolding parsed
parsed_takes w k t ts p e =
    ap cut (run_takes w k t ts p e)
    ∙ ap (λ rest. at_depth (depth_of w) (length (t ∷ rest)) (cut (run ts (after p k)))) (remaining_run ts (after p k))

pub parsed_left : (w : Wanted) (k : Value → Plan) (t : Token) (ts : List Token) (v : Value) → takes w t ≡ None → left_out w ≡ Some v
    → parsed (Then w k) (t ∷ ts) ≡ parsed (k v) (t ∷ ts)
unfolding parsed
parsed_left w k t ts v e f = ap cut (run_left w k t ts v e f)

pub parsed_dead : (w : Wanted) (k : Value → Plan) (t : Token) (ts : List Token) → takes w t ≡ None → left_out w ≡ None
    → parsed (Then w k) (t ∷ ts) ≡ stuck (length (t ∷ ts))
unfolding parsed
parsed_dead w k t ts e f = ap cut (run_dead w k t ts e f)

-- where there is none
pub parsed_end_left : (w : Wanted) (k : Value → Plan) (v : Value) → left_out w ≡ Some v → parsed (Then w k) [] ≡ parsed (k v) []
unfolding parsed
parsed_end_left w k v f = rw f refl

pub parsed_end : (w : Wanted) (k : Value → Plan) → left_out w ≡ None → parsed (Then w k) [] ≡ stuck 0
unfolding parsed
parsed_end w k f = rw f refl

-- something that is one token
pub reads_one : (w : Wanted) (tokens : List Token) (t : Token) (ts : List Token) (v : Value) → tokens ≡ t ∷ ts → takes w t ≡ Some (Return v)
    → depth_of w ≤ most_depth → reads w tokens ≡ read v ts
reads_one w tokens t ts v are e shallow =
    rw are (parsed_takes w Return t ts (Return v) e ∙ fits _ _ _ shallow ∙ parsed_return v ts)

pub reads_deep : (w : Wanted) (tokens : List Token) (t : Token) (ts : List Token) (p : Plan) → tokens ≡ t ∷ ts → takes w t ≡ Some p
    → most_depth < depth_of w → reads w tokens ≡ deep (length tokens)
reads_deep w tokens t ts p are e low = rw are (parsed_takes w Return t ts p e ∙ sinks _ _ _ low)

pub reads_dead : (w : Wanted) (tokens : List Token) (t : Token) (ts : List Token) → tokens ≡ t ∷ ts → takes w t ≡ None → left_out w ≡ None
    → reads w tokens ≡ stuck (length tokens)
reads_dead w tokens t ts are e f = rw are (parsed_dead w Return t ts e f)

pub no_items : (ts : List Token) → length ts ≡ 0 → ts ≡ []
no_items [] h = refl
no_items (t ∷ ts) h = absurd (omega (arith, h))

pub reads_end : (w : Wanted) (tokens : List Token) → length tokens ≡ 0 → left_out w ≡ None → reads w tokens ≡ stuck 0
reads_end w tokens none f = rw (no_items tokens none) (parsed_end w Return f)
