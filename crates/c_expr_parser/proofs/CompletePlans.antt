-- How carried-out plans are put together: what a plan does on the tokens of a phrase with others after them.
use Rattle.std.specs.Prelude.{◌≡◌, ℕ, List, [], ◌∷◌, ◌++◌, Some, None}
use Rattle.std.proofs.Common.{refl, ap, sym, subst, ◌∙◌}
use Rattle.std.proofs.Math.Path.{fun_ext}
use Rattle.c_lexer.specs.declared.token.Token.{Token}
use Rattle.c_expr_parser.specs.Placed.{Placed, tokens}
use Rattle.c_expr_parser.specs.Plans.{Value, Wanted, Plan, Trace, after, depth_of, takes, left_out, run}
use Rattle.c_expr_parser.specs.Plans.Plan.{Return, Then}
use Rattle.c_expr_parser.specs.Plans.Trace.{Put, Dead}

-- placed tokens before a trace
abbrev pub puts : List Placed → Trace → Trace
puts [] tr = tr
puts (t ∷ ts) tr = Put t (puts ts tr)

-- carrying out p on the tokens of ts, with others after them, takes these and goes on with q at the others
pub record Reaches (ts : List Placed) (rest : List Token) (p q : Plan) : Type 0 where
  pub carried : run (tokens ts ++ rest) p ≡ puts ts (run rest q)

-- what is wanted doesn't begin with these tokens
abbrev pub Skips : Wanted → List Token → Type 0
Skips w [] = Unit {0}
Skips w (t ∷ ts) = takes w t ≡ None

pub after_after : (p : Plan) (k l : Value → Plan) → after (after p k) l ≡ after p (λ v. after (k v) l)
after_after (Return v) k l = refl
after_after (Then w p) k l = ap (Then w) (fun_ext (λ v. after_after (p v) k l))

puts_append : (ts us : List Placed) (tr : Trace) → puts (ts ++ us) tr ≡ puts ts (puts us tr)
puts_append [] us tr = refl
puts_append (t ∷ ts) us tr = ap (Put t) (puts_append ts us tr)

pub tokens_append : (ts us : List Placed) (rest : List Token) → tokens (ts ++ us) ++ rest ≡ tokens ts ++ (tokens us ++ rest)
tokens_append [] us rest = refl
tokens_append (t ∷ ts) us rest = ap (λ more. t.token ∷ more) (tokens_append ts us rest)

-- nothing is taken where the plan stays
pub stays : {rest : List Token} {p : Plan} → Reaches [] rest p p
stays = record { carried = refl }

pub at_token : (w : Wanted) (t : Token) (ts : List Token) (k : Value → Plan) (p : Plan) → takes w t ≡ Some p
    → run (t ∷ ts) (Then w k) ≡ Put (record { token = t; depth = depth_of w }) (run ts (after p k))
at_token w t ts k p e = rw e refl

placed_at : (t : Placed) (d : ℕ) → t.depth ≡ d → Put (record { token = t.token; depth = d }) ≡ Put t
placed_at t d e = rw (← e) refl

-- a token is taken, and then others
pub taken : {w : Wanted} {p q : Plan} {t : Placed} {ts : List Placed} {rest : List Token} {k : Value → Plan}
    → takes w t.token ≡ Some p → t.depth ≡ depth_of w → Reaches ts rest (after p k) q → Reaches (t ∷ ts) rest (Then w k) q
taken {w} {p} {q} {t} {ts} {rest} {k} e d r = record {
  carried = at_token w t.token (tokens ts ++ rest) k p e ∙ (ap (λ put. put (run (tokens ts ++ rest) (after p k))) (placed_at t (depth_of w) d) ∙ ap (Put t) r.carried);
}

-- some tokens are taken, and then others
pub and_then : {ts us : List Placed} {rest : List Token} {p q r : Plan} → Reaches ts (tokens us ++ rest) p q → Reaches us rest q r
    → Reaches (ts ++ us) rest p r
and_then {ts} {us} {rest} {p} {q} {r} a b = record {
  carried = ap (λ l. run l p) (tokens_append ts us rest) ∙ (a.carried ∙ (ap (puts ts) b.carried ∙ sym (puts_append ts us (run rest r))));
}

pub skip : (w : Wanted) (v : Value) (rest : List Token) (k : Value → Plan) → left_out w ≡ Some v → Skips w rest
    → run rest (Then w k) ≡ run rest (k v)
skip w v [] k e s = rw e refl
skip w v (t ∷ ts) k e s = rw (s, e) refl

-- what doesn't begin there is passed over after a phrase
pub skipped : {ts : List Placed} {rest : List Token} {p : Plan} {w : Wanted} {v : Value} {k : Value → Plan}
    → Reaches ts rest p (Then w k) → left_out w ≡ Some v → Skips w rest → Reaches ts rest p (k v)
skipped {ts} {rest} {p} {w} {v} {k} r e s = record { carried = r.carried ∙ ap (puts ts) (skip w v rest k e s) }

-- two plans that do the same at some tokens
pub replaced : {ts : List Placed} {rest : List Token} {p other q : Plan} → run (tokens ts ++ rest) p ≡ run (tokens ts ++ rest) other
    → Reaches ts rest other q → Reaches ts rest p q
replaced e r = record { carried = e ∙ r.carried }

-- the same value in another form
pub valued : {ts : List Placed} {rest : List Token} {p : Plan} {v w : Value} (k : Value → Plan) → v ≡ w → Reaches ts rest p (k v)
    → Reaches ts rest p (k w)
valued {ts} {rest} {p} k e r = subst (λ u. Reaches ts rest p (k u)) e r

-- nothing fits
pub at_none : (w : Wanted) (t : Token) (ts : List Token) (k : Value → Plan) → takes w t ≡ None → left_out w ≡ None
    → run (t ∷ ts) (Then w k) ≡ Dead (t ∷ ts)
at_none w t ts k e l = rw (e, l) refl
