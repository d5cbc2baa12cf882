-- How carried-out plans of texts are put together.
use Rattle.std.specs.Prelude.{◌≡◌, ℕ, List, [], ◌∷◌, ◌++◌, Some, None}
use Rattle.std.proofs.Common.{refl, ap, sym, subst, ◌∙◌}
use Rattle.c_lexer.specs.declared.token.Token.{Token}
use Rattle.c_lexer.specs.declared.token.TokenKind.{TokenKind}
use Rattle.c_tree.specs.declared.name.CType.{CType}
use Rattle.c_tree.specs.declared.expr.Expr.{Expr}
use Rattle.c_expr_parser.specs.Placed.{Placed, tokens, start}
use Rattle.c_expr_parser.specs.Terminals.{Spells}
use Rattle.c_expr_parser.specs.TypeNames.{TypeName}
use Rattle.c_expr_parser.specs.Expressions.{Assignment, Conditional}
use Rattle.c_expr_parser.specs.Plans.{Value, Wanted, Plan, takes, depth_of, run, as_expr, as_type, assignment, conditional}
use Rattle.c_expr_parser.specs.Plans.Value.{typed, operand}
use Rattle.c_expr_parser.specs.Plans.Plan.{Return, Then}
use Rattle.c_expr_parser.specs.Plans.Trace.{Took}
use Rattle.c_expr_parser.specs.Plans.Wanted.{Typing}
use Rattle.c_expr_parser.proofs.JoinedTraces.{after_return}
use Rattle.c_expr_parser.proofs.CompletePlans.{puts, tokens_append}
use Rattle.c_expr_parser.proofs.CompleteTokens.{token_of, as_spelled}
use Rattle.c_expr_parser.proofs.CompleteEnds.{EndsExpression}
use Rattle.c_expr_parser.proofs.CompleteTypes.{EndsType}
use Rattle.c_expr_parser.proofs.CompleteExpressions.{assignment_complete, conditional_complete, type_complete}
use Rattle.c_parser.specs.TextPlans.{Found, TextWanted, TextPlan, TextTrace, then_text, behind, text_depth, text_takes, text_left_out, run_text, expr_then, conditional_then, type_then}
use Rattle.c_parser.specs.TextPlans.Found.{part}
use Rattle.c_parser.specs.TextPlans.TextPlan.{Give, Want}
use Rattle.c_parser.specs.TextPlans.TextWanted.{Of}
use Rattle.c_parser.specs.TextPlans.TextTrace.{Next, Stopped}
use Rattle.c_parser.proofs.JoinedTraces.{lift, run_behind, nexts, nexts_append}

-- carrying out p on the tokens of ts, with others after them, takes these and goes on with q at the others
pub record Goes (ts : List Placed) (rest : List Token) (p q : TextPlan) : Type 0 where
  pub carried : run_text (tokens ts ++ rest) p ≡ nexts ts (run_text rest q)

-- what is wanted doesn't begin with these tokens
abbrev pub Passes : TextWanted → List Token → Type 0
Passes w [] = Unit {0}
Passes w (t ∷ ts) = text_takes w t ≡ None

pub stays : {rest : List Token} {p : TextPlan} → Goes [] rest p p
stays = record { carried = refl }

pub at_token : (w : TextWanted) (t : Token) (ts : List Token) (k : Found → TextPlan) (p : TextPlan) → text_takes w t ≡ Some p
    → run_text (t ∷ ts) (Want w k) ≡ Next (record { token = t; depth = text_depth w }) (run_text ts (then_text p k))
at_token w t ts k p e = rw e refl

pub at_none : (w : TextWanted) (t : Token) (ts : List Token) (k : Found → TextPlan) → text_takes w t ≡ None → text_left_out w ≡ None
    → run_text (t ∷ ts) (Want w k) ≡ Stopped (t ∷ ts)
at_none w t ts k e l = rw (e, l) refl

placed_at : (t : Placed) (d : ℕ) → t.depth ≡ d → Next (record { token = t.token; depth = d }) ≡ Next t
placed_at t d e = rw (← e) refl

-- a token is taken, and then others
pub taken : {w : TextWanted} {p q : TextPlan} {t : Placed} {ts : List Placed} {rest : List Token} {k : Found → TextPlan}
    → text_takes w t.token ≡ Some p → t.depth ≡ text_depth w → Goes ts rest (then_text p k) q → Goes (t ∷ ts) rest (Want w k) q
taken {w} {p} {q} {t} {ts} {rest} {k} e d r = record {
  carried = at_token w t.token (tokens ts ++ rest) k p e
      ∙ (ap (λ put. put (run_text (tokens ts ++ rest) (then_text p k))) (placed_at t (text_depth w) d) ∙ ap (Next t) r.carried);
}

-- what is spelled is taken
pub spelled : {w : TextWanted} {p q : TextPlan} {kind : TokenKind} {d : ℕ} {spelling : List ℕ} {t : Placed} {ts : List Placed}
    {rest : List Token} {k : Found → TextPlan}
    → Spells kind d spelling t → text_takes w (token_of kind t.token.at t.token.len spelling) ≡ Some p → d ≡ text_depth w
    → Goes ts rest (then_text p k) q → Goes (t ∷ ts) rest (Want w k) q
spelled {w} s e d r = taken (ap (text_takes w) (as_spelled s) ∙ e) (s.stands ∙ d) r

-- some tokens are taken, and then others
pub and_then : {ts us : List Placed} {rest : List Token} {p q r : TextPlan} → Goes ts (tokens us ++ rest) p q → Goes us rest q r
    → Goes (ts ++ us) rest p r
and_then {ts} {us} {rest} {p} {q} {r} a b = record {
  carried = ap (λ l. run_text l p) (tokens_append ts us rest)
      ∙ (a.carried ∙ (ap (nexts ts) b.carried ∙ sym (nexts_append ts us (run_text rest r))));
}

pub skip : (w : TextWanted) (f : Found) (rest : List Token) (k : Found → TextPlan) → text_left_out w ≡ Some f → Passes w rest
    → run_text rest (Want w k) ≡ run_text rest (k f)
skip w f [] k e s = rw e refl
skip w f (t ∷ ts) k e s = rw (s, e) refl

-- what doesn't begin there is passed over: before a phrase, and after it
pub passing : {ts : List Placed} {rest : List Token} {q : TextPlan} {w : TextWanted} {f : Found} {k : Found → TextPlan}
    → text_left_out w ≡ Some f → Passes w (tokens ts ++ rest) → Goes ts rest (k f) q → Goes ts rest (Want w k) q
passing {ts} {rest} {q} {w} {f} {k} e s r = record { carried = skip w f (tokens ts ++ rest) k e s ∙ r.carried }

pub skipped : {ts : List Placed} {rest : List Token} {p : TextPlan} {w : TextWanted} {f : Found} {k : Found → TextPlan}
    → Goes ts rest p (Want w k) → text_left_out w ≡ Some f → Passes w rest → Goes ts rest p (k f)
skipped {ts} {rest} {p} {w} {f} {k} r e s = record { carried = r.carried ∙ ap (nexts ts) (skip w f rest k e s) }

-- the same plan in another form
pub from : {ts : List Placed} {rest : List Token} {p other q : TextPlan} → p ≡ other → Goes ts rest other q → Goes ts rest p q
from {ts} {rest} {p} {other} {q} e r = subst (λ x. Goes ts rest x q) (sym e) r

pub to : {ts : List Placed} {rest : List Token} {p q other : TextPlan} → q ≡ other → Goes ts rest p q → Goes ts rest p other
to {ts} {rest} {p} e r = subst (λ x. Goes ts rest p x) e r

-- what the walk through expressions takes
lift_puts : (ts : List Placed) (v : Value) (rest : List Token) (k : Value → List Token → TextTrace)
    → lift (puts ts (Took v rest)) k ≡ nexts ts (k v rest)
lift_puts [] v rest k = refl
lift_puts (t ∷ ts) v rest k = ap (Next t) (lift_puts ts v rest k)

run_return : (v : Value) (rest : List Token) → run rest (Return v) ≡ Took v rest
run_return v [] = refl
run_return v (t ∷ ts) = refl

lifted : {ts : List Placed} {rest : List Token} (p : Plan) (v : Value) (k : Value → TextPlan)
    → run (tokens ts ++ rest) p ≡ puts ts (run rest (Return v)) → Goes ts rest (behind p k) (k v)
lifted {ts} {rest} p v k e = record {
  carried = run_behind (tokens ts ++ rest) p k
      ∙ (ap (λ tr. lift tr (λ v rest. run_text rest (k v))) (e ∙ ap (puts ts) (run_return v rest))
      ∙ lift_puts ts v rest (λ v rest. run_text rest (k v)));
}

pub expression : {d : ℕ} {ts : List Placed} {e : Expr} → Assignment d ts e → (rest : List Token) → EndsExpression rest
    → (k : Expr → TextPlan) → Goes ts rest (expr_then d k) (k e)
expression {d} {ts} {e} a rest ends k =
    let c = assignment_complete a rest ends Return in
    lifted (assignment d) (operand (record { expr = e; start = start ts; is_unary = c.0 })) (λ v. k (as_expr v))
    (ap (run (tokens ts ++ rest)) (sym (after_return (assignment d))) ∙ c.1)

pub conditional_part : {d : ℕ} {ts : List Placed} {e : Expr} → Conditional d ts e → (rest : List Token) → EndsExpression rest
    → (k : Expr → TextPlan) → Goes ts rest (conditional_then d k) (k e)
conditional_part {d} {ts} {e} a rest ends k =
    let c = conditional_complete a rest ends Return in
    lifted (conditional d) (operand (record { expr = e; start = start ts; is_unary = c.0 })) (λ v. k (as_expr v))
    (ap (run (tokens ts ++ rest)) (sym (after_return (conditional d))) ∙ c.1)

pub type_part : {d : ℕ} {ts : List Placed} {t : CType} → TypeName d ts t → (rest : List Token) → EndsType rest
    → (k : CType → TextPlan) → Goes ts rest (type_then d k) (k t)
type_part {d} {t = t} a rest ends k =
    lifted (Then (Typing d) Return) (typed t) (λ v. k (as_type v)) (type_complete a rest ends Return)

-- one token of the walk through expressions
single : {w : Wanted} {v : Value} {q : TextPlan} {t : Placed} {ts : List Placed} {rest : List Token} {k : Found → TextPlan}
    → takes w t.token ≡ Some (Return v) → t.depth ≡ depth_of w → Goes ts rest (k (part v)) q → Goes (t ∷ ts) rest (Want (Of w) k) q
single {w} {v} e d r = taken {w = Of w} {p = Give (part v)} (rw e refl) d r
