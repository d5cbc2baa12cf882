-- What a plan of a text gives on tokens, by its first token and by its parts.
use Rattle.std.proofs.Common.{◌≡◌, ◌<◌, ◌≤◌, ℕ, Bool, true, false, List, [], ◌∷◌, length, Option, Some, None, refl, sym, ap, ◌∙◌, arith, le-leb}
use Rattle.std.specs.Prelude.{nat_le, if◌then◌else◌, option_map}
use Rattle.c_lexer.specs.declared.token.Token.{Token}
use Rattle.c_expr_parser.specs.Placed.{Placed}
use Rattle.c_expr_parser.specs.Readings.{most_depth}
use Rattle.c_expr_parser.specs.Tables.{holds_ahead}
use Rattle.c_expr_parser.specs.Plans.{Value, Wanted, Plan, takes, left_out, depth_of, Trace, run, remaining, cut, at_depth, Parsed, read, stuck, deep, parsed, reads}
use Rattle.c_expr_parser.specs.Plans.Plan.{Return, Then}
use Rattle.c_expr_parser.specs.Plans.Trace.{Put, Took, Dead}
use Rattle.std.proofs.lemmas.Bool.{leb-true}
use Rattle.c_expr_parser.proofs.PlanResults.{no_items}
use Rattle.c_parser.specs.TextPlans.{Found, TextWanted, TextPlan, TextTrace, TextParsed, then_text, behind, as_part, text_depth, text_takes, text_left_out, text_passed, text_met, text_finish, run_text, text_remaining, text_at_depth, text_cut, text_parsed, text_reads}
use Rattle.c_parser.specs.TextPlans.Found.{part}
use Rattle.c_parser.specs.TextPlans.TextPlan.{Give, Want}
use Rattle.c_parser.specs.TextPlans.TextWanted.{Of}
use Rattle.c_parser.specs.TextPlans.TextTrace.{Next, Gave, Stopped}
use Rattle.c_parser.specs.TextPlans.TextParsed.{found, stuck_at, deep_at}
use Rattle.c_parser.proofs.JoinedTraces.{then_behind, lift, run_behind}
use Rattle.c_parser.proofs.TraceMeaning.{text_bind, run_then, remaining_text}

-- one thing after another
abbrev pub text_next : TextParsed → (Found → List Token → TextParsed) → TextParsed
text_next (found f rest) k = k f rest
text_next (stuck_at left) k = stuck_at left
text_next (deep_at left) k = deep_at left

-- and after something of the walk through expressions
abbrev pub crosses : Parsed → (Value → List Token → TextParsed) → TextParsed
crosses (read v rest) k = k v rest
crosses (stuck left) k = stuck_at left
crosses (deep left) k = deep_at left

next_at : (d left : ℕ) (m : TextParsed) (k : Found → List Token → TextParsed)
    → text_next (text_at_depth d left m) k ≡ text_at_depth d left (text_next m k)
next_at d left m k = elim (nat_le d most_depth) as (λ b. text_next (if b then m else deep_at left) k ≡ (if b then text_next m k else deep_at left)) [
  | true ↦ refl
  | false ↦ refl
]

crosses_at : (d left : ℕ) (m : Parsed) (k : Value → List Token → TextParsed)
    → crosses (at_depth d left m) k ≡ text_at_depth d left (crosses m k)
crosses_at d left m k = elim (nat_le d most_depth) as (λ b. crosses (if b then m else deep left) k ≡ (if b then crosses m k else deep_at left)) [
  | true ↦ refl
  | false ↦ refl
]

bind_remaining : (tr : TextTrace) (k : Found → List Token → TextTrace) → ((f : Found) (rest : List Token) → text_remaining (k f rest) ≡ rest)
    → text_remaining (text_bind tr k) ≡ text_remaining tr
bind_remaining (Next t tr) k e = ap (λ rest. t.token ∷ rest) (bind_remaining tr k e)
bind_remaining (Gave f rest) k e = e f rest
bind_remaining (Stopped rest) k e = refl

cut_bind : (tr : TextTrace) (k : Found → List Token → TextTrace) → ((f : Found) (rest : List Token) → text_remaining (k f rest) ≡ rest)
    → text_cut (text_bind tr k) ≡ text_next (text_cut tr) (λ f rest. text_cut (k f rest))
cut_bind (Next t tr) k e =
    ap (λ rest. text_at_depth t.depth (length (t.token ∷ rest)) (text_cut (text_bind tr k))) (bind_remaining tr k e)
    ∙ ap (text_at_depth t.depth (length (text_remaining (Next t tr)))) (cut_bind tr k e)
    ∙ sym (next_at t.depth (length (text_remaining (Next t tr))) (text_cut tr) (λ f rest. text_cut (k f rest)))
cut_bind (Gave f rest) k e = refl
cut_bind (Stopped rest) k e = refl

lift_remaining : (tr : Trace) (k : Value → List Token → TextTrace) → ((v : Value) (rest : List Token) → text_remaining (k v rest) ≡ rest)
    → text_remaining (lift tr k) ≡ remaining tr
lift_remaining (Put t tr) k e = ap (λ rest. t.token ∷ rest) (lift_remaining tr k e)
lift_remaining (Took v rest) k e = e v rest
lift_remaining (Dead rest) k e = refl

cut_lift : (tr : Trace) (k : Value → List Token → TextTrace) → ((v : Value) (rest : List Token) → text_remaining (k v rest) ≡ rest)
    → text_cut (lift tr k) ≡ crosses (cut tr) (λ v rest. text_cut (k v rest))
cut_lift (Put t tr) k e =
    ap (λ rest. text_at_depth t.depth (length (t.token ∷ rest)) (text_cut (lift tr k))) (lift_remaining tr k e)
    ∙ ap (text_at_depth t.depth (length (remaining (Put t tr)))) (cut_lift tr k e)
    ∙ sym (crosses_at t.depth (length (remaining (Put t tr))) (cut tr) (λ v rest. text_cut (k v rest)))
cut_lift (Took v rest) k e = refl
cut_lift (Dead rest) k e = refl

-- a plan after another, and after one thing that is wanted
pub parsed_then_text : (p : TextPlan) (k : Found → TextPlan) (ts : List Token)
    → text_parsed (then_text p k) ts ≡ text_next (text_parsed p ts) (λ f rest. text_parsed (k f) rest)
unfolding text_parsed
parsed_then_text p k ts =
    ap text_cut (run_then ts p k) ∙ cut_bind (run_text ts p) (λ f rest. run_text rest (k f)) (λ f rest. remaining_text rest (k f))

pub parsed_want : (w : TextWanted) (k : Found → TextPlan) (ts : List Token)
    → text_parsed (Want w k) ts ≡ text_next (text_reads w ts) (λ f rest. text_parsed (k f) rest)
parsed_want w k ts = parsed_then_text (Want w Give) k ts

-- a plan after one of the walk through expressions
pub parsed_behind : (p : Plan) (k : Value → TextPlan) (ts : List Token)
    → text_parsed (behind p k) ts ≡ crosses (parsed p ts) (λ v rest. text_parsed (k v) rest)
unfolding text_parsed parsed
parsed_behind p k ts =
    ap text_cut (run_behind ts p k) ∙ cut_lift (run ts p) (λ v rest. run_text rest (k v)) (λ v rest. remaining_text rest (k v))

-- what is wanted of that walk is a part
passed_part : (ts : List Token) (o : Option Value) (g : Found → TextTrace)
    → text_passed ts (option_map (λ v. part v) o) g ≡ text_passed ts (option_map (λ v. part v) o) (λ f. g (part (as_part f)))
passed_part ts (Some v) g = refl
passed_part ts None g = refl

met_part : (x : Placed) (ts : List Token) (o : Option Plan) (k : Found → TextPlan) (a b : TextTrace) → a ≡ b
    → text_met x (λ p. run_text ts (then_text p k)) a (option_map (λ p. behind p (λ v. Give (part v))) o)
    ≡ text_met x (λ p. run_text ts (then_text p (λ f. k (part (as_part f))))) b (option_map (λ p. behind p (λ v. Give (part v))) o)
met_part x ts (Some p) k a b e =
    ap (λ q. Next x (run_text ts q)) (then_behind p (λ v. Give (part v)) k ∙ sym (then_behind p (λ v. Give (part v)) (λ f. k (part (as_part f)))))
met_part x ts None k a b e = e

run_part : (w : Wanted) (k : Found → TextPlan) (ts : List Token)
    → run_text ts (Want (Of w) k) ≡ run_text ts (Want (Of w) (λ f. k (part (as_part f))))
run_part w k [] = passed_part [] (left_out w) (λ f. text_finish (k f))
run_part w k (t ∷ ts) =
    met_part (record { token = t; depth = depth_of w }) ts (takes w t) k _ _
    (passed_part (t ∷ ts) (left_out w) (λ f. run_text (t ∷ ts) (k f)))

pub parsed_of : (w : Wanted) (k : Found → TextPlan) (ts : List Token)
    → text_parsed (Want (Of w) k) ts ≡ crosses (reads w ts) (λ v rest. text_parsed (k (part v)) rest)
unfolding text_parsed
parsed_of w k ts = ap text_cut (run_part w k ts) ∙ parsed_behind (Then w Return) (λ v. k (part v)) ts

pub parsed_give : (f : Found) (ts : List Token) → text_parsed (Give f) ts ≡ found f ts
unfolding text_parsed
parsed_give f [] = refl
parsed_give f (t ∷ ts) = refl

-- a token that is too deep, and one that isn't
at_most : (d : ℕ) → most_depth < d → nat_le d most_depth ≡ false
at_most d h = elim (nat_le d most_depth) as (λ b. nat_le d most_depth ≡ b → nat_le d most_depth ≡ false) [
  | true ↦ λ e. absurd (omega (arith, leb-true d most_depth e, h))
  | false ↦ λ e. e
] refl

sinks : (d left : ℕ) (m : TextParsed) → most_depth < d → text_at_depth d left m ≡ deep_at left
sinks d left m h = rw (at_most d h) refl

fits : (d left : ℕ) (m : TextParsed) → d ≤ most_depth → text_at_depth d left m ≡ m
fits d left m h = rw (le-leb d most_depth h) refl

-- by the first token
run_takes : (w : TextWanted) (k : Found → TextPlan) (t : Token) (ts : List Token) (p : TextPlan) → text_takes w t ≡ Some p
    → run_text (t ∷ ts) (Want w k) ≡ Next (record { token = t; depth = text_depth w }) (run_text ts (then_text p k))
run_takes w k t ts p e =
    ap (text_met (record { token = t; depth = text_depth w }) (λ p. run_text ts (then_text p k))
    (text_passed (t ∷ ts) (text_left_out w) (λ f. run_text (t ∷ ts) (k f)))) e

run_passes : (w : TextWanted) (k : Found → TextPlan) (t : Token) (ts : List Token) (o : Option Found) → text_takes w t ≡ None → text_left_out w ≡ o
    → run_text (t ∷ ts) (Want w k) ≡ text_passed (t ∷ ts) o (λ f. run_text (t ∷ ts) (k f))
run_passes w k t ts o e f =
    ap (text_met (record { token = t; depth = text_depth w }) (λ p. run_text ts (then_text p k))
    (text_passed (t ∷ ts) (text_left_out w) (λ f. run_text (t ∷ ts) (k f)))) e
    ∙ ap (λ x. text_passed (t ∷ ts) x (λ f. run_text (t ∷ ts) (k f))) f

pub parsed_takes : (w : TextWanted) (k : Found → TextPlan) (t : Token) (ts : List Token) (p : TextPlan) → text_takes w t ≡ Some p
    → text_parsed (Want w k) (t ∷ ts) ≡ text_at_depth (text_depth w) (length (t ∷ ts)) (text_parsed (then_text p k) ts)
unfolding text_parsed
parsed_takes w k t ts p e =
    ap text_cut (run_takes w k t ts p e)
    ∙ ap (λ rest. text_at_depth (text_depth w) (length (t ∷ rest)) (text_cut (run_text ts (then_text p k)))) (remaining_text ts (then_text p k))

pub parsed_left : (w : TextWanted) (k : Found → TextPlan) (t : Token) (ts : List Token) (f : Found) → text_takes w t ≡ None → text_left_out w ≡ Some f
    → text_parsed (Want w k) (t ∷ ts) ≡ text_parsed (k f) (t ∷ ts)
unfolding text_parsed
parsed_left w k t ts f e left = ap text_cut (run_passes w k t ts (Some f) e left)

pub parsed_dead : (w : TextWanted) (k : Found → TextPlan) (t : Token) (ts : List Token) → text_takes w t ≡ None → text_left_out w ≡ None
    → text_parsed (Want w k) (t ∷ ts) ≡ stuck_at (length (t ∷ ts))
unfolding text_parsed
parsed_dead w k t ts e left = ap text_cut (run_passes w k t ts None e left)

-- where there is none
pub parsed_end_left : (w : TextWanted) (k : Found → TextPlan) (f : Found) → text_left_out w ≡ Some f → text_parsed (Want w k) [] ≡ text_parsed (k f) []
unfolding text_parsed
parsed_end_left w k f left = ap (λ o. text_cut (text_passed [] o (λ f. text_finish (k f)))) left

pub parsed_end : (w : TextWanted) (k : Found → TextPlan) → text_left_out w ≡ None → text_parsed (Want w k) [] ≡ stuck_at 0
unfolding text_parsed
parsed_end w k left = ap (λ o. text_cut (text_passed [] o (λ f. text_finish (k f)))) left

-- something wanted at tokens by the first
pub takes_first : (w : TextWanted) (k : Found → TextPlan) (p : TextPlan) (t : Token) (us ts : List Token) → ts ≡ t ∷ us → text_takes w t ≡ Some p
    → text_depth w ≤ most_depth → text_parsed (Want w k) ts ≡ text_parsed (then_text p k) us
takes_first w k p t us ts are e shallow = rw are (parsed_takes w k t us p e ∙ fits _ _ _ shallow)

pub sinks_first : (w : TextWanted) (k : Found → TextPlan) (p : TextPlan) (t : Token) (us ts : List Token) → ts ≡ t ∷ us → text_takes w t ≡ Some p
    → most_depth < text_depth w → text_parsed (Want w k) ts ≡ deep_at (length ts)
sinks_first w k p t us ts are e low = rw are (parsed_takes w k t us p e ∙ sinks _ _ _ low)

pub dead_first : (w : TextWanted) (k : Found → TextPlan) (t : Token) (us ts : List Token) → ts ≡ t ∷ us → text_takes w t ≡ None
    → text_left_out w ≡ None → text_parsed (Want w k) ts ≡ stuck_at (length ts)
dead_first w k t us ts are e left = rw are (parsed_dead w k t us e left)

pub dead_end : (w : TextWanted) (k : Found → TextPlan) (ts : List Token) → length ts ≡ 0 → text_left_out w ≡ None
    → text_parsed (Want w k) ts ≡ stuck_at 0
dead_end w k ts none left = rw (no_items ts none) (parsed_end w k left)

-- something that is left out where the first token isn't what may stand there
pub passes_held : (test : Token → Bool) (w : TextWanted) (k : Found → TextPlan) (f : Found) (ts : List Token)
    → ((t : Token) → test t ≡ false → text_takes w t ≡ None) → text_left_out w ≡ Some f → holds_ahead test ts ≡ false
    → text_parsed (Want w k) ts ≡ text_parsed (k f) ts
passes_held test w k f [] none left e = parsed_end_left w k f left
passes_held test w k f (t ∷ ts) none left e = parsed_left w k t ts f (none t e) left
