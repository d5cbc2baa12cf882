-- What a function of the parser of texts has read where it returns: step by step through its plan, up to where a step
-- stopped.
use Rattle.std.proofs.Common.{◌≡◌, ℕ, List, Result, sym, ap, subst, ◌∙◌}
use Rattle.std.specs.Prelude.{MatchResult, Ok, Err}
use Rattle.std.specs.Result.{IsErrAnd}
use Rattle.std.proofs.lemmas.Result.{err_from_is_err_and}
use Rattle.c_lexer.specs.declared.token.Token.{Token}
use Rattle.c_tree.specs.declared.expr.Expr.{Expr}
use Rattle.c_expr_parser.specs.declared.stop.Stop.{Stop}
use Rattle.c_expr_parser.specs.declared.stop.Stop.TheVariants.{Stuck, Deep, Memory}
use Rattle.c_expr_parser.specs.Plans.{Value, Wanted, Parsed, read, parsed, reads, Stops, as_expr, assignment, conditional}
use Rattle.c_parser.specs.TextPlans.{Found, TextWanted, TextPlan, TextParsed, expr_then, conditional_then, text_parsed, text_reads, TextStops}
use Rattle.c_parser.specs.TextPlans.Found.{part}
use Rattle.c_parser.specs.TextPlans.TextPlan.{Give, Want}
use Rattle.c_parser.specs.TextPlans.TextWanted.{Of}
use Rattle.c_parser.specs.TextPlans.TextParsed.{found, deep_at}
use Rattle.c_parser.proofs.PlanResults.{parsed_give, text_next, crosses, parsed_of, parsed_want, parsed_behind}

-- after a step that found something
pub through : {m : TextParsed} (w : TextWanted) (k : Found → TextPlan) (ts : List Token) {rest : List Token} {f : Found}
    → m ≡ text_parsed (Want w k) ts → text_reads w ts ≡ found f rest → m ≡ text_parsed (k f) rest
through w k ts e h = e ∙ parsed_want w k ts ∙ ap (λ x. text_next x (λ f rest. text_parsed (k f) rest)) h

pub through_of : {m : TextParsed} (w : Wanted) (k : Found → TextPlan) (ts : List Token) {rest : List Token} {v : Value}
    → m ≡ text_parsed (Want (Of w) k) ts → reads w ts ≡ read v rest → m ≡ text_parsed (k (part v)) rest
through_of w k ts e h = e ∙ parsed_of w k ts ∙ ap (λ x. crosses x (λ v rest. text_parsed (k (part v)) rest)) h

pub through_expr : {m : TextParsed} (d : ℕ) (k : Expr → TextPlan) (ts : List Token) {rest : List Token} {v : Value}
    → m ≡ text_parsed (expr_then d k) ts → parsed (assignment d) ts ≡ read v rest → m ≡ text_parsed (k (as_expr v)) rest
through_expr d k ts e h =
    e ∙ parsed_behind (assignment d) (λ v. k (as_expr v)) ts ∙ ap (λ x. crosses x (λ v rest. text_parsed (k (as_expr v)) rest)) h

pub through_conditional : {m : TextParsed} (d : ℕ) (k : Expr → TextPlan) (ts : List Token) {rest : List Token} {v : Value}
    → m ≡ text_parsed (conditional_then d k) ts → parsed (conditional d) ts ≡ read v rest → m ≡ text_parsed (k (as_expr v)) rest
through_conditional d k ts e h =
    e ∙ parsed_behind (conditional d) (λ v. k (as_expr v)) ts ∙ ap (λ x. crosses x (λ v rest. text_parsed (k (as_expr v)) rest)) h

-- where a step stopped, the whole stopped
pub stops_text : (stop : Stop) (step : TextParsed) {m : TextParsed} (k : Found → List Token → TextParsed) → m ≡ text_next step k → TextStops stop step → TextStops stop m
stops_text (Stuck left) step k e h = e ∙ ap (λ x. text_next x k) h
stops_text (Deep left) step k e h = e ∙ ap (λ x. text_next x k) h
stops_text Memory step k e h = tt

pub stops_crossed : (stop : Stop) (step : Parsed) {m : TextParsed} (k : Value → List Token → TextParsed) → m ≡ crosses step k → Stops stop step → TextStops stop m
stops_crossed (Stuck left) step k e h = e ∙ ap (λ x. crosses x k) h
stops_crossed (Deep left) step k e h = e ∙ ap (λ x. crosses x k) h
stops_crossed Memory step k e h = tt

-- an answer that hands a stop on
pub hands : {T : Type 0} (V : T → Type 0) (r : Result T Stop) (stop : Stop) {m step : TextParsed}
    → IsErrAnd r (λ told. told ≡ stop) → m ≡ step → TextStops stop step → MatchResult r V (λ s. TextStops s m)
hands V r stop {m} told e h =
    let w = err_from_is_err_and r told in
    subst (λ r. MatchResult r V (λ s. TextStops s m)) (sym w.1) (subst (λ s. TextStops s m) (sym w.2) (subst (TextStops stop) (sym e) h))

pub hands_want : {T : Type 0} (V : T → Type 0) (r : Result T Stop) (stop : Stop) {m : TextParsed} (w : TextWanted) (k : Found → TextPlan)
    (ts : List Token) → IsErrAnd r (λ told. told ≡ stop) → m ≡ text_parsed (Want w k) ts → TextStops stop (text_reads w ts)
    → MatchResult r V (λ s. TextStops s m)
hands_want V r stop {m} w k ts told e h =
    hands V r stop told e (stops_text stop _ (λ f rest. text_parsed (k f) rest) (parsed_want w k ts) h)

pub hands_of : {T : Type 0} (V : T → Type 0) (r : Result T Stop) (stop : Stop) {m : TextParsed} (w : Wanted) (k : Found → TextPlan)
    (ts : List Token) → IsErrAnd r (λ told. told ≡ stop) → m ≡ text_parsed (Want (Of w) k) ts → Stops stop (reads w ts)
    → MatchResult r V (λ s. TextStops s m)
hands_of V r stop {m} w k ts told e h =
    hands V r stop told e (stops_crossed stop _ (λ v rest. text_parsed (k (part v)) rest) (parsed_of w k ts) h)

pub hands_expr : {T : Type 0} (V : T → Type 0) (r : Result T Stop) (stop : Stop) {m : TextParsed} (d : ℕ) (k : Expr → TextPlan)
    (ts : List Token) → IsErrAnd r (λ told. told ≡ stop) → m ≡ text_parsed (expr_then d k) ts → Stops stop (parsed (assignment d) ts)
    → MatchResult r V (λ s. TextStops s m)
hands_expr V r stop {m} d k ts told e h =
    hands V r stop told e (stops_crossed stop _ (λ v rest. text_parsed (k (as_expr v)) rest) (parsed_behind (assignment d) (λ v. k (as_expr v)) ts) h)

pub hands_conditional : {T : Type 0} (V : T → Type 0) (r : Result T Stop) (stop : Stop) {m : TextParsed} (d : ℕ) (k : Expr → TextPlan)
    (ts : List Token) → IsErrAnd r (λ told. told ≡ stop) → m ≡ text_parsed (conditional_then d k) ts → Stops stop (parsed (conditional d) ts)
    → MatchResult r V (λ s. TextStops s m)
hands_conditional V r stop {m} d k ts told e h =
    hands V r stop told e (stops_crossed stop _ (λ v rest. text_parsed (k (as_expr v)) rest) (parsed_behind (conditional d) (λ v. k (as_expr v)) ts) h)

-- an answer that the first token is too deep
pub sinks_on : {T : Type 0} (V : T → Type 0) (r : Result T Stop) (stop : Stop) {left : ℕ} {m : TextParsed}
    → IsErrAnd r (λ told. told ≡ stop) → stop ≡ Deep left → m ≡ deep_at left → MatchResult r V (λ s. TextStops s m)
sinks_on V r stop {m} told is e =
    let w = err_from_is_err_and r told in
    subst (λ r. MatchResult r V (λ s. TextStops s m)) (sym w.1) (subst (λ s. TextStops s m) (sym (w.2 ∙ is)) e)

-- an answer that another function gives for what is left
pub tail_call : {T : Type 0} (r : Result T Stop) (V : T → TextParsed) {m behind : TextParsed} → m ≡ behind
    → MatchResult r (λ x. behind ≡ V x) (λ s. TextStops s behind) → MatchResult r (λ x. m ≡ V x) (λ s. TextStops s m)
tail_call r V e h = subst (λ n. MatchResult r (λ x. n ≡ V x) (λ s. TextStops s n)) (sym e) h

pub of_call : {T : Type 0} (r : Result T Stop) (V : T → Value) (R : T → List Token) {m : TextParsed} (w : Wanted) (k : Found → TextPlan) (ts : List Token)
    → m ≡ text_parsed (Want (Of w) k) ts → MatchResult r (λ x. reads w ts ≡ read (V x) (R x)) (λ s. Stops s (reads w ts))
    → MatchResult r (λ x. m ≡ text_parsed (k (part (V x))) (R x)) (λ s. TextStops s m)
of_call (Ok x) V R w k ts e h = through_of w k ts e h
of_call (Err s) V R w k ts e h = subst (TextStops s) (sym e) (stops_crossed s _ (λ v rest. text_parsed (k (part v)) rest) (parsed_of w k ts) h)

-- an answer that another function gives for what is left, of what is found then
pub gives_tail : {T : Type 0} (r : Result T Stop) (V : T → Found) (R : T → List Token) {m behind : TextParsed} → m ≡ behind
    → MatchResult r (λ x. behind ≡ text_parsed (Give (V x)) (R x)) (λ s. TextStops s behind) → MatchResult r (λ x. m ≡ found (V x) (R x)) (λ s. TextStops s m)
gives_tail (Ok x) V R e h = e ∙ h ∙ parsed_give (V x) (R x)
gives_tail (Err s) V R e h = subst (TextStops s) (sym e) h
