-- What a function has read where it returns: step by step through its plan, up to where a step stopped.
use Rattle.std.proofs.Common.{◌≡◌, ℕ, List, Result, sym, ap, subst, ◌∙◌}
use Rattle.std.specs.Prelude.{MatchResult}
use Rattle.std.specs.Result.{IsErrAnd}
use Rattle.std.proofs.lemmas.Result.{err_from_is_err_and}
use Rattle.c_lexer.specs.declared.token.Token.{Token}
use Rattle.c_expr_parser.specs.declared.stop.Stop.{Stop}
use Rattle.c_expr_parser.specs.declared.stop.Stop.TheVariants.{Stuck, Deep, Memory}
use Rattle.c_expr_parser.specs.Plans.{Value, Parsed, read, deep, Stops}
use Rattle.c_expr_parser.proofs.PlanResults.{next}

-- the whole goes on after a step
pub record Goes (m step : Parsed) (k : Value → List Token → Parsed) : Type 0 where
  pub on : m ≡ next step k

-- after a step that read something
pub through : {m step : Parsed} {k : Value → List Token → Parsed} {v : Value} {rest : List Token} → Goes m step k → step ≡ read v rest → m ≡ k v rest
through {k} e h = e.on ∙ ap (λ x. next x k) h

-- after a step that is written in another way
pub swap : {m step other : Parsed} {k : Value → List Token → Parsed} → Goes m step k → other ≡ step → Goes m other k
swap {k} e h = record { on = e.on ∙ ap (λ x. next x k) (sym h) }

-- where a step stopped, the whole stopped
pub stops_next : (stop : Stop) {m step : Parsed} {k : Value → List Token → Parsed} → Goes m step k → Stops stop step → Stops stop m
stops_next (Stuck left) {k} e h = e.on ∙ ap (λ x. next x k) h
stops_next (Deep left) {k} e h = e.on ∙ ap (λ x. next x k) h
stops_next Memory e h = tt

-- an answer that hands a stop on
pub hands_on : {T : Type 0} (V : T → Type 0) (r : Result T Stop) (stop : Stop) {m step : Parsed} {k : Value → List Token → Parsed}
    → IsErrAnd r (λ told. told ≡ stop) → Goes m step k → Stops stop step → MatchResult r V (λ s. Stops s m)
hands_on V r stop {m} told e h =
    let w = err_from_is_err_and r told in
    subst (λ r. MatchResult r V (λ s. Stops s m)) (sym w.1) (subst (λ s. Stops s m) (sym w.2) (stops_next stop e h))

-- an answer that the first token is too deep
pub sinks_on : {T : Type 0} (V : T → Type 0) (r : Result T Stop) (stop : Stop) {left : ℕ} {m : Parsed}
    → IsErrAnd r (λ told. told ≡ stop) → stop ≡ Deep left → m ≡ deep left → MatchResult r V (λ s. Stops s m)
sinks_on V r stop {m} told is e =
    let w = err_from_is_err_and r told in
    subst (λ r. MatchResult r V (λ s. Stops s m)) (sym w.1) (subst (λ s. Stops s m) (sym (w.2 ∙ is)) e)

-- an answer that another function gives for what is left
pub tail_call : {T : Type 0} (r : Result T Stop) (V : T → Parsed) {m behind : Parsed} → m ≡ behind
    → MatchResult r (λ x. behind ≡ V x) (λ s. Stops s behind) → MatchResult r (λ x. m ≡ V x) (λ s. Stops s m)
tail_call r V e h = subst (λ n. MatchResult r (λ x. n ≡ V x) (λ s. Stops s n)) (sym e) h
