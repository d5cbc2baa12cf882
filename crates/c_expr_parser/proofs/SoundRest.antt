-- What may follow an operand: the operators of the levels, the parts of `?:`, and an assignment.
use Rattle.std.specs.Prelude.{◌≡◌, ℕ, zero, suc, List, ◌∷◌}
use Rattle.std.proofs.Common.{sym, subst}
use Rattle.c_expr_parser.specs.declared.operand.Operand.{Operand}
use Rattle.c_expr_parser.specs.Placed.{Placed, at}
use Rattle.c_expr_parser.specs.Operators.{loosest}
use Rattle.c_expr_parser.specs.Expressions.{Conditional, Binary, Cast}
use Rattle.c_expr_parser.specs.Plans.{Value, Wanted, Plan, after, as_operand, chains, binary, conditional, conditional_rest}
use Rattle.c_expr_parser.specs.Plans.Value.{operand}
use Rattle.c_expr_parser.specs.Plans.Plan.{Return, Then}
use Rattle.c_expr_parser.proofs.JoinedTraces.{after_after}
use Rattle.c_expr_parser.proofs.TraceMeaning.{Sound, Behind}
use Rattle.c_expr_parser.proofs.WantedMeaning.{AsConditional, AsBinary, Fits, sound_cast_then, sound_on}

-- after an operand: the operators up to a level
pub sound_chains : {n : ℕ} (Q : List Placed → Value → Type 0) (k : Value → Plan) {d : ℕ} {t : Placed} {ts : List Placed} (a : Operand)
    → Fits n → (level : ℕ) → Binary zero d (t ∷ ts) a.expr → a.start ≡ at t
    → ((u : Placed) (us : List Placed) (b : Operand) → Binary level d (u ∷ us) b.expr → b.start ≡ at u → Behind n Q (u ∷ us) (k (operand b)))
    → Behind n Q (t ∷ ts) (after (chains level d (operand a)) k)
sound_chains Q k a fits zero p e f = f _ _ _ p e
sound_chains {n} Q k {d} {t} {ts} a fits (suc level) p e f =
    subst (Behind n Q (t ∷ ts)) (sym (after_after (chains level d (operand a)) (λ w. Then (Wanted.Chain level d (as_operand w)) Return) k))
    (sound_chains Q (λ w. Then (Wanted.Chain level d (as_operand w)) k) a fits level p e
    (λ u us b q l. sound_on Q k b (AsBinary (suc level) d) (AsBinary (suc level) d) (Wanted.Chain level d b)
    (fits.wanted (Wanted.Chain level d b)) (Binary.tighter q) l f))

-- a chain of a level
pub sound_binary : {n : ℕ} {Q : List Placed → Value → Type 0} (k : Value → Plan) → Fits n → (level d : ℕ)
    → ((u : Placed) (us : List Placed) (b : Operand) → Binary level d (u ∷ us) b.expr → b.start ≡ at u → Behind n Q (u ∷ us) (k (operand b)))
    → Sound n Q (after (binary level d) k)
sound_binary {Q} k fits level d f =
    sound_cast_then {Q = Q} {k = λ v. after (chains level d v) k} fits
    (λ t ts a p e. sound_chains Q k a fits level (Binary.operand p.0) e f)

-- the parts of `?:`
pub sound_conditional_rest : {n : ℕ} (Q : List Placed → Value → Type 0) (k : Value → Plan) {d : ℕ} {t : Placed} {ts : List Placed} (a : Operand)
    → Fits n → Cast d (t ∷ ts) a.expr → a.start ≡ at t
    → ((u : Placed) (us : List Placed) (b : Operand) → Conditional d (u ∷ us) b.expr → b.start ≡ at u → Behind n Q (u ∷ us) (k (operand b)))
    → Behind n Q (t ∷ ts) (after (conditional_rest d (operand a)) k)
sound_conditional_rest {n} Q k {d} {t} {ts} a fits p e f =
    subst (Behind n Q (t ∷ ts)) (sym (after_after (chains loosest d (operand a)) (λ w. Then (Wanted.Chosen d (as_operand w)) Return) k))
    (sound_chains Q (λ w. Then (Wanted.Chosen d (as_operand w)) k) a fits loosest (Binary.operand p) e
    (λ u us b q l. sound_on Q k b (AsBinary loosest d) (AsConditional d) (Wanted.Chosen d b)
    (fits.wanted (Wanted.Chosen d b)) q l f))

pub sound_conditional_then : {n : ℕ} {Q : List Placed → Value → Type 0} (k : Value → Plan) → Fits n → (d : ℕ)
    → ((u : Placed) (us : List Placed) (b : Operand) → Conditional d (u ∷ us) b.expr → b.start ≡ at u → Behind n Q (u ∷ us) (k (operand b)))
    → Sound n Q (after (conditional d) k)
sound_conditional_then {Q} k fits d f =
    sound_cast_then {Q = Q} {k = λ v. after (conditional_rest d v) k} fits
    (λ t ts a p e. sound_conditional_rest Q k a fits p.0 e f)
