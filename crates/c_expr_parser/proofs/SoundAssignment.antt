-- Assignments, and expressions in a plan.
use Rattle.std.specs.Prelude.{◌≡◌, ℕ, zero, suc, ◌≤◌, true, List, [], ◌∷◌, ◌++◌, length, Option, Some, None, option_map, codes}
use Rattle.std.proofs.Common.{refl, sym, subst, arith}
use Rattle.c_ints.specs.declared.operator.BinOp.{BinOp}
use Rattle.c_lexer.specs.declared.token.Token.{Token}
use Rattle.c_lexer.specs.declared.token.TokenKind.TheVariants.{Punctuator}
use Rattle.c_tree.specs.declared.expr.Expr.{Expr}
use Rattle.c_expr_parser.specs.declared.operand.Operand.{Operand}
use Rattle.c_expr_parser.specs.Placed.{Placed, at}
use Rattle.c_expr_parser.specs.Expressions.{expr, Assignment, Unary}
use Rattle.c_expr_parser.specs.Tables.{is, when_some, compound_operator}
use Rattle.c_expr_parser.specs.Plans.{Value, Plan, met, after, Trace, run, as_expr, conditional_rest, assignment_rest, assignment, expr_then, other, assigned, assignment_operator}
use Rattle.c_expr_parser.specs.Plans.Value.{operand}
use Rattle.c_expr_parser.specs.Plans.Plan.{Return}
use Rattle.c_expr_parser.proofs.JoinedTraces.{after_return}
use Rattle.c_expr_parser.proofs.TraceMeaning.{Explained, Sound, Behind, behind_return, behind_after}
use Rattle.c_expr_parser.proofs.WantedMeaning.{Reads, AsAssignment, AsOperand, Fits, fits_fewer, sound_cast_then, reads_case}
use Rattle.c_expr_parser.proofs.SoundTables.{placed_at, Each, each_at, each_if, each_when, each_map, spelled_at, compound_is}
use Rattle.c_expr_parser.proofs.SoundEnds.{assignment_stays}
use Rattle.c_expr_parser.proofs.SoundRest.{sound_conditional_rest}

pub explained_met : (Q : List Placed → Value → Type 0) (t : Placed) (later : Plan → Trace) (other : Trace) (o : Option Plan)
    → Explained Q other → Each (λ p. Explained (λ ts v. Q (t ∷ ts) v) (later p)) o → Explained Q (met t later other o)
explained_met Q t later other None left taken = left
explained_met Q t later other (Some p) left taken = taken

-- the operator of an assignment, and its right side
abbrev pub IsAssigned : ℕ → Placed → List Placed → Expr → Token → List Placed → Expr → Option BinOp → Type 0
IsAssigned d t ts a x right b o =
    Assignment d (t ∷ (ts ++ placed_at d x ∷ right)) (expr (at t) (assigned o a b))

pub by_operator : {d : ℕ} {t : Placed} {ts right : List Placed} {a b : Expr} (x : Token) (o : Option BinOp)
    → Unary d (t ∷ ts) a → Assignment (suc d) right b → assignment_operator x ≡ Some o → IsAssigned d t ts a x right b o
by_operator {d} {t} {ts} {right} {a} {b} x o u r e =
    each_at (IsAssigned d t ts a x right b) (assignment_operator x) o e
    (each_if (IsAssigned d t ts a x right b) (is Punctuator (codes "=") x) (Some None) (option_map (λ op. Some op) (compound_operator x))
    (λ h. Assignment.assign u (spelled_at Punctuator d (codes "=") x h) r)
    (λ h. each_map (IsAssigned d t ts a x right b) (λ op. Some op) (compound_operator x)
    (λ op k. let is = compound_is d x op k in Assignment.update u is.0 is.1 r)))

-- what is proved of what follows an operand: an assignment, or the rest of a conditional
record Rests (n : ℕ) : Type 0 where
  behind : (d : ℕ) (t : Placed) (ts : List Placed) (a : Operand) → AsOperand true d (t ∷ ts) a → a.start ≡ at t
      → Behind n (Reads (AsAssignment d)) (t ∷ ts) (assignment_rest d (operand a))

-- an expression, and how to go on with it
expr_by : {n : ℕ} {Q : List Placed → Value → Type 0} (k : Value → Plan) → Rests n → Fits n → (d : ℕ)
    → ((t : Placed) (ts : List Placed) (a : Operand) → Assignment d (t ∷ ts) a.expr → a.start ≡ at t → Behind n Q (t ∷ ts) (k (operand a)))
    → Sound n Q (after (assignment d) k)
expr_by {n} {Q} k rests fits d f =
    sound_cast_then {Q = Q} {k = λ v. after (assignment_rest d v) k} fits
    (λ t ts a p e. behind_after (Reads (AsAssignment d)) Q (assignment_rest d (operand a)) k (t ∷ ts) (rests.behind d t ts a p e)
    (λ us v m. reads_case Q k f m))

right_sound : {n : ℕ} → Rests n → Fits n → {d : ℕ} {t : Placed} {ts : List Placed} (a : Operand) (x : Token) (o : Option BinOp)
    → Unary d (t ∷ ts) a.expr → a.start ≡ at t → assignment_operator x ≡ Some o
    → Sound n (λ more v. Reads (AsAssignment d) (t ∷ (ts ++ placed_at d x ∷ more)) v)
    (expr_then (suc d) (λ b. Return (operand (other a.start (assigned o a.expr b)))))
right_sound {n} rests fits {d} {t} {ts} a x o u e k =
    expr_by {Q = λ more v. Reads (AsAssignment d) (t ∷ (ts ++ placed_at d x ∷ more)) v}
    (λ b. Return (operand (other a.start (assigned o a.expr (as_expr b))))) rests fits (suc d)
    (λ y ys b r l. behind_return (λ more v. Reads (AsAssignment d) (t ∷ (ts ++ placed_at d x ∷ more)) v) (y ∷ ys)
    (rw e (Reads.reads {a = other (at t) (assigned o a.expr b.expr)} (by_operator x o u r k) refl)))

conditional_sound : {n : ℕ} → Fits n → {d : ℕ} {t : Placed} {ts : List Placed} {a : Operand} → AsOperand true d (t ∷ ts) a
    → a.start ≡ at t → Behind n (Reads (AsAssignment d)) (t ∷ ts) (conditional_rest d (operand a))
conditional_sound {n} fits {d} {t} {ts} {a} p e =
    subst (Behind n (Reads (AsAssignment d)) (t ∷ ts)) (after_return (conditional_rest d (operand a)))
    (sound_conditional_rest (Reads (AsAssignment d)) Return a fits p.0 e
    (λ u us b q l. behind_return (Reads (AsAssignment d)) (u ∷ us) (Reads.reads (Assignment.conditional q) l)))

at_token : {n : ℕ} → Rests n → Fits (suc n) → (d : ℕ) (t : Placed) (ts : List Placed) (a : Operand) → AsOperand true d (t ∷ ts) a
    → a.start ≡ at t → (xs : List Token) → length xs ≤ suc n
    → Explained (λ more v. Reads (AsAssignment d) (t ∷ (ts ++ more)) v) (run xs (assignment_rest d (operand a)))
at_token rests fits d t ts a p e [] h = (conditional_sound fits p e).trace [] h
at_token {n} rests fits d t ts a p e (x ∷ xs) h =
    explained_met Q (placed_at d x) (λ q. run xs (after q (conditional_rest d)))
    (run (x ∷ xs) (conditional_rest d (operand a))) (when_some a.is_unary (option_map right (assignment_operator x)))
    ((conditional_sound fits p e).trace (x ∷ xs) h)
    (each_when Later a.is_unary (option_map right (assignment_operator x)) (λ unary.
    each_map Later right (assignment_operator x) (λ o k.
    subst (Explained (λ more v. Q (placed_at d x ∷ more) v))
    (sym (assignment_stays (suc d) d (λ v. other a.start (assigned o a.expr (as_expr v))) xs))
    ((right_sound rests (fits_fewer fits) a x o (p.1 unary) e k).trace xs (omega arith)))))
  where
    Q : List Placed → Value → Type 0
    Q more v = Reads (AsAssignment d) (t ∷ (ts ++ more)) v

    right : Option BinOp → Plan
    right o = expr_then (suc d) (λ b. Return (operand (other a.start (assigned o a.expr b))))

    Later : Plan → Type 0
    Later q = Explained (λ more v. Q (placed_at d x ∷ more) v) (run xs (after q (conditional_rest d)))

nowhere : (d : ℕ) (t : Placed) (ts : List Placed) (a : Operand) → Fits 0 → AsOperand true d (t ∷ ts) a → a.start ≡ at t
    → (xs : List Token) → length xs ≤ 0
    → Explained (λ more v. Reads (AsAssignment d) (t ∷ (ts ++ more)) v) (run xs (assignment_rest d (operand a)))
nowhere d t ts a fits p e [] h = (conditional_sound fits p e).trace [] h
nowhere d t ts a fits p e (x ∷ xs) h = absurd (omega arith)

all_rests : (n : ℕ) → Fits n → Rests n
all_rests zero fits = record { behind = λ d t ts a p e. record { trace = nowhere d t ts a fits p e } }
all_rests (suc n) fits = record {
  behind = λ d t ts a p e. record { trace = at_token (all_rests n (fits_fewer fits)) fits d t ts a p e };
}

pub sound_assignment_rest : {n : ℕ} → Fits n → {d : ℕ} {t : Placed} {ts : List Placed} {a : Operand} → AsOperand true d (t ∷ ts) a
    → a.start ≡ at t → Behind n (Reads (AsAssignment d)) (t ∷ ts) (assignment_rest d (operand a))
sound_assignment_rest {n} fits {d} {t} {ts} {a} p e = (all_rests n fits).behind d t ts a p e

-- an assignment, and how to go on with it
pub sound_assignment_then : {n : ℕ} {Q : List Placed → Value → Type 0} (k : Value → Plan) → Fits n → (d : ℕ)
    → ((t : Placed) (ts : List Placed) (a : Operand) → Assignment d (t ∷ ts) a.expr → a.start ≡ at t → Behind n Q (t ∷ ts) (k (operand a)))
    → Sound n Q (after (assignment d) k)
sound_assignment_then {n} {Q} k fits d f = expr_by {Q = Q} k (all_rests n fits) fits d f
