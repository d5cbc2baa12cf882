-- Expressions: the laws of their grammar, and what the plan for them says of any tokens.
use Rattle.std.specs.Prelude.{◌≡◌, ◌≤◌, ◌+◌, ℕ, List, [], ◌++◌, length, take}
use Rattle.std.proofs.Common.{refl, ap, sym, ◌∙◌, append-nil}
use Rattle.c_lexer.specs.declared.token.Token.{Token}
use Rattle.c_tree.specs.declared.expr.Expr.{Expr}
use Rattle.c_expr_parser.specs.Placed.{Placed, tokens, start}
use Rattle.c_expr_parser.specs.Expressions.{Assignment}
use Rattle.c_expr_parser.specs.Laws.{OneExpression, ExpressionDepth}
use Rattle.c_expr_parser.specs.Readings.{Reads, ReadsTo, FaultBefore, TooDeepAt}
use Rattle.c_expr_parser.specs.Plans.{Value, run, as_expr, assignment, parsed}
use Rattle.c_expr_parser.specs.Plans.Value.{operand}
use Rattle.c_expr_parser.specs.Plans.Plan.{Return}
use Rattle.c_expr_parser.specs.Plans.Trace.{Took}
use Rattle.c_expr_parser.specs.Plans.Parsed.{read, stuck, deep}
use Rattle.c_expr_parser.proofs.JoinedTraces.{after_return}
use Rattle.c_expr_parser.proofs.CompletePlans.{puts}
use Rattle.c_expr_parser.proofs.CompleteEnds.{at_end}
use Rattle.c_expr_parser.proofs.CompleteExpressions.{assignment_complete}
use Rattle.c_expr_parser.proofs.TraceMeaning.{Explained, explained_map}
use Rattle.c_expr_parser.proofs.WantedMeaning.{Reads as Explains, AsAssignment}
use Rattle.c_expr_parser.proofs.SoundExpressions.{sound_assignment}
use Rattle.c_expr_parser.proofs.TraceParts.{placed_of}
use Rattle.c_expr_parser.proofs.ExactPlans.{once, by_front, reads_to, read_is, stuck_is, deep_is, read_of, stuck_of, deep_of}

-- the plan reads each expression
reads_each : (d : ℕ) (ts : List Placed) (e : Expr) → Assignment d ts e
    → (v : Value) × (as_expr v ≡ e) × (run (tokens ts) (assignment d) ≡ puts ts (Took v []))
reads_each d ts e a =
    let c = assignment_complete a [] at_end Return in (
      operand (record { expr = e; start = start ts; is_unary = c.0 }),
      refl,
      ap (λ l. run l (assignment d)) (sym (append-nil (tokens ts)))
          ∙ (ap (run (tokens ts ++ [])) (sym (after_return (assignment d))) ∙ c.1),
    )

-- and what it takes begins one
is_assignment : (d : ℕ) (ts : List Placed) (v : Value) → Explains (AsAssignment d) ts v → Assignment d ts (as_expr v)
is_assignment d ts v (Explains.reads a e) = a

begins_one : (d : ℕ) (ts : List Token) → Explained (λ ts v. Assignment d ts (as_expr v)) (run ts (assignment d))
begins_one d ts =
    explained_map (Explains (AsAssignment d)) (λ us v. Assignment d us (as_expr v)) (run ts (assignment d)) (is_assignment d)
    (sound_assignment d ts)

pub one_expression : OneExpression
one_expression d = once (Assignment d) (assignment d) as_expr (reads_each d) (begins_one d)

pub expression_depth : ExpressionDepth
expression_depth d = by_front (Assignment d) (assignment d) as_expr (reads_each d) (begins_one d)

-- how far tokens can be read as an expression
pub expression_reads_to : (d : ℕ) (ts : List Token) → ReadsTo (Assignment d) ts (length (placed_of (run ts (assignment d))))
expression_reads_to d ts = reads_to (Assignment d) (assignment d) as_expr (reads_each d) (begins_one d) ts

-- what the plan gives means
pub expression_read : (d : ℕ) (ts : List Token) {v : Value} {rest : List Token} → parsed (assignment d) ts ≡ read v rest
    → (n : ℕ) × ReadsTo (Assignment d) ts n × Reads (Assignment d) (take n ts) (as_expr v) × (n + length rest ≡ length ts)
expression_read d ts e = read_is (Assignment d) (assignment d) as_expr (reads_each d) (begins_one d) ts e

pub expression_stuck : (d : ℕ) (ts : List Token) {left : ℕ} → parsed (assignment d) ts ≡ stuck left
    → (k : ℕ) × FaultBefore (Assignment d) ts k × (k + left ≡ length ts) × ((j : ℕ) → TooDeepAt (Assignment d) ts j → k ≤ j)
expression_stuck d ts e = stuck_is (Assignment d) (assignment d) as_expr (reads_each d) (begins_one d) ts e

pub expression_deep : (d : ℕ) (ts : List Token) {left : ℕ} → parsed (assignment d) ts ≡ deep left
    → (k : ℕ) × TooDeepAt (Assignment d) ts k × (k + left ≡ length ts) × ((j : ℕ) → FaultBefore (Assignment d) ts j → k ≤ j)
expression_deep d ts e = deep_is (Assignment d) (assignment d) as_expr (reads_each d) (begins_one d) ts e

-- and what the grammar says is what the plan gives
pub expression_read_of : (d : ℕ) (ts : List Token) (n : ℕ) (e : Expr) → ReadsTo (Assignment d) ts n → Reads (Assignment d) (take n ts) e
    → (v : Value) × (rest : List Token) × (parsed (assignment d) ts ≡ read v rest) × (as_expr v ≡ e) × (n + length rest ≡ length ts)
expression_read_of d ts n e to r = read_of (Assignment d) (assignment d) as_expr (reads_each d) (begins_one d) ts n e to r

pub expression_stuck_of : (d : ℕ) (ts : List Token) (k : ℕ) → FaultBefore (Assignment d) ts k
    → ((j : ℕ) → TooDeepAt (Assignment d) ts j → k ≤ j) → (left : ℕ) × (parsed (assignment d) ts ≡ stuck left) × (k + left ≡ length ts)
expression_stuck_of d ts k f least = stuck_of (Assignment d) (assignment d) as_expr (reads_each d) (begins_one d) ts k f least

pub expression_deep_of : (d : ℕ) (ts : List Token) (k : ℕ) → TooDeepAt (Assignment d) ts k
    → (left : ℕ) × (parsed (assignment d) ts ≡ deep left) × (k + left ≡ length ts)
expression_deep_of d ts k t = deep_of (Assignment d) (assignment d) as_expr (reads_each d) (begins_one d) ts k t
