-- What `expression` answers, from what the walk through the tokens gives.
use Rattle.std.proofs.Common.{◌≡◌, ◌≤◌, ◌+◌, inl, inr, ℕ, List, length, take, refl, sym, ap, ◌∙◌, subst, arith}
use Rattle.std.specs.Prelude.{Result, Ok, Err, MatchResult}
use Rattle.c_lexer.specs.declared.token.Token.{Token}
use Rattle.c_tree.specs.declared.expr.Expr.{Expr}
use Rattle.c_expr_parser.specs.declared.parser.SyntaxFault.{SyntaxFault}
use Rattle.c_expr_parser.specs.declared.parser.SyntaxFault.TheVariants.{At, TooDeep, Memory}
use Rattle.c_expr_parser.specs.Expressions.{Assignment}
use Rattle.c_expr_parser.specs.Reading.{IsRead, IsFault, IsUnlessMemory}
use Rattle.c_expr_parser.specs.Readings.{Reads, ReadsTo, FaultBefore, TooDeepAt}
use Rattle.c_expr_parser.specs.Plans.{Value, as_expr, assignment, Parsed, read, stuck, deep, parsed, Told}
use Rattle.c_expr_parser.proofs.ExpressionLaws.{expression_read, expression_stuck, expression_deep, expression_read_of, expression_stuck_of, expression_deep_of}

-- what the walk gives is answered
abbrev pub Walked : Parsed → ℕ → Result (Expr × ℕ) SyntaxFault → Type 0
Walked m count r =
    MatchResult r (λ x. (v : Value) × (rest : List Token) × (m ≡ read v rest) × (as_expr v ≡ x.0) × (x.1 + length rest ≡ count))
    (λ fault. Told fault m count)

-- what is left is at most what there was
pub stuck_left : (d : ℕ) (ts : List Token) {left : ℕ} → parsed (assignment d) ts ≡ stuck left → left ≤ length ts
stuck_left d ts e = omega (arith, (expression_stuck d ts e).2)

pub deep_left : (d : ℕ) (ts : List Token) {left : ℕ} → parsed (assignment d) ts ≡ deep left → left ≤ length ts
deep_left d ts e = omega (arith, (expression_deep d ts e).2)

pub sound : (d at count : ℕ) (ts : List Token) (r : Result (Expr × ℕ) SyntaxFault) → length ts + at ≡ count
    → Walked (parsed (assignment d) ts) count r
    → MatchResult r (λ x. IsRead (Assignment d) ts at x.0 x.1) (λ fault. IsFault (Assignment d) ts at fault)
sound d at count ts (Ok x) len w =
    let f = expression_read d ts w.2 in (
      f.0,
      omega (arith, len, f.3, w.4),
      f.1,
      subst (Reads (Assignment d) (take f.0 ts)) w.3 f.2,
    )
sound d at count ts (Err (At place)) len w =
    let f = expression_stuck d ts w.1 in (f.0, omega (arith, len, f.2, w.2), f.1, f.3)
sound d at count ts (Err (TooDeep place)) len w =
    let f = expression_deep d ts w.1 in (f.0, omega (arith, len, f.2, w.2), f.1, f.3)
sound d at count ts (Err Memory) len w = tt

-- the parts of what is parsed
abbrev expr_of : Parsed → Expr → Expr
expr_of (read v rest) other = as_expr v
expr_of (stuck left) other = other
expr_of (deep left) other = other

abbrev left_of : Parsed → ℕ
left_of (read v rest) = length rest
left_of (stuck left) = left
left_of (deep left) = left

abbrev kind_of : Parsed → ℕ
kind_of (read v rest) = 0
kind_of (stuck left) = 1
kind_of (deep left) = 2

same : {m a b : Parsed} → m ≡ a → m ≡ b → a ≡ b
same x y = sym x ∙ y

two : (x : Expr × ℕ) {e : Expr} {n : ℕ} → x.0 ≡ e → x.1 ≡ n → x ≡ (e, n)
two x {e} a b = ap (λ y. (y, x.1)) a ∙ ap (λ y. (e, y)) b

pub complete : (d at count : ℕ) (ts : List Token) (r : Result (Expr × ℕ) SyntaxFault) → length ts + at ≡ count
    → Walked (parsed (assignment d) ts) count r → (n : ℕ) (e : Expr) → ReadsTo (Assignment d) ts n → Reads (Assignment d) (take n ts) e
    → IsUnlessMemory r (Ok (e, at + n))
complete d at count ts (Ok x) len w n e to reads =
    let f = expression_read_of d ts n e to reads in
    let h = same w.2 f.2 in
    inl (ap Ok (two x (sym w.3 ∙ ap (λ m. expr_of m e) h ∙ f.3) (omega (arith, len, w.4, f.4, ap left_of h))))
complete d at count ts (Err (At place)) len w n e to reads =
    let f = expression_read_of d ts n e to reads in absurd (omega (arith, ap kind_of (same w.1 f.2)))
complete d at count ts (Err (TooDeep place)) len w n e to reads =
    let f = expression_read_of d ts n e to reads in absurd (omega (arith, ap kind_of (same w.1 f.2)))
complete d at count ts (Err Memory) len w n e to reads = inr refl

pub stuck_at : (d at count : ℕ) (ts : List Token) (r : Result (Expr × ℕ) SyntaxFault) → length ts + at ≡ count
    → Walked (parsed (assignment d) ts) count r → (k : ℕ) → FaultBefore (Assignment d) ts k
    → ((j : ℕ) → TooDeepAt (Assignment d) ts j → k ≤ j) → IsUnlessMemory r (Err (At (at + k)))
stuck_at d at count ts (Ok x) len w k fault least =
    let f = expression_stuck_of d ts k fault least in absurd (omega (arith, ap kind_of (same w.2 f.1)))
stuck_at d at count ts (Err (At place)) len w k fault least =
    let f = expression_stuck_of d ts k fault least in
    inl (ap (λ p. Err (At p)) (omega (arith, len, w.2, f.2, ap left_of (same w.1 f.1))))
stuck_at d at count ts (Err (TooDeep place)) len w k fault least =
    let f = expression_stuck_of d ts k fault least in absurd (omega (arith, ap kind_of (same w.1 f.1)))
stuck_at d at count ts (Err Memory) len w k fault least = inr refl

pub deep_at : (d at count : ℕ) (ts : List Token) (r : Result (Expr × ℕ) SyntaxFault) → length ts + at ≡ count
    → Walked (parsed (assignment d) ts) count r → (k : ℕ) → TooDeepAt (Assignment d) ts k → IsUnlessMemory r (Err (TooDeep (at + k)))
deep_at d at count ts (Ok x) len w k fault =
    let f = expression_deep_of d ts k fault in absurd (omega (arith, ap kind_of (same w.2 f.1)))
deep_at d at count ts (Err (At place)) len w k fault =
    let f = expression_deep_of d ts k fault in absurd (omega (arith, ap kind_of (same w.1 f.1)))
deep_at d at count ts (Err (TooDeep place)) len w k fault =
    let f = expression_deep_of d ts k fault in
    inl (ap (λ p. Err (TooDeep p)) (omega (arith, len, w.2, f.2, ap left_of (same w.1 f.1))))
deep_at d at count ts (Err Memory) len w k fault = inr refl
