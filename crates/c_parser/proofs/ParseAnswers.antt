-- What `parse` answers is the only answer: what it gives is a program or the fault that comes first, and there is one.
use Rattle.std.specs.Prelude.{◌≡◌, ◌<◌, ◌≤◌, ◌+◌, ℕ, List, length, Result, Ok, Err, MatchResult}
use Rattle.std.proofs.Common.{inl, inr, refl, sym, ap, ◌∙◌, subst, arith}
use Rattle.c_lexer.specs.declared.token.Token.{Token}
use Rattle.c_tree.specs.declared.def.Def.{Def}
use Rattle.c_tree.specs.declared.def.Program.{Program}
use Rattle.c_expr_parser.specs.declared.parser.SyntaxFault.{SyntaxFault}
use Rattle.c_expr_parser.specs.declared.parser.SyntaxFault.TheVariants.{At, TooDeep, Memory}
use Rattle.c_expr_parser.specs.Readings.{Reads, FaultAt, TooDeepAt}
use Rattle.c_expr_parser.specs.Reading.{IsUnlessMemory}
use Rattle.c_expr_parser.specs.Definitions.{TranslationUnit}
use Rattle.c_parser.specs.Programs.{IsFault, ReadsProgram, ended}
use Rattle.c_parser.specs.TextPlans.{text_parsed, item, ItemsRead}
use Rattle.c_parser.specs.TextPlans.TextParsed.{stuck_at, deep_at}
use Rattle.c_parser.proofs.ProgramLaws.{one_program, program_depth}
use Rattle.c_parser.proofs.OnlyAnswers.{read_no_fault, read_not_deep, one_fault, one_deep, deep_before_fault}
use Rattle.c_parser.proofs.ProgramReadings.{program_stuck, program_deep}

-- where an item stops after items that were read, that is the fault
pub stuck_answer : (ts : List Token) (ds : List Def) (rest : List Token) (left : ℕ) → ItemsRead ts ds rest → 0 < length rest
    → text_parsed item rest ≡ stuck_at left → (k : ℕ) → k + left ≡ length ts → IsFault ts (At k)
stuck_answer ts ds rest left r h e k c =
    let s = program_stuck ts ds rest left r h e in
    let same : s.0 ≡ k = omega (arith, c, s.2) in
    subst (λ n. IsFault ts (At n)) same (s.1, s.3)

pub deep_answer : (ts : List Token) (ds : List Def) (rest : List Token) (left : ℕ) → ItemsRead ts ds rest
    → text_parsed item rest ≡ deep_at left → (k : ℕ) → k + left ≡ length ts → IsFault ts (TooDeep k)
deep_answer ts ds rest left r e k c =
    let d = program_deep ts ds rest left r e in
    let same : d.0 ≡ k = omega (arith, c, d.2) in
    subst (λ n. IsFault ts (TooDeep n)) same (d.1, d.3)

-- and no more tokens are left than there were
pub stuck_within : (ts : List Token) (ds : List Def) (rest : List Token) (left : ℕ) → ItemsRead ts ds rest → 0 < length rest
    → text_parsed item rest ≡ stuck_at left → left ≤ length ts
stuck_within ts ds rest left r h e = omega (arith, (program_stuck ts ds rest left r h e).2)

pub deep_within : (ts : List Token) (ds : List Def) (rest : List Token) (left : ℕ) → ItemsRead ts ds rest
    → text_parsed item rest ≡ deep_at left → left ≤ length ts
deep_within ts ds rest left r e = omega (arith, (program_deep ts ds rest left r e).2)

-- a tree that is read or a fault that is there
abbrev pub IsAnswer : List Token → ℕ → Result Program SyntaxFault → Type 0
IsAnswer ts place r = MatchResult r (λ p. ReadsProgram ts place p) (λ fault. IsFault ts fault)

pub one_read : (ts : List Token) (p q : Program) → Reads TranslationUnit ts p → Reads TranslationUnit ts q → p ≡ q
one_read ts p q r s = (one_program r.placed s.placed p q (r.are ∙ sym s.are) r.phrase s.phrase).1

pub complete : (ts : List Token) (place : ℕ) (r : Result Program SyntaxFault) → IsAnswer ts place r → (p : Program) → Reads TranslationUnit ts p
    → IsUnlessMemory r (Ok (ended place p))
complete ts place (Ok q) answer p s = inl (ap Ok (answer.ends ∙ ap (ended place) (one_read ts answer.read p answer.reads s)))
complete ts place (Err (At k)) answer p s = absurd (read_no_fault TranslationUnit ts p k s answer.0)
complete ts place (Err (TooDeep k)) answer p s = absurd (read_not_deep TranslationUnit program_depth ts p k s answer.0)
complete ts place (Err Memory) answer p s = inr refl

pub stuck : (ts : List Token) (place : ℕ) (r : Result Program SyntaxFault) → IsAnswer ts place r → (k : ℕ) → FaultAt TranslationUnit ts k
    → ((j : ℕ) → TooDeepAt TranslationUnit ts j → k ≤ j) → IsUnlessMemory r (Err (At k))
stuck ts place (Ok q) answer k fault least = absurd (read_no_fault TranslationUnit ts answer.read k answer.reads fault)
stuck ts place (Err (At j)) answer k fault least = inl (ap (λ n. Err (At n)) (one_fault TranslationUnit ts j k answer.0 fault))
stuck ts place (Err (TooDeep j)) answer k fault least =
    let before : j < k = deep_before_fault TranslationUnit ts j k answer.0 fault in
    let behind : k ≤ j = least j answer.0 in
    absurd (omega arith)
stuck ts place (Err Memory) answer k fault least = inr refl

pub deep : (ts : List Token) (place : ℕ) (r : Result Program SyntaxFault) → IsAnswer ts place r → (k : ℕ) → TooDeepAt TranslationUnit ts k
    → IsUnlessMemory r (Err (TooDeep k))
deep ts place (Ok q) answer k low = absurd (read_not_deep TranslationUnit program_depth ts answer.read k answer.reads low)
deep ts place (Err (At j)) answer k low =
    let before : k < j = deep_before_fault TranslationUnit ts k j low answer.0 in
    let behind : j ≤ k = answer.1 k low in
    absurd (omega arith)
deep ts place (Err (TooDeep j)) answer k low = inl (ap (λ n. Err (TooDeep n)) (one_deep TranslationUnit program_depth ts j k answer.0 low))
deep ts place (Err Memory) answer k low = inr refl
