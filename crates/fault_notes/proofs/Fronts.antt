-- Whether some tokens have a fault, by what the parser answers for them.
use Rattle.std.proofs.Common.{◌≡◌, ◌∙◌, ◌<◌, ◌≤◌, ℕ, List, length, Option, Some, None, Ok, Err, sym, ap, arith, true≢false, inl, inr}
use Rattle.std.specs.Prelude.{◌↔◌, IsTrue, Result, is_ok, nat_le}
use Rattle.std.proofs.lemmas.Bool.Decides.{leb_tells}
use Rattle.std.proofs.lemmas.Option.{none-some, same_Some}
use Rattle.c_lexer.specs.declared.token.Token.{Token}
use Rattle.c_tree.specs.declared.def.Program.{Program}
use Rattle.c_expr_parser.specs.declared.parser.SyntaxFault.{SyntaxFault}
use Rattle.c_expr_parser.specs.declared.parser.SyntaxFault.TheVariants.{At, TooDeep}
use Rattle.c_expr_parser.specs.Reading.{IsUnlessMemory}
use Rattle.c_expr_parser.specs.Readings.{FaultAt, TooDeepAt}
use Rattle.c_expr_parser.specs.Definitions.{TranslationUnit}
use Rattle.c_parser.specs.Programs.{IsFault}
use Rattle.fault_notes.specs.Expected.{BeginsProgram}

abbrev pub Answer : Type 0
Answer = Result Program SyntaxFault

-- the number of a token at which an answer has a fault of syntax
abbrev place_in : Answer → Option ℕ
place_in (Err (At k)) = Some k
place_in _ = None

module _ (ts : List Token) (result : Answer)
    (stuck : (k : ℕ) → FaultAt TranslationUnit ts k → ((j : ℕ) → TooDeepAt TranslationUnit ts j → k ≤ j)
    → IsUnlessMemory result (Err (At k)))
    (deep : (k : ℕ) → TooDeepAt TranslationUnit ts k → IsUnlessMemory result (Err (TooDeep k))) where
  not_read : (p : Program) (f : SyntaxFault) → result ≡ Ok p → IsUnlessMemory result (Err f) → ⊥
  not_read p f is (inl e) = true≢false (ap is_ok (sym is ∙ e))
  not_read p f is (inr e) = true≢false (ap is_ok (sym is ∙ e))

  -- tokens that are read have none
  pub read_begins : (p : Program) → result ≡ Ok p → BeginsProgram ts
  read_begins p is k within = (
    (λ f. not_read p (At k) is (stuck k f (λ j d. absurd (not_read p (TooDeep j) is (deep j d))))),
    (λ d. not_read p (TooDeep k) is (deep k d)),
  )

  same_place : (n k : ℕ) → result ≡ Err (At n) → IsUnlessMemory result (Err (At k)) → n ≡ k
  same_place n k is (inl e) = same_Some n k (ap place_in (sym is ∙ e))
  same_place n k is (inr e) = absurd (none-some n (ap place_in (sym e ∙ is)))

  -- tokens whose fault is at their end have none
  pub end_begins : (n : ℕ) → result ≡ Err (At n) → IsFault ts (At n) → length ts ≤ n → BeginsProgram ts
  end_begins n is fault far k within = (
    (λ f.
        let before : (j : ℕ) → TooDeepAt TranslationUnit ts j → k ≤ j = λ j d. let h : n ≤ j = fault.1 j d in omega arith in
        let same : n ≡ k = same_place n k is (stuck k f before) in
        omega arith),
    (λ d. let h : n ≤ k = fault.1 k d in omega arith),
  )

-- tokens with a fault before their end don't begin a program
pub fault_begins_not : (ts : List Token) (n : ℕ) → IsFault ts (At n) → n < length ts → BeginsProgram ts → ⊥
fault_begins_not ts n fault within begins = (begins n within).0 fault.0

pub deep_begins_not : (ts : List Token) (n : ℕ) → IsFault ts (TooDeep n) → BeginsProgram ts → ⊥
deep_begins_not ts n fault begins = (begins n fault.0.0).1 fault.0

-- whether tokens whose first fault has a place begin a program, by whether it is at their end
pub at_tells : (ts : List Token) (result : Answer)
    → ((k : ℕ) → FaultAt TranslationUnit ts k → ((j : ℕ) → TooDeepAt TranslationUnit ts j → k ≤ j) → IsUnlessMemory result (Err (At k)))
    → ((k : ℕ) → TooDeepAt TranslationUnit ts k → IsUnlessMemory result (Err (TooDeep k)))
    → (n : ℕ) → result ≡ Err (At n) → IsFault ts (At n) → IsTrue (nat_le (length ts) n) ↔ BeginsProgram ts
at_tells ts result stuck deep n is fault = elim (leb_tells (length ts) n) [
  | inl h ↦ ((λ t. end_begins ts result stuck deep n is fault h.1), (λ b. h.0))
  | inr h ↦ ((λ t. absurd (true≢false (sym t ∙ h.0))), (λ b. absurd (fault_begins_not ts n fault (omega (arith, h.1)) b)))
]
