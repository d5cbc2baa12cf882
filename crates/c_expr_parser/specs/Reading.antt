-- What is answered where a phrase is read from tokens of which the first has a number: what was read and the number of the
-- token after it, or a fault at a token's number.
use Rattle.std.specs.Prelude.{◌≡◌, ℕ, ◌+◌, ◌≤◌, ◌⊎◌, List, take, Result, Err}
use Rattle.c_lexer.specs.declared.token.Token.{Token}
use Rattle.c_expr_parser.specs.declared.parser.SyntaxFault.{SyntaxFault}
use Rattle.c_expr_parser.specs.declared.parser.SyntaxFault.TheVariants.{At, TooDeep, Memory}
use Rattle.c_expr_parser.specs.Placed.{Placed}
use Rattle.c_expr_parser.specs.Readings.{Reads, ReadsTo, FaultBefore, TooDeepAt}

module _ {Tree : Type 0} (Phrase : List Placed → Tree → Type 0) where
  -- as many tokens as begin a phrase are this tree, and the number is that of the token after them
  abbrev pub IsRead : List Token → ℕ → Tree → ℕ → Type 0
  IsRead ts at tree behind = (n : ℕ) × (behind ≡ at + n) × ReadsTo Phrase ts n × Reads Phrase (take n ts) tree

  -- the fault with the lesser place
  abbrev pub IsFault : List Token → ℕ → SyntaxFault → Type 0
  IsFault ts at (At place) =
      (k : ℕ) × (place ≡ at + k) × FaultBefore Phrase ts k × ((j : ℕ) → TooDeepAt Phrase ts j → k ≤ j)
  IsFault ts at (TooDeep place) =
      (k : ℕ) × (place ≡ at + k) × TooDeepAt Phrase ts k × ((j : ℕ) → FaultBefore Phrase ts j → k ≤ j)
  IsFault ts at Memory = Unit {0}

-- one answer is given, if memory doesn't want
abbrev pub IsUnlessMemory : {T : Type 0} → Result T SyntaxFault → Result T SyntaxFault → Type 0
IsUnlessMemory result answer = (result ≡ answer) ⊎ (result ≡ Err Memory)
