-- Which tokens could come after some others.
use Rattle.std.specs.Prelude.{◌↔◌, ◌<◌, ℕ, ⊤, IsTrue, Bool, List, [], ◌∷◌, ◌++◌, length}
use Rattle.c_lexer.specs.declared.token.Token.{Token}
use Rattle.c_expr_parser.specs.Readings.{FaultAt, TooDeepAt}
use Rattle.c_expr_parser.specs.Definitions.{TranslationUnit}

-- no token has a fault of syntax or of depth: the tokens begin a program, if they aren't a whole one
abbrev pub BeginsProgram : List Token → Type 0
BeginsProgram ts =
    (k : ℕ) → k < length ts → (FaultAt TranslationUnit ts k → ⊥) × (TooDeepAt TranslationUnit ts k → ⊥)

-- for each of some tokens, whether it could come after the others
abbrev pub AreTried : List Token → List Token → List Bool → Type 0
AreTried before [] [] = ⊤
AreTried before (c ∷ cs) (fits ∷ rest) = (IsTrue fits ↔ BeginsProgram (before ++ c ∷ [])) × AreTried before cs rest
AreTried before _ _ = ⊥
