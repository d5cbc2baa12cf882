-- What is answered where all tokens are to be a program: its tree, or the fault with the lesser place.
use Rattle.std.specs.Prelude.{◌≡◌, ℕ, ◌≤◌, List}
use Rattle.c_lexer.specs.declared.token.Token.{Token}
use Rattle.c_tree.specs.declared.def.Program.{Program}
use Rattle.c_expr_parser.specs.declared.parser.SyntaxFault.{SyntaxFault}
use Rattle.c_expr_parser.specs.declared.parser.SyntaxFault.TheVariants.{At, TooDeep, Memory}
use Rattle.c_expr_parser.specs.Readings.{Reads, FaultAt, TooDeepAt}
use Rattle.c_expr_parser.specs.Definitions.{TranslationUnit}

-- the fault of some tokens: that of syntax, or that of depth where it comes before
abbrev pub IsFault : List Token → SyntaxFault → Type 0
IsFault ts (At k) = FaultAt TranslationUnit ts k × ((j : ℕ) → TooDeepAt TranslationUnit ts j → k ≤ j)
IsFault ts (TooDeep k) = TooDeepAt TranslationUnit ts k × ((j : ℕ) → FaultAt TranslationUnit ts j → k ≤ j)
IsFault ts Memory = Unit {0}

-- a program whose tree ends at a place
abbrev pub ended : ℕ → Program → Program
ended place program = record program { end = place }

-- some tokens are read as a program, and this is its tree with its end at a place
pub record ReadsProgram (tokens : List Token) (place : ℕ) (program : Program) : Type 0 where
  pub read : Program
  pub reads : Reads TranslationUnit tokens read
  pub ends : program ≡ ended place read
