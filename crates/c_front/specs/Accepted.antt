-- Which texts are accepted, and what is reported of one that isn't.
use Rattle.std.specs.Prelude.{◌≡◌, ℕ, List, length, Some, slice_get, Ok, Err}
use Rattle.std.specs.Option.{option_map_or}
use Rattle.c_lexer.specs.declared.token.Token.{Token}
use Rattle.c_lexer.specs.declared.token.LexFault.TheVariants as lexer
use Rattle.c_lexer.specs.Cut.{Lexes}
use Rattle.c_tree.specs.declared.def.Program.{Program}
use Rattle.c_expr_parser.specs.declared.parser.SyntaxFault.TheVariants.{At, TooDeep as Deep}
use Rattle.c_expr_parser.specs.Readings.{Reads}
use Rattle.c_expr_parser.specs.Definitions.{TranslationUnit}
use Rattle.c_parser.specs.Programs.{IsFault}
use Rattle.c_expr_types.specs.declared.fault.Fault.{Fault}
use Rattle.c_types.specs.Definitions.{Types, first_fault}
use Rattle.c_front.specs.declared.fault.FaultKind.{FaultKind}
use Rattle.c_front.specs.declared.fault.FaultKind.TheVariants.{BadByte, BadLiteral, Directive, TooMany, Syntax, TooDeep, Kind}

-- a tree that ends where a text does
abbrev pub ending : List ℕ → Program → Program
ending text program = record program { end = length text }

-- the tokens of a text are read as a program, whose tree ends where the text does. There are at most 65,536 of them
pub record IsReadAs (text : List ℕ) (program : Program) : Type 0 where
  pub tokens : List Token
  pub read : Program
  pub lexes : Lexes text (Ok tokens)
  pub reads : Reads TranslationUnit tokens read
  pub ends : program ≡ ending text read

-- the text is read as this program, and its types are right
pub record Accepted (text : List ℕ) (program : Program) : Type 0 where
  pub is_read : IsReadAs text program
  pub types : Types program

-- the byte at which the token of a number begins; after the last token, the end of the text
abbrev pub byte_of : List ℕ → List Token → ℕ → ℕ
byte_of text tokens number = option_map_or (λ token. token.at) (slice_get tokens number) (length text)

-- the first fault of a text, and its byte: that of the tokens; where there is none, that of syntax or depth; where there
-- is none either, that of types
pub data FirstFault (text : List ℕ) : FaultKind → ℕ → Type 0 where
  byte : {at : ℕ} → Lexes text (Err (lexer.BadByte at)) → FirstFault text BadByte at
  literal : {at : ℕ} → Lexes text (Err (lexer.BadLiteral at)) → FirstFault text BadLiteral at
  directive : {at : ℕ} → Lexes text (Err (lexer.Directive at)) → FirstFault text Directive at
  many : {at : ℕ} → Lexes text (Err (lexer.TooMany at)) → FirstFault text TooMany at
  syntax_at : {tokens : List Token} {number : ℕ} → Lexes text (Ok tokens) → IsFault tokens (At number)
      → FirstFault text Syntax (byte_of text tokens number)
  deep : {tokens : List Token} {number : ℕ} → Lexes text (Ok tokens) → IsFault tokens (Deep number)
      → FirstFault text TooDeep (byte_of text tokens number)
  type : {program : Program} {fault : Fault} → IsReadAs text program → first_fault program ≡ Some fault
      → FirstFault text (Kind fault.kind) fault.place
