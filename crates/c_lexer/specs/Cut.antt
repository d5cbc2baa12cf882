-- The cut of a text into units, each the longest at its place (6.4p4), and what it says of the text's tokens.
use Rattle.std.specs.Prelude.{◌≡◌, ℕ, ◌+◌, ◌<◌, ◌≤◌, nat_lt, List, [], ◌∷◌, length, take, drop, map, slice_index, Option, Some, None, Result, Ok, Err, if◌then◌else◌}
use Rattle.c_lexer.specs.declared.token.TokenKind.{TokenKind}
use Rattle.c_lexer.specs.declared.token.Token.{Token}
use Rattle.c_lexer.specs.declared.token.LexFault.{LexFault}
use Rattle.c_lexer.specs.declared.token.LexFault.TheVariants.{BadByte, BadLiteral, Directive as BadDirective, TooMany}
use Rattle.c_lexer.specs.declared.unit.Reading.{Reading}
use Rattle.c_lexer.specs.declared.unit.Reading.TheVariants.{Space, Lexeme, Bad}
use Rattle.c_lexer.specs.declared.unit.Fault.{Fault}
use Rattle.c_lexer.specs.declared.unit.Fault.TheVariants.{Byte, Literal, Directive}
use Rattle.c_lexer.specs.Bytes.{starts_line}
use Rattle.c_lexer.specs.Units.{reading}

-- the first n bytes of the rest of a text are the longest that are a unit, and this is their reading
pub record IsUnit (read : List ℕ → Option Reading) (rest : List ℕ) (n : ℕ) (r : Reading) : Type 0 where
  pub within : n ≤ length rest
  pub is : read (take n rest) ≡ Some r
  pub longest : (m : ℕ) → n < m → m ≤ length rest → read (take m rest) ≡ None

-- the unit at a place of the text
abbrev pub UnitAt : List ℕ → ℕ → ℕ → Reading → Type 0
UnitAt text at n r = IsUnit (reading (starts_line text at)) (drop at text) n r

-- the token of a spelling at a place
abbrev pub token : TokenKind → ℕ → List ℕ → Token
token kind at spelling = record { kind = kind; at = at; len = length spelling; text = spelling }

-- the fault at a place
abbrev pub fault_at : ℕ → Fault → LexFault
fault_at at Byte = BadByte at
fault_at at Literal = BadLiteral at
fault_at at Directive = BadDirective at

-- from the place on, the text is cut into units up to its end or to the first that is a fault: the tokens among
-- them, and the fault
pub data Cut (text : List ℕ) : ℕ → List Token → Option LexFault → Type 0 where
  finish : {at : ℕ} → at ≡ length text → Cut text at [] None
  space : {at : ℕ} {tokens : List Token} {fault : Option LexFault} (n : ℕ) → UnitAt text at n Space
      → Cut text (at + n) tokens fault → Cut text at tokens fault
  lexeme : {at : ℕ} {tokens : List Token} {fault : Option LexFault} (n : ℕ) (kind : TokenKind) → UnitAt text at n (Lexeme kind)
      → Cut text (at + n) tokens fault → Cut text at (token kind at (take n (drop at text)) ∷ tokens) fault
  bad : {at : ℕ} (n : ℕ) (fault : Fault) → UnitAt text at n (Bad fault) → Cut text at [] (Some (fault_at at fault))

-- a text has at most 65,536 tokens
abbrev pub most_tokens : ℕ
most_tokens = 65536

-- the tokens, where no fault comes after them
abbrev pub or_fault : List Token → Option LexFault → Result (List Token) LexFault
or_fault tokens None = Ok tokens
or_fault tokens (Some fault) = Err fault

-- the answer for the tokens that come before the end of a text or its first fault: more than the most are a fault
-- at the first byte of the first of them that is one too many
abbrev pub answer : List Token → Option LexFault → Result (List Token) LexFault
answer tokens fault =
    if nat_lt most_tokens (length tokens) then Err (TooMany (slice_index (map (λ token. token.at) tokens) most_tokens))
    else or_fault tokens fault

-- the text's tokens, or its first fault
abbrev pub Lexes : List ℕ → Result (List Token) LexFault → Type 0
Lexes text result = (tokens : List Token) × (fault : Option LexFault) × Cut text 0 tokens fault × (result ≡ answer tokens fault)
