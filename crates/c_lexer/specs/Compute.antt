-- The cut of a text, computed by trying every length at each place: slow, and for small texts.
use Rattle.std.specs.Prelude.{ℕ, zero, suc, ◌+◌, ◌-◌, List, [], ◌∷◌, length, take, drop, Option, Some, None, Result}
use Rattle.c_lexer.specs.declared.token.Token.{Token}
use Rattle.c_lexer.specs.declared.token.LexFault.{LexFault}
use Rattle.c_lexer.specs.declared.unit.Reading.{Reading}
use Rattle.c_lexer.specs.declared.unit.Reading.TheVariants.{Space, Lexeme, Bad}
use Rattle.c_lexer.specs.Bytes.{starts_line}
use Rattle.c_lexer.specs.Units.{reading}
use Rattle.c_lexer.specs.Cut.{token, fault_at, answer}

-- tokens, and the fault after them
abbrev pub Tokens : Type 0
Tokens = List Token × Option LexFault

-- the longest unit of at most n bytes that begins the rest: its length and its reading
abbrev pub longest_unit : (List ℕ → Option Reading) → List ℕ → ℕ → Option (ℕ × Reading)
longest_unit read rest zero = None
longest_unit read rest (suc n) = elim (read (take (suc n) rest)) [ Some r ↦ Some (suc n, r) | None ↦ longest_unit read rest n ]

-- the tokens from the place on, in at most so many units
abbrev pub tokens_from : ℕ → List ℕ → ℕ → Tokens
tokens_from zero text at = ([], None)
tokens_from (suc units) text at =
    elim (longest_unit (reading (starts_line text at)) (drop at text) (length text - at)) [
      | None ↦ ([], None)
      | Some unit ↦ elim unit.1 [
        | Space ↦ tokens_from units text (at + unit.0)
        | Lexeme kind ↦ let rest = tokens_from units text (at + unit.0) in (token kind at (take unit.0 (drop at text)) ∷ rest.0, rest.1)
        | Bad fault ↦ ([], Some (fault_at at fault))
      ]
    ]

-- the text's tokens, or its first fault
abbrev pub lexed : List ℕ → Result (List Token) LexFault
lexed text = let all = tokens_from (length text) text 0 in answer all.0 all.1
