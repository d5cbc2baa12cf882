-- The units that a text is cut into, and how each is read. The first byte of a unit says which form it must have.
use Rattle.std.specs.Prelude.{ℕ, Bool, true, false, ◌&&◌, ◌||◌, ◌==◌, nat_le, List, [], ◌∷◌, length, drop, Option, Some, None, if◌then◌else◌, codes}
use Rattle.std.specs.Char.{is_ascii_digit}
use Rattle.std.specs.List.{list_all, list_any}
use Rattle.std.specs.Str.{is_utf8, chars}
use Rattle.c_lexer.specs.declared.token.TokenKind.TheVariants.{Number, Character, Str, Punctuator}
use Rattle.c_lexer.specs.declared.unit.Reading.{Reading}
use Rattle.c_lexer.specs.declared.unit.Reading.TheVariants.{Space, Lexeme, Bad}
use Rattle.c_lexer.specs.declared.unit.Fault.TheVariants.{Byte, Literal, Directive}
use Rattle.c_lexer.specs.Bytes.{tab, carriage_return, double_quote, hash, quote, star, slash, backslash, is_blank, is_gap, stays_in_line, starts_word, continues_word, may_start_word, is_plain, is_escape}
use Rattle.c_lexer.specs.Words.{word_kind, is_one_of, starts_with}
use Rattle.c_lexer.specs.Numbers.{is_number}

abbrev pub is_empty : List ℕ → Bool
is_empty [] = true
is_empty (b ∷ bs) = false

-- the reading, where the spelling has the form
abbrev pub when : Bool → Reading → Option Reading
when form reading = if form then Some reading else None

abbrev pub begins_with : ℕ → List ℕ → Bool
begins_with c [] = false
begins_with c (b ∷ bs) = b == c

-- UTF-8, each character of which passes the test
unfoldable pub consists_of : (ℕ → Bool) → List ℕ → Bool
consists_of test s = is_utf8 s && list_all test (chars s)

-- an identifier's characters (6.4.2.1)
abbrev pub is_word : List ℕ → Bool
is_word [] = false
is_word (c ∷ cs) = starts_word c && list_all continues_word cs

-- a keyword, a name of the language, or an identifier
unfoldable pub is_name : List ℕ → Bool
is_name s = is_utf8 s && is_word (chars s)

-- what follows the opening quote of a character: one byte, an escape or `\0`, then the closing quote (6.4.4.4)
abbrev pub closes_character : List ℕ → Bool
closes_character (b ∷ c ∷ []) = is_plain quote b && (c == quote)
closes_character (b ∷ c ∷ d ∷ []) = (b == backslash) && ((is_escape c || (c == 48)) && (d == quote))
closes_character _ = false

-- what follows the opening quote of a string: bytes, tabs and escapes, then the one closing quote (6.4.5)
abbrev pub closes_string : List ℕ → Bool
closes_string [] = false
closes_string (b ∷ []) = b == double_quote
closes_string (b ∷ c ∷ bs) =
    if b == backslash then is_escape c && closes_string bs
    else ((is_plain double_quote b || (b == tab)) || nat_le 128 b) && closes_string (c ∷ bs)

-- what follows `/*`, up to and with the first `*/` (6.4.9); without one it is a fault to its end
abbrev pub read_comment : List ℕ → Option Reading
read_comment [] = Some (Bad Byte)
read_comment (b ∷ []) = Some (Bad Byte)
read_comment (b ∷ c ∷ bs) = if (b == star) && (c == slash) then when (is_empty bs) Space else read_comment (c ∷ bs)

-- the headers of the language
unfoldable pub headers : List (List ℕ)
headers = codes "<stdio.h>" ∷ codes "<stdlib.h>" ∷ codes "<threads.h>" ∷ codes "\"dsu.h\"" ∷ []

-- without the spaces and tabs in front
abbrev pub past_gaps : List ℕ → List ℕ
past_gaps [] = []
past_gaps (b ∷ bs) = if is_gap b then past_gaps bs else b ∷ bs

-- nothing, or a carriage return
abbrev pub is_return : List ℕ → Bool
is_return [] = true
is_return (b ∷ bs) = (b == carriage_return) && is_empty bs

-- what follows `/*` on a line: its first `*/`, and then nothing but gaps and a carriage return
abbrev pub ends_in_comment : List ℕ → Bool
ends_in_comment [] = false
ends_in_comment (b ∷ []) = false
ends_in_comment (b ∷ c ∷ bs) = if (b == star) && (c == slash) then is_return (past_gaps bs) else ends_in_comment (c ∷ bs)

-- the end of a line: nothing, a comment, a carriage return
unfoldable pub ends_line : List ℕ → Bool
ends_line s = is_return s || (starts_with (codes "//") s || (starts_with (codes "/*") s && ends_in_comment (drop 2 s)))

-- after `#include`: a header and the end of the line, with gaps between
unfoldable pub names_header : List ℕ → List ℕ → Bool
names_header s header = starts_with header s && ends_line (past_gaps (drop (length header) s))

-- a line that includes a header of the language (6.10.2)
unfoldable pub is_include : List ℕ → Bool
is_include line = starts_with (codes "#include") line && list_any (names_header (past_gaps (drop 8 line))) headers

-- a line from its `#` on, where only blanks are in front of it or not
abbrev pub read_line : Bool → List ℕ → Reading
read_line starts line = if starts then (if is_include line then Space else Bad Directive) else Bad Byte

-- the punctuators (6.4.6) of the language
unfoldable pub punctuators : List (List ℕ)
punctuators =
    codes "(" ∷ codes ")" ∷ codes "[" ∷ codes "]" ∷ codes "{" ∷ codes "}" ∷ codes ";" ∷ codes "," ∷ codes "." ∷ codes "->"
    ∷ codes "?" ∷ codes ":"
    ∷ codes "=" ∷ codes "+=" ∷ codes "-=" ∷ codes "*=" ∷ codes "/=" ∷ codes "%=" ∷ codes "&=" ∷ codes "|=" ∷ codes "^="
    ∷ codes "<<=" ∷ codes ">>="
    ∷ codes "||" ∷ codes "&&" ∷ codes "|" ∷ codes "^" ∷ codes "&" ∷ codes "==" ∷ codes "!="
    ∷ codes "<" ∷ codes ">" ∷ codes "<=" ∷ codes ">=" ∷ codes "<<" ∷ codes ">>"
    ∷ codes "+" ∷ codes "-" ∷ codes "*" ∷ codes "/" ∷ codes "%" ∷ codes "~" ∷ codes "!" ∷ codes "++" ∷ codes "--"
    ∷ []

-- how a spelling is read, where only blanks are in front of it on its line or not; none where it is no unit
unfoldable pub reading : Bool → List ℕ → Option Reading
reading starts [] = None
reading starts (b ∷ bs) =
    if is_blank b then when (is_empty bs) Space
    else (if (b == slash) && begins_with slash bs then when (list_all stays_in_line bs) Space
    else (if (b == slash) && begins_with star bs then read_comment (drop 1 bs)
    else (if b == hash then when (list_all stays_in_line bs) (read_line starts (b ∷ bs))
    else (if is_ascii_digit b then when (consists_of continues_word bs) (if is_number (b ∷ bs) then Lexeme Number else Bad Literal)
    else (if b == quote then (if closes_character bs then Some (Lexeme Character) else when (is_empty bs) (Bad Literal))
    else (if b == double_quote then (if closes_string bs && is_utf8 bs then Some (Lexeme Str) else when (is_empty bs) (Bad Literal))
    else (if may_start_word b then (if is_name (b ∷ bs) then Some (Lexeme (word_kind (b ∷ bs))) else when (is_empty bs) (Bad Byte))
    else (if is_one_of punctuators (b ∷ bs) then Some (Lexeme Punctuator) else when (is_empty bs) (Bad Byte)))))))))
