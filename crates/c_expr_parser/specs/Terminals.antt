-- What a token must be to be in a rule, and at which depth.
use Rattle.std.specs.Prelude.{◌≡◌, ℕ, pos, List, [], ◌∷◌, ◌++◌, Ok, codes}
use Prim.Native.String.{String}
use Rattle.c_ints.specs.declared.int.Int.{Int}
use Rattle.c_ints.specs.declared.kind.Kind.TheVariants.{I32}
use Rattle.c_ints.specs.declared.constant.Radix.{Radix}
use Rattle.c_ints.specs.declared.constant.Suffix.{Suffix}
use Rattle.c_ints.specs.Number.{number}
use Rattle.c_ints.specs.Literal.{IsLiteral, literal_value}
use Rattle.c_lexer.specs.Bytes.{quote, double_quote}
use Rattle.c_lexer.specs.declared.token.TokenKind.{TokenKind}
use Rattle.c_lexer.specs.declared.token.TokenKind.TheVariants.{Identifier, Keyword, LibraryWord, Number, Character, Str, Punctuator}
use Rattle.c_tree.specs.declared.name.Name.{Name}
use Rattle.c_expr_parser.specs.Placed.{Placed, at, text}
use Rattle.c_expr_parser.specs.Quoted.{IsQuoted}

-- a token of a kind, at a depth
pub record IsToken (kind : TokenKind) (depth : ℕ) (t : Placed) : Type 0 where
  pub sort : t.token.kind ≡ kind
  pub stands : t.depth ≡ depth

-- a token of a kind, at a depth, with a spelling
pub record Spells (kind : TokenKind) (depth : ℕ) (spelling : List ℕ) (t : Placed) : Type 0 where
  pub sort : t.token.kind ≡ kind
  pub stands : t.depth ≡ depth
  pub spelled : text t ≡ spelling

-- a punctuator (6.4.6)
abbrev pub IsPunctuator : ℕ → String → Placed → Type 0
IsPunctuator depth punctuator t = Spells Punctuator depth (codes punctuator) t

-- a keyword (6.4.1)
abbrev pub IsKeyword : ℕ → String → Placed → Type 0
IsKeyword depth word t = Spells Keyword depth (codes word) t

-- a name of the library or of updating
abbrev pub IsLibraryWord : ℕ → String → Placed → Type 0
IsLibraryWord depth word t = Spells LibraryWord depth (codes word) t

-- an identifier (6.4.2)
abbrev pub IsIdentifier : ℕ → Placed → Type 0
IsIdentifier depth t = IsToken Identifier depth t

-- the name that an identifier writes
abbrev pub name : Placed → Name
name t = record { place = at t; text = text t }

-- the text is an integer constant of a value (6.4.4.1)
pub record IsConstant (spelling : List ℕ) (value : Int) : Type 0 where
  pub radix : Radix
  pub digits : List ℕ
  pub suffix : Suffix
  pub literal : IsLiteral spelling radix digits suffix
  pub typed : literal_value radix digits suffix ≡ Ok value

-- a number of a value
pub record IsNumber (depth : ℕ) (value : Int) (t : Placed) : Type 0 where
  pub sort : t.token.kind ≡ Number
  pub stands : t.depth ≡ depth
  pub constant : IsConstant (text t) value

-- a character constant, an int with the value of its one byte (6.4.4.4p10)
pub record IsCharacter (depth : ℕ) (value : Int) (t : Placed) : Type 0 where
  pub sort : t.token.kind ≡ Character
  pub stands : t.depth ≡ depth
  pub byte : ℕ
  pub quoted : IsQuoted quote (text t) (byte ∷ [])
  pub typed : value ≡ number I32 (pos byte)

-- a string of some bytes (6.4.5)
pub record IsString (depth : ℕ) (bytes : List ℕ) (t : Placed) : Type 0 where
  pub sort : t.token.kind ≡ Str
  pub stands : t.depth ≡ depth
  pub quoted : IsQuoted double_quote (text t) bytes

-- adjacent strings, and their bytes one after another (6.4.5p5)
pub data Strings (depth : ℕ) : List Placed → List ℕ → Type 0 where
  last : {t : Placed} {bytes : List ℕ} → IsString depth bytes t → Strings depth (t ∷ []) bytes
  more : {t : Placed} {ts : List Placed} {bytes others : List ℕ} → IsString depth bytes t → Strings depth ts others
      → Strings depth (t ∷ ts) (bytes ++ others)
