-- Types as they are written (6.7.2).
use Rattle.std.specs.Prelude.{ℕ, Bool, IsTrue, List, [], ◌∷◌, map, codes}
use Rattle.std.specs.List.{list_any, count_by}
use Rattle.std.specs.Str.{bytes_eq}
use Rattle.c_ints.specs.declared.kind.Kind.{Kind}
use Rattle.c_ints.specs.declared.kind.Kind.TheVariants.{I8, U8, I16, U16, I32, U32, I64, U64}
use Rattle.c_lexer.specs.Words.{is_one_of}
use Rattle.c_lexer.specs.declared.token.TokenKind.TheVariants.{Keyword}
use Rattle.c_tree.specs.declared.name.Name.{Name}
use Rattle.c_tree.specs.declared.name.CType.{CType}
use Rattle.c_tree.specs.declared.name.CType.TheVariants.{Integer, Handle, Thread}
use Rattle.c_expr_parser.specs.Placed.{Placed, text}
use Rattle.c_expr_parser.specs.Terminals.{IsToken, IsPunctuator, IsKeyword, IsLibraryWord, IsIdentifier, name}

-- the words that integer types are written with
abbrev pub integer_words : List (List ℕ)
integer_words =
    codes "char" ∷ codes "short" ∷ codes "int" ∷ codes "long" ∷ codes "signed" ∷ codes "unsigned" ∷ []

-- the lists of words that mean each integer type (6.7.2p2), each in one order
abbrev pub spellings : Kind → List (List (List ℕ))
spellings I8 = (codes "char" ∷ []) ∷ (codes "signed" ∷ codes "char" ∷ []) ∷ []
spellings U8 = (codes "unsigned" ∷ codes "char" ∷ []) ∷ []
spellings I16 =
    (codes "short" ∷ []) ∷ (codes "signed" ∷ codes "short" ∷ []) ∷ (codes "short" ∷ codes "int" ∷ [])
    ∷ (codes "signed" ∷ codes "short" ∷ codes "int" ∷ []) ∷ []
spellings U16 = (codes "unsigned" ∷ codes "short" ∷ []) ∷ (codes "unsigned" ∷ codes "short" ∷ codes "int" ∷ []) ∷ []
spellings I32 = (codes "int" ∷ []) ∷ (codes "signed" ∷ []) ∷ (codes "signed" ∷ codes "int" ∷ []) ∷ []
spellings U32 = (codes "unsigned" ∷ []) ∷ (codes "unsigned" ∷ codes "int" ∷ []) ∷ []
spellings I64 =
    (codes "long" ∷ []) ∷ (codes "signed" ∷ codes "long" ∷ []) ∷ (codes "long" ∷ codes "int" ∷ [])
    ∷ (codes "signed" ∷ codes "long" ∷ codes "int" ∷ []) ∷ []
spellings U64 = (codes "unsigned" ∷ codes "long" ∷ []) ∷ (codes "unsigned" ∷ codes "long" ∷ codes "int" ∷ []) ∷ []

-- how often each of those words is in a list of them: what stays of the list in any other order
abbrev pub counts : List (List ℕ) → List ℕ
counts words = map (λ word. count_by (bytes_eq word) words) integer_words

-- the words, in any order, mean the integer type
abbrev pub is_spelling : Kind → List (List ℕ) → Bool
is_spelling kind words = list_any (λ spelling. bytes_eq (counts words) (counts spelling)) (spellings kind)

-- a word of an integer type
pub record IsIntegerWord (depth : ℕ) (t : Placed) : Type 0 where
  pub keyword : IsToken Keyword depth t
  pub known : IsTrue (is_one_of integer_words (text t))

-- such words one after another, by their spelling
pub data IntegerWords (depth : ℕ) : List Placed → List (List ℕ) → Type 0 where
  none : IntegerWords depth [] []
  more : {t : Placed} {ts : List Placed} {words : List (List ℕ)} → IsIntegerWord depth t → IntegerWords depth ts words
      → IntegerWords depth (t ∷ ts) (text t ∷ words)

-- a type
pub data TypeName (depth : ℕ) : List Placed → CType → Type 0 where
  integer : {kind : Kind} {ts : List Placed} {words : List (List ℕ)} → IntegerWords depth ts words
      → IsTrue (is_spelling kind words) → TypeName depth ts (Integer kind)
  handle : {word tag star : Placed} → IsKeyword depth "struct" word → IsIdentifier depth tag → IsPunctuator depth "*" star
      → TypeName depth (word ∷ tag ∷ star ∷ []) (Handle (name tag))
  thread : {word : Placed} → IsLibraryWord depth "thrd_t" word → TypeName depth (word ∷ []) Thread

-- what comes before the second name that a type declares, and before each further one: `*` where it's a handle
pub data Star (depth : ℕ) : CType → List Placed → Type 0 where
  integer : {kind : Kind} → Star depth (Integer kind) []
  handle : {tag : Name} {star : Placed} → IsPunctuator depth "*" star → Star depth (Handle tag) (star ∷ [])
  thread : Star depth Thread []
