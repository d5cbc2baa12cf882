-- The operators and types as look-ups by spelling, as the parser's functions read them. The grammar doesn't use them.
use Rattle.std.specs.Prelude.{ℕ, ◌==◌, ◌&&◌, Bool, true, if◌then◌else◌, List, [], ◌∷◌, ◌++◌, Option, Some, None, Result, Ok, Err, option_map, pos, false, codes}
use Rattle.std.specs.List.{find}
use Rattle.std.specs.Str.{bytes_eq}
use Rattle.std.specs.Option.{option_map_or}
use Rattle.std.specs.Ordering.{int_eq}
use Rattle.c_ints.specs.Number.{value_of}
use Rattle.c_ints.specs.declared.int.Int.{Int}
use Rattle.c_ints.specs.declared.constant.LiteralFault.{LiteralFault}
use Rattle.c_ints.proofs.Reading.{reading}
use Rattle.c_ints.specs.declared.kind.Kind.{Kind}
use Rattle.c_ints.specs.declared.kind.Kind.TheVariants.{I8, U8, I16, U16, I32, U32, I64, U64}
use Rattle.c_ints.specs.declared.operator.BinOp.{BinOp}
use Rattle.c_ints.specs.declared.operator.BinOp.TheVariants.{Add, Sub, Mul, Div, Rem, And, Or, Xor, Shl, Shr, Lt, Gt, Le, Ge, Eq, Ne}
use Rattle.c_ints.specs.declared.operator.UnOp.{UnOp}
use Rattle.c_ints.specs.declared.operator.UnOp.TheVariants.{Plus, Negate, Complement, Not}
use Rattle.c_lexer.specs.declared.token.Token.{Token}
use Rattle.c_expr_parser.specs.declared.library.LibraryName.{LibraryName}
use Rattle.c_expr_parser.specs.declared.library.LibraryName.TheVariants.{Null, Success, Error, Printf, Calloc, Free, Create, Join, Init, Lock, Unlock}
use Rattle.c_expr_parser.specs.declared.operators.Prefix.{Prefix}
use Rattle.c_expr_parser.specs.declared.operators.Prefix.TheVariants as prefix
use Rattle.c_expr_parser.specs.declared.postfix.PostfixOp.{PostfixOp}
use Rattle.c_expr_parser.specs.declared.postfix.PostfixOp.TheVariants.{Arrow, Dot, Increment, Decrement}
use Rattle.c_lexer.specs.declared.token.TokenKind.{TokenKind}
use Rattle.c_lexer.specs.declared.token.TokenKind.TheVariants.{Identifier, Keyword, LibraryWord, Number, Character, Str, Punctuator}
use Rattle.c_lexer.specs.Words.{is_one_of}
use Rattle.c_expr_parser.specs.declared.operators.Joint.{Joint}
use Rattle.c_expr_parser.specs.declared.operators.Joint.TheVariants.{Operation, Both, Either}
use Rattle.c_expr_parser.specs.Quoted.{unescaped}
use Rattle.c_expr_parser.specs.TypeNames.{integer_words, is_spelling}

-- what a table has for a spelling
abbrev pub look : {A : Type 0} → List ℕ → List (List ℕ × A) → Option A
look spelling [] = None
look spelling (row ∷ rows) = if bytes_eq spelling row.0 then Some row.1 else look spelling rows

-- the levels, and what joins two operands there
abbrev pub binary_operators : List (List ℕ × (ℕ × Joint))
binary_operators =
    (codes "*", (1, Operation Mul)) ∷ (codes "/", (1, Operation Div)) ∷ (codes "%", (1, Operation Rem))
    ∷ (codes "+", (2, Operation Add)) ∷ (codes "-", (2, Operation Sub))
    ∷ (codes "<<", (3, Operation Shl)) ∷ (codes ">>", (3, Operation Shr))
    ∷ (codes "<", (4, Operation Lt)) ∷ (codes ">", (4, Operation Gt)) ∷ (codes "<=", (4, Operation Le)) ∷ (codes ">=", (4, Operation Ge))
    ∷ (codes "==", (5, Operation Eq)) ∷ (codes "!=", (5, Operation Ne))
    ∷ (codes "&", (6, Operation And)) ∷ (codes "^", (7, Operation Xor)) ∷ (codes "|", (8, Operation Or))
    ∷ (codes "&&", (9, Both)) ∷ (codes "||", (10, Either)) ∷ []

abbrev pub unary_operators : List (List ℕ × UnOp)
unary_operators = (codes "+", Plus) ∷ (codes "-", Negate) ∷ (codes "~", Complement) ∷ (codes "!", Not) ∷ []

abbrev pub compound_operators : List (List ℕ × BinOp)
compound_operators =
    (codes "+=", Add) ∷ (codes "-=", Sub) ∷ (codes "*=", Mul) ∷ (codes "/=", Div) ∷ (codes "%=", Rem)
    ∷ (codes "&=", And) ∷ (codes "|=", Or) ∷ (codes "^=", Xor) ∷ (codes "<<=", Shl) ∷ (codes ">>=", Shr) ∷ []

-- the kinds of tokens by number
abbrev pub kind_number : TokenKind → ℕ
kind_number Identifier = 0
kind_number Keyword = 1
kind_number LibraryWord = 2
kind_number Number = 3
kind_number Character = 4
kind_number Str = 5
kind_number Punctuator = 6

abbrev pub is_kind : TokenKind → Token → Bool
is_kind kind t = kind_number t.kind == kind_number kind

-- the token has a kind and a spelling
abbrev pub is : TokenKind → List ℕ → Token → Bool
is kind spelling t = is_kind kind t && bytes_eq t.text spelling

-- the first token passes a test, and what the first token is
abbrev pub holds_ahead : (Token → Bool) → List Token → Bool
holds_ahead test [] = false
holds_ahead test (t ∷ ts) = test t

abbrev pub ahead : {A : Type 0} → (Token → Option A) → List Token → Option A
ahead f [] = None
ahead f (t ∷ ts) = f t

abbrev pub when_some : {A : Type 0} → Bool → Option A → Option A
when_some test o = if test then o else None

abbrev pub unary_operator : Token → Option UnOp
unary_operator t = when_some (is_kind Punctuator t) (look t.text unary_operators)

abbrev pub compound_operator : Token → Option BinOp
compound_operator t = when_some (is_kind Punctuator t) (look t.text compound_operators)

-- what a row of the binary operators has where it is at a level
abbrev pub at_level : ℕ → Option (ℕ × Joint) → Option Joint
at_level level None = None
at_level level (Some row) = if row.0 == level then Some row.1 else None

abbrev pub binary_operator : ℕ → Token → Option Joint
binary_operator level t = when_some (is_kind Punctuator t) (at_level level (look t.text binary_operators))

-- the integer type that words mean
abbrev pub kind_of : List (List ℕ) → Option Kind
kind_of words = find (λ kind. is_spelling kind words) (I8 ∷ U8 ∷ I16 ∷ U16 ∷ I32 ∷ U32 ∷ I64 ∷ U64 ∷ [])

abbrev pub is_integer_word : Token → Bool
is_integer_word t = is_kind Keyword t && is_one_of integer_words t.text

-- the type that some words mean with one more
abbrev pub longer_kind : List (List ℕ) → Token → Option Kind
longer_kind words t = when_some (is_integer_word t) (kind_of (words ++ t.text ∷ []))

-- a type begins with the token
abbrev pub begins_type : Token → Bool
begins_type t = if is_integer_word t then true else (if is Keyword (codes "struct") t then true else is LibraryWord (codes "thrd_t") t)

-- what comes before a closing quote that ends some bytes
abbrev pub before_quote : ℕ → List ℕ → Option (List ℕ)
before_quote quote [] = None
before_quote quote (b ∷ []) = if b == quote then Some [] else None
before_quote quote (b ∷ c ∷ bs) = option_map (λ front. b ∷ front) (before_quote quote (c ∷ bs))

-- the bytes that a spelling between two quotes means
abbrev pub unquoted : ℕ → List ℕ → Option (List ℕ)
unquoted quote [] = None
unquoted quote (b ∷ bs) = if b == quote then option_map unescaped (before_quote quote bs) else None

-- a list's only item
abbrev pub only : {A : Type 0} → Option (List A) → Option A
only None = None
only (Some []) = None
only (Some (a ∷ [])) = Some a
only (Some (a ∷ b ∷ rest)) = None

-- the integer that was read
abbrev pub if_ok : Result Int LiteralFault → Option Int
if_ok (Ok n) = Some n
if_ok (Err fault) = None

-- the value of an integer constant
abbrev pub constant_of : List ℕ → Option Int
constant_of text = if_ok (reading text)

-- the token is a number of value 1
abbrev pub is_one : Token → Bool
is_one t = is_kind Number t && option_map_or (λ n. int_eq (value_of n) (pos 1)) (constant_of t.text) false

-- the name of the library that begins an operand
abbrev pub library_name : List ℕ → Option LibraryName
library_name spelling =
    look spelling ((codes "NULL", Null) ∷ (codes "thrd_success", Success) ∷ (codes "thrd_error", Error)
    ∷ (codes "printf", Printf) ∷ (codes "calloc", Calloc) ∷ (codes "free", Free)
    ∷ (codes "thrd_create", Create) ∷ (codes "thrd_join", Join)
    ∷ (codes "mtx_init", Init) ∷ (codes "mtx_lock", Lock) ∷ (codes "mtx_unlock", Unlock) ∷ [])

-- an operator after its operand
abbrev pub postfix_operators : List (List ℕ × PostfixOp)
postfix_operators = (codes "->", Arrow) ∷ (codes ".", Dot) ∷ (codes "++", Increment) ∷ (codes "--", Decrement) ∷ []

abbrev pub postfix_operator : Token → Option PostfixOp
postfix_operator t = when_some (is_kind Punctuator t) (look t.text postfix_operators)

-- what begins an operand with a punctuator
abbrev pub prefix_of : List ℕ → Option Prefix
prefix_of spelling =
    look spelling ((codes "(", prefix.Open) ∷ (codes "++", prefix.Increment) ∷ (codes "--", prefix.Decrement)
    ∷ (codes "+", prefix.Operator Plus) ∷ (codes "-", prefix.Operator Negate) ∷ (codes "~", prefix.Operator Complement) ∷ (codes "!", prefix.Operator Not) ∷ [])
