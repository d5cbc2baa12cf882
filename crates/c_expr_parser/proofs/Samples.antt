-- Tokens to build examples of, and the shortest readings of some.
use Rattle.std.specs.Prelude.{ℕ, List, [], ◌∷◌, length, codes}
use Rattle.std.proofs.Common.{refl}
use Prim.Native.String.{String}
use Rattle.c_lexer.specs.declared.token.TokenKind.{TokenKind}
use Rattle.c_lexer.specs.declared.token.TokenKind.TheVariants.{Identifier, Keyword, LibraryWord, Punctuator}
use Rattle.c_tree.specs.declared.expr.Expr.{Expr}
use Rattle.c_tree.specs.declared.expr.ExprNode.TheVariants as node
use Rattle.c_expr_parser.specs.Placed.{Placed}
use Rattle.c_expr_parser.specs.Terminals.{IsPunctuator, IsKeyword, IsLibraryWord, IsIdentifier}
use Rattle.c_expr_parser.specs.Expressions.{expr, Assignment, Conditional, Binary, Cast, Unary, Postfix, Primary}

-- a token of a kind at a depth, with its place and spelling
abbrev pub placed : TokenKind → ℕ → ℕ → String → Placed
placed kind depth place spelling =
    record { token = record { kind = kind; at = place; len = length (codes spelling); text = codes spelling }; depth = depth }

abbrev pub punctuator : ℕ → ℕ → String → Placed
punctuator = placed Punctuator

abbrev pub keyword : ℕ → ℕ → String → Placed
keyword = placed Keyword

abbrev pub library_word : ℕ → ℕ → String → Placed
library_word = placed LibraryWord

abbrev pub identifier : ℕ → ℕ → String → Placed
identifier = placed Identifier

abbrev pub is_punctuator : (depth place : ℕ) (spelling : String) → IsPunctuator depth spelling (punctuator depth place spelling)
is_punctuator depth place spelling = record { sort = refl; stands = refl; spelled = refl }

abbrev pub is_keyword : (depth place : ℕ) (spelling : String) → IsKeyword depth spelling (keyword depth place spelling)
is_keyword depth place spelling = record { sort = refl; stands = refl; spelled = refl }

abbrev pub is_library_word : (depth place : ℕ) (spelling : String) → IsLibraryWord depth spelling (library_word depth place spelling)
is_library_word depth place spelling = record { sort = refl; stands = refl; spelled = refl }

abbrev pub is_identifier : (depth place : ℕ) (spelling : String) → IsIdentifier depth (identifier depth place spelling)
is_identifier depth place spelling = record { sort = refl; stands = refl }

-- a variable
abbrev pub variable : ℕ → String → Expr
variable place spelling = expr place (node.Variable (codes spelling))

pub reads_variable : (depth place : ℕ) (spelling : String)
    → Unary depth (identifier depth place spelling ∷ []) (variable place spelling)
reads_variable depth place spelling = Unary.postfix (Postfix.primary (Primary.variable (is_identifier depth place spelling)))

-- a sum is an expression, and so is a cast
pub sum : {d : ℕ} {ts : List Placed} {e : Expr} → Binary 2 d ts e → Assignment d ts e
sum b =
    let shift = Binary.tighter b in
    let comparison = Binary.tighter (Binary.tighter shift) in
    let bits = Binary.tighter (Binary.tighter (Binary.tighter comparison)) in
    Assignment.conditional (Conditional.binary (Binary.tighter (Binary.tighter bits)))

pub term : {d : ℕ} {ts : List Placed} {e : Expr} → Cast d ts e → Binary 1 d ts e
term c = Binary.tighter (Binary.operand c)

pub whole : {d : ℕ} {ts : List Placed} {e : Expr} → Cast d ts e → Assignment d ts e
whole c = sum (Binary.tighter (term c))

-- a variable alone
pub reads : (depth place : ℕ) (spelling : String) → Assignment depth (identifier depth place spelling ∷ []) (variable place spelling)
reads depth place spelling = whole (Cast.unary (reads_variable depth place spelling))
