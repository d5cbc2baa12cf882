-- Small texts and their trees.
use Rattle.std.specs.Prelude.{◌≡◌, ℕ, true, false, List, [], ◌∷◌, ◌++◌, Some, None, codes}
use Rattle.std.proofs.Common.{refl, arith, pos}
use Rattle.c_ints.specs.declared.int.Int.TheVariants.{I32 as int32}
use Rattle.c_ints.specs.declared.constant.Radix.TheVariants.{Decimal}
use Rattle.c_ints.specs.declared.constant.Suffix.TheVariants.{Plain}
use Rattle.c_lexer.specs.Bytes.{quote, double_quote}
use Rattle.c_lexer.specs.declared.token.TokenKind.TheVariants.{Number}
use Rattle.c_ints.specs.declared.kind.Kind.TheVariants.{I8, I16, I32, I64, U64}
use Rattle.c_ints.specs.declared.operator.BinOp.TheVariants.{Sub}
use Rattle.c_tree.specs.declared.name.CType.TheVariants.{Integer}
use Rattle.c_tree.specs.declared.expr.Expr.{Expr}
use Rattle.c_tree.specs.declared.expr.ExprNode.TheVariants as node
use Rattle.c_tree.specs.declared.expr.StepOp.TheVariants.{PostIncrement}
use Rattle.c_tree.specs.declared.stmt.StmtNode.TheVariants as made
use Rattle.c_tree.specs.declared.def.DefKind.TheVariants as kind
use Rattle.c_expr_parser.specs.Placed.{Placed, start}
use Rattle.c_expr_parser.specs.Quoted.{IsQuoted}
use Rattle.c_expr_parser.specs.TypeNames.{is_spelling, TypeName, IntegerWords, Star}
use Rattle.c_expr_parser.specs.Operators.{BinaryOperator}
use Rattle.c_expr_parser.specs.Expressions.{expr, Assignment, Binary, Cast, Unary, Postfix, Primary}
use Rattle.c_expr_parser.specs.Declarations.{Declarators, Variable, Variables}
use Rattle.c_expr_parser.specs.Statements.{stmt, Statement, Items, First, Optional}
use Rattle.c_expr_parser.specs.Statements.Ending.{dangling, complete}
use Rattle.c_expr_parser.specs.Definitions.{def, Static, ResultType, ParameterList, FunctionDefinition, Item, ItemList, TranslationUnit}
use Rattle.c_expr_parser.specs.Terminals.{IsConstant}
use Rattle.c_expr_parser.proofs.Samples.{placed, library_word, is_library_word, punctuator, keyword, identifier, is_punctuator, is_keyword, is_identifier, variable, reads_variable, sum, term, whole, reads}

-- the words of a type in any order
short_int : is_spelling I16 (codes "int" ∷ codes "short" ∷ []) ≡ true
short_int = refl

int_long_unsigned : is_spelling U64 (codes "int" ∷ codes "long" ∷ codes "unsigned" ∷ []) ≡ true
int_long_unsigned = refl

long_long : is_spelling I64 (codes "long" ∷ codes "long" ∷ []) ≡ false
long_long = refl

char_int : is_spelling I8 (codes "char" ∷ codes "int" ∷ []) ≡ false
char_int = refl

-- escapes: "a\n\\n" has four bytes
string_bytes : IsQuoted double_quote (codes "\"a\\n\\\\n\"") (97 ∷ 10 ∷ 92 ∷ 110 ∷ [])
string_bytes = record { body = codes "a\\n\\\\n"; are = refl; means = refl }

zero_character : IsQuoted quote (codes "'\\0'") (0 ∷ [])
zero_character = record { body = codes "\\0"; are = refl; means = refl }

-- a - b - c
minus : {d : ℕ} (place : ℕ) {left right : List Placed} {a b : Expr} → Binary 2 d left a → Binary 1 d right b
    → Binary 2 d (left ++ punctuator d place "-" ∷ right) (expr (start left) (node.Binary Sub a b))
minus {d} place a b = Binary.chain a BinaryOperator.minus (is_punctuator d place "-") b

from_the_left : Assignment 0
    (identifier 0 0 "a" ∷ punctuator 0 2 "-" ∷ identifier 0 4 "b" ∷ punctuator 0 6 "-" ∷ identifier 0 8 "c" ∷ [])
    (expr 0 (node.Binary Sub (expr 0 (node.Binary Sub (variable 0 "a") (variable 4 "b"))) (variable 8 "c")))
from_the_left =
    sum (minus 6 (minus 2 (Binary.tighter (term (Cast.unary (reads_variable 0 0 "a")))) (term (Cast.unary (reads_variable 0 4 "b"))))
    (term (Cast.unary (reads_variable 0 8 "c"))))

-- (int) x is a cast, its operand one deeper
int_type : (depth place : ℕ) → TypeName depth (keyword depth place "int" ∷ []) (Integer I32)
int_type depth place =
    TypeName.integer {kind = I32} {words = codes "int" ∷ []} (IntegerWords.more {t = keyword depth place "int"}
    (record { keyword = record { sort = refl; stands = refl }; known = refl }) IntegerWords.none) refl

a_cast : Assignment 0
    (punctuator 0 0 "(" ∷ keyword 1 1 "int" ∷ punctuator 0 4 ")" ∷ identifier 1 6 "x" ∷ [])
    (expr 0 (node.Cast (Integer I32) (variable 6 "x")))
a_cast = whole (Cast.cast (is_punctuator 0 0 "(") (int_type 1 1) (is_punctuator 0 4 ")") (Cast.unary (reads_variable 1 6 "x")))

-- x = y = z, the right side one deeper each time
right_sides : Assignment 0
    (identifier 0 0 "x" ∷ punctuator 0 2 "=" ∷ identifier 1 4 "y" ∷ punctuator 1 6 "=" ∷ identifier 2 8 "z" ∷ [])
    (expr 0 (node.Assign (variable 0 "x") (expr 4 (node.Assign (variable 4 "y") (variable 8 "z")))))
right_sides =
    Assignment.assign (reads_variable 0 0 "x") (is_punctuator 0 2 "=")
    (Assignment.assign (reads_variable 1 4 "y") (is_punctuator 1 6 "=") (whole (Cast.unary (reads_variable 2 8 "z"))))

-- (a) - b: the parentheses make no node, and the difference begins at them
parentheses : Assignment 0
    (punctuator 0 0 "(" ∷ identifier 1 1 "a" ∷ punctuator 0 2 ")" ∷ punctuator 0 4 "-" ∷ identifier 0 6 "b" ∷ [])
    (expr 0 (node.Binary Sub (variable 1 "a") (variable 6 "b")))
parentheses =
    sum (minus 4
    (Binary.tighter (term (Cast.unary (Unary.postfix (Postfix.primary
    (Primary.parentheses (is_punctuator 0 0 "(") (reads 1 1 "a") (is_punctuator 0 2 ")")))))))
    (term (Cast.unary (reads_variable 0 6 "b"))))

-- an `else` belongs to the nearest `if`: if (a) if (b) ; else ;
nearest : Statement dangling 0
    (keyword 0 0 "if" ∷ punctuator 0 3 "(" ∷ identifier 1 4 "a" ∷ punctuator 0 5 ")"
    ∷ keyword 1 7 "if" ∷ punctuator 1 10 "(" ∷ identifier 2 11 "b" ∷ punctuator 1 12 ")" ∷ punctuator 2 14 ";"
    ∷ keyword 1 16 "else" ∷ punctuator 2 21 ";" ∷ [])
    (stmt 0 (made.If (variable 4 "a") (stmt 7 (made.IfElse (variable 11 "b") (stmt 14 made.Empty) (stmt 21 made.Empty)))))
nearest =
    Statement.if_only (is_keyword 0 0 "if") (is_punctuator 0 3 "(") (reads 1 4 "a") (is_punctuator 0 5 ")")
    (Statement.if_else (is_keyword 1 7 "if") (is_punctuator 1 10 "(") (reads 2 11 "b") (is_punctuator 1 12 ")")
    (Statement.empty (is_punctuator 2 14 ";")) (is_keyword 1 16 "else") (Statement.empty (is_punctuator 2 21 ";")))

-- for (int i = n, j; ; i++) ;
a_for : Statement complete 0
    (keyword 0 0 "for" ∷ punctuator 0 4 "(" ∷ keyword 1 5 "int" ∷ identifier 1 9 "i" ∷ punctuator 1 11 "=" ∷ identifier 1 13 "n"
    ∷ punctuator 1 14 "," ∷ identifier 1 16 "j" ∷ punctuator 1 17 ";" ∷ punctuator 1 19 ";" ∷ identifier 1 21 "i" ∷ punctuator 1 22 "++"
    ∷ punctuator 0 24 ")" ∷ punctuator 1 26 ";" ∷ [])
    (stmt 0 (made.For
    (stmt 5 (made.Declare (record { declared = Integer I32; name = record { place = 9; text = codes "i" }; initial = Some (variable 13 "n") }))
    ∷ stmt 5 (made.Declare (record { declared = Integer I32; name = record { place = 16; text = codes "j" }; initial = None }))
    ∷ [])
    None (Some (expr 21 (node.Step PostIncrement (variable 21 "i")))) (stmt 26 made.Empty)))
a_for =
    Statement.for (is_keyword 0 0 "for") (is_punctuator 0 4 "(")
    (First.declaration (Variables.declaration (int_type 1 5)
    (Declarators.more (Variable.initialised (is_identifier 1 9 "i") (is_punctuator 1 11 "=") (reads 1 13 "n")) (is_punctuator 1 14 ",")
    Star.integer (Declarators.last (Variable.plain (is_identifier 1 16 "j"))))
    (is_punctuator 1 17 ";")))
    Optional.absent (is_punctuator 1 19 ";")
    (Optional.present (whole (Cast.unary (Unary.postfix (Postfix.post_increment
    (Postfix.primary (Primary.variable (is_identifier 1 21 "i"))) (is_punctuator 1 22 "++"))))))
    (is_punctuator 0 24 ")") (Statement.empty (is_punctuator 1 26 ";"))

-- static int f(void) { return; }
a_program : TranslationUnit
    (keyword 0 0 "static" ∷ keyword 0 7 "int" ∷ identifier 0 11 "f" ∷ punctuator 0 12 "(" ∷ keyword 1 13 "void" ∷ punctuator 0 17 ")"
    ∷ punctuator 0 19 "{" ∷ keyword 1 21 "return" ∷ punctuator 1 27 ";" ∷ punctuator 0 29 "}" ∷ [])
    (record {
      definitions = def 7 (kind.Function (record {
        result = Some (Integer I32);
        name = record { place = 11; text = codes "f" };
        parameters = [];
        body = stmt 21 made.Return ∷ [];
        end = 29;
        tokens = 9;
      })) ∷ [];
      end = 30;
    })
a_program = TranslationUnit.program (ItemList.more
    (Item.function (Static.present (is_keyword 0 0 "static"))
    (FunctionDefinition.function (ResultType.value (int_type 0 7)) (is_identifier 0 11 "f") (is_punctuator 0 12 "(")
    (ParameterList.void (is_keyword 1 13 "void")) (is_punctuator 0 17 ")") (is_punctuator 0 19 "{")
    (Items.statement (Statement.return (is_keyword 1 21 "return") (is_punctuator 1 27 ";")) Items.none)
    (is_punctuator 0 29 "}") refl))
    ItemList.none)

-- an empty text
nothing : TranslationUnit [] (record { definitions = []; end = 0 })
nothing = TranslationUnit.program ItemList.none

-- a number: 1
pub one : IsConstant (codes "1") (int32 (pos 1))
one = record {
  radix = Decimal;
  digits = codes "1";
  suffix = Plain;
  literal = record {
    prefix = [];
    ending = [];
    cut = refl;
    begins = (refl, λ h. grind (arith, h));
    numeral = (omega arith, (omega arith, tt));
    ends = refl;
  };
  typed = refl;
}

-- calloc(1, sizeof(struct s)) makes an object of s
new : Assignment 0
    (library_word 0 0 "calloc" ∷ punctuator 0 6 "(" ∷ placed Number 1 7 "1" ∷ punctuator 1 8 "," ∷ keyword 1 10 "sizeof" ∷ punctuator 1 16 "("
    ∷ keyword 2 17 "struct" ∷ identifier 2 24 "s" ∷ punctuator 1 25 ")" ∷ punctuator 0 26 ")" ∷ [])
    (expr 0 (node.Calloc (record { place = 24; text = codes "s" })))
new = whole (Cast.unary (Unary.postfix (Postfix.primary (Primary.calloc (is_library_word 0 0 "calloc") (is_punctuator 0 6 "(")
    (record { sort = refl; stands = refl; constant = one }) refl (is_punctuator 1 8 ",") (is_keyword 1 10 "sizeof") (is_punctuator 1 16 "(")
    (is_keyword 2 17 "struct") (is_identifier 2 24 "s") (is_punctuator 1 25 ")") (is_punctuator 0 26 ")")))))
