-- Small texts as the parser walks through them.
use Rattle.std.specs.Prelude.{◌≡◌, [], ◌∷◌, codes}
use Rattle.std.proofs.Common.{refl}
use Rattle.c_ints.specs.declared.kind.Kind.TheVariants.{U64}
use Rattle.c_ints.specs.declared.operator.BinOp.TheVariants.{Sub, Mul}
use Rattle.c_lexer.specs.declared.token.TokenKind.TheVariants.{Number}
use Rattle.c_tree.specs.declared.name.CType.TheVariants.{Integer}
use Rattle.c_tree.specs.declared.expr.ExprNode.TheVariants as node
use Rattle.c_expr_parser.specs.Placed.{Placed, tokens}
use Rattle.c_expr_parser.specs.Expressions.{expr}
use Rattle.c_expr_parser.specs.Plans.{operand, Put, Took, Dead, run, assignment, unary, other}
use Rattle.c_expr_parser.proofs.Samples.{placed, library_word, punctuator, keyword, identifier, variable}

abbrev a : Placed
a = identifier 0 0 "a"

-- a - b - c
minus_trace : run (tokens (a ∷ punctuator 0 2 "-" ∷ identifier 0 4 "b" ∷ punctuator 0 6 "-" ∷ identifier 0 8 "c" ∷ [])) (assignment 0)
    ≡ Put a (Put (punctuator 0 2 "-") (Put (identifier 0 4 "b") (Put (punctuator 0 6 "-") (Put (identifier 0 8 "c") (Took (operand (other 0 (node.Binary Sub (expr 0 (node.Binary Sub (variable 0 "a") (variable 4 "b"))) (variable 8 "c")))) [])))))
minus_trace = refl

-- a * b = c dies at the sign
product_ends : run (tokens (a ∷ punctuator 0 2 "*" ∷ identifier 0 4 "b" ∷ punctuator 0 6 "=" ∷ [])) (assignment 0)
    ≡ Put a (Put (punctuator 0 2 "*") (Put (identifier 0 4 "b") (Took (operand (other 0 (node.Binary Mul (variable 0 "a") (variable 4 "b")))) (tokens (punctuator 0 6 "=" ∷ [])))))
product_ends = refl

-- ( long unsigned ) x
cast_trace : run (tokens (punctuator 0 0 "(" ∷ keyword 1 1 "long" ∷ keyword 1 6 "unsigned" ∷ punctuator 0 14 ")" ∷ identifier 1 16 "x" ∷ [])) (assignment 0)
    ≡ Put (punctuator 0 0 "(") (Put (keyword 1 1 "long") (Put (keyword 1 6 "unsigned") (Put (punctuator 0 14 ")") (Put (identifier 1 16 "x")
    (Took (operand (other 0 (node.Cast (Integer U64) (variable 16 "x")))) [])))))
cast_trace = refl

-- ( long long
long_long_dies : run (tokens (punctuator 0 0 "(" ∷ keyword 1 1 "long" ∷ keyword 1 6 "long" ∷ [])) (assignment 0)
    ≡ Put (punctuator 0 0 "(") (Put (keyword 1 1 "long") (Dead (tokens (keyword 1 6 "long" ∷ []))))
long_long_dies = refl

-- ++ ( int ) x: no cast comes after `++`
step_dies : run (tokens (punctuator 0 0 "++" ∷ punctuator 1 2 "(" ∷ keyword 2 3 "int" ∷ [])) (assignment 0)
    ≡ Put (punctuator 0 0 "++") (Put (punctuator 1 2 "(") (Dead (tokens (keyword 2 3 "int" ∷ []))))
step_dies = refl

-- calloc ( 1 , the number computes
calloc_trace : run (tokens (library_word 0 0 "calloc" ∷ punctuator 0 6 "(" ∷ placed Number 1 7 "0x1" ∷ punctuator 1 10 "," ∷ [])) (assignment 0)
    ≡ Put (library_word 0 0 "calloc") (Put (punctuator 0 6 "(") (Put (placed Number 1 7 "0x1") (Put (punctuator 1 10 ",") (Dead []))))
calloc_trace = refl

-- f ( a , b ) ++
call_trace : run (tokens (identifier 0 0 "f" ∷ punctuator 0 1 "(" ∷ identifier 1 2 "a" ∷ punctuator 1 3 "," ∷ identifier 1 4 "b" ∷ punctuator 0 5 ")" ∷ punctuator 0 6 "." ∷ identifier 0 7 "g" ∷ [])) (assignment 0)
    ≡ Put (identifier 0 0 "f") (Put (punctuator 0 1 "(") (Put (identifier 1 2 "a") (Put (punctuator 1 3 ",") (Put (identifier 1 4 "b") (Put (punctuator 0 5 ")") (Put (punctuator 0 6 ".") (Put (identifier 0 7 "g")
    (Took (operand (unary 0 (node.Dot (expr 0 (node.Call (codes "f") (variable 2 "a" ∷ variable 4 "b" ∷ []))) (record { place = 7; text = codes "g" })))) []))))))))
call_trace = refl

-- a ? b : c = d ends before the sign
choice_trace : run (tokens (a ∷ punctuator 0 2 "?" ∷ identifier 0 4 "b" ∷ punctuator 0 6 ":" ∷ identifier 1 8 "c" ∷ punctuator 1 10 "=" ∷ [])) (assignment 0)
    ≡ Put a (Put (punctuator 0 2 "?") (Put (identifier 0 4 "b") (Put (punctuator 0 6 ":") (Put (identifier 1 8 "c")
    (Took (operand (other 0 (node.Choice (variable 0 "a") (variable 4 "b") (variable 8 "c")))) (tokens (punctuator 1 10 "=" ∷ [])))))))
choice_trace = refl
