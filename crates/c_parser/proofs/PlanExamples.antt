-- Small texts as they are walked through.
use Rattle.std.specs.Prelude.{◌≡◌, ℕ, pos, List, [], ◌∷◌, ◌++◌, Some, None, codes}
use Rattle.std.proofs.Common.{refl}
use Prim.Native.String.{String}
use Rattle.c_ints.specs.declared.int.Int.{Int}
use Rattle.c_ints.specs.declared.int.Int.TheVariants.{I32 as int32}
use Rattle.c_ints.specs.declared.kind.Kind.TheVariants.{I32, U64}
use Rattle.c_lexer.specs.declared.token.TokenKind.TheVariants.{Number}
use Rattle.c_tree.specs.declared.name.Name.{Name}
use Rattle.c_tree.specs.declared.name.CType.{CType}
use Rattle.c_tree.specs.declared.name.CType.TheVariants.{Integer, Handle, Thread}
use Rattle.c_tree.specs.declared.expr.ExprNode.TheVariants as value
use Rattle.c_tree.specs.declared.stmt.StmtNode.TheVariants as node
use Rattle.c_tree.specs.declared.def.Parameters.TheVariants.{Named, Unnamed}
use Rattle.c_tree.specs.declared.def.DefKind.TheVariants as kind
use Rattle.c_expr_parser.specs.Placed.{Placed, tokens}
use Rattle.c_expr_parser.specs.Expressions.{expr}
use Rattle.c_expr_parser.specs.Statements.{stmt}
use Rattle.c_expr_parser.specs.Definitions.{def, defs}
use Rattle.c_expr_parser.proofs.Samples.{placed, punctuator, keyword, library_word, identifier, variable}
use Rattle.c_parser.specs.TextPlans.{Found, TextPlan, run_text, item, function_made, prototype_made, behind_static}
use Rattle.c_parser.specs.TextPlans.Found.{statement, made}
use Rattle.c_parser.specs.TextPlans.TextPlan.{Give, Want}
use Rattle.c_parser.specs.TextPlans.TextWanted.{Statement}
use Rattle.c_parser.specs.TextPlans.TextTrace.{Gave, Stopped}
use Rattle.c_parser.proofs.JoinedTraces.{nexts}

-- the walk takes all of these tokens as something that is found, or stops after them
abbrev Finds : TextPlan → List Placed → Found → Type 0
Finds p ts f = run_text (tokens ts) p ≡ nexts ts (Gave f [])

abbrev StopsBehind : TextPlan → List Placed → List Placed → Type 0
StopsBehind p ts rest = run_text (tokens (ts ++ rest)) p ≡ nexts ts (Stopped (tokens rest))

abbrev called : ℕ → String → Name
called place spelling = record { place = place; text = codes spelling }

abbrev int : CType
int = Integer I32

abbrev one : Int
one = int32 (pos 1)

abbrev a_statement : TextPlan
a_statement = Want (Statement 0) Give

-- if ( a ) if ( b ) ; else ;
nearest_if : Finds a_statement
    (keyword 0 0 "if" ∷ punctuator 0 3 "(" ∷ identifier 1 4 "a" ∷ punctuator 0 5 ")" ∷ keyword 1 7 "if" ∷ punctuator 1 10 "(" ∷ identifier 2 11 "b" ∷ punctuator 1 12 ")"
    ∷ punctuator 2 14 ";" ∷ keyword 1 16 "else" ∷ punctuator 2 21 ";" ∷ [])
    (statement (stmt 0 (node.If (variable 4 "a") (stmt 7 (node.IfElse (variable 11 "b") (stmt 14 node.Empty) (stmt 21 node.Empty))))))
nearest_if = refl

-- for ( int i , j ; i ; ) break ;
for_declares : Finds a_statement
    (keyword 0 0 "for" ∷ punctuator 0 4 "(" ∷ keyword 1 5 "int" ∷ identifier 1 9 "i" ∷ punctuator 1 11 "," ∷ identifier 1 13 "j" ∷ punctuator 1 14 ";"
    ∷ identifier 1 16 "i" ∷ punctuator 1 17 ";" ∷ punctuator 0 19 ")" ∷ keyword 1 21 "break" ∷ punctuator 1 26 ";" ∷ [])
    (statement (stmt 0 (node.For
    (stmt 5 (node.Declare (record { declared = int; name = called 9 "i"; initial = None }))
    ∷ stmt 5 (node.Declare (record { declared = int; name = called 13 "j"; initial = None })) ∷ [])
    (Some (variable 16 "i")) None (stmt 21 node.Break))))
for_declares = refl

-- for ( ; ; a ) continue ;
for_ever : Finds a_statement
    (keyword 0 0 "for" ∷ punctuator 0 4 "(" ∷ punctuator 1 5 ";" ∷ punctuator 1 6 ";" ∷ identifier 1 7 "a" ∷ punctuator 0 8 ")" ∷ keyword 1 10 "continue" ∷ punctuator 1 18 ";" ∷ [])
    (statement (stmt 0 (node.For [] None (Some (variable 7 "a")) (stmt 10 node.Continue))))
for_ever = refl

-- do a ; while ( b ) ;
do_while : Finds a_statement
    (keyword 0 0 "do" ∷ identifier 1 3 "a" ∷ punctuator 1 4 ";" ∷ keyword 0 6 "while" ∷ punctuator 0 12 "(" ∷ identifier 1 13 "b" ∷ punctuator 0 14 ")" ∷ punctuator 0 15 ";" ∷ [])
    (statement (stmt 0 (node.DoWhile (stmt 3 (node.Evaluate (variable 3 "a"))) (variable 13 "b"))))
do_while = refl

-- { thrd_t t ; return ; dsu_update ( ) ; dsu_tx { a ; } }
block : Finds a_statement
    (punctuator 0 0 "{" ∷ library_word 1 2 "thrd_t" ∷ identifier 1 9 "t" ∷ punctuator 1 10 ";" ∷ keyword 1 12 "return" ∷ punctuator 1 18 ";" ∷ library_word 1 20 "dsu_update" ∷ punctuator 1 30 "("
    ∷ punctuator 1 31 ")" ∷ punctuator 1 32 ";" ∷ library_word 1 34 "dsu_tx" ∷ punctuator 1 41 "{" ∷ identifier 2 43 "a" ∷ punctuator 2 44 ";" ∷ punctuator 1 46 "}" ∷ punctuator 0 48 "}" ∷ [])
    (statement (stmt 0 (node.Block
    (stmt 2 (node.Declare (record { declared = Thread; name = called 9 "t"; initial = None })) ∷ stmt 12 node.Return ∷ stmt 20 node.Update
    ∷ stmt 34 (node.Transaction (stmt 43 (node.Evaluate (variable 43 "a")) ∷ []) 46) ∷ []))))
block = refl

-- static int f ( int a ) { return a ; }
function : Finds item
    (keyword 0 0 "static" ∷ keyword 0 7 "int" ∷ identifier 0 11 "f" ∷ punctuator 0 12 "(" ∷ keyword 1 13 "int" ∷ identifier 1 17 "a" ∷ punctuator 0 18 ")" ∷ punctuator 0 20 "{"
    ∷ keyword 1 22 "return" ∷ identifier 1 29 "a" ∷ punctuator 1 30 ";" ∷ punctuator 0 32 "}" ∷ [])
    (made (behind_static (function_made 7 (Some int) (called 11 "f") (record { declared = int; name = called 17 "a" } ∷ [])
    (stmt 22 (node.ReturnValue (variable 29 "a")) ∷ []) 32)))
function = refl

-- its tokens are counted from `int` on
counted : behind_static (function_made 7 (Some int) (called 11 "f") [] [] 32) 12 ≡ function_made 7 (Some int) (called 11 "f") [] [] 32 11
counted = refl

-- void f ( int , struct T * ) ;
types_alone : Finds item
    (keyword 0 0 "void" ∷ identifier 0 5 "f" ∷ punctuator 0 6 "(" ∷ keyword 1 7 "int" ∷ punctuator 1 10 "," ∷ keyword 1 12 "struct" ∷ identifier 1 19 "T" ∷ punctuator 1 20 "*"
    ∷ punctuator 0 21 ")" ∷ punctuator 0 22 ";" ∷ [])
    (made (prototype_made 0 None (called 5 "f") (Unnamed (int ∷ Handle (called 19 "T") ∷ []))))
types_alone = refl

-- struct T * f ( void ) ;
no_parameters : Finds item
    (keyword 0 0 "struct" ∷ identifier 0 7 "T" ∷ punctuator 0 8 "*" ∷ identifier 0 10 "f" ∷ punctuator 0 11 "(" ∷ keyword 1 12 "void" ∷ punctuator 0 16 ")" ∷ punctuator 0 17 ";" ∷ [])
    (made (prototype_made 0 (Some (Handle (called 7 "T"))) (called 10 "f") (Named [])))
no_parameters = refl

-- struct T { int a ; struct T * b , * c ; } ;
struct : Finds item
    (keyword 0 0 "struct" ∷ identifier 0 7 "T" ∷ punctuator 0 9 "{" ∷ keyword 1 11 "int" ∷ identifier 1 15 "a" ∷ punctuator 1 16 ";" ∷ keyword 1 18 "struct"
    ∷ identifier 1 25 "T" ∷ punctuator 1 26 "*" ∷ identifier 1 27 "b" ∷ punctuator 1 28 "," ∷ punctuator 1 30 "*" ∷ identifier 1 31 "c" ∷ punctuator 1 32 ";" ∷ punctuator 0 34 "}" ∷ punctuator 0 35 ";" ∷ [])
    (made (λ n. def 0 (kind.Struct (called 7 "T") (record { declared = int; name = called 15 "a" }
    ∷ record { declared = Handle (called 25 "T"); name = called 27 "b" } ∷ record { declared = Handle (called 25 "T"); name = called 31 "c" } ∷ [])) ∷ []))
struct = refl

-- struct T ; and mtx_t m ;
forward : Finds item (keyword 0 0 "struct" ∷ identifier 0 7 "T" ∷ punctuator 0 8 ";" ∷ []) (made (λ n. def 0 (kind.Forward (called 7 "T")) ∷ []))
forward = refl

mutex : Finds item (library_word 0 0 "mtx_t" ∷ identifier 0 6 "m" ∷ punctuator 0 7 ";" ∷ []) (made (λ n. def 0 (kind.Mutex (called 6 "m")) ∷ []))
mutex = refl

-- unsigned long a [ 1 ] = { 1 , b , } , c ;
globals : Finds item
    (keyword 0 0 "unsigned" ∷ keyword 0 9 "long" ∷ identifier 0 14 "a" ∷ punctuator 0 15 "[" ∷ placed Number 1 16 "1" ∷ punctuator 0 17 "]" ∷ punctuator 0 19 "=" ∷ punctuator 0 21 "{"
    ∷ placed Number 1 23 "1" ∷ punctuator 1 24 "," ∷ identifier 1 26 "b" ∷ punctuator 1 27 "," ∷ punctuator 0 29 "}" ∷ punctuator 0 30 "," ∷ identifier 0 32 "c" ∷ punctuator 0 33 ";" ∷ [])
    (made (λ n. defs 0 (kind.Array (record {
      element = Integer U64;
      name = called 14 "a";
      length = record { place = 16; value = one };
      initial = Some (expr 23 (value.Number one) ∷ variable 26 "b" ∷ []);
    })
    ∷ kind.Global (record { declared = Integer U64; name = called 32 "c"; initial = None }) ∷ [])))
globals = refl

-- dsu_transform struct T { a = b ; } and dsu_transform g = b ;
transforms_struct : Finds item
    (library_word 0 0 "dsu_transform" ∷ keyword 0 14 "struct" ∷ identifier 0 21 "T" ∷ punctuator 0 23 "{" ∷ identifier 1 25 "a" ∷ punctuator 1 27 "=" ∷ identifier 1 29 "b"
    ∷ punctuator 1 30 ";" ∷ punctuator 0 32 "}" ∷ [])
    (made (λ n. def 0 (kind.TransformStruct (record {
      name = called 21 "T";
      values = record { field = called 25 "a"; value = variable 29 "b" } ∷ [];
    })) ∷ []))
transforms_struct = refl

transforms_global : Finds item
    (library_word 0 0 "dsu_transform" ∷ identifier 0 14 "g" ∷ punctuator 0 16 "=" ∷ identifier 0 18 "b" ∷ punctuator 0 19 ";" ∷ [])
    (made (λ n. def 0 (kind.TransformGlobal (called 14 "g") (variable 18 "b")) ∷ []))
transforms_global = refl

-- int f ( int , int a: names come after all types or after none
mixed_parameters : StopsBehind item
    (keyword 0 0 "int" ∷ identifier 0 4 "f" ∷ punctuator 0 5 "(" ∷ keyword 1 6 "int" ∷ punctuator 1 9 "," ∷ keyword 1 11 "int" ∷ [])
    (identifier 1 15 "a" ∷ [])
mixed_parameters = refl

-- void f ( int ) {: a function with a body has names
body_without_names : StopsBehind item
    (keyword 0 0 "void" ∷ identifier 0 5 "f" ∷ punctuator 0 6 "(" ∷ keyword 1 7 "int" ∷ punctuator 0 10 ")" ∷ []) (punctuator 0 12 "{" ∷ punctuator 0 13 "}" ∷ [])
body_without_names = refl

-- static struct T {
static_struct : StopsBehind item (keyword 0 0 "static" ∷ keyword 0 7 "struct" ∷ identifier 0 14 "T" ∷ []) (punctuator 0 16 "{" ∷ [])
static_struct = refl

-- int a = b = c: an initialiser at the first level is no assignment
initial_assignment : StopsBehind item
    (keyword 0 0 "int" ∷ identifier 0 4 "a" ∷ punctuator 0 6 "=" ∷ identifier 0 8 "b" ∷ []) (punctuator 0 10 "=" ∷ identifier 0 12 "c" ∷ [])
initial_assignment = refl

-- if ( a ) int: a declaration is no statement
governed_declaration : StopsBehind a_statement
    (keyword 0 0 "if" ∷ punctuator 0 3 "(" ∷ identifier 1 4 "a" ∷ punctuator 0 5 ")" ∷ []) (keyword 1 7 "int" ∷ [])
governed_declaration = refl

-- { ; else: no `if` comes before it
lone_else : StopsBehind a_statement (punctuator 0 0 "{" ∷ punctuator 1 1 ";" ∷ []) (keyword 1 3 "else" ∷ [])
lone_else = refl

-- { a ; and no more
open_block : StopsBehind a_statement (punctuator 0 0 "{" ∷ identifier 1 2 "a" ∷ punctuator 1 3 ";" ∷ []) []
open_block = refl
