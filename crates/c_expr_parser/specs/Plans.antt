-- How the parser walks through tokens: what it takes next, how deep that stands, and what it makes of it. A plan says what
-- is wanted next and how to go on with what was read; each token is looked at once. The contracts of private functions
-- cite this. What the public calls promise rests on the grammar alone.
use Rattle.std.specs.Prelude.{◌≡◌, length, ℕ, ◌+◌, zero, suc, pos, Bool, true, false, nat_le, if◌then◌else◌, List, [], ◌∷◌, ◌++◌, Option, Some, None, option_map, codes, Result, MatchResult}
use Rattle.std.specs.Str.{bytes_eq}
use Rattle.c_ints.specs.declared.kind.Kind.TheVariants.{I32}
use Rattle.c_ints.specs.declared.operator.BinOp.{BinOp}
use Rattle.c_ints.specs.Number.{number}
use Rattle.c_lexer.specs.Bytes.{quote, double_quote}
use Rattle.c_lexer.specs.declared.token.Token.{Token}
use Rattle.c_lexer.specs.declared.token.TokenKind.{TokenKind}
use Rattle.c_lexer.specs.declared.token.TokenKind.TheVariants.{Identifier, Keyword, LibraryWord, Number, Character, Str, Punctuator}
use Rattle.c_tree.specs.declared.name.Name.{Name}
use Rattle.c_tree.specs.declared.name.CType.{CType}
use Rattle.c_tree.specs.declared.name.CType.TheVariants.{Integer, Handle, Thread}
use Rattle.c_tree.specs.declared.expr.Expr.{Expr}
use Rattle.c_tree.specs.declared.expr.ExprNode.{ExprNode}
use Rattle.c_tree.specs.declared.expr.ExprNode.TheVariants as node
use Rattle.c_tree.specs.declared.expr.StepOp.TheVariants.{PreIncrement, PreDecrement, PostIncrement, PostDecrement}
use Rattle.c_expr_parser.specs.declared.library.LibraryName.{LibraryName}
use Rattle.c_expr_parser.specs.declared.library.LibraryName.TheVariants as library
use Rattle.c_expr_parser.specs.declared.operand.Operand.{Operand}
use Rattle.c_expr_parser.specs.declared.operators.Prefix.{Prefix}
use Rattle.c_expr_parser.specs.declared.operators.Prefix.TheVariants as prefix
use Rattle.c_expr_parser.specs.declared.postfix.PostfixOp.{PostfixOp}
use Rattle.c_expr_parser.specs.declared.postfix.PostfixOp.TheVariants.{Arrow, Dot, Increment, Decrement}
use Rattle.c_expr_parser.specs.declared.stop.Stop.{Stop}
use Rattle.c_expr_parser.specs.declared.stop.Stop.TheVariants.{Stuck, Deep, Memory}
use Rattle.c_expr_parser.specs.declared.parser.SyntaxFault.{SyntaxFault}
use Rattle.c_expr_parser.specs.declared.parser.SyntaxFault.TheVariants.{At, TooDeep}
use Rattle.c_expr_parser.specs.Placed.{Placed}
use Rattle.c_expr_parser.specs.Readings.{most_depth}
use Rattle.c_expr_parser.specs.Operators.{joined, loosest}
use Rattle.c_expr_parser.specs.Expressions.{expr}
use Rattle.c_expr_parser.specs.Tables.{look, is_kind, is, when_some, unary_operator, compound_operator, binary_operator, kind_of, is_integer_word, longer_kind, begins_type, unquoted, only, constant_of, is_one}

-- what was read
pub data Value : Type 0 where
  nothing : Value
  operand : Operand → Value
  named : Name → Value
  typed : CType → Value
  listed : List Expr → Value
  quoted : ℕ → List ℕ → Value

-- what is wanted, each at its depth
pub data Wanted : Type 0 where
  -- a token of a kind and a spelling
  Word : TokenKind → List ℕ → ℕ → Wanted
  Naming : ℕ → Wanted
  -- a number of value 1
  One : ℕ → Wanted
  -- a type; further words of an integer type
  Typing : ℕ → Wanted
  Words : ℕ → List (List ℕ) → Wanted
  -- adjacent strings; further ones after those that began at a place
  Strings : ℕ → Wanted
  MoreStrings : ℕ → ℕ → List ℕ → Wanted
  Cast : ℕ → Wanted
  Unary : ℕ → Wanted
  -- what follows an opening parenthesis at a place: a type, where casts are wanted, or an expression
  Inside : Bool → ℕ → ℕ → Wanted
  -- what may follow a name at a place: arguments or an index
  Behind : ℕ → ℕ → List ℕ → Wanted
  -- postfix operators after an operand
  Postfix : ℕ → Operand → Wanted
  -- an assignment's operator and right side after an operand
  Assigned : ℕ → Operand → Wanted
  -- operators of the level above a number, and their right operands
  Chain : ℕ → ℕ → Operand → Wanted
  -- the second and third part of `?:`
  Chosen : ℕ → Operand → Wanted
  -- arguments, and further ones after some
  Arguments : ℕ → Wanted
  Further : ℕ → List Expr → Wanted
  -- the second argument of `thrd_join`
  Target : ℕ → Wanted

-- what is wanted next, and how to go on with what was read
pub data Plan : Type 0 where
  Return : Value → Plan
  Then : Wanted → (Value → Plan) → Plan

-- one plan after another
abbrev pub after : Plan → (Value → Plan) → Plan
after (Return v) k = k v
after (Then w p) k = Then w (λ v. after (p v) k)

-- the depth of the token with which something wanted begins
abbrev pub depth_of : Wanted → ℕ
depth_of (Word kind spelling d) = d
depth_of (Naming d) = d
depth_of (One d) = d
depth_of (Typing d) = d
depth_of (Words d words) = d
depth_of (Strings d) = d
depth_of (MoreStrings d place bytes) = d
depth_of (Cast d) = d
depth_of (Unary d) = d
depth_of (Inside casts d place) = suc d
depth_of (Behind d place text) = d
depth_of (Postfix d a) = d
depth_of (Assigned d a) = d
depth_of (Chain level d a) = d
depth_of (Chosen d a) = d
depth_of (Arguments d) = d
depth_of (Further d es) = d
depth_of (Target d) = d

-- parts of what was read; a plan never asks for another part than it has
abbrev pub no_expr : Expr
no_expr = expr 0 node.Null

abbrev pub as_operand : Value → Operand
as_operand (operand a) = a
as_operand _ = record { expr = no_expr; start = 0; is_unary = false }

abbrev pub as_expr : Value → Expr
as_expr v = (as_operand v).expr

abbrev pub as_name : Value → Name
as_name (named n) = n
as_name _ = record { place = 0; text = [] }

abbrev pub as_type : Value → CType
as_type (typed t) = t
as_type _ = Thread

abbrev pub as_list : Value → List Expr
as_list (listed es) = es
as_list _ = []

abbrev pub as_place : Value → ℕ
as_place (quoted place bytes) = place
as_place _ = 0

abbrev pub as_bytes : Value → List ℕ
as_bytes (quoted place bytes) = bytes
as_bytes _ = []

-- a unary expression, which may come before `=`, and another operand
abbrev pub unary : ℕ → ExprNode Expr → Operand
unary start made = record { expr = expr start made; start = start; is_unary = true }

abbrev pub other : ℕ → ExprNode Expr → Operand
other start made = record { expr = expr start made; start = start; is_unary = false }

-- a token that must come
abbrev pub punctuator : List ℕ → ℕ → Plan → Plan
punctuator spelling d p = Then (Word Punctuator spelling d) (λ v. p)

abbrev pub keyword : List ℕ → ℕ → Plan → Plan
keyword spelling d p = Then (Word Keyword spelling d) (λ v. p)

abbrev pub library_word : List ℕ → ℕ → Plan → Plan
library_word spelling d p = Then (Word LibraryWord spelling d) (λ v. p)

abbrev pub name_then : ℕ → (Name → Plan) → Plan
name_then d k = Then (Naming d) (λ v. k (as_name v))

-- a primary expression, and what may follow it
abbrev pub primary : ℕ → ℕ → ExprNode Expr → Plan
primary d start made = Then (Postfix d (unary start made)) Return

-- the chains of the levels up to one, after an operand
abbrev pub chains : ℕ → ℕ → Value → Plan
chains zero d v = Return v
chains (suc level) d v = after (chains level d v) (λ w. Then (Chain level d (as_operand w)) Return)

-- what may follow an expression's first operand
abbrev pub conditional_rest : ℕ → Value → Plan
conditional_rest d v = after (chains loosest d v) (λ w. Then (Chosen d (as_operand w)) Return)

abbrev pub assignment_rest : ℕ → Value → Plan
assignment_rest d v = Then (Assigned d (as_operand v)) (conditional_rest d)

abbrev pub binary : ℕ → ℕ → Plan
binary level d = Then (Cast d) (chains level d)

abbrev pub conditional : ℕ → Plan
conditional d = Then (Cast d) (conditional_rest d)

abbrev pub assignment : ℕ → Plan
assignment d = Then (Cast d) (assignment_rest d)

-- an expression, and how to go on with it
abbrev pub expr_then : ℕ → (Expr → Plan) → Plan
expr_then d k = after (assignment d) (λ v. k (as_expr v))

abbrev pub unary_then : ℕ → (Expr → Plan) → Plan
unary_then d k = Then (Unary d) (λ v. k (as_expr v))

-- the calls of the library after their names
abbrev pub print_call : ℕ → ℕ → Plan
print_call d start =
    punctuator (codes "(") d (Then (Strings (suc d)) (λ s. Then (Further (suc d) []) (λ es.
    punctuator (codes ")") d (primary d start (node.Print (as_place s) (as_bytes s) (as_list es))))))

abbrev pub calloc_call : ℕ → ℕ → Plan
calloc_call d start =
    punctuator (codes "(") d (Then (One (suc d)) (λ v. punctuator (codes ",") (suc d) (keyword (codes "sizeof") (suc d)
    (punctuator (codes "(") (suc d) (keyword (codes "struct") (suc (suc d)) (name_then (suc (suc d)) (λ tag.
    punctuator (codes ")") (suc d) (punctuator (codes ")") d (primary d start (node.Calloc tag))))))))))

abbrev pub free_call : ℕ → ℕ → Plan
free_call d start =
    punctuator (codes "(") d (expr_then (suc d) (λ e. punctuator (codes ")") d (primary d start (node.Free e))))

abbrev pub create_call : ℕ → ℕ → Plan
create_call d start =
    punctuator (codes "(") d (punctuator (codes "&") (suc d) (unary_then (suc d) (λ place. punctuator (codes ",") (suc d)
    (name_then (suc d) (λ function. punctuator (codes ",") (suc d) (expr_then (suc d) (λ argument.
    punctuator (codes ")") d (primary d start (node.Create place function argument)))))))))

-- the node of a join, by its second argument
abbrev pub join_node : Expr → Value → ExprNode Expr
join_node e (operand a) = node.JoinInto e a.expr
join_node e _ = node.Join e

abbrev pub join_call : ℕ → ℕ → Plan
join_call d start =
    punctuator (codes "(") d (expr_then (suc d) (λ e. punctuator (codes ",") (suc d) (Then (Target (suc d)) (λ target.
    punctuator (codes ")") d (primary d start (join_node e target))))))

abbrev pub init_call : ℕ → ℕ → Plan
init_call d start =
    punctuator (codes "(") d (punctuator (codes "&") (suc d) (name_then (suc d) (λ mutex. punctuator (codes ",") (suc d)
    (library_word (codes "mtx_plain") (suc d) (punctuator (codes ")") d (primary d start (node.InitMutex mutex)))))))

abbrev pub mutex_call : (Name → ExprNode Expr) → ℕ → ℕ → Plan
mutex_call made d start =
    punctuator (codes "(") d (punctuator (codes "&") (suc d) (name_then (suc d) (λ mutex.
    punctuator (codes ")") d (primary d start (made mutex)))))

-- parts of these: the size of a struct, with its tag, and the argument that is a mutex
abbrev pub size_of_struct : ℕ → Plan
size_of_struct d =
    keyword (codes "sizeof") d (punctuator (codes "(") d (keyword (codes "struct") (suc d) (name_then (suc d) (λ tag.
    punctuator (codes ")") d (Return (named tag))))))

abbrev pub create_place : ℕ → Plan
create_place d =
    punctuator (codes "(") d (punctuator (codes "&") (suc d) (Then (Unary (suc d)) (λ v. punctuator (codes ",") (suc d) (Return v))))

abbrev pub create_function : ℕ → Plan
create_function d = name_then d (λ function. punctuator (codes ",") d (Return (named function)))

-- what the second argument of a join is read as
abbrev pub target_value : Option Operand → Value
target_value None = nothing
target_value (Some a) = operand a

abbrev pub mutex_argument : ℕ → Plan
mutex_argument d =
    punctuator (codes "(") d (punctuator (codes "&") (suc d) (name_then (suc d) (λ mutex. punctuator (codes ")") d (Return (named mutex)))))

-- what follows a name of the library that begins an operand
abbrev pub word_call : LibraryName → ℕ → ℕ → Plan
word_call library.Null d start = primary d start node.Null
word_call library.Success d start = primary d start node.Success
word_call library.Error d start = primary d start node.Error
word_call library.Printf d start = print_call d start
word_call library.Calloc d start = calloc_call d start
word_call library.Free d start = free_call d start
word_call library.Create d start = create_call d start
word_call library.Join d start = join_call d start
word_call library.Init d start = init_call d start
word_call library.Lock d start = mutex_call node.Lock d start
word_call library.Unlock d start = mutex_call node.Unlock d start

abbrev pub library_word_operand : ℕ → Token → Option Plan
library_word_operand d t =
    look t.text ((codes "NULL", primary d t.at node.Null)
    ∷ (codes "thrd_success", primary d t.at node.Success) ∷ (codes "thrd_error", primary d t.at node.Error)
    ∷ (codes "printf", print_call d t.at) ∷ (codes "calloc", calloc_call d t.at) ∷ (codes "free", free_call d t.at)
    ∷ (codes "thrd_create", create_call d t.at) ∷ (codes "thrd_join", join_call d t.at)
    ∷ (codes "mtx_init", init_call d t.at) ∷ (codes "mtx_lock", mutex_call node.Lock d t.at)
    ∷ (codes "mtx_unlock", mutex_call node.Unlock d t.at) ∷ [])

-- what follows a punctuator that begins an operand
abbrev pub punctuator_operand : Bool → ℕ → Token → Option Plan
punctuator_operand casts d t =
    if bytes_eq t.text (codes "(") then Some (Then (Inside casts d t.at) Return)
    else (if bytes_eq t.text (codes "++") then Some (unary_then (suc d) (λ e. Return (operand (unary t.at (node.Step PreIncrement e)))))
    else (if bytes_eq t.text (codes "--") then Some (unary_then (suc d) (λ e. Return (operand (unary t.at (node.Step PreDecrement e)))))
    else option_map (λ op. Then (Cast (suc d)) (λ v. Return (operand (unary t.at (node.Unary op (as_expr v)))))) (unary_operator t)))

-- what follows the token that begins an operand: a cast, or where none is wanted a unary expression
abbrev pub operand_by : TokenKind → Bool → ℕ → Token → Option Plan
operand_by Identifier casts d t = Some (Then (Behind d t.at t.text) (λ v. Then (Postfix d (as_operand v)) Return))
operand_by Keyword casts d t = None
operand_by LibraryWord casts d t = library_word_operand d t
operand_by Number casts d t = option_map (λ n. primary d t.at (node.Number n)) (constant_of t.text)
operand_by Character casts d t =
    option_map (λ b. primary d t.at (node.Character (number I32 (pos b)))) (only (unquoted quote t.text))
operand_by Str casts d t = None
operand_by Punctuator casts d t = punctuator_operand casts d t

abbrev pub operand_plan : Bool → ℕ → Token → Option Plan
operand_plan casts d t = operand_by t.kind casts d t

-- what follows the token that begins a type
abbrev pub type_plan : ℕ → Token → Option Plan
type_plan d t =
    if is_integer_word t then Some (Then (Words d (t.text ∷ [])) Return)
    else (if is Keyword (codes "struct") t then Some (name_then d (λ tag. punctuator (codes "*") d (Return (typed (Handle tag)))))
    else (if is LibraryWord (codes "thrd_t") t then Some (Return (typed Thread)) else None))

-- what follows the first token inside parentheses: a cast's type, or an expression
abbrev pub cast_plan : Bool → ℕ → ℕ → Token → Option Plan
cast_plan casts d place t =
    when_some casts (option_map (λ p. after p (λ ty. punctuator (codes ")") d (Then (Cast (suc d)) (λ v.
    Return (operand (other place (node.Cast (as_type ty) (as_expr v)))))))) (type_plan (suc d) t))

abbrev pub parenthesised : ℕ → ℕ → Token → Option Plan
parenthesised d place t =
    option_map (λ p. after (after p (assignment_rest (suc d))) (λ v. punctuator (codes ")") d
    (Then (Postfix d (record { expr = as_expr v; start = place; is_unary = true })) Return))) (operand_plan true (suc d) t)

-- what may follow a name that begins an operand, and the arguments of a call up to the closing parenthesis
abbrev pub behind_name : ℕ → ℕ → List ℕ → Plan
behind_name d place text = Then (Behind d place text) (λ v. Then (Postfix d (as_operand v)) Return)

abbrev pub arguments : ℕ → Plan
arguments d = Then (Arguments (suc d)) (λ es. punctuator (codes ")") d (Return es))

-- the node of an assignment by its operator: none for `=`
abbrev pub assigned : Option BinOp → Expr → Expr → ExprNode Expr
assigned None a b = node.Assign a b
assigned (Some op) a b = node.Update op a b

-- the operator of an assignment: that of `=` is none
abbrev pub assignment_operator : Token → Option (Option BinOp)
assignment_operator t = if is Punctuator (codes "=") t then Some None else option_map (λ op. Some op) (compound_operator t)

-- what follows a postfix operator
abbrev pub postfix_plan : ℕ → Operand → Token → Option Plan
postfix_plan d a t = when_some (is_kind Punctuator t) (look t.text (
    (codes "->", name_then d (λ field. Then (Postfix d (unary a.start (node.Arrow a.expr field))) Return))
    ∷ (codes ".", name_then d (λ field. Then (Postfix d (unary a.start (node.Dot a.expr field))) Return))
    ∷ (codes "++", Then (Postfix d (unary a.start (node.Step PostIncrement a.expr))) Return)
    ∷ (codes "--", Then (Postfix d (unary a.start (node.Step PostDecrement a.expr))) Return) ∷ []))

-- one postfix operator after an operand
abbrev pub one_postfix : ℕ → Operand → PostfixOp → Plan
one_postfix d a Arrow = name_then d (λ field. Return (operand (unary a.start (node.Arrow a.expr field))))
one_postfix d a Dot = name_then d (λ field. Return (operand (unary a.start (node.Dot a.expr field))))
one_postfix d a Increment = Return (operand (unary a.start (node.Step PostIncrement a.expr)))
one_postfix d a Decrement = Return (operand (unary a.start (node.Step PostDecrement a.expr)))

-- the operator of an assignment after an operand
abbrev pub assignment_sign : Operand → Token → Option (Option BinOp)
assignment_sign a t = when_some a.is_unary (assignment_operator t)

-- an operand that begins with a punctuator at a place
abbrev pub prefixed : Bool → ℕ → ℕ → Prefix → Plan
prefixed casts d place prefix.Open = Then (Inside casts d place) Return
prefixed casts d place prefix.Increment = unary_then (suc d) (λ e. Return (operand (unary place (node.Step PreIncrement e))))
prefixed casts d place prefix.Decrement = unary_then (suc d) (λ e. Return (operand (unary place (node.Step PreDecrement e))))
prefixed casts d place (prefix.Operator op) = Then (Cast (suc d)) (λ v. Return (operand (unary place (node.Unary op (as_expr v)))))

-- how to go on after a token with which something wanted begins; none where it doesn't begin so
abbrev pub takes : Wanted → Token → Option Plan
takes (Word kind spelling d) t = when_some (is kind spelling t) (Some (Return nothing))
takes (Naming d) t = when_some (is_kind Identifier t) (Some (Return (named (record { place = t.at; text = t.text }))))
takes (One d) t = when_some (is_one t) (Some (Return nothing))
takes (Typing d) t = type_plan d t
takes (Words d words) t = option_map (λ k. Then (Words d (words ++ t.text ∷ [])) Return) (longer_kind words t)
takes (Strings d) t = when_some (is_kind Str t) (option_map (λ bytes. Then (MoreStrings d t.at bytes) Return) (unquoted double_quote t.text))
takes (MoreStrings d place bytes) t =
    when_some (is_kind Str t) (option_map (λ more. Then (MoreStrings d place (bytes ++ more)) Return) (unquoted double_quote t.text))
takes (Cast d) t = operand_plan true d t
takes (Unary d) t = operand_plan false d t
takes (Inside casts d place) t = if begins_type t then cast_plan casts d place t else parenthesised d place t
takes (Behind d place text) t =
    if is Punctuator (codes "(") t then Some (Then (Arguments (suc d)) (λ es. punctuator (codes ")") d (Return (operand (unary place (node.Call text (as_list es)))))))
    else (if is Punctuator (codes "[") t then Some (expr_then (suc d) (λ i. punctuator (codes "]") d (Return (operand (unary place (node.Element text i))))))
    else None)
takes (Postfix d a) t = postfix_plan d a t
takes (Assigned d a) t =
    when_some a.is_unary (option_map (λ op. expr_then (suc d) (λ b. Return (operand (other a.start (assigned op a.expr b))))) (assignment_operator t))
takes (Chain level d a) t =
    option_map (λ joint. after (binary level d) (λ b. Then (Chain level d (other a.start (joined joint a.expr (as_expr b)))) Return)) (binary_operator (suc level) t)
takes (Chosen d a) t =
    when_some (is Punctuator (codes "?") t) (Some (expr_then d (λ b. punctuator (codes ":") d (after (conditional (suc d)) (λ c.
    Return (operand (other a.start (node.Choice a.expr b (as_expr c)))))))))
takes (Arguments d) t = option_map (λ p. after (after p (assignment_rest d)) (λ v. Then (Further d (as_expr v ∷ [])) Return)) (operand_plan true d t)
takes (Further d es) t = when_some (is Punctuator (codes ",") t) (Some (expr_then d (λ e. Then (Further d (es ++ e ∷ [])) Return)))
takes (Target d) t =
    if is LibraryWord (codes "NULL") t then Some (Return nothing)
    else when_some (is Punctuator (codes "&") t) (Some (Then (Unary d) Return))

-- what it is where it begins with no token: what may be left out
abbrev pub left_out : Wanted → Option Value
left_out (Words d words) = option_map (λ k. typed (Integer k)) (kind_of words)
left_out (MoreStrings d place bytes) = Some (quoted place bytes)
left_out (Behind d place text) = Some (operand (unary place (node.Variable text)))
left_out (Postfix d a) = Some (operand a)
left_out (Assigned d a) = Some (operand a)
left_out (Chain level d a) = Some (operand a)
left_out (Chosen d a) = Some (operand a)
left_out (Arguments d) = Some (listed [])
left_out (Further d es) = Some (listed es)
left_out _ = None

-- what became of a list of tokens: the tokens that were taken, with their depth, and then what was read and the tokens
-- after it, or those after which nothing fits
pub data Trace : Type 0 where
  Put : Placed → Trace → Trace
  Took : Value → List Token → Trace
  Dead : List Token → Trace

-- what becomes of something that isn't taken: it is left out, or nothing fits
abbrev pub passed : List Token → Option Value → (Value → Trace) → Trace
passed ts (Some v) k = k v
passed ts None k = Dead ts

-- what becomes of something at a token: it is taken, or something else happens
abbrev pub met : Placed → (Plan → Trace) → Trace → Option Plan → Trace
met t later otherwise (Some p) = Put t (later p)
met t later otherwise None = otherwise

-- a plan carried out where no token is left
abbrev pub finish : Plan → Trace
finish (Return v) = Took v []
finish (Then w k) = passed [] (left_out w) (λ v. finish (k v))

-- a plan carried out at a token, where it is known what it does with the tokens after it
abbrev pub step : Token → List Token → (Plan → Trace) → Plan → Trace
step t ts later (Return v) = Took v (t ∷ ts)
step t ts later (Then w k) =
    met (record { token = t; depth = depth_of w }) (λ p. later (after p k))
    (passed (t ∷ ts) (left_out w) (λ v. step t ts later (k v))) (takes w t)

-- a plan carried out
abbrev pub run : List Token → Plan → Trace
run [] p = finish p
run (t ∷ ts) p = step t ts (run ts) p

-- all tokens of a trace
abbrev pub remaining : Trace → List Token
remaining (Put t tr) = t.token ∷ remaining tr
remaining (Took v rest) = rest
remaining (Dead rest) = rest

-- what was read and the tokens after it; or how many tokens are left where none fits, or where the first is too deep
pub data Parsed : Type 0 where
  read : Value → List Token → Parsed
  stuck : ℕ → Parsed
  deep : ℕ → Parsed

-- a token at a depth, of which so many are left, and what comes after it
abbrev pub at_depth : ℕ → ℕ → Parsed → Parsed
at_depth d left behind = if nat_le d most_depth then behind else deep left

-- a trace up to the first token that is too deep
abbrev pub cut : Trace → Parsed
cut (Put t tr) = at_depth t.depth (length (remaining (Put t tr))) (cut tr)
cut (Took v rest) = read v rest
cut (Dead rest) = stuck (length rest)

-- a plan carried out on tokens
unfoldable pub parsed : Plan → List Token → Parsed
parsed p ts = cut (run ts p)

-- an operand: a cast, or where none is wanted a unary expression
abbrev pub wanted : Bool → ℕ → Wanted
wanted casts d = if casts then Cast d else Unary d

-- something wanted that is read on tokens
abbrev pub reads : Wanted → List Token → Parsed
reads w ts = parsed (Then w Return) ts

-- a function that stopped reports where nothing fits, or where the first token is that is too deep
abbrev pub Stops : Stop → Parsed → Type 0
Stops (Stuck left) m = m ≡ stuck left
Stops (Deep left) m = m ≡ deep left
Stops Memory m = Unit {0}

-- a parse function's result is what the walk gives: the value that was read with the tokens after it, or where it stopped
abbrev pub Finds : {T : Type 0} → Parsed → (T → Parsed) → Result T Stop → Type 0
Finds m f result = MatchResult result (λ x. m ≡ f x) (λ stop. Stops stop m)

-- the same by the numbers of tokens, of which there are so many
abbrev pub Told : SyntaxFault → Parsed → ℕ → Type 0
Told (At place) m count = (left : ℕ) × (m ≡ stuck left) × (place + left ≡ count)
Told (TooDeep place) m count = (left : ℕ) × (m ≡ deep left) × (place + left ≡ count)
Told SyntaxFault.Memory m count = Unit {0}
