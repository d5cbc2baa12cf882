-- How a whole text is walked through: declarations, statements and definitions over the walk through expressions. A plan
-- says what is wanted next and how to go on with what was read; each token is looked at once.
use Rattle.std.specs.Prelude.{◌≡◌, ℕ, zero, suc, true, nat_le, length, if◌then◌else◌, List, [], ◌∷◌, ◌++◌, Option, Some, None, option_map, pos, codes, ◌+◌, Result, MatchResult}
use Rattle.std.specs.Str.{bytes_eq}
use Rattle.c_ints.specs.declared.int.Int.TheVariants.{I32}
use Rattle.c_lexer.specs.declared.token.Token.{Token}
use Rattle.c_lexer.specs.declared.token.TokenKind.{TokenKind}
use Rattle.c_lexer.specs.declared.token.TokenKind.TheVariants.{Identifier, Keyword, LibraryWord, Number, Character, Str, Punctuator}
use Rattle.c_tree.specs.declared.name.Name.{Name}
use Rattle.c_tree.specs.declared.name.CType.{CType}
use Rattle.c_tree.specs.declared.name.CType.TheVariants.{Integer, Handle, Thread}
use Rattle.c_tree.specs.declared.expr.Expr.{Expr}
use Rattle.c_tree.specs.declared.stmt.Declaration.{Declaration}
use Rattle.c_tree.specs.declared.stmt.Stmt.{Stmt}
use Rattle.c_tree.specs.declared.stmt.StmtNode.{StmtNode}
use Rattle.c_tree.specs.declared.stmt.StmtNode.TheVariants as node
use Rattle.c_tree.specs.declared.def.Binding.{Binding}
use Rattle.c_tree.specs.declared.def.Parameters.{Parameters}
use Rattle.c_tree.specs.declared.def.Parameters.TheVariants.{Named, Unnamed}
use Rattle.c_tree.specs.declared.def.FieldValue.{FieldValue}
use Rattle.c_tree.specs.declared.def.Def.{Def}
use Rattle.c_tree.specs.declared.def.DefKind.{DefKind}
use Rattle.c_tree.specs.declared.def.DefKind.TheVariants as kind
use Rattle.c_tree.specs.declared.def.Length.{Length}
use Rattle.c_expr_parser.specs.declared.stop.Stop.{Stop}
use Rattle.c_expr_parser.specs.declared.stop.Stop.TheVariants.{Stuck, Deep, Memory}
use Rattle.c_expr_parser.specs.Placed.{Placed}
use Rattle.c_expr_parser.specs.Readings.{most_depth}
use Rattle.c_expr_parser.specs.Tables.{look, is, is_kind, when_some, begins_type, constant_of}
use Rattle.c_expr_parser.specs.Plans.{Value, Wanted, Plan, takes, left_out, depth_of, after, as_expr, as_type, as_name, assignment_rest, conditional_rest, assignment, conditional, operand_plan, type_plan}
use Rattle.c_expr_parser.specs.Plans.Value.{nothing, named}
use Rattle.c_expr_parser.specs.Plans.Plan.{Return, Then}
use Rattle.c_expr_parser.specs.Plans.Wanted.{Word, Naming, Typing}
use Rattle.c_expr_parser.specs.Statements.{stmt, declares}
use Rattle.c_expr_parser.specs.Definitions.{def, defs}

-- what was read
pub data Found : Type 0 where
  -- by the walk through expressions
  part : Value → Found
  place : ℕ → Found
  numbered : Length → Found
  optional : Option Expr → Found
  values : List Expr → Found
  listed : Option (List Expr) → Found
  statement : Stmt → Found
  statements : List Stmt → Found
  declarations : List Declaration → Found
  bindings : List Binding → Found
  types : List CType → Found
  parameters : Parameters → Found
  global : DefKind → Found
  globals : List DefKind → Found
  updates : List FieldValue → Found
  -- the definitions of an item by the number of its tokens
  made : (ℕ → List Def) → Found

-- what is wanted, each at its depth
pub data TextWanted : Type 0 where
  -- something of the walk through expressions
  Of : Wanted → TextWanted
  -- a punctuator of a spelling, by its place; a number, with its place
  Place : List ℕ → ℕ → TextWanted
  ArrayLength : ℕ → TextWanted
  -- an expression, or nothing; an initialiser after its sign, or nothing
  Optional : ℕ → TextWanted
  Initial : ℕ → TextWanted
  -- further declarators of variables and members after one of a type
  MoreVariables : ℕ → CType → TextWanted
  MoreNames : ℕ → CType → TextWanted
  -- further declarations of members
  MoreMembers : ℕ → TextWanted
  Statement : ℕ → TextWanted
  -- `else` and its statement, or nothing
  Else : ℕ → TextWanted
  -- the first part of a `for`, with its semicolon
  First : ℕ → TextWanted
  -- what stands between the braces of a block
  Items : ℕ → TextWanted
  -- what stands between a function's parentheses; a parameter's name, or nothing; further parameters with names and without
  ParameterList : ℕ → TextWanted
  ParameterName : ℕ → TextWanted
  MoreParameters : ℕ → TextWanted
  MoreTypes : ℕ → TextWanted
  -- a function's body or the end of its prototype, after parameters with names
  Body : ℕ → Option CType → Name → List Binding → TextWanted
  -- further initialisers of an array: after one, and after a comma
  MoreValues : ℕ → TextWanted
  AfterComma : ℕ → TextWanted
  -- an array's initialisers, or nothing
  ArrayInitial : TextWanted
  -- what follows a global's name, and further globals of its type
  Global : CType → Name → TextWanted
  MoreGlobals : CType → TextWanted
  -- a function's parentheses and what follows these, or nothing
  Function : ℕ → Option CType → Name → TextWanted
  -- what follows `struct` and a tag at the first level
  Tagged : ℕ → Name → TextWanted
  -- the updates of a transformer; what follows `dsu_transform`
  Updates : ℕ → TextWanted
  Transformed : ℕ → TextWanted
  -- an item of a text; what may come after `static`
  Item : TextWanted
  Declared : TextWanted

-- what is wanted next, and how to go on with what was read
pub data TextPlan : Type 0 where
  Give : Found → TextPlan
  Want : TextWanted → (Found → TextPlan) → TextPlan

-- one plan after another
abbrev pub then_text : TextPlan → (Found → TextPlan) → TextPlan
then_text (Give f) k = k f
then_text (Want w p) k = Want w (λ f. then_text (p f) k)

-- the depth of the token with which something wanted begins
abbrev pub text_depth : TextWanted → ℕ
text_depth (Of w) = depth_of w
text_depth (Place spelling d) = d
text_depth (ArrayLength d) = d
text_depth (Optional d) = d
text_depth (Initial d) = d
text_depth (MoreVariables d t) = d
text_depth (MoreNames d t) = d
text_depth (MoreMembers d) = d
text_depth (Statement d) = d
text_depth (Else d) = d
text_depth (First d) = d
text_depth (Items d) = d
text_depth (ParameterList d) = d
text_depth (ParameterName d) = d
text_depth (MoreParameters d) = d
text_depth (MoreTypes d) = d
text_depth (Body start result name bs) = 0
text_depth (MoreValues d) = d
text_depth (AfterComma d) = d
text_depth ArrayInitial = 0
text_depth (Global t name) = 0
text_depth (MoreGlobals t) = 0
text_depth (Function start result name) = 0
text_depth (Tagged start name) = 0
text_depth (Updates d) = d
text_depth (Transformed start) = 0
text_depth Item = 0
text_depth Declared = 0

-- parts of what was found; a plan never asks for another part than it has
abbrev pub as_part : Found → Value
as_part (part v) = v
as_part _ = nothing

abbrev pub as_place : Found → ℕ
as_place (place p) = p
as_place _ = 0

abbrev pub as_length : Found → Length
as_length (numbered n) = n
as_length _ = record { place = 0; value = I32 (pos 0) }

abbrev pub as_optional : Found → Option Expr
as_optional (optional e) = e
as_optional _ = None

abbrev pub as_values : Found → List Expr
as_values (values es) = es
as_values _ = []

abbrev pub as_listed : Found → Option (List Expr)
as_listed (listed es) = es
as_listed _ = None

abbrev pub as_statement : Found → Stmt
as_statement (statement s) = s
as_statement _ = stmt 0 node.Empty

abbrev pub as_statements : Found → List Stmt
as_statements (statements ss) = ss
as_statements _ = []

abbrev pub as_declarations : Found → List Declaration
as_declarations (declarations ds) = ds
as_declarations _ = []

abbrev pub as_bindings : Found → List Binding
as_bindings (bindings bs) = bs
as_bindings _ = []

abbrev pub as_types : Found → List CType
as_types (types ts) = ts
as_types _ = []

abbrev pub as_parameters : Found → Parameters
as_parameters (parameters ps) = ps
as_parameters _ = Named []

abbrev pub as_global : Found → DefKind
as_global (global g) = g
as_global _ = kind.Forward (as_name nothing)

abbrev pub as_globals : Found → List DefKind
as_globals (globals gs) = gs
as_globals _ = []

abbrev pub as_updates : Found → List FieldValue
as_updates (updates us) = us
as_updates _ = []

abbrev pub as_made : Found → ℕ → List Def
as_made (made f) = f
as_made _ = λ n. []

-- a plan of the walk through expressions, and another after it
abbrev pub behind : Plan → (Value → TextPlan) → TextPlan
behind (Return v) k = k v
behind (Then w p) k = Want (Of w) (λ f. behind (p (as_part f)) k)

-- what was begun with a token, and another after it
abbrev pub begun : Option Plan → (Value → Plan) → (Value → TextPlan) → Option TextPlan
begun o rest k = option_map (λ p. behind (after p rest) k) o

-- a token that must come, and names
abbrev pub punctuator : List ℕ → ℕ → TextPlan → TextPlan
punctuator spelling d p = Want (Of (Word Punctuator spelling d)) (λ f. p)

abbrev pub keyword : List ℕ → ℕ → TextPlan → TextPlan
keyword spelling d p = Want (Of (Word Keyword spelling d)) (λ f. p)

abbrev pub name_then : ℕ → (Name → TextPlan) → TextPlan
name_then d k = Want (Of (Naming d)) (λ f. k (as_name (as_part f)))

abbrev pub expr_then : ℕ → (Expr → TextPlan) → TextPlan
expr_then d k = behind (assignment d) (λ v. k (as_expr v))

abbrev pub conditional_then : ℕ → (Expr → TextPlan) → TextPlan
conditional_then d k = behind (conditional d) (λ v. k (as_expr v))

abbrev pub type_then : ℕ → (CType → TextPlan) → TextPlan
type_then d k = Want (Of (Typing d)) (λ f. k (as_type (as_part f)))

-- an expression, or a type, whose first token this is
abbrev pub expr_from : ℕ → Token → (Expr → TextPlan) → Option TextPlan
expr_from d t k = begun (operand_plan true d t) (assignment_rest d) (λ v. k (as_expr v))

abbrev pub type_from : ℕ → Token → (CType → TextPlan) → Option TextPlan
type_from d t k = begun (type_plan d t) Return (λ v. k (as_type v))

-- what comes before a further name of a type
abbrev pub star_then : ℕ → CType → TextPlan → TextPlan
star_then d (Integer kind) p = p
star_then d (Handle tag) p = punctuator (codes "*") d p
star_then d Thread p = p

-- a variable, and further ones after it
abbrev pub variables : ℕ → CType → (List Declaration → TextPlan) → TextPlan
variables d t k =
    name_then d (λ name. Want (Initial d) (λ e. Want (MoreVariables d t) (λ more.
    k (record { declared = t; name = name; initial = as_optional e } ∷ as_declarations more))))

-- a declaration after its type
abbrev pub declaration_behind : ℕ → CType → (List Declaration → TextPlan) → TextPlan
declaration_behind d t k = variables d t (λ ds. punctuator (codes ";") d (k ds))

-- names of a type
abbrev pub names : ℕ → CType → (List Binding → TextPlan) → TextPlan
names d t k =
    name_then d (λ name. Want (MoreNames d t) (λ more. k (record { declared = t; name = name } ∷ as_bindings more)))

-- a declaration of members after its type, and further ones
abbrev pub members_behind : ℕ → CType → TextPlan
members_behind d t =
    names d t (λ these. punctuator (codes ";") d (Want (MoreMembers d) (λ more. Give (bindings (these ++ as_bindings more)))))

-- statements by their first word
abbrev pub if_else : Expr → Stmt → Found → StmtNode Stmt
if_else c s (statement r) = node.IfElse c s r
if_else c s _ = node.If c s

abbrev pub returned : Option Expr → StmtNode Stmt
returned None = node.Return
returned (Some e) = node.ReturnValue e

abbrev pub simple : ℕ → ℕ → StmtNode Stmt → TextPlan
simple d start what = punctuator (codes ";") d (Give (statement (stmt start what)))

abbrev pub test_then : ℕ → (Expr → TextPlan) → TextPlan
test_then d k = punctuator (codes "(") d (expr_then (suc d) (λ c. punctuator (codes ")") d (k c)))

abbrev pub if_statement : ℕ → ℕ → TextPlan
if_statement d start =
    test_then d (λ c. Want (Statement (suc d)) (λ s. Want (Else d) (λ r.
    Give (statement (stmt start (if_else c (as_statement s) r))))))

abbrev pub while_statement : ℕ → ℕ → TextPlan
while_statement d start =
    test_then d (λ c. Want (Statement (suc d)) (λ s. Give (statement (stmt start (node.While c (as_statement s))))))

abbrev pub do_statement : ℕ → ℕ → TextPlan
do_statement d start =
    Want (Statement (suc d)) (λ s. keyword (codes "while") d (test_then d (λ c. simple d start (node.DoWhile (as_statement s) c))))

abbrev pub for_statement : ℕ → ℕ → TextPlan
for_statement d start =
    punctuator (codes "(") d (Want (First (suc d)) (λ before. Want (Optional (suc d)) (λ c. punctuator (codes ";") (suc d)
    (Want (Optional (suc d)) (λ e. punctuator (codes ")") d (Want (Statement (suc d)) (λ s.
    Give (statement (stmt start (node.For (as_statements before) (as_optional c) (as_optional e) (as_statement s)))))))))))

abbrev pub keyword_statement : ℕ → Token → Option TextPlan
keyword_statement d t =
    look t.text ((codes "if", if_statement d t.at) ∷ (codes "while", while_statement d t.at) ∷ (codes "do", do_statement d t.at)
    ∷ (codes "for", for_statement d t.at) ∷ (codes "break", simple d t.at node.Break)
    ∷ (codes "continue", simple d t.at node.Continue)
    ∷ (codes "return", Want (Optional d) (λ e. simple d t.at (returned (as_optional e)))) ∷ [])

-- what stands between braces that are open, and the place of the closing one
abbrev pub block_then : ℕ → (List Stmt → ℕ → TextPlan) → TextPlan
block_then d k = Want (Items (suc d)) (λ ss. Want (Place (codes "}") d) (λ end. k (as_statements ss) (as_place end)))

abbrev pub block : ℕ → ℕ → TextPlan
block d start = block_then d (λ ss end. Give (statement (stmt start (node.Block ss))))

abbrev pub update_statement : ℕ → ℕ → TextPlan
update_statement d start = punctuator (codes "(") d (punctuator (codes ")") d (simple d start node.Update))

abbrev pub transaction : ℕ → ℕ → TextPlan
transaction d start =
    punctuator (codes "{") d (block_then d (λ ss end. Give (statement (stmt start (node.Transaction ss end)))))

abbrev pub expression_statement : ℕ → Token → Option TextPlan
expression_statement d t = expr_from d t (λ e. simple d t.at (node.Evaluate e))

-- what follows the first token of a statement
abbrev pub statement_by : TokenKind → ℕ → Token → Option TextPlan
statement_by Keyword d t = keyword_statement d t
statement_by LibraryWord d t =
    if bytes_eq t.text (codes "dsu_update") then Some (update_statement d t.at)
    else (if bytes_eq t.text (codes "dsu_tx") then Some (transaction d t.at) else expression_statement d t)
statement_by Punctuator d t =
    if bytes_eq t.text (codes "{") then Some (block d t.at)
    else (if bytes_eq t.text (codes ";") then Some (Give (statement (stmt t.at node.Empty))) else expression_statement d t)
statement_by Identifier d t = expression_statement d t
statement_by Number d t = expression_statement d t
statement_by Character d t = expression_statement d t
statement_by Str d t = expression_statement d t

abbrev pub statement_plan : ℕ → Token → Option TextPlan
statement_plan d t = statement_by t.kind d t

-- parameters after a type that is the first: all with names, or all without
abbrev pub parameters_by : ℕ → CType → Value → TextPlan
parameters_by d t (named name) =
    Want (MoreParameters d) (λ more. Give (parameters (Named (record { declared = t; name = name } ∷ as_bindings more))))
parameters_by d t _ = Want (MoreTypes d) (λ more. Give (parameters (Unnamed (t ∷ as_types more))))

-- a function with its body, by the number of its tokens
abbrev pub function_made : ℕ → Option CType → Name → List Binding → List Stmt → ℕ → ℕ → List Def
function_made start result name bs body end n =
    def start (kind.Function (record {
      result = result;
      name = name;
      parameters = bs;
      body = body;
      end = end;
      tokens = n;
    })) ∷ []

abbrev pub prototype_made : ℕ → Option CType → Name → Parameters → ℕ → List Def
prototype_made start result name ps n = def start (kind.Prototype (record { result = result; name = name; parameters = ps })) ∷ []

-- a function after its parameters
abbrev pub function_by : ℕ → Option CType → Name → Parameters → TextPlan
function_by start result name (Named bs) = Want (Body start result name bs) Give
function_by start result name (Unnamed ts) = punctuator (codes ";") 0 (Give (made (prototype_made start result name (Unnamed ts))))

-- globals after the first's name, where no function stands there
abbrev pub globals_by : ℕ → CType → Name → Found → TextPlan
globals_by start t name (made f) = Give (made f)
globals_by start t name _ =
    Want (Global t name) (λ g. Want (MoreGlobals t) (λ more. punctuator (codes ";") 0
    (Give (made (λ n. defs start (as_global g ∷ as_globals more))))))

-- what follows a type at the first level
abbrev pub typed_item : ℕ → CType → TextPlan
typed_item start t = name_then 0 (λ name. Want (Function start (Some t) name) (globals_by start t name))

-- what follows the first token of an item that may come after `static`
abbrev pub declared_plan : Token → Option TextPlan
declared_plan t =
    if is Keyword (codes "void") t then Some (name_then 0 (λ name. Want (Function t.at None name) Give))
    else (if is LibraryWord (codes "mtx_t") t then Some (name_then 0 (λ name. punctuator (codes ";") 0 (Give (made (λ n. def t.at (kind.Mutex name) ∷ [])))))
    else type_from 0 t (typed_item t.at))

-- the definitions of what comes after `static`, by the number of all tokens
abbrev pub behind_static : (ℕ → List Def) → ℕ → List Def
behind_static f zero = f zero
behind_static f (suc n) = f n

abbrev pub item_plan : Token → Option TextPlan
item_plan t =
    if is Keyword (codes "static") t then Some (Want Declared (λ f. Give (made (behind_static (as_made f)))))
    else (if is Keyword (codes "struct") t then Some (name_then 0 (λ tag. Want (Tagged t.at tag) Give))
    else (if is LibraryWord (codes "dsu_transform") t then Some (Want (Transformed t.at) Give) else declared_plan t))

-- how to go on after a token with which something wanted begins; none where it doesn't begin so
abbrev pub text_takes : TextWanted → Token → Option TextPlan
text_takes (Of w) t = option_map (λ p. behind p (λ v. Give (part v))) (takes w t)
text_takes (Place spelling d) t = when_some (is Punctuator spelling t) (Some (Give (place t.at)))
text_takes (ArrayLength d) t =
    when_some (is_kind Number t) (option_map (λ n. Give (numbered (record { place = t.at; value = n }))) (constant_of t.text))
text_takes (Optional d) t = expr_from d t (λ e. Give (optional (Some e)))
text_takes (Initial d) t = when_some (is Punctuator (codes "=") t) (Some (expr_then d (λ e. Give (optional (Some e)))))
text_takes (MoreVariables d ty) t =
    when_some (is Punctuator (codes ",") t) (Some (star_then d ty (variables d ty (λ ds. Give (declarations ds)))))
text_takes (MoreNames d ty) t = when_some (is Punctuator (codes ",") t) (Some (star_then d ty (names d ty (λ bs. Give (bindings bs)))))
text_takes (MoreMembers d) t = type_from d t (members_behind d)
text_takes (Statement d) t = statement_plan d t
text_takes (Else d) t = when_some (is Keyword (codes "else") t) (Some (Want (Statement (suc d)) Give))
text_takes (First d) t =
    if begins_type t then type_from d t (λ ty. declaration_behind d ty (λ ds. Give (statements (declares t.at ds))))
    else (if is Punctuator (codes ";") t then Some (Give (statements []))
    else expr_from d t (λ e. punctuator (codes ";") d (Give (statements (stmt t.at (node.Evaluate e) ∷ [])))))
text_takes (Items d) t =
    if begins_type t then type_from d t (λ ty. declaration_behind d ty (λ ds. Want (Items d) (λ ss.
    Give (statements (declares t.at ds ++ as_statements ss)))))
    else option_map (λ p. then_text p (λ s. Want (Items d) (λ ss. Give (statements (as_statement s ∷ as_statements ss))))) (statement_plan d t)
text_takes (ParameterList d) t =
    if is Keyword (codes "void") t then Some (Give (parameters (Named [])))
    else type_from d t (λ ty. Want (ParameterName d) (λ f. parameters_by d ty (as_part f)))
text_takes (ParameterName d) t =
    when_some (is_kind Identifier t) (Some (Give (part (named (record { place = t.at; text = t.text })))))
text_takes (MoreParameters d) t =
    when_some (is Punctuator (codes ",") t) (Some (type_then d (λ ty. name_then d (λ name. Want (MoreParameters d) (λ more.
    Give (bindings (record { declared = ty; name = name } ∷ as_bindings more)))))))
text_takes (MoreTypes d) t =
    when_some (is Punctuator (codes ",") t) (Some (type_then d (λ ty. Want (MoreTypes d) (λ more. Give (types (ty ∷ as_types more))))))
text_takes (Body start result name bs) t =
    if is Punctuator (codes "{") t then Some (block_then 0 (λ ss end. Give (made (function_made start result name bs ss end))))
    else when_some (is Punctuator (codes ";") t) (Some (Give (made (prototype_made start result name (Named bs)))))
text_takes (MoreValues d) t = when_some (is Punctuator (codes ",") t) (Some (Want (AfterComma d) Give))
text_takes (AfterComma d) t =
    begun (operand_plan true d t) (conditional_rest d) (λ v. Want (MoreValues d) (λ more. Give (values (as_expr v ∷ as_values more))))
text_takes ArrayInitial t =
    when_some (is Punctuator (codes "=") t) (Some (punctuator (codes "{") 0 (conditional_then 1 (λ e. Want (MoreValues 1) (λ more.
    punctuator (codes "}") 0 (Give (listed (Some (e ∷ as_values more)))))))))
text_takes (Global ty name) t =
    if is Punctuator (codes "=") t then Some (conditional_then 0 (λ e.
    Give (global (kind.Global (record { declared = ty; name = name; initial = Some e })))))
    else when_some (is Punctuator (codes "[") t) (Some (Want (ArrayLength 1) (λ n. punctuator (codes "]") 0 (Want ArrayInitial (λ es.
    Give (global (kind.Array (record { element = ty; name = name; length = as_length n; initial = as_listed es }))))))))
text_takes (MoreGlobals ty) t =
    when_some (is Punctuator (codes ",") t) (Some (star_then 0 ty (name_then 0 (λ name. Want (Global ty name) (λ g. Want (MoreGlobals ty) (λ more.
    Give (globals (as_global g ∷ as_globals more))))))))
text_takes (Function start result name) t =
    when_some (is Punctuator (codes "(") t) (Some (Want (ParameterList 1) (λ ps. punctuator (codes ")") 0 (function_by start result name (as_parameters ps)))))
text_takes (Tagged start tag) t =
    if is Punctuator (codes "{") t then Some (type_then 1 (λ ty. then_text (members_behind 1 ty) (λ ms. punctuator (codes "}") 0 (punctuator (codes ";") 0
    (Give (made (λ n. def start (kind.Struct tag (as_bindings ms)) ∷ [])))))))
    else (if is Punctuator (codes ";") t then Some (Give (made (λ n. def start (kind.Forward tag) ∷ [])))
    else when_some (is Punctuator (codes "*") t) (Some (typed_item start (Handle tag))))
text_takes (Updates d) t =
    when_some (is_kind Identifier t) (Some (punctuator (codes "=") d (conditional_then d (λ e. punctuator (codes ";") d (Want (Updates d) (λ more.
    Give (updates (record { field = record { place = t.at; text = t.text }; value = e } ∷ as_updates more))))))))
text_takes (Transformed start) t =
    if is Keyword (codes "struct") t then Some (name_then 0 (λ tag. punctuator (codes "{") 0 (Want (Updates 1) (λ us. punctuator (codes "}") 0
    (Give (made (λ n. def start (kind.TransformStruct (record { name = tag; values = as_updates us })) ∷ [])))))))
    else when_some (is_kind Identifier t) (Some (punctuator (codes "=") 0 (conditional_then 0 (λ e. punctuator (codes ";") 0
    (Give (made (λ n. def start (kind.TransformGlobal (record { place = t.at; text = t.text }) e) ∷ [])))))))
text_takes Item t = item_plan t
text_takes Declared t = declared_plan t

-- what it is where it begins with no token: what may be left out
abbrev pub text_left_out : TextWanted → Option Found
text_left_out (Of w) = option_map (λ v. part v) (left_out w)
text_left_out (Optional d) = Some (optional None)
text_left_out (Initial d) = Some (optional None)
text_left_out (MoreVariables d t) = Some (declarations [])
text_left_out (MoreNames d t) = Some (bindings [])
text_left_out (MoreMembers d) = Some (bindings [])
text_left_out (Else d) = Some (part nothing)
text_left_out (Items d) = Some (statements [])
text_left_out (ParameterList d) = Some (parameters (Named []))
text_left_out (ParameterName d) = Some (part nothing)
text_left_out (MoreParameters d) = Some (bindings [])
text_left_out (MoreTypes d) = Some (types [])
text_left_out (MoreValues d) = Some (values [])
text_left_out (AfterComma d) = Some (values [])
text_left_out ArrayInitial = Some (listed None)
text_left_out (Global t name) = Some (global (kind.Global (record { declared = t; name = name; initial = None })))
text_left_out (MoreGlobals t) = Some (globals [])
text_left_out (Function start (Some t) name) = Some (part nothing)
text_left_out (Updates d) = Some (updates [])
text_left_out _ = None

-- what became of a list of tokens: the tokens that were taken, with their depth, and then what was found and the tokens
-- after it, or those after which nothing fits
pub data TextTrace : Type 0 where
  Next : Placed → TextTrace → TextTrace
  Gave : Found → List Token → TextTrace
  Stopped : List Token → TextTrace

-- what becomes of something that isn't taken: it is left out, or nothing fits
abbrev pub text_passed : List Token → Option Found → (Found → TextTrace) → TextTrace
text_passed ts (Some f) k = k f
text_passed ts None k = Stopped ts

-- what becomes of something at a token: it is taken, or something else happens
abbrev pub text_met : Placed → (TextPlan → TextTrace) → TextTrace → Option TextPlan → TextTrace
text_met t later otherwise (Some p) = Next t (later p)
text_met t later otherwise None = otherwise

-- a plan carried out where no token is left
abbrev pub text_finish : TextPlan → TextTrace
text_finish (Give f) = Gave f []
text_finish (Want w k) = text_passed [] (text_left_out w) (λ f. text_finish (k f))

-- a plan carried out at a token, where it is known what it does with the tokens after it
abbrev pub text_step : Token → List Token → (TextPlan → TextTrace) → TextPlan → TextTrace
text_step t ts later (Give f) = Gave f (t ∷ ts)
text_step t ts later (Want w k) =
    text_met (record { token = t; depth = text_depth w }) (λ p. later (then_text p k))
    (text_passed (t ∷ ts) (text_left_out w) (λ f. text_step t ts later (k f))) (text_takes w t)

-- a plan carried out
abbrev pub run_text : List Token → TextPlan → TextTrace
run_text [] p = text_finish p
run_text (t ∷ ts) p = text_step t ts (run_text ts) p

-- all tokens of a trace
abbrev pub text_remaining : TextTrace → List Token
text_remaining (Next t tr) = t.token ∷ text_remaining tr
text_remaining (Gave f rest) = rest
text_remaining (Stopped rest) = rest

-- what was found and the tokens after it; or how many tokens are left where none fits, or where the first is too deep
pub data TextParsed : Type 0 where
  found : Found → List Token → TextParsed
  stuck_at : ℕ → TextParsed
  deep_at : ℕ → TextParsed

-- a token at a depth, of which so many are left, and what comes after it
abbrev pub text_at_depth : ℕ → ℕ → TextParsed → TextParsed
text_at_depth d left behind = if nat_le d most_depth then behind else deep_at left

-- a trace up to the first token that is too deep
abbrev pub text_cut : TextTrace → TextParsed
text_cut (Next t tr) = text_at_depth t.depth (length (text_remaining (Next t tr))) (text_cut tr)
text_cut (Gave f rest) = found f rest
text_cut (Stopped rest) = stuck_at (length rest)

-- a plan carried out on tokens
unfoldable pub text_parsed : TextPlan → List Token → TextParsed
text_parsed p ts = text_cut (run_text ts p)

-- something wanted that is read on tokens
abbrev pub text_reads : TextWanted → List Token → TextParsed
text_reads w ts = text_parsed (Want w Give) ts

-- a function that stopped reports where nothing fits, or where the first token is that is too deep
abbrev pub TextStops : Stop → TextParsed → Type 0
TextStops (Stuck left) m = m ≡ stuck_at left
TextStops (Deep left) m = m ≡ deep_at left
TextStops Memory m = Unit {0}

-- a parse function's result is what the walk gives: what was found with the tokens after it, or where it stopped
abbrev pub FindsText : {T : Type 0} → TextParsed → (T → TextParsed) → Result T Stop → Type 0
FindsText m f result = MatchResult result (λ x. m ≡ f x) (λ stop. TextStops stop m)

-- an item of a text
abbrev pub item : TextPlan
item = Want Item Give

-- the definitions of the items with which some tokens begin, and the tokens after these
pub data ItemsRead (ts : List Token) : List Def → List Token → Type 0 where
  none : ItemsRead ts [] ts
  more : {ds : List Def} {f : ℕ → List Def} {rest behind : List Token} (n : ℕ) → ItemsRead ts ds rest
      → text_parsed item rest ≡ found (made f) behind → n + length behind ≡ length rest → ItemsRead ts (ds ++ f n) behind
