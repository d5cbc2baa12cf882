-- The parts of the walk through a text that the parser's functions carry out, and the words by which statements begin.
-- The contracts of private functions cite this.
use Rattle.std.specs.Prelude.{◌≡◌, ◌<◌, ◌+◌, ℕ, suc, length, List, [], ◌∷◌, ◌++◌, Option, Some, None, if◌then◌else◌, codes, Result, MatchResult}
use Rattle.std.specs.Str.{bytes_eq}
use Rattle.c_lexer.specs.declared.token.Token.{Token}
use Rattle.c_lexer.specs.declared.token.TokenKind.{TokenKind}
use Rattle.c_lexer.specs.declared.token.TokenKind.TheVariants.{Identifier, Keyword, LibraryWord, Number, Character, Str, Punctuator}
use Rattle.c_tree.specs.declared.name.Name.{Name}
use Rattle.c_tree.specs.declared.name.CType.{CType}
use Rattle.c_tree.specs.declared.expr.Expr.{Expr}
use Rattle.c_tree.specs.declared.stmt.Declaration.{Declaration}
use Rattle.c_tree.specs.declared.stmt.Stmt.{Stmt}
use Rattle.c_tree.specs.declared.stmt.StmtNode.TheVariants as node
use Rattle.c_tree.specs.declared.def.Binding.{Binding}
use Rattle.c_tree.specs.declared.def.Parameters.TheVariants.{Named, Unnamed}
use Rattle.c_tree.specs.declared.def.FieldValue.{FieldValue}
use Rattle.c_tree.specs.declared.def.Def.{Def}
use Rattle.c_tree.specs.declared.def.DefKind.TheVariants as kind
use Rattle.c_expr_parser.specs.declared.stop.Stop.{Stop}
use Rattle.c_expr_parser.specs.declared.stop.Stop.TheVariants.{Stuck, Deep, Memory}
use Rattle.c_expr_parser.specs.Tables.{look}
use Rattle.c_expr_parser.specs.Statements.{stmt}
use Rattle.c_expr_parser.specs.Definitions.{def, defs}
use Rattle.c_parser.specs.declared.opening.StatementWord.{StatementWord}
use Rattle.c_parser.specs.declared.opening.StatementWord.TheVariants as word
use Rattle.c_parser.specs.declared.opening.Opening.{Opening}
use Rattle.c_parser.specs.declared.opening.Opening.TheVariants as opening
use Rattle.c_parser.specs.TextPlans.{Found, TextPlan, TextParsed, TextWanted as want, punctuator, name_then, expr_then, conditional_then, type_then, then_text, names, members_behind, as_place, as_optional, as_values, as_bindings, as_types, as_statements, as_global, as_globals, as_updates, as_parameters, function_by, returned, simple, block, if_statement, while_statement, do_statement, for_statement, update_statement, transaction, text_parsed, item, ItemsRead, TextStops}
use Rattle.c_expr_parser.specs.Plans.Value.{nothing}
use Rattle.c_parser.specs.TextPlans.Found.{part, statement, parameters, made}
use Rattle.c_parser.specs.TextPlans.TextPlan.{Give, Want}
use Rattle.c_parser.specs.TextPlans.TextParsed.{found, stuck_at, deep_at}

-- the word of a statement that a spelling is
abbrev pub word_of : List ℕ → Option StatementWord
word_of spelling =
    look spelling ((codes "if", word.If) ∷ (codes "while", word.While) ∷ (codes "do", word.Do) ∷ (codes "for", word.For)
    ∷ (codes "break", word.Break) ∷ (codes "continue", word.Continue) ∷ (codes "return", word.Return) ∷ [])

-- what begins a statement that is none of an expression
abbrev pub word_opening : Option StatementWord → Option Opening
word_opening None = None
word_opening (Some w) = Some (opening.Begun w)

abbrev pub opening_by : TokenKind → List ℕ → Option Opening
opening_by Keyword spelling = word_opening (word_of spelling)
opening_by LibraryWord spelling =
    if bytes_eq spelling (codes "dsu_update") then Some opening.Update
    else (if bytes_eq spelling (codes "dsu_tx") then Some opening.Transaction else None)
opening_by Punctuator spelling =
    if bytes_eq spelling (codes "{") then Some opening.Brace
    else (if bytes_eq spelling (codes ";") then Some opening.Semicolon else None)
opening_by Identifier spelling = None
opening_by Number spelling = None
opening_by Character spelling = None
opening_by Str spelling = None

abbrev pub opening_of : Token → Option Opening
opening_of t = opening_by t.kind t.text

-- what follows it, in a statement that begins at a place
abbrev pub return_plan : ℕ → ℕ → TextPlan
return_plan d start = Want (want.Optional d) (λ e. simple d start (returned (as_optional e)))

abbrev pub word_plan : ℕ → ℕ → StatementWord → TextPlan
word_plan d start word.If = if_statement d start
word_plan d start word.While = while_statement d start
word_plan d start word.Do = do_statement d start
word_plan d start word.For = for_statement d start
word_plan d start word.Break = simple d start node.Break
word_plan d start word.Continue = simple d start node.Continue
word_plan d start word.Return = return_plan d start

abbrev pub opened : ℕ → ℕ → Opening → TextPlan
opened d start (opening.Begun w) = word_plan d start w
opened d start opening.Update = update_statement d start
opened d start opening.Transaction = transaction d start
opened d start opening.Brace = block d start
opened d start opening.Semicolon = Give (statement (stmt start node.Empty))

-- what comes after an `if`'s first statement: an `else`'s statement, or nothing
abbrev pub else_found : Option Stmt → Found
else_found None = part nothing
else_found (Some s) = statement s

-- a variable after its type
abbrev pub variable_then : ℕ → CType → (Declaration → TextPlan) → TextPlan
variable_then d t k =
    name_then d (λ name. Want (want.Initial d) (λ e. k (record { declared = t; name = name; initial = as_optional e })))

-- an expression or nothing, and a punctuator after it
abbrev pub optional_then : ℕ → List ℕ → ℕ → (Option Expr → TextPlan) → TextPlan
optional_then d closing e k = Want (want.Optional d) (λ f. punctuator closing e (k (as_optional f)))

-- an expression's statement that begins at a place, with its semicolon
abbrev pub evaluate_then : ℕ → ℕ → (Stmt → TextPlan) → TextPlan
evaluate_then d start k = expr_then d (λ e. punctuator (codes ";") d (k (stmt start (node.Evaluate e))))

-- what stands between braces that are open, after some statements
abbrev pub items_then : ℕ → List Stmt → (List Stmt → ℕ → TextPlan) → TextPlan
items_then d before k =
    Want (want.Items (suc d)) (λ f. Want (want.Place (codes "}") d) (λ end. k (before ++ as_statements f) (as_place end)))

-- a declaration of members, after its type and whole
abbrev pub names_then : ℕ → CType → (List Binding → TextPlan) → TextPlan
names_then d t k = names d t (λ bs. punctuator (codes ";") d (k bs))

abbrev pub member_line_then : ℕ → (List Binding → TextPlan) → TextPlan
member_line_then d k = type_then d (λ t. names_then d t k)

-- declarations of members
abbrev pub members_then : ℕ → (List Binding → TextPlan) → TextPlan
members_then d k = type_then d (λ t. then_text (members_behind d t) (λ f. k (as_bindings f)))

-- parameters after the first's type: with names, and without
abbrev pub named_plan : ℕ → CType → TextPlan
named_plan d t =
    name_then d (λ name. Want (want.MoreParameters d) (λ more.
    Give (parameters (Named (record { declared = t; name = name } ∷ as_bindings more)))))

abbrev pub unnamed_plan : ℕ → CType → TextPlan
unnamed_plan d t = Want (want.MoreTypes d) (λ more. Give (parameters (Unnamed (t ∷ as_types more))))

-- the initialisers of an array after `=`
abbrev pub values_then : (List Expr → TextPlan) → TextPlan
values_then k =
    punctuator (codes "{") 0 (conditional_then 1 (λ e. Want (want.MoreValues 1) (λ more. punctuator (codes "}") 0 (k (e ∷ as_values more)))))

-- globals of a type after the first's name
abbrev pub globals_plan : ℕ → CType → Name → TextPlan
globals_plan start t name =
    Want (want.Global t name) (λ g. Want (want.MoreGlobals t) (λ more. punctuator (codes ";") 0
    (Give (made (λ n. defs start (as_global g ∷ as_globals more))))))

-- a function's parentheses and what follows these
abbrev pub function_plan : ℕ → Option CType → Name → TextPlan
function_plan start r name =
    punctuator (codes "(") 0 (Want (want.ParameterList 1) (λ ps. punctuator (codes ")") 0 (function_by start r name (as_parameters ps))))

-- the updates of fields, and one of them
abbrev pub updates_then : ℕ → (List FieldValue → TextPlan) → TextPlan
updates_then d k = Want (want.Updates d) (λ f. k (as_updates f))

abbrev pub update_then : ℕ → (FieldValue → TextPlan) → TextPlan
update_then d k =
    name_then d (λ field. punctuator (codes "=") d (conditional_then d (λ e. punctuator (codes ";") d (k (record { field = field; value = e })))))

-- a global's transformer
abbrev pub global_transformer_plan : ℕ → TextPlan
global_transformer_plan start =
    name_then 0 (λ name. punctuator (codes "=") 0 (conditional_then 0 (λ e. punctuator (codes ";") 0
    (Give (made (λ n. def start (kind.TransformGlobal name e) ∷ []))))))

-- an item was read: from so many tokens, of which some are left, its definitions were added to others
pub record Makes (m : TextParsed) (count : ℕ) (before all : List Def) (rest : List Token) : Type 0 where
  pub by_count : ℕ → List Def
  pub taken : ℕ
  pub gives : m ≡ found (made by_count) rest
  pub counted : taken + length rest ≡ count
  pub added : all ≡ before ++ by_count taken

-- the result of a function that adds an item's definitions to those before, and gives the tokens after it
abbrev pub Adds : {T : Type 0} → TextParsed → ℕ → List Def → (T → List Def) → (T → List Token) → Result T Stop → Type 0
Adds m count before all rest result = MatchResult result (λ x. Makes m count before (all x) (rest x)) (λ stop. TextStops stop m)

-- the items of a text were read up to one of which this becomes
pub record Comes (ts : List Token) (m : TextParsed) : Type 0 where
  pub before : List Def
  pub rest : List Token
  pub items : ItemsRead ts before rest
  pub some_left : 0 < length rest
  pub stopped : text_parsed item rest ≡ m

-- a function that stopped in the items of a text reports why
abbrev pub ItemsStop : List Token → Stop → Type 0
ItemsStop ts (Stuck left) = Comes ts (stuck_at left)
ItemsStop ts (Deep left) = Comes ts (deep_at left)
ItemsStop ts Memory = Unit {0}
