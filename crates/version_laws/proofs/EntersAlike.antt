-- Definitions that are alike give each function the same frame: its body is resolved by what they say of names alone.
use Rattle.std.proofs.Common.{◌≡◌, ℕ, List, [], ◌∷◌, option_map, unwrap_or, Option, Some, None, refl, ap, ap₂, sym, ◌∙◌}
use Rattle.c_tree.specs.BareExpr.{Bytes, BareType, BareExpr, BareExprs}
use Rattle.c_tree.specs.BareExpr as e
use Rattle.c_tree.specs.BareStmt.{BareDeclaration, BareStmt, BareStmts}
use Rattle.c_tree.specs.BareStmt as s
use Rattle.c_tree.specs.BareDef.{BareBinding, BareDef, Function}
use Rattle.c_semantics.specs.Names.{struct_name}
use Rattle.c_semantics.specs.Texts.{Definitions, int, bound, bound_type}
use Rattle.c_semantics.specs.Resolved.{Expressions, Statement, Statements, NoStatements, ExpressionThen, StatementThen}
use Rattle.c_semantics.specs.Resolved as made
use Rattle.c_semantics.specs.Resolution.{Resolved, value, kind, tag_of, binary, assignment, update, choice, step, variable, field, passed, handed, located, resolved, resolved_all, tree_of, declared_by, declared_by_all, declaration, statement, statements, as_locals, resolved_body}
use Rattle.c_semantics.specs.Values.{Value}
use Rattle.c_semantics.specs.Threads.{entered, bind, body_pieces}
use Rattle.c_ints.specs.Arithmetic.{unary_kind}
use Rattle.version_laws.specs.Histories.{Alike}
use Rattle.version_laws.proofs.Parts.{three, four}
use Rattle.version_laws.proofs.SameDefinitions.{Said, SaysFunction, said, alike_say_the_same, global_types_alike, result_types_alike, parameters_alike, members_alike}

-- each name is defined alike, or by neither
abbrev pub AllAlike : Definitions → Definitions → Type 0
AllAlike look other = (name : Bytes) → Alike (look name) (other name)

-- ---- expressions

variable_alike : (look other : Definitions) → AllAlike look other → (name : Bytes) (b : Option BareBinding)
    → variable look name b ≡ variable other name b
variable_alike look other alike name (Some b) = refl
variable_alike look other alike name None = ap (located (made.Global name)) (global_types_alike (look name) (other name) (alike name))

field_alike : (look other : Definitions) → AllAlike look other → (a : Resolved) (name : Bytes) → field look a name ≡ field other a name
field_alike look other alike a name =
    ap (λ ms. located (made.Field (tag_of a.type) a.tree name) (type_in ms))
    (members_alike (look (struct_name (tag_of a.type))) (other (struct_name (tag_of a.type))) (alike (struct_name (tag_of a.type))))
  where
    type_in : List BareBinding → BareType
    type_in ms = bound_type ms name

mutual
  resolved_alike : (look other : Definitions) → AllAlike look other → (locals : List BareBinding) (x : BareExpr)
      → resolved look locals x ≡ resolved other locals x
  resolved_alike look other alike locals (e.Number n) = refl
  resolved_alike look other alike locals (e.Character n) = refl
  resolved_alike look other alike locals e.Null = refl
  resolved_alike look other alike locals e.Success = refl
  resolved_alike look other alike locals e.Error = refl
  resolved_alike look other alike locals (e.Variable name) = variable_alike look other alike name (bound locals name)
  resolved_alike look other alike locals (e.Unary op a) =
      ap (λ (x : Resolved). value (made.Unary op x.tree) (e.Integer (unary_kind op (kind x.type)))) (resolved_alike look other alike locals a)
  resolved_alike look other alike locals (e.Step op a) = ap (step op) (resolved_alike look other alike locals a)
  resolved_alike look other alike locals (e.Cast to a) =
      ap (λ (x : Resolved). value (made.Convert to x.tree) to) (resolved_alike look other alike locals a)
  resolved_alike look other alike locals (e.Binary op a b) =
      ap₂ (binary op) (resolved_alike look other alike locals a) (resolved_alike look other alike locals b)
  resolved_alike look other alike locals (e.And a b) =
      ap₂ (λ (x y : Resolved). value (made.And x.tree y.tree) int) (resolved_alike look other alike locals a)
      (resolved_alike look other alike locals b)
  resolved_alike look other alike locals (e.Or a b) =
      ap₂ (λ (x y : Resolved). value (made.Or x.tree y.tree) int) (resolved_alike look other alike locals a)
      (resolved_alike look other alike locals b)
  resolved_alike look other alike locals (e.Choice c a b) =
      three choice (resolved_alike look other alike locals c) (resolved_alike look other alike locals a)
      (resolved_alike look other alike locals b)
  resolved_alike look other alike locals (e.Assign a b) =
      ap₂ assignment (resolved_alike look other alike locals a) (resolved_alike look other alike locals b)
  resolved_alike look other alike locals (e.Update op a b) =
      ap₂ (update op) (resolved_alike look other alike locals a) (resolved_alike look other alike locals b)
  resolved_alike look other alike locals (e.Call name arguments) =
      three (λ xs ps type. value (made.Call name (passed xs ps)) type) (all_resolved_alike look other alike locals arguments)
      (parameters_alike (look name) (other name) (alike name)) (result_types_alike (look name) (other name) (alike name))
  resolved_alike look other alike locals (e.Element name a) =
      ap₂ (λ (x : Resolved) type. located (made.Element name x.tree) type) (resolved_alike look other alike locals a)
      (global_types_alike (look name) (other name) (alike name))
  resolved_alike look other alike locals (e.Arrow a name) =
      field_alike look other alike (resolved look locals a) name
      ∙ ap (λ x. field other x name) (resolved_alike look other alike locals a)
  resolved_alike look other alike locals (e.Dot a name) = refl
  resolved_alike look other alike locals (e.Print format arguments) =
      ap (λ xs. value (made.Print format xs) int) (all_resolved_alike look other alike locals arguments)
  resolved_alike look other alike locals (e.Calloc tag) = refl
  resolved_alike look other alike locals (e.Free a) =
      ap (λ (x : Resolved). value (made.Free (tag_of x.type) x.tree) int) (resolved_alike look other alike locals a)
  resolved_alike look other alike locals (e.Create a name b) =
      three (λ (x : Resolved) ps (y : Resolved). value (made.Create x.place name (handed ps y.tree)) int)
      (resolved_alike look other alike locals a) (parameters_alike (look name) (other name) (alike name))
      (resolved_alike look other alike locals b)
  resolved_alike look other alike locals (e.Join a) =
      ap (λ (x : Resolved). value (made.Join x.tree) int) (resolved_alike look other alike locals a)
  resolved_alike look other alike locals (e.JoinInto a b) =
      ap₂ (λ (x y : Resolved). value (made.JoinInto x.tree y.place) int) (resolved_alike look other alike locals a)
      (resolved_alike look other alike locals b)
  resolved_alike look other alike locals (e.InitMutex name) = refl
  resolved_alike look other alike locals (e.Lock name) = refl
  resolved_alike look other alike locals (e.Unlock name) = refl

  all_resolved_alike : (look other : Definitions) → AllAlike look other → (locals : List BareBinding) (xs : BareExprs)
      → resolved_all look locals xs ≡ resolved_all other locals xs
  all_resolved_alike look other alike locals e.NoExprs = refl
  all_resolved_alike look other alike locals (e.ExprThen x xs) =
      ap₂ (λ (y : Resolved) ys. ExpressionThen y.tree ys) (resolved_alike look other alike locals x)
      (all_resolved_alike look other alike locals xs)

tree_alike : (look other : Definitions) → AllAlike look other → (locals : List BareBinding) (x : BareExpr)
    → tree_of look locals x ≡ tree_of other locals x
tree_alike look other alike locals x = ap (λ (y : Resolved). y.tree) (resolved_alike look other alike locals x)

-- ---- statements

part_alike : {A B : Type 0} (f g : A → B) → ((x : A) → f x ≡ g x) → (o : Option A) → option_map f o ≡ option_map g o
part_alike f g each None = refl
part_alike f g each (Some x) = ap Some (each x)

declaration_alike : (look other : Definitions) → AllAlike look other → (locals : List BareBinding) (d : BareDeclaration)
    → declaration look locals d ≡ declaration other locals d
declaration_alike look other alike locals d =
    ap (made.Declare d.declared d.name)
    (part_alike _ _
    (λ x. ap (made.Convert d.declared) (tree_alike look other alike (record { declared = d.declared; name = d.name } ∷ locals) x)) d.initial)

mutual
  statement_alike : (look other : Definitions) → AllAlike look other → (result : BareType) (locals : List BareBinding) (x : BareStmt)
      → statement look result locals x ≡ statement other result locals x
  statement_alike look other alike result locals (s.Block ss) = ap made.Block (statements_alike look other alike result locals ss)
  statement_alike look other alike result locals s.Empty = refl
  statement_alike look other alike result locals (s.Evaluate x) = ap made.Evaluate (tree_alike look other alike locals x)
  statement_alike look other alike result locals (s.Declare d) = declaration_alike look other alike locals d
  statement_alike look other alike result locals (s.If c x) =
      ap₂ made.If (tree_alike look other alike locals c) (statement_alike look other alike result locals x)
  statement_alike look other alike result locals (s.IfElse c x y) =
      three made.IfElse (tree_alike look other alike locals c) (statement_alike look other alike result locals x)
      (statement_alike look other alike result locals y)
  statement_alike look other alike result locals (s.While c x) =
      ap₂ made.While (tree_alike look other alike locals c) (statement_alike look other alike result locals x)
  statement_alike look other alike result locals (s.DoWhile x c) =
      ap₂ made.DoWhile (statement_alike look other alike result locals x) (tree_alike look other alike locals c)
  statement_alike look other alike result locals (s.For first test next x) =
      four made.For (statements_alike look other alike result locals first)
      (part_alike _ _ (tree_alike look other alike (declared_by_all first locals)) test)
      (part_alike _ _ (tree_alike look other alike (declared_by_all first locals)) next)
      (statement_alike look other alike result (declared_by_all first locals) x)
  statement_alike look other alike result locals s.Break = refl
  statement_alike look other alike result locals s.Continue = refl
  statement_alike look other alike result locals s.Return = refl
  statement_alike look other alike result locals (s.ReturnValue x) =
      ap (λ y. made.Return (made.Convert result y)) (tree_alike look other alike locals x)
  statement_alike look other alike result locals s.Update = refl
  statement_alike look other alike result locals (s.Transaction ss) =
      ap made.Transaction (statements_alike look other alike result locals ss)

  statements_alike : (look other : Definitions) → AllAlike look other → (result : BareType) (locals : List BareBinding) (xs : BareStmts)
      → statements look result locals xs ≡ statements other result locals xs
  statements_alike look other alike result locals s.NoStmts = refl
  statements_alike look other alike result locals (s.StmtThen x xs) =
      ap₂ StatementThen (statement_alike look other alike result locals x)
      (statements_alike look other alike result (declared_by x locals) xs)

-- ---- bodies and frames

-- the body that is resolved, of what is said
abbrev body_said : Definitions → Option Said → Statements
body_said look (Some (SaysFunction result ps body)) = statements look (unwrap_or result int) (as_locals ps) body
body_said look _ = NoStatements

body_by_said : (look : Definitions) (o : Option BareDef) → resolved_body look o ≡ body_said look (option_map said o)
body_by_said look None = refl
body_by_said look (Some (Function result name ps body)) = refl
body_by_said look (Some _) = refl

said_body_alike : (look other : Definitions) → AllAlike look other → (o : Option Said) → body_said look o ≡ body_said other o
said_body_alike look other alike (Some (SaysFunction result ps body)) =
    statements_alike look other alike (unwrap_or result int) (as_locals ps) body
said_body_alike look other alike _ = refl

pub bodies_alike : (look other : Definitions) → AllAlike look other → (name : Bytes)
    → resolved_body look (look name) ≡ resolved_body other (other name)
bodies_alike look other alike name =
    body_by_said look (look name)
    ∙ ap (body_said look) (alike_say_the_same (look name) (other name) (alike name))
    ∙ said_body_alike look other alike (option_map said (other name))
    ∙ sym (body_by_said other (other name))

pub enters_alike : (look other : Definitions) → AllAlike look other → (f : Bytes) (version : ℕ) (arguments : List Value)
    → entered look f version arguments ≡ entered other f version arguments
enters_alike look other alike f version arguments =
    three (λ body result ps. record {
      function = f;
      version = version;
      standing = 0;
      pieces = body_pieces body result;
      values = [];
      scopes = bind ps arguments ∷ [];
    }) (bodies_alike look other alike f) (result_types_alike (look f) (other f) (alike f)) (parameters_alike (look f) (other f) (alike f))
