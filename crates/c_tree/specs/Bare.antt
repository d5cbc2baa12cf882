-- What a tree is without its places and numbers of tokens. Two definitions are the same where this is equal.
use Rattle.std.specs.Prelude.{List, [], ◌∷◌, map, option_map}
use Rattle.c_tree.specs.declared.name.CType.{CType}
use Rattle.c_tree.specs.declared.name.CType.TheVariants.{Integer, Handle, Thread}
use Rattle.c_tree.specs.declared.expr.Expr.{Expr}
use Rattle.c_tree.specs.declared.expr.Expr.TheFolds.{fold-Expr}
use Rattle.c_tree.specs.declared.expr.ExprNode.{ExprNode}
use Rattle.c_tree.specs.declared.expr.ExprNode.TheVariants.{Number, Character, Null, Success, Error, Variable, Unary, Step, Cast, Binary, And, Or, Choice, Assign, Update, Call, Element, Arrow, Dot, Print, Calloc, Free, Create, Join, JoinInto, InitMutex, Lock, Unlock}
use Rattle.c_tree.specs.declared.stmt.Declaration.{Declaration}
use Rattle.c_tree.specs.declared.stmt.Stmt.{Stmt}
use Rattle.c_tree.specs.declared.stmt.Stmt.TheFolds.{fold-Stmt}
use Rattle.c_tree.specs.declared.stmt.StmtNode.{StmtNode}
use Rattle.c_tree.specs.declared.stmt.StmtNode.TheVariants.{Block, Empty, Evaluate, Declare, If, IfElse, While, DoWhile, For, Break, Continue, Return, ReturnValue, Update as UpdatePoint, Transaction}
use Rattle.c_tree.specs.declared.def.Binding.{Binding}
use Rattle.c_tree.specs.declared.def.FieldValue.{FieldValue}
use Rattle.c_tree.specs.declared.def.Parameters.{Parameters}
use Rattle.c_tree.specs.declared.def.Parameters.TheVariants.{Named, Unnamed}
use Rattle.c_tree.specs.declared.def.Prototype.{Prototype as PrototypeTree}
use Rattle.c_tree.specs.declared.def.Function.{Function as FunctionTree}
use Rattle.c_tree.specs.declared.def.Array.{Array as ArrayTree}
use Rattle.c_tree.specs.declared.def.StructTransform.{StructTransform}
use Rattle.c_tree.specs.declared.def.Def.{Def}
use Rattle.c_tree.specs.declared.def.DefKind.{DefKind}
use Rattle.c_tree.specs.declared.def.DefKind.TheVariants.{Struct, Forward, Mutex, Function, Prototype, Global, Array, TransformStruct, TransformGlobal}
use Rattle.c_tree.specs.BareExpr.{BareType, BareExpr, BareExprs}
use Rattle.c_tree.specs.BareExpr as bare
use Rattle.c_tree.specs.BareStmt.{BareDeclaration, BareStmt, BareStmts}
use Rattle.c_tree.specs.BareStmt as bare_s
use Rattle.c_tree.specs.BareDef.{BareBinding, BareParameters, BareFieldValue, BareDef}
use Rattle.c_tree.specs.BareDef as bare_d

-- a type
abbrev pub bare_type : CType → BareType
bare_type (Integer k) = bare.Integer k
bare_type (Handle name) = bare.Handle name.text
bare_type Thread = bare.Thread

-- the arguments of a call
abbrev pub bare_arguments : List BareExpr → BareExprs
bare_arguments [] = bare.NoExprs
bare_arguments (e ∷ es) = bare.ExprThen e (bare_arguments es)

-- an expression of its parts
abbrev pub bare_node : ExprNode BareExpr → BareExpr
bare_node (Number n) = bare.Number n
bare_node (Character n) = bare.Character n
bare_node Null = bare.Null
bare_node Success = bare.Success
bare_node Error = bare.Error
bare_node (Variable name) = bare.Variable name
bare_node (Unary op a) = bare.Unary op a
bare_node (Step op a) = bare.Step op a
bare_node (Cast to a) = bare.Cast (bare_type to) a
bare_node (Binary op a b) = bare.Binary op a b
bare_node (And a b) = bare.And a b
bare_node (Or a b) = bare.Or a b
bare_node (Choice a b c) = bare.Choice a b c
bare_node (Assign a b) = bare.Assign a b
bare_node (Update op a b) = bare.Update op a b
bare_node (Call name arguments) = bare.Call name (bare_arguments arguments)
bare_node (Element name a) = bare.Element name a
bare_node (Arrow a field) = bare.Arrow a field.text
bare_node (Dot a field) = bare.Dot a field.text
bare_node (Print place format arguments) = bare.Print format (bare_arguments arguments)
bare_node (Calloc name) = bare.Calloc name.text
bare_node (Free a) = bare.Free a
bare_node (Create a name b) = bare.Create a name.text b
bare_node (Join a) = bare.Join a
bare_node (JoinInto a b) = bare.JoinInto a b
bare_node (InitMutex name) = bare.InitMutex name.text
bare_node (Lock name) = bare.Lock name.text
bare_node (Unlock name) = bare.Unlock name.text

-- an expression
abbrev pub bare_expr : Expr → BareExpr
bare_expr = fold-Expr BareExpr (λ e. bare_node e.node)

-- a declared variable
abbrev pub bare_declaration : Declaration → BareDeclaration
bare_declaration d = record {
  declared = bare_type d.declared;
  name = d.name.text;
  initial = option_map bare_expr d.initial;
}

-- the statements of a block
abbrev pub bare_block : List BareStmt → BareStmts
bare_block [] = bare_s.NoStmts
bare_block (s ∷ ss) = bare_s.StmtThen s (bare_block ss)

-- a statement of its parts
abbrev pub bare_stmt_node : StmtNode BareStmt → BareStmt
bare_stmt_node (Block body) = bare_s.Block (bare_block body)
bare_stmt_node Empty = bare_s.Empty
bare_stmt_node (Evaluate e) = bare_s.Evaluate (bare_expr e)
bare_stmt_node (Declare d) = bare_s.Declare (bare_declaration d)
bare_stmt_node (If c s) = bare_s.If (bare_expr c) s
bare_stmt_node (IfElse c s t) = bare_s.IfElse (bare_expr c) s t
bare_stmt_node (While c s) = bare_s.While (bare_expr c) s
bare_stmt_node (DoWhile s c) = bare_s.DoWhile s (bare_expr c)
bare_stmt_node (For first test step s) =
    bare_s.For (bare_block first) (option_map bare_expr test) (option_map bare_expr step) s
bare_stmt_node Break = bare_s.Break
bare_stmt_node Continue = bare_s.Continue
bare_stmt_node Return = bare_s.Return
bare_stmt_node (ReturnValue e) = bare_s.ReturnValue (bare_expr e)
bare_stmt_node UpdatePoint = bare_s.Update
bare_stmt_node (Transaction body end) = bare_s.Transaction (bare_block body)

-- a statement
abbrev pub bare_stmt : Stmt → BareStmt
bare_stmt = fold-Stmt BareStmt (λ s. bare_stmt_node s.node)

-- a member or a parameter
abbrev pub bare_binding : Binding → BareBinding
bare_binding b = record { declared = bare_type b.declared; name = b.name.text }

-- what a prototype writes of its parameters
abbrev pub bare_parameters : Parameters → BareParameters
bare_parameters (Named bs) = bare_d.Named (map bare_binding bs)
bare_parameters (Unnamed ts) = bare_d.Unnamed (map bare_type ts)

-- `f = e;` in a struct's transformer
abbrev pub bare_field_value : FieldValue → BareFieldValue
bare_field_value v = record { field = v.field.text; value = bare_expr v.value }

-- a function
abbrev pub bare_function : FunctionTree → BareDef
bare_function f =
    bare_d.Function (option_map bare_type f.result) f.name.text (map bare_binding f.parameters)
    (bare_block (map bare_stmt f.body))

-- a function's prototype
abbrev pub bare_prototype : PrototypeTree → BareDef
bare_prototype p = bare_d.Prototype (option_map bare_type p.result) p.name.text (bare_parameters p.parameters)

-- an array
abbrev pub bare_array : ArrayTree → BareDef
bare_array a =
    bare_d.Array (bare_type a.element) a.name.text a.length.value (option_map (map bare_expr) a.initial)

-- a struct's transformer
abbrev pub bare_struct_transform : StructTransform → BareDef
bare_struct_transform t = bare_d.TransformStruct t.name.text (map bare_field_value t.values)

-- a definition by its kind
abbrev pub bare_kind : DefKind → BareDef
bare_kind (Struct name members) = bare_d.Struct name.text (map bare_binding members)
bare_kind (Forward name) = bare_d.Forward name.text
bare_kind (Mutex name) = bare_d.Mutex name.text
bare_kind (Function f) = bare_function f
bare_kind (Prototype p) = bare_prototype p
bare_kind (Global d) = bare_d.Global (bare_declaration d)
bare_kind (Array a) = bare_array a
bare_kind (TransformStruct t) = bare_struct_transform t
bare_kind (TransformGlobal name e) = bare_d.TransformGlobal name.text (bare_expr e)

-- a definition
abbrev pub bare_def : Def → BareDef
bare_def d = bare_kind d.kind
