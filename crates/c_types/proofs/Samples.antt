-- Short names for the trees of small texts.
use Rattle.std.specs.Prelude.{ℕ, List, Option, codes}
use Prim.Native.String.{String}
use Rattle.c_ints.specs.declared.int.Int.{Int}
use Rattle.c_tree.specs.declared.name.Name.{Name}
use Rattle.c_tree.specs.declared.name.CType.{CType}
use Rattle.c_tree.specs.declared.expr.Expr.{Expr, roll-Expr}
use Rattle.c_tree.specs.declared.expr.ExprNode.{ExprNode}
use Rattle.c_tree.specs.declared.stmt.Declaration.{Declaration}
use Rattle.c_tree.specs.declared.stmt.Stmt.{Stmt, roll-Stmt}
use Rattle.c_tree.specs.declared.stmt.StmtNode.{StmtNode}
use Rattle.c_tree.specs.declared.def.Binding.{Binding}
use Rattle.c_tree.specs.declared.def.FieldValue.{FieldValue}
use Rattle.c_tree.specs.declared.def.Function.{Function}
use Rattle.c_tree.specs.declared.def.Array.{Array}
use Rattle.c_tree.specs.declared.def.Def.{Def}
use Rattle.c_tree.specs.declared.def.DefKind.{DefKind}
use Rattle.c_tree.specs.declared.def.Program.{Program}

abbrev pub name : ℕ → String → Name
name place text = record { place = place; text = codes text }

abbrev pub expr : ℕ → ExprNode Expr → Expr
expr place node = roll-Expr (record { place = place; node = node })

abbrev pub stmt : ℕ → StmtNode Stmt → Stmt
stmt place node = roll-Stmt (record { place = place; node = node })

abbrev pub variable : CType → Name → Option Expr → Declaration
variable t n initial = record { declared = t; name = n; initial = initial }

abbrev pub binding : CType → Name → Binding
binding t n = record { declared = t; name = n }

abbrev pub field_value : Name → Expr → FieldValue
field_value field e = record { field = field; value = e }

abbrev pub function : Option CType → Name → List Binding → List Stmt → ℕ → ℕ → Function
function result n parameters body end tokens =
    record { result = result; name = n; parameters = parameters; body = body; end = end; tokens = tokens }

abbrev pub array : CType → Name → ℕ → Int → Option (List Expr) → Array
array t n place length initial =
    record { element = t; name = n; length = record { place = place; value = length }; initial = initial }

abbrev pub def : ℕ → DefKind → Def
def place kind = record { place = place; kind = kind }

abbrev pub program : List Def → ℕ → Program
program definitions end = record { definitions = definitions; end = end }
