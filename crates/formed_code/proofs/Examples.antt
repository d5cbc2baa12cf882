-- A small body whose code is well formed by the law, and how many words some expressions take.
use Rattle.std.proofs.Common.{◌≡◌, List, [], ◌∷◌, None, refl, arith}
use Rattle.c_ints.specs.declared.kind.Kind.TheVariants.{I32}
use Rattle.c_ints.specs.declared.operator.BinOp.TheVariants.{Add, Sub}
use Rattle.c_tree.specs.BareExpr.{Bytes, Integer}
use Rattle.c_tree.specs.BareDef.{BareBinding}
use Rattle.c_semantics.specs.Texts.{Definitions, int}
use Rattle.c_semantics.specs.Resolved.{Expression, Statements, Read, Binary, Postfix, Local, Element, Evaluate, While, Return, NoStatements, StatementThen}
use Rattle.typed_trees.specs.StatementTypes.{BodyTyped}
use Rattle.code_kinds.specs.WellFormed.{WellFormed}
use Rattle.formed_code.specs.Depths.{depth}
use Rattle.formed_code.specs.FormedLaws.{function_code}
use Rattle.formed_code.proofs.Whole.{of_tree}

abbrev nothing : Definitions
nothing name = None

abbrev x : Bytes
x = 120 ∷ []

abbrev read : Expression
read = Read (Local x)

abbrev parameters : List BareBinding
parameters = record { declared = Integer I32; name = x } ∷ []

-- while (x) x--; return x; x--;
abbrev body : Statements
body =
    StatementThen (While read (Evaluate (Postfix (Integer I32) Sub (Local x))))
    (StatementThen (Return read) (StatementThen (Evaluate (Postfix (Integer I32) Sub (Local x))) NoStatements))

typed : BodyTyped nothing int parameters body
typed = record { statements = (((refl, tt), (refl, refl, tt), tt), ((refl, refl), ((refl, refl, tt), tt))); stays = refl }

counts_down : WellFormed (function_code nothing parameters int 1 body)
counts_down = of_tree nothing parameters int 1 body typed (tt, (tt, (tt, tt))) (omega arith) (omega arith) (omega arith) refl

-- x + (x + x)
sums : depth (Binary Add read (Binary Add read read)) ≡ 3
sums = refl

-- x[x]++: its index twice, the element and a copy of it under them, or the element and 1
steps : depth (Postfix (Integer I32) Add (Element x read)) ≡ 4
steps = refl
