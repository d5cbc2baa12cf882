-- Small tables, scopes and work, computed by the definitions.
use Rattle.std.proofs.Common.{◌≡◌, List, [], ◌∷◌, Some, pos, refl}
use Rattle.std.specs.Prelude.{codes}
use Rattle.c_ints.specs.declared.int.Int.TheVariants.{I32}
use Rattle.c_ints.specs.declared.operator.BinOp.TheVariants.{Add, Mul}
use Rattle.c_tree.specs.BareExpr.{Bytes}
use Rattle.c_semantics.specs.Resolved as tree
use Rattle.c_semantics.specs.Stops as stop
use Rattle.c_semantics.specs.Values as value
use Rattle.c_semantics.specs.Pieces.{Drop, Stopped}
use Rattle.c_semantics.specs.Evaluation.{local, look_up}
use Rattle.resolved_tree.specs.declared.node.Entry.{Entry}
use Rattle.resolved_tree.specs.declared.node.Place.TheVariants.{Local}
use Rattle.resolved_tree.specs.declared.node.ExpressionNode.TheVariants.{Constant, Read, Binary, Assign, Print}
use Rattle.resolved_tree.specs.declared.node.ArgumentsNode.TheVariants.{None as NoArguments, Then as ArgumentThen}
use Rattle.resolved_tree.specs.declared.node.StatementNode.TheVariants.{Evaluate}
use Rattle.resolved_tree.specs.declared.node.Node.{Node}
use Rattle.resolved_tree.specs.declared.node.Node.TheVariants.{Expression as ExpressionIs, Arguments as ArgumentsAre, Statement as StatementIs}
use Rattle.local_evaluation.specs.declared.piece.Piece.TheVariants.{Do}
use Rattle.local_evaluation.specs.declared.value.Value.TheVariants.{Number}
use Rattle.resolved_tree.specs.declared.words.Word.{Word}
use Rattle.local_evaluation.specs.declared.work.Local.TheVariants.{Block, Variable}
use Rattle.resolved_tree.specs.Nodes.{expression_at}
use Rattle.resolved_tree.specs.Grown.{made_of}
use Rattle.local_evaluation.specs.Pieces.{pending}
use Rattle.local_evaluation.specs.Work.{scopes_of}

-- the words x, y and a format
abbrev words : List Bytes
words = codes "x" ∷ codes "y" ∷ codes "%d" ∷ []

abbrev x : Word
x = record { 0 = 0 }

abbrev y : Word
y = record { 0 = 1 }

abbrev format : Word
format = record { 0 = 2 }

abbrev entry : Node → Entry
entry n = record { node = n; points = 0 }

-- `printf("%d", x = 1 + y * 2);`
abbrev entries : List Entry
entries = entry (ExpressionIs (Constant (I32 (pos 1))))
    ∷ entry (ExpressionIs (Read (Local y)))
    ∷ entry (ExpressionIs (Constant (I32 (pos 2))))
    ∷ entry (ExpressionIs (Binary Mul (record { 0 = 1 }) (record { 0 = 2 })))
    ∷ entry (ExpressionIs (Binary Add (record { 0 = 0 }) (record { 0 = 3 })))
    ∷ entry (ExpressionIs (Assign (Local x) (record { 0 = 4 })))
    ∷ entry (ArgumentsAre NoArguments)
    ∷ entry (ArgumentsAre (ArgumentThen (record { 0 = 5 }) (record { 0 = 6 })))
    ∷ entry (ExpressionIs (Print format (record { 0 = 7 })))
    ∷ entry (StatementIs (Evaluate (record { 0 = 8 }))) ∷ []

-- a tree is made of its parts
product : expression_at (made_of words entries) (record { 0 = 3 })
    ≡ tree.Binary Mul (tree.Read (tree.Local (codes "y"))) (tree.Constant (I32 (pos 2)))
product = refl

-- the innermost variable of a name is found
innermost : look_up (scopes_of (made_of words entries)
    (Block ∷ Variable x (Number (I32 (pos 1))) ∷ Block ∷ Variable y (Number (I32 (pos 2))) ∷ Variable x (Number (I32 (pos 3))) ∷ []))
    (codes "x") ≡ Some (value.Number (I32 (pos 3)))
innermost = refl

-- the statement stops at the print, with the value and with what is pending after it
printed : local (pending (made_of words entries) (Do (record { 0 = 9 }) 0 ∷ []))
    [] (scopes_of (made_of words entries) (Block ∷ Variable x (Number (I32 (pos 0))) ∷ Variable y (Number (I32 (pos 5))) ∷ []))
    ≡ Stopped (stop.Print (codes "%d") 1) 0 (Drop ∷ []) (value.Number (I32 (pos 11)) ∷ [])
    (scopes_of (made_of words entries) (Block ∷ Variable x (Number (I32 (pos 11))) ∷ Variable y (Number (I32 (pos 5))) ∷ []))
printed = refl
