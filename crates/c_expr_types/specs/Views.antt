-- The forms of expressions, by how many parts they have, as the definitions see them.
use Rattle.c_tree.specs.declared.expr.ExprNode.{ExprNode}
use Rattle.c_tree.specs.declared.expr.ExprNode.TheVariants as node
use Rattle.c_expr_types.specs.declared.shape.OnePart.{OnePart}
use Rattle.c_expr_types.specs.declared.shape.OnePart.TheVariants as one
use Rattle.c_expr_types.specs.declared.shape.TwoParts.{TwoParts}
use Rattle.c_expr_types.specs.declared.shape.TwoParts.TheVariants as two
use Rattle.c_expr_types.specs.declared.found.Part.{Part}

-- a form with one part, of that part
abbrev pub one_part : OnePart → Part → ExprNode Part
one_part (one.Unary op) a = node.Unary op a
one_part (one.Step op) a = node.Step op a
one_part (one.Cast t) a = node.Cast t.now a
one_part (one.Element name) a = node.Element name.now a
one_part (one.Arrow name) a = node.Arrow a name.now
one_part (one.Dot name) a = node.Dot a name.now
one_part one.Free a = node.Free a
one_part one.Join a = node.Join a

-- a form with two parts, of those parts
abbrev pub two_parts : TwoParts → Part → Part → ExprNode Part
two_parts (two.Binary op) a b = node.Binary op a b
two_parts two.And a b = node.And a b
two_parts two.Or a b = node.Or a b
two_parts two.Assign a b = node.Assign a b
two_parts (two.Update op) a b = node.Update op a b
two_parts (two.Create name) a b = node.Create a name.now b
two_parts two.JoinInto a b = node.JoinInto a b
