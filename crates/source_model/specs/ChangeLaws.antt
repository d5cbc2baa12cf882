-- Laws of what changes between two texts.
use Rattle.std.specs.Prelude.{◌≡◌, IsTrue, Decides, List}
use Rattle.c_tree.specs.BareExpr.{Bytes}
use Rattle.c_tree.specs.BareDef.{BareDef}
use Rattle.c_tree.specs.BareStmt.{BareStmts}
use Rattle.c_semantics.specs.Same.{same_stmts}
use Rattle.name_sets.specs.NameLists.{is_among}
use Rattle.c_semantics.specs.Changes.{changed, interface, same_definition, same_interface}

-- equal definitions have equal interfaces
abbrev pub DefinitionsHaveInterfaces : Type 0
DefinitionsHaveInterfaces = (a b : BareDef) → IsTrue (same_definition a b) → IsTrue (same_interface a b)

-- the interface set lies in the changed set
abbrev pub InterfaceInChanged : Type 0
InterfaceInChanged = (p q : List BareDef) (name : Bytes) → IsTrue (is_among (interface p q) name) → IsTrue (is_among (changed p q) name)

-- the test of equal bodies says their equality
abbrev pub SameDecides : Type 0
SameDecides = (a b : BareStmts) → Decides (same_stmts a b) (a ≡ b)
