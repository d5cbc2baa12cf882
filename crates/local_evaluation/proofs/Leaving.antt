-- What a jump leaves after.
use Rattle.std.proofs.Common.{◌≡◌, ℕ, List, [], ◌∷◌, refl}
use Rattle.c_semantics.specs.Pieces.{Piece}
use Rattle.c_semantics.specs.Evaluation.{Ways, ways, local, closing, close_scope}
use Rattle.resolved_tree.specs.declared.node.NodeId.{NodeId}
use Rattle.resolved_tree.specs.declared.node.StatementNode.{StatementNode}
use Rattle.resolved_tree.specs.declared.node.StatementNode.TheVariants as stmt
use Rattle.local_evaluation.specs.declared.piece.Loop.{Loop}
use Rattle.local_evaluation.specs.declared.piece.Piece.{Piece as PieceNode}
use Rattle.local_evaluation.specs.declared.piece.Piece.TheVariants.{Compute, Arguments, Parts, Get, Set, Dup, Tuck, Swap, Apply, Combine, ConvertTo, Drop, Push, Truth, Created, AndThen, OrElse, Choose, Then, ThenElse, Turn, Repeat, Do, DoBlock, DoWhile, Sequence, LoopTest, BackEdge, At, Close, AfterBody, Until}
use Rattle.local_evaluation.specs.declared.work.Jump.{Jump}
use Rattle.local_evaluation.specs.declared.work.Jump.TheVariants.{Break, Continue}
use Rattle.resolved_tree.specs.Nodes.{Table, statement_of}
use Rattle.local_evaluation.specs.Pieces.{piece_of}
use Rattle.local_evaluation.specs.Work.{way}
use Rattle.local_evaluation.proofs.StepLaws.{Jumps}

-- at the end of a scope it leaves the scope
pub way_closes : (j : Jump) (k : Ways) → way j (closing k) ≡ close_scope (way j k)
way_closes Break k = refl
way_closes Continue k = refl

-- where nothing is pending there is no way on
pub no_way : (j : Jump) → way j (ways []) ≡ local []
no_way Break = refl
no_way Continue = refl

-- a `continue` goes on after a loop's body, a `break` after the loop
pub after_body_of_loop : (t : Table) (l : Loop) (rest : List Piece)
    → (way Continue (ways (piece_of t (AfterBody l) ∷ rest)) ≡ local (piece_of t (AfterBody l) ∷ rest))
    × (way Break (ways (piece_of t (AfterBody l) ∷ rest)) ≡ local rest)
after_body_of_loop t l rest = (refl, refl)

pub after_body_of_do : (t : Table) (s c : NodeId) (n : ℕ) (rest : List Piece)
    → (way Continue (ways (piece_of t (Until s c n) ∷ rest)) ≡ local (piece_of t (Until s c n) ∷ rest))
    × (way Break (ways (piece_of t (Until s c n) ∷ rest)) ≡ local rest)
after_body_of_do t s c n rest = (refl, refl)

-- another piece is left
left_after : (t : Table) (p : PieceNode) (rest : List Piece) → (p ≡ Close → ⊥) → ((l : Loop) → p ≡ AfterBody l → ⊥)
    → ((s c : NodeId) (n : ℕ) → p ≡ Until s c n → ⊥)
    → ((ways (piece_of t p ∷ rest)).broken ≡ (ways rest).broken) × ((ways (piece_of t p ∷ rest)).continued ≡ (ways rest).continued)
left_after t (Compute e n) rest x y z = (refl, refl)
left_after t (Arguments es n) rest x y z = (refl, refl)
left_after t (Parts p n) rest x y z = (refl, refl)
left_after t (Get p n) rest x y z = (refl, refl)
left_after t (Set p n) rest x y z = (refl, refl)
left_after t (Dup p) rest x y z = (refl, refl)
left_after t (Tuck p) rest x y z = (refl, refl)
left_after t (Swap p) rest x y z = (refl, refl)
left_after t (Apply op) rest x y z = (refl, refl)
left_after t (Combine op) rest x y z = (refl, refl)
left_after t (ConvertTo type) rest x y z = (refl, refl)
left_after t Drop rest x y z = (refl, refl)
left_after t (Push v) rest x y z = (refl, refl)
left_after t Truth rest x y z = (refl, refl)
left_after t Created rest x y z = (refl, refl)
left_after t (AndThen b m) rest x y z = (refl, refl)
left_after t (OrElse b m) rest x y z = (refl, refl)
left_after t (Choose a b m) rest x y z = (refl, refl)
left_after t (Then s m) rest x y z = (refl, refl)
left_after t (ThenElse a b m) rest x y z = (refl, refl)
left_after t (Turn l) rest x y z = (refl, refl)
left_after t (Repeat s c n) rest x y z = (refl, refl)
left_after t (Do s n) rest x y z = (refl, refl)
left_after t (DoBlock ss n) rest x y z = (refl, refl)
left_after t (DoWhile s c n) rest x y z = (refl, refl)
left_after t (Sequence ss n) rest x y z = (refl, refl)
left_after t (LoopTest l) rest x y z = (refl, refl)
left_after t (BackEdge l) rest x y z = (refl, refl)
left_after t (At s n) rest x y z = (refl, refl)
left_after t Close rest x y z = absurd (x refl)
left_after t (AfterBody l) rest x y z = absurd (y l refl)
left_after t (Until s c n) rest x y z = absurd (z s c n refl)

pub passes : (j : Jump) (t : Table) (p : PieceNode) (rest : List Piece) → (p ≡ Close → ⊥) → ((l : Loop) → p ≡ AfterBody l → ⊥)
    → ((s c : NodeId) (n : ℕ) → p ≡ Until s c n → ⊥) → way j (ways (piece_of t p ∷ rest)) ≡ way j (ways rest)
passes Break t p rest x y z = (left_after t p rest x y z).0
passes Continue t p rest x y z = (left_after t p rest x y z).1

-- another statement is no jump
pub no_jump : (t : Table) (s : StatementNode) → (s ≡ stmt.Break → ⊥) → (s ≡ stmt.Continue → ⊥) → Jumps (statement_of t s) → ⊥
no_jump t (stmt.Block ss) x y h = h
no_jump t stmt.Empty x y h = h
no_jump t (stmt.Evaluate e) x y h = h
no_jump t (stmt.Declare type name e) x y h = h
no_jump t (stmt.If c s) x y h = h
no_jump t (stmt.IfElse c a b) x y h = h
no_jump t (stmt.While c s) x y h = h
no_jump t (stmt.DoWhile s c) x y h = h
no_jump t (stmt.For first test step s) x y h = h
no_jump t (stmt.Return e) x y h = h
no_jump t stmt.UpdatePoint x y h = h
no_jump t (stmt.Transaction ss) x y h = h
no_jump t stmt.Break x y h = x refl
no_jump t stmt.Continue x y h = y refl
