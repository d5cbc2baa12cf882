-- What a step of a piece does, from what the call does that makes it.
use Rattle.std.proofs.Common.{◌≡◌, ℕ, ◌+◌, ◌<◌, ◌≤◌, List, ◌∷◌, ◌++◌, map, true, Option, if◌then◌else◌, sym, ap, ◌∙◌, arith}
use Rattle.std.specs.Prelude.{Result, Ok, Err, IfOk, OnOk}
use Rattle.c_semantics.specs.Values.{Value, is_true}
use Rattle.c_semantics.specs.Resolved.{Expression, Statement, DoWhile}
use Rattle.c_semantics.specs.Stops as stop
use Rattle.c_semantics.specs.Points.{size, size_stmt}
use Rattle.c_semantics.specs.Pieces.{Piece, Scopes, Stopped, Repeat, Do}
use Rattle.c_semantics.specs.Evaluation.{Next, local, ways, choose, repeated}
use Rattle.local_evaluation.specs.declared.piece.Piece.{Piece as PieceNode}
use Rattle.local_evaluation.specs.declared.work.End.{End}
use Rattle.local_evaluation.specs.declared.work.Jump.{Jump}
use Rattle.local_evaluation.specs.declared.work.Work.{Work}
use Rattle.resolved_tree.specs.Nodes.{Table}
use Rattle.local_evaluation.specs.Ends.{ended}
use Rattle.local_evaluation.specs.Pieces.{piece_of, pending}
use Rattle.local_evaluation.specs.Weights.{weight, of_piece, of_statement}
use Rattle.local_evaluation.specs.Work.{newest, scopes_of, way, went, Follows}

-- a test
pub from_decide : {E : Type 0} (t : Table) (q : PieceNode) (p : Piece) (old new : Work) (r : Result (Option End) E) (first second : List PieceNode)
    → local (p ∷ pending t old.pieces.items)
    ≡ choose (local (map (piece_of t) first ++ pending t old.pieces.items)) (local (map (piece_of t) second ++ pending t old.pieces.items))
    → weight (map (piece_of t) first) + weight (map (piece_of t) second) < of_piece p
    → IfOk r (λ end. (u : Table) (q : PieceNode) (scopes : Scopes)
    → choose (local (map (piece_of u) first ++ pending u old.pieces.items)) (local (map (piece_of u) second ++ pending u old.pieces.items))
    (newest old.values.items) scopes ≡ went u (ended q end) (pending u new.pieces.items) (newest new.values.items) scopes)
    → new.scopes ≡ old.scopes
    → OnOk r ((u : Table) → weight (pending u new.pieces.items)
    ≤ weight (map (piece_of u) first) + weight (map (piece_of u) second) + weight (pending u old.pieces.items))
    → IfOk r (λ end. Follows t p old (ended q end) new)
from_decide t q p old new (Ok end) first second law less meaning same falls = record {
  meaning = ap (λ f. f (newest old.values.items) (scopes_of t old.scopes.items)) law
      ∙ meaning t q (scopes_of t old.scopes.items)
      ∙ ap (λ s. went t (ended q end) (pending t new.pieces.items) (newest new.values.items) (scopes_of t s.items)) (sym same);
  falls = λ _. let h = falls t in omega arith;
}
from_decide t q p old new (Err e) first second law less meaning same falls = tt

-- work on the values
pub from_values : {E : Type 0} (t : Table) (q : PieceNode) (p : Piece) (old new : Work) (r : Result (Option End) E) (f : Table → Next → Next)
    → ((rest : List Piece) → local (p ∷ rest) ≡ f t (local rest)) → 0 < of_piece p
    → IfOk r (λ end. (u : Table) (q : PieceNode) (rest : List Piece) (scopes : Scopes)
    → f u (local rest) (newest old.values.items) scopes ≡ went u (ended q end) rest (newest new.values.items) scopes)
    → new.pieces ≡ old.pieces → new.scopes ≡ old.scopes
    → IfOk r (λ end. Follows t p old (ended q end) new)
from_values t q p old new (Ok end) f law some meaning pieces scopes = record {
  meaning = ap (λ g. g (newest old.values.items) (scopes_of t old.scopes.items)) (law (pending t old.pieces.items))
      ∙ meaning t q (pending t old.pieces.items) (scopes_of t old.scopes.items)
      ∙ ap (λ s. went t (ended q end) (pending t old.pieces.items) (newest new.values.items) (scopes_of t s.items)) (sym scopes)
      ∙ ap (λ ps. went t (ended q end) (pending t ps.items) (newest new.values.items) (scopes_of t new.scopes.items)) (sym pieces);
  falls = λ _. let h = ap (λ ps. weight (pending t ps.items)) pieces in omega arith;
}
from_values t q p old new (Err e) f law some meaning pieces scopes = tt

-- the read or the write of a place
pub from_access : {E : Type 0} (t : Table) (q : PieceNode) (p : Piece) (old new : Work) (r : Result (Option End) E) (f : List Piece → Next → Next)
    → ((rest : List Piece) → local (p ∷ rest) ≡ f rest (local rest)) → 0 < of_piece p
    → IfOk r (λ end. (rest : List Piece)
    → f rest (local rest) (newest old.values.items) (scopes_of t old.scopes.items)
    ≡ went t (ended q end) rest (newest new.values.items) (scopes_of t new.scopes.items))
    → new.pieces ≡ old.pieces
    → IfOk r (λ end. Follows t p old (ended q end) new)
from_access t q p old new (Ok end) f law some meaning pieces = record {
  meaning = ap (λ g. g (newest old.values.items) (scopes_of t old.scopes.items)) (law (pending t old.pieces.items))
      ∙ meaning (pending t old.pieces.items)
      ∙ ap (λ ps. went t (ended q end) (pending t ps.items) (newest new.values.items) (scopes_of t new.scopes.items)) (sym pieces);
  falls = λ _. let h = ap (λ ps. weight (pending t ps.items)) pieces in omega arith;
}
from_access t q p old new (Err e) f law some meaning pieces = tt

-- `do` stops at its back edge where its test holds
pub repeat_stops : (s : Statement) (c : Expression) (n at : ℕ) (rest new : List Piece) (v : Value) (old values : List Value) (scopes : Scopes)
    → old ≡ v ∷ values → is_true v ≡ true → at ≡ n + size_stmt s + size c → new ≡ Do (DoWhile s c) n ∷ rest
    → local (Repeat s c n ∷ rest) old scopes ≡ Stopped stop.Back at new values scopes
repeat_stops s c n at rest new v old values scopes taken holds where_at pending_now =
    ap (λ vs. choose (repeated s c n rest) (local rest) vs scopes) taken
    ∙ ap (λ b. (if b then repeated s c n rest else local rest) values scopes) holds
    ∙ ap (λ m. Stopped stop.Back m (Do (DoWhile s c) n ∷ rest) values scopes) (sym where_at)
    ∙ ap (λ ps. Stopped stop.Back at ps values scopes) (sym pending_now)

-- a jump
pub from_leave : {E : Type 0} (t : Table) (q : PieceNode) (s : Statement) (n : ℕ) (j : Jump) (old new : Work) (r : Result (Option End) E)
    → local (Do s n ∷ pending t old.pieces.items) ≡ way j (ways (pending t old.pieces.items)) → 0 < of_statement s
    → IfOk r (λ end. (u : Table) (q : PieceNode) (values : List Value)
    → way j (ways (pending u old.pieces.items)) values (scopes_of u old.scopes.items)
    ≡ went u (ended q end) (pending u new.pieces.items) values (scopes_of u new.scopes.items))
    → OnOk r ((u : Table) → weight (pending u new.pieces.items) ≤ weight (pending u old.pieces.items))
    → new.values ≡ old.values
    → IfOk r (λ end. Follows t (Do s n) old (ended q end) new)
from_leave t q s n j old new (Ok end) law some meaning falls values = record {
  meaning = ap (λ f. f (newest old.values.items) (scopes_of t old.scopes.items)) law
      ∙ meaning t q (newest old.values.items)
      ∙ ap (λ vs. went t (ended q end) (pending t new.pieces.items) (newest vs.items) (scopes_of t new.scopes.items)) (sym values);
  falls = λ _. let h = falls t in omega arith;
}
from_leave t q s n j old new (Err e) law some meaning falls values = tt
