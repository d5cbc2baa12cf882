-- What local evaluation works on: values and scopes, as the definitions have them.
use Rattle.std.specs.Prelude.{◌≡◌, ◌+◌, ◌<◌, List, [], ◌∷◌, map, reverse, Option, Some, None}
use Rattle.c_semantics.specs.Values.{Value}
use Rattle.c_semantics.specs.Pieces.{Piece, Scopes, Stopped, Trapped}
use Rattle.c_semantics.specs.Pieces as piece
use Rattle.c_semantics.specs.Evaluation.{Next, Ways, local, declared}
use Rattle.local_evaluation.specs.declared.value.Value.{Value as Held}
use Rattle.local_evaluation.specs.declared.work.Jump.{Jump}
use Rattle.local_evaluation.specs.declared.work.Jump.TheVariants.{Break, Continue}
use Rattle.local_evaluation.specs.declared.work.Local.{Local}
use Rattle.local_evaluation.specs.declared.work.Local.TheVariants.{Block, Variable}
use Rattle.local_evaluation.specs.declared.work.Work.{Work}
use Rattle.local_evaluation.specs.declared.work.Halt.{Halt}
use Rattle.local_evaluation.specs.declared.work.Halt.TheVariants.{At, Trap, Nothing}
use Rattle.resolved_tree.specs.Nodes.{Table, word}
use Rattle.local_evaluation.specs.Values.{seen}
use Rattle.local_evaluation.specs.Pieces.{stop_of, pending}
use Rattle.local_evaluation.specs.Weights.{weight, of_piece}

-- values, the newest first; the newest is the last that is kept
abbrev pub newest : List Held → List Value
newest values = map seen (reverse values)

-- what one more local is to scopes: a block opens one, and a variable is declared in the innermost
abbrev pub entered : Table → Local → Scopes → Scopes
entered t Block scopes = [] ∷ scopes
entered t (Variable name value) scopes = declared (word t name) (seen value) scopes

-- the scopes with more locals
abbrev pub scopes_on : Table → List Local → Scopes → Scopes
scopes_on t [] scopes = scopes
scopes_on t (l ∷ ls) scopes = scopes_on t ls (entered t l scopes)

-- the scopes of some locals
abbrev pub scopes_of : Table → List Local → Scopes
scopes_of t ls = scopes_on t ls []

-- how it goes on after a piece, with the rest of the pieces: on, or it ends
abbrev pub went : Table → Option Halt → List Piece → Next
went t None rest values scopes = local rest values scopes
went t (Some (At s n)) rest values scopes = Stopped (stop_of t s) n rest values scopes
went t (Some (Trap kind)) rest values scopes = Trapped kind
went t (Some Nothing) rest values scopes = piece.Nothing

-- where a jump goes
abbrev pub way : Jump → Ways → Next
way Break k = k.broken
way Continue k = k.continued

-- what a step does with a piece that was the first one: what was pending means what is pending now, or the end that
-- was told; where it goes on, what is pending now weighs less
pub record Follows (t : Table) (p : Piece) (old : Work) (end : Option Halt) (new : Work) : Type 0 where
  pub meaning : local (p ∷ pending t old.pieces.items) (newest old.values.items) (scopes_of t old.scopes.items)
      ≡ went t end (pending t new.pieces.items) (newest new.values.items) (scopes_of t new.scopes.items)
  pub falls : end ≡ None → weight (pending t new.pieces.items) < of_piece p + weight (pending t old.pieces.items)
