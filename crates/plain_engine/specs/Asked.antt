-- What is asked of an engine at a guard.
use Rattle.std.specs.Prelude.{◌≡◌, ℕ, ◌⊎◌, Bool, false, List, [], ◌∷◌, ◌++◌, map, slice_get, Option, Some, None}
use Rattle.c_semantics.specs.SourceTexts.{Text}
use Rattle.c_semantics.specs.Store.{Body, Mark}
use Rattle.c_semantics.specs.Store as store
use Rattle.source_model.specs.Guards.{Guard, Setup}
use Rattle.source_model.specs.Guards as guard
use Rattle.resolved_tree.specs.Nodes.{Table, word}
use Rattle.plain_engine.specs.declared.asked.RowOf.{RowOf}
use Rattle.plain_engine.specs.declared.asked.RowOf.TheVariants.{NoThread, Start, Passed}
use Rattle.plain_engine.specs.declared.seat.Seat.{Seat}
use Rattle.plain_engine.specs.Kept.{mark_in_frame, mark_of}

-- the texts of a setup: the first, then those of its offers
abbrev pub all_texts : Setup → List Text
all_texts setup = setup.first ∷ map (λ o. o.text) setup.offers

-- the last version is the text with this number
pub record IsInForce (setup : Setup) (g : Guard) (number : ℕ) : Type 0 where
  pub before : List Text
  pub text : Text
  pub numbered : slice_get (all_texts setup) number ≡ Some text
  pub last : g.versions ≡ before ++ text ∷ []

-- what is kept of a slot gives its pin and, as long as threads move, its mark
pub record IsHeld (t : Table) (bodies : List Body) (over : Bool) (kept : Seat) (own : guard.Seat) : Type 0 where
  pub pinned : kept.pinned ≡ own.pinned
  pub mark : over ≡ false → own.mark ≡ mark_of t bodies kept.kept

-- from where the row with a mark comes; none where there is no mark, or that of a start whose function isn't known
abbrev pub IsRowAt : Table → List Body → Option Mark → RowOf → Type 0
IsRowAt t bodies own NoThread = (own ≡ None) ⊎ (own ≡ Some (store.Start []))
IsRowAt t bodies own (Start function) = own ≡ Some (store.Start (word t function))
IsRowAt t bodies own (Passed frame) = own ≡ Some (mark_in_frame t bodies frame)
