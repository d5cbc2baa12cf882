-- Which moves lead to a check-in.
use Rattle.std.specs.Prelude.{◌≡◌, ℕ, Bool, true, false, List, slice_get, None, Some}
use Rattle.std.specs.Option.{is_some}
use Rattle.c_tree.specs.BareExpr.{Bytes}
use Rattle.c_tree.specs.BareDef.{BareDef}
use Rattle.c_semantics.specs.Stops.{Stop, Return, Begin, End, Update}
use Rattle.local_evaluation.specs.Pieces.{stop_of}
use Rattle.code_runs.specs.CodeData.{Names}
use Rattle.code_runs.specs.CodeThreads.{CodeSlot, CodeWorld}
use Rattle.code_runs.specs.CodeWaits.{in_slot}
use Rattle.code_image.specs.declared.act.StopPlace.{StopPlace}
use Rattle.code_image.specs.declared.image.CodeImage.{CodeImage}
use Rattle.code_machine.specs.declared.moves.CodeStep.{CodeStep}
use Rattle.code_machine.specs.declared.moves.CodeStep.TheVariants.{CannotMove, Moved}
use Rattle.code_machine.specs.Queries.{HasNoStop, IsNextStop, entering_in, frames_in}
use Rattle.code_machine.specs.Seen.{words_of}

-- whether a stop leads to a check-in, by whether a frame called the one that stops
abbrev pub stop_leads : Stop → Bool → Bool
stop_leads Return is_called = is_called
stop_leads Begin is_called = true
stop_leads End is_called = true
stop_leads Update is_called = true
stop_leads _ is_called = false

-- whether a frame called the innermost one of the thread in a slot
abbrev pub is_called : CodeSlot → Bool
is_called x = is_some (slice_get (frames_in x) 1)

-- whether what the thread in a slot does next leads to a check-in: an enter does, and so do some stops; a trap doesn't
pub data LeadsNext (texts : List (List BareDef)) (names : Names) (image : CodeImage) (w : CodeWorld) (t : ℕ) : Bool → Type 0 where
  entering : (name : Bytes) → entering_in (in_slot w t) ≡ Some name → LeadsNext texts names image w t true
  stopping : (x : StopPlace) → IsNextStop texts names image w t x
      → LeadsNext texts names image w t (stop_leads (stop_of (words_of image) x.stop) (is_called (in_slot w t)))
  trapping : HasNoStop texts w t → entering_in (in_slot w t) ≡ None → LeadsNext texts names image w t false

-- whether a step moved the thread
abbrev pub has_moved : CodeStep → Bool
has_moved CannotMove = false
has_moved (Moved leads) = true

-- a step of the thread in a slot says whether its move led to a check-in
abbrev pub Led : List (List BareDef) → Names → CodeImage → CodeWorld → ℕ → CodeStep → Type 0
Led texts names image w t CannotMove = Unit {0}
Led texts names image w t (Moved leads) = LeadsNext texts names image w t leads
