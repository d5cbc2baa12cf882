-- Slots that match are alike in what lives or ended there.
use Rattle.std.proofs.Common.{ℕ, zero, suc, List, [], ◌∷◌}
use Rattle.std.specs.Prelude.{slice_index_or, slice_set}
use Rattle.c_tree.specs.BareExpr.{Bytes}
use Rattle.c_tree.specs.BareDef.{BareDef}
use Rattle.source_model.specs.Worlds.{Slot}
use Rattle.source_model.specs.Worlds as world
use Rattle.bytecode.specs.Words.{Naming}
use Rattle.code_runs.specs.CodeThreads.{CodeSlot, Free, Live, Over}
use Rattle.code_run_laws.specs.ThreadMatches.{SlotMatches, SlotStands, SlotsMatch, SlotsStand}

module _ (texts : List (List BareDef)) (tags : List Bytes) (naming : Naming) where
  slot_standing : (s : Slot) (own : CodeSlot) → SlotMatches texts tags naming s own → SlotStands s own
  slot_standing world.Free Free h = tt
  slot_standing world.Free (Live own) h = absurd h
  slot_standing world.Free (Over serial w) h = absurd h
  slot_standing (world.Live th) Free h = absurd h
  slot_standing (world.Live th) (Live own) h = (h.serial, h.depth)
  slot_standing (world.Live th) (Over serial w) h = absurd h
  slot_standing (world.Over serial v) Free h = absurd h
  slot_standing (world.Over serial v) (Live own) h = absurd h
  slot_standing (world.Over serial v) (Over own w) h = h.0

  pub slots_standing : (ss : List Slot) (owns : List CodeSlot) → SlotsMatch texts tags naming ss owns → SlotsStand ss owns
  slots_standing [] [] h = tt
  slots_standing [] (own ∷ owns) h = absurd h
  slots_standing (s ∷ ss) [] h = absurd h
  slots_standing (s ∷ ss) (own ∷ owns) h = (slot_standing s own h.0, slots_standing ss owns h.1)

-- a slot becomes what the code's is alike to already
pub still_standing : (ss : List Slot) (owns : List CodeSlot) (t : ℕ) (s : Slot) → SlotStands s (slice_index_or owns t Free) → SlotsStand ss owns
    → SlotsStand (slice_set ss t s) owns
still_standing [] [] t s new h = tt
still_standing [] (own ∷ owns) t s new h = absurd h
still_standing (x ∷ ss) [] t s new h = absurd h
still_standing (x ∷ ss) (own ∷ owns) zero s new h = (new, h.1)
still_standing (x ∷ ss) (own ∷ owns) (suc t) s new h = (h.0, still_standing ss owns t s new h.1)
