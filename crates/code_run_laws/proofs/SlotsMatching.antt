-- What is in a slot matches, and slots that are changed alike match.
use Rattle.std.proofs.Common.{◌≡◌, ℕ, zero, suc, ◌+◌, List, [], ◌∷◌, length, Some, None, refl, ap, ap₂, subst, cond}
use Rattle.std.specs.Prelude.{not, nat_lt, position, slice_index_or, slice_set}
use Rattle.std.specs.List.{position_or_len}
use Rattle.c_tree.specs.BareExpr.{Bytes}
use Rattle.c_tree.specs.BareDef.{BareDef}
use Rattle.c_semantics.specs.Threads.{Thread}
use Rattle.source_model.specs.Worlds.{Slot}
use Rattle.source_model.specs.Worlds as world
use Rattle.source_model.specs.Moves as source
use Rattle.bytecode.specs.Words.{Naming}
use Rattle.code_runs.specs.CodeThreads.{CodeSlot, CodeThread, Free, Live, Over}
use Rattle.code_runs.specs.CodeMoves.{is_free}
use Rattle.code_run_laws.specs.ThreadMatches.{SlotMatches, SlotsMatch, ThreadMatches}

module _ (texts : List (List BareDef)) (tags : List Bytes) (naming : Naming) where
  pub slot_matching : (ss : List Slot) (owns : List CodeSlot) (t : ℕ) → SlotsMatch texts tags naming ss owns
      → SlotMatches texts tags naming (slice_index_or ss t world.Free) (slice_index_or owns t Free)
  slot_matching [] [] t h = tt
  slot_matching [] (own ∷ owns) t h = absurd h
  slot_matching (s ∷ ss) [] t h = absurd h
  slot_matching (s ∷ ss) (own ∷ owns) zero h = h.0
  slot_matching (s ∷ ss) (own ∷ owns) (suc t) h = slot_matching ss owns t h.1

  pub set_matching : (ss : List Slot) (owns : List CodeSlot) (t : ℕ) (s : Slot) (own : CodeSlot) → SlotMatches texts tags naming s own
      → SlotsMatch texts tags naming ss owns → SlotsMatch texts tags naming (slice_set ss t s) (slice_set owns t own)
  set_matching [] [] t s own new h = tt
  set_matching [] (x ∷ owns) t s own new h = absurd h
  set_matching (x ∷ ss) [] t s own new h = absurd h
  set_matching (x ∷ ss) (y ∷ owns) zero s own new h = (new, h.1)
  set_matching (x ∷ ss) (y ∷ owns) (suc t) s own new h = (h.0, set_matching ss owns t s own new h.1)

  free_alike : (s : Slot) (own : CodeSlot) → SlotMatches texts tags naming s own → source.is_free s ≡ is_free own
  free_alike world.Free Free h = refl
  free_alike world.Free (Live own) h = absurd h
  free_alike world.Free (Over serial w) h = absurd h
  free_alike (world.Live th) Free h = absurd h
  free_alike (world.Live th) (Live own) h = refl
  free_alike (world.Live th) (Over serial w) h = absurd h
  free_alike (world.Over serial v) Free h = absurd h
  free_alike (world.Over serial v) (Live own) h = absurd h
  free_alike (world.Over serial v) (Over own w) h = refl

  pub lengths_alike : (ss : List Slot) (owns : List CodeSlot) → SlotsMatch texts tags naming ss owns → length ss ≡ length owns
  lengths_alike [] [] h = refl
  lengths_alike [] (own ∷ owns) h = absurd h
  lengths_alike (s ∷ ss) [] h = absurd h
  lengths_alike (s ∷ ss) (own ∷ owns) h = ap suc (lengths_alike ss owns h.1)

  places_alike : (ss : List Slot) (owns : List CodeSlot) → SlotsMatch texts tags naming ss owns
      → position_or_len source.is_free ss ≡ position_or_len is_free owns
  places_alike [] [] h = refl
  places_alike [] (own ∷ owns) h = absurd h
  places_alike (s ∷ ss) [] h = absurd h
  places_alike (s ∷ ss) (own ∷ owns) h =
      ap₂ (λ b n. cond (not b) (1 + n) 0) (free_alike s own h.0) (places_alike ss owns h.1)

  -- the first free slot
  pub first_free_alike : (ss : List Slot) (owns : List CodeSlot) → SlotsMatch texts tags naming ss owns
      → position source.is_free ss ≡ position is_free owns
  first_free_alike ss owns h =
      ap₂ (λ n m. cond (nat_lt n m) (Some n) None) (places_alike ss owns h) (lengths_alike ss owns h)

  -- a thread of code lives where one of the source machine does
  pub record LivesAs (s : Slot) (own : CodeThread) : Type 0 where
    pub thread : Thread
    pub is : s ≡ world.Live thread
    pub matches : ThreadMatches texts tags naming thread own

  pub lives_as : (s : Slot) (x : CodeSlot) (own : CodeThread) → x ≡ Live own → SlotMatches texts tags naming s x → LivesAs s own
  lives_as s x own is h = by s (subst (SlotMatches texts tags naming s) is h)
    where
      by : (s : Slot) → SlotMatches texts tags naming s (Live own) → LivesAs s own
      by world.Free h = absurd h
      by (world.Live th) h = record { thread = th; is = refl; matches = h }
      by (world.Over serial v) h = absurd h
