-- What is asked of a slot, of code and of the source machine.
use Rattle.std.proofs.Common.{◌≡◌, ℕ, zero, suc, List, [], ◌∷◌, map, option_map, slice_get, Option, Some, None, refl, sym, ap, ap₂, ◌∙◌}
use Rattle.std.specs.Prelude.{nat_lt, slice_index_or}
use Rattle.std.proofs.lemmas.Option.{slice_get-map}
use Rattle.c_tree.specs.BareExpr.{Bytes, BareType}
use Rattle.c_tree.specs.BareDef.{BareDef}
use Rattle.c_semantics.specs.Threads.{Enter, Frame}
use Rattle.source_model.specs.Guards.{in_transaction}
use Rattle.source_model.specs.Worlds.{Slot}
use Rattle.source_model.specs.Worlds as world
use Rattle.source_model.specs.Runs.{is_live}
use Rattle.typed_runs.specs.TypedFrames.{result_in}
use Rattle.bytecode.specs.Words.{Naming}
use Rattle.source_runner.specs.Queries.{Place, entering_in, innermost, innermost_in, place_of, place_up, place_up_in}
use Rattle.code_runs.specs.CodeThreads.{CodeFrame, CodeNext, CodeSlot, Enters, Rests, Free, Live, Over}
use Rattle.code_machine.specs.Queries.{entered_by, frames_by, frames_in}
use Rattle.code_machine.specs.Queries as asked
use Rattle.compiled_run.specs.Compiled.{seen_place}
use Rattle.code_run_laws.specs.ThreadMatches.{BelowMatch, IsSame, NextMatches, SlotMatches, SlotStands, SlotsStand}

-- ---- whether a thread lives there, and in how many transactions it is

pub standing_at : (ss : List Slot) (owns : List CodeSlot) (t : ℕ) → SlotsStand ss owns
    → SlotStands (slice_index_or ss t world.Free) (slice_index_or owns t Free)
standing_at [] [] t h = tt
standing_at [] (own ∷ owns) t h = absurd h
standing_at (s ∷ ss) [] t h = absurd h
standing_at (s ∷ ss) (own ∷ owns) zero h = h.0
standing_at (s ∷ ss) (own ∷ owns) (suc t) h = standing_at ss owns t h.1

pub live_alike : (s : Slot) (own : CodeSlot) → SlotStands s own → is_live s ≡ asked.is_live own
live_alike world.Free Free h = refl
live_alike world.Free (Live own) h = absurd h
live_alike world.Free (Over serial w) h = absurd h
live_alike (world.Live th) Free h = absurd h
live_alike (world.Live th) (Live own) h = refl
live_alike (world.Live th) (Over serial w) h = absurd h
live_alike (world.Over serial v) Free h = absurd h
live_alike (world.Over serial v) (Live own) h = absurd h
live_alike (world.Over serial v) (Over own w) h = refl

pub transaction_alike : (s : Slot) (own : CodeSlot) → SlotStands s own → in_transaction s ≡ asked.in_transaction own
transaction_alike world.Free Free h = refl
transaction_alike world.Free (Live own) h = absurd h
transaction_alike world.Free (Over serial w) h = absurd h
transaction_alike (world.Live th) Free h = absurd h
transaction_alike (world.Live th) (Live own) h = ap (nat_lt 0) (sym h.1)
transaction_alike (world.Live th) (Over serial w) h = absurd h
transaction_alike (world.Over serial v) Free h = absurd h
transaction_alike (world.Over serial v) (Live own) h = absurd h
transaction_alike (world.Over serial v) (Over own w) h = refl

-- ---- where frames are

abbrev pub code_place : CodeFrame → Place
code_place f = seen_place (asked.place_of f)

abbrev pub code_place_up : ℕ → CodeSlot → Option Place
code_place_up up s = option_map code_place (slice_get (frames_in s) up)

abbrev at : Bytes → ℕ → ℕ → Place
at function version point = record { function = function; version = version; point = point }

module _ (texts : List (List BareDef)) (tags : List Bytes) (naming : Naming) where
  same_place : (f : Frame) (own : CodeFrame) → IsSame texts tags naming f own → place_of f ≡ code_place own
  same_place f own h =
      ap (λ x. at x f.version f.standing) (sym h.function) ∙ ap (λ n. at own.function n f.standing) (sym h.version)
      ∙ ap (at own.function own.version) (sym h.standing)

  places_alike : (type : BareType) (fs : List Frame) (owns : List CodeFrame) → BelowMatch texts tags naming type fs owns
      → map place_of fs ≡ map code_place owns
  places_alike type [] [] h = refl
  places_alike type [] (own ∷ owns) h = absurd h
  places_alike type (f ∷ fs) [] h = absurd h
  places_alike type (f ∷ fs) (own ∷ owns) h =
      ap₂ (λ p ps. p ∷ ps) (same_place f own h.0.0) (places_alike (result_in texts f.version f.function) fs owns h.1)

  next_places : (e : Option Enter) (fs : List Frame) (x : CodeNext) (owns : List CodeFrame) → NextMatches texts tags naming e fs x owns
      → map place_of fs ≡ map code_place (frames_by x owns)
  next_places (Some e) fs (Enters own) owns h = places_alike (result_in texts e.version e.function) fs owns h.1
  next_places (Some e) fs (Rests own) owns h = absurd h
  next_places None [] (Enters own) owns h = absurd h
  next_places None [] (Rests own) owns h = absurd h
  next_places None (f ∷ fs) (Enters own) owns h = absurd h
  next_places None (f ∷ fs) (Rests own) owns h =
      ap₂ (λ p ps. p ∷ ps) (same_place f own h.0.0) (places_alike (result_in texts f.version f.function) fs owns h.1)

  frames_up : (fs : List Frame) (owns : List CodeFrame) (up : ℕ) → map place_of fs ≡ map code_place owns
      → place_up fs up ≡ option_map code_place (slice_get owns up)
  frames_up fs owns up same =
      sym (slice_get-map place_of fs up) ∙ ap (λ ps. slice_get ps up) same ∙ slice_get-map code_place owns up

  pub place_alike : (up : ℕ) (s : Slot) (own : CodeSlot) → SlotMatches texts tags naming s own → place_up_in up s ≡ code_place_up up own
  place_alike up world.Free Free h = refl
  place_alike up world.Free (Live own) h = absurd h
  place_alike up world.Free (Over serial w) h = absurd h
  place_alike up (world.Live th) Free h = absurd h
  place_alike up (world.Live th) (Live own) h =
      frames_up th.frames (frames_by own.next own.below) up (next_places th.entering th.frames own.next own.below h.next)
  place_alike up (world.Live th) (Over serial w) h = absurd h
  place_alike up (world.Over serial v) Free h = absurd h
  place_alike up (world.Over serial v) (Live own) h = absurd h
  place_alike up (world.Over serial v) (Over own w) h = refl

  -- ---- what it enters

  next_enters : (e : Option Enter) (fs : List Frame) (x : CodeNext) (owns : List CodeFrame) → NextMatches texts tags naming e fs x owns
      → option_map (λ d. d.function) e ≡ entered_by x
  next_enters (Some e) fs (Enters own) owns h = ap Some (sym h.0.function)
  next_enters (Some e) fs (Rests own) owns h = absurd h
  next_enters None [] (Enters own) owns h = absurd h
  next_enters None (f ∷ fs) (Enters own) owns h = absurd h
  next_enters None fs (Rests own) owns h = refl

  pub entering_alike : (s : Slot) (own : CodeSlot) → SlotMatches texts tags naming s own → entering_in s ≡ asked.entering_in own
  entering_alike world.Free Free h = refl
  entering_alike world.Free (Live own) h = absurd h
  entering_alike world.Free (Over serial w) h = absurd h
  entering_alike (world.Live th) Free h = absurd h
  entering_alike (world.Live th) (Live own) h = next_enters th.entering th.frames own.next own.below h.next
  entering_alike (world.Live th) (Over serial w) h = absurd h
  entering_alike (world.Over serial v) Free h = absurd h
  entering_alike (world.Over serial v) (Live own) h = absurd h
  entering_alike (world.Over serial v) (Over own w) h = refl

-- the innermost frame is no calls above it
pub innermost_is : (s : Slot) → innermost_in s ≡ place_up_in 0 s
innermost_is world.Free = refl
innermost_is (world.Live th) = by th.frames
  where
    by : (fs : List Frame) → innermost fs ≡ place_up fs 0
    by [] = refl
    by (f ∷ fs) = refl
innermost_is (world.Over serial v) = refl

-- a place is seen by way of code's
pub twice : (o : Option CodeFrame) → option_map code_place o ≡ option_map seen_place (option_map asked.place_of o)
twice None = refl
twice (Some f) = refl
