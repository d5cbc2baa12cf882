-- A thread of code waits for what that of the source machine waits for.
use Rattle.std.proofs.Common.{◌≡◌, ℕ, zero, suc, ◌≤◌, ◌<◌, ◌==◌, ◌⊎◌, inl, inr, List, [], ◌∷◌, length, map, Option, Some, None, All, refl, sym, ap, ap₂, subst, ◌∙◌, arith}
use Rattle.std.specs.Prelude.{Contains, slice_index_or}
use Rattle.std.proofs.lemmas.Bool.{cases_lt}
use Rattle.std.proofs.lemmas.List.{get_or_past}
use Rattle.std.proofs.lemmas.List.Elements.{All-get_or}
use Rattle.run_types.specs.declared.trap.TrapKind.{TrapKind}
use Rattle.c_tree.specs.BareExpr.{Bytes, BareType, Thread as ThreadType}
use Rattle.c_tree.specs.BareDef.{BareDef}
use Rattle.c_semantics.specs.Texts.{definition, int}
use Rattle.c_semantics.specs.Values.{ThreadRef, Value, Number, Reference, Started}
use Rattle.c_semantics.specs.Stops.{Stop, Join, Lock}
use Rattle.c_semantics.specs.Pieces.{Halt, Stopped, Trapped, Nothing}
use Rattle.c_semantics.specs.Threads.{Enter, Frame, next_of}
use Rattle.source_model.specs.Worlds.{World, Slot, Free, Live, Over, in_slot}
use Rattle.source_model.specs.Waits.{Waiting, at_stop, held_by, is_there, joined, waits_after, waits_in_thread, waits_of}
use Rattle.version_laws.specs.Histories.{text_in}
use Rattle.typed_trees.specs.ValueTypes.{HasType, HaveTypes}
use Rattle.typed_trees.specs.ExpressionTypes.{IsMutex}
use Rattle.typed_trees.specs.PieceTypes.{Stack, StopTyped, Top}
use Rattle.typed_runs.specs.TypedFrames.{result_in, version_in}
use Rattle.typed_runs.specs.TypedWorlds.{tags_of}
use Rattle.bytecode.specs.Words.{word_of}
use Rattle.bytecode.specs.Meaning.{step, Traps}
use Rattle.tree_code.specs.Code.{Code}
use Rattle.tree_code.specs.CodedPieces.{At, Stops, coding}
use Rattle.tree_code.specs.CodeLaws.{CodeGoesOnAfterStops}
use Rattle.code_kinds.specs.WellFormed.{most_variables}
use Rattle.code_runs.specs.CodeData.{Names, thread_word}
use Rattle.code_runs.specs.CodeThreads.{CodeFrame, CodeNext, CodeSlot, CodeWorld, Enters, Rests, Free as CodeFree, Live as CodeLive, Over as CodeOver}
use Rattle.code_runs.specs.CodeMoves.{code_in}
use Rattle.code_runs.specs.CodeWaits.{Waits, WaitsNext, at_stop as code_at_stop, entering, joined as code_joined, joined_from, lives_as, stopping, trapping}
use Rattle.code_run_laws.specs.ThreadMatches.{FrameRests, NextMatches, RestsSo, SlotMatches}
use Rattle.code_run_laws.specs.WorldMatches.{Numbers, WorldMatches}
use Rattle.code_run_laws.proofs.OneEnd.{one_point, rests_at, rests_no_trap}
use Rattle.code_run_laws.proofs.SlotWords.{joined_at, joined_or, none_joined, word_test}
use Rattle.code_run_laws.proofs.SlotsMatching.{slot_matching}

-- what holds of each text and of none holds of that of each version
pub in_each : (P : List BareDef → Type 0) → P [] → (texts : List (List BareDef)) → All P texts → (n : ℕ) → P (text_in texts n)
in_each P none texts h zero = none
in_each P none texts h (suc n) = by (cases_lt n (length texts))
  where
    by : (n < length texts) ⊎ (length texts ≤ n) → P (slice_index_or texts n [])
    by (inl within) = All-get_or P texts n [] within h
    by (inr past) = subst P (sym (get_or_past texts n [] past)) none

-- a mutex of a version has a number
abbrev HasMutexes : Names → List BareDef → Type 0
HasMutexes names text = (name : Bytes) → IsMutex (definition text name) → Contains names.mutexes name

pub mutex_numbered : (names : Names) (texts : List (List BareDef)) → All (Numbers names) texts → (n : ℕ) → HasMutexes names (text_in texts n)
mutex_numbered names texts h zero name is = absurd is
mutex_numbered names texts h (suc n) name is = by (cases_lt n (length texts))
  where
    by : (n < length texts) ⊎ (length texts ≤ n) → Contains names.mutexes name
    by (inl within) = let numbers : Numbers names (slice_index_or texts n []) = All-get_or (Numbers names) texts n [] within h in numbers.mutexes name is
    by (inr past) = absurd (subst (λ text. IsMutex (definition text name)) (get_or_past texts n [] past) is)

module _ (resumed : CodeGoesOnAfterStops) (texts : List (List BareDef)) (names : Names) (numbers : All (Numbers names) texts) (w : World)
    (own : CodeWorld) (m : WorldMatches texts names w own) (going : w.finish ≡ None) where
  abbrev tags : List Bytes
  tags = tags_of w.objects

  -- ---- at a stop

  there_alike : (ref : ThreadRef) (x : Slot) (y : CodeSlot) → SlotMatches texts tags m.naming x y
      → is_there ref x ≡ lives_as (thread_word ref) ref.slot y
  there_alike ref Free CodeFree h = refl
  there_alike ref Free (CodeLive th) h = absurd h
  there_alike ref Free (CodeOver serial v) h = absurd h
  there_alike ref (Live th) CodeFree h = absurd h
  there_alike ref (Live th) (CodeLive own_th) h =
      ap (λ n. n == ref.serial) (sym h.serial) ∙ sym (word_test ref.slot own_th.serial ref refl)
  there_alike ref (Live th) (CodeOver serial v) h = absurd h
  there_alike ref (Over serial v) CodeFree h = absurd h
  there_alike ref (Over serial v) (CodeLive own_th) h = absurd h
  there_alike ref (Over serial v) (CodeOver own_serial u) h = refl

  joined_alike : (t : BareType) (v : Value) (left : List Value) → t ≡ ThreadType → HasType tags t v
      → joined w (v ∷ left) ≡ joined_from (word_of m.naming v) 0 own.slots
  joined_alike t v left is h = by v (subst (λ u. HasType tags u v) is h)
    where
      by : (v : Value) → HasType tags ThreadType v → joined w (v ∷ left) ≡ joined_from (word_of m.naming v) 0 own.slots
      by (Number n) h = absurd h
      by (Reference o) h = absurd h
      by (Started None) h = sym (none_joined own.slots 0)
      by (Started (Some ref)) h =
          ap (λ b. joined_or b ref.slot None)
          (there_alike ref (in_slot w ref.slot) (slice_index_or own.slots ref.slot CodeFree)
          (slot_matching texts tags m.naming w.slots own.slots ref.slot (m.slots going)))
          ∙ sym (ap (λ u. joined_from u 0 own.slots) (m.threads_named ref) ∙ joined_at ref own.slots 0 ref.slot (omega arith))

  join_waits : (then_are : Stack → Type 0) (stack : Stack) (values : List Value) → Top stack (λ t under. (t ≡ ThreadType) × then_are (int ∷ under))
      → HaveTypes tags stack values → joined w values ≡ code_joined own.slots (map (word_of m.naming) values)
  join_waits then_are [] values p h = absurd p
  join_waits then_are (t ∷ under) [] p h = absurd h
  join_waits then_are (t ∷ under) (v ∷ left) p h = joined_alike t v left p.0 h.0

  stop_waits : (t n : ℕ) (result : BareType) (then_are : Stack → Type 0) (x : Stop) (stack : Stack) (values : List Value)
      → StopTyped (version_in texts n) result x stack then_are → HaveTypes tags stack values
      → at_stop x w t values ≡ code_at_stop names own t x (map (word_of m.naming) values)
  stop_waits t n result then_are (Lock name) stack values p h =
      ap (held_by name t) (sym (m.shared.holders name (mutex_numbered names texts numbers n name p.0)))
  stop_waits t n result then_are Join stack values p h = join_waits then_are stack values p h
  stop_waits t n result then_are x stack values p h = refl

  -- ---- in a frame

  module _ (t : ℕ) (f : Frame) (own_f : CodeFrame) where
    abbrev code : Code
    code = code_in texts f.version f.function

    abbrev Resting : Halt → Type 0
    Resting x = RestsSo code (version_in texts f.version) (result_in texts f.version f.function) tags m.naming x own_f.state

    trap_waits : (x : Halt) (kind : TrapKind) → Resting x → step code own_f.state ≡ Traps kind → waits_after x w t ≡ None
    trap_waits (Stopped x n rest values scopes) kind h e =
        absurd (rests_no_trap (step code own_f.state) kind (rests_at code x n h.0 own_f.state h.1.0) e)
    trap_waits (Trapped other) kind h e = refl
    trap_waits Nothing kind h e = absurd h

    point_waits : (x : Halt) (y : Stop) (point after : ℕ) → Resting x → Stops code y point own_f.state.place after
        → waits_after x w t ≡ code_at_stop names own t y own_f.state.stack
    point_waits (Stopped x n rest values scopes) y point after h stops =
        let same = one_point code x y n point own_f.state.place h.0 after h.1.0 stops in
        stop_waits t f.version (result_in texts f.version f.function)
        (λ under. (coding code most_variables (version_in texts f.version) (result_in texts f.version f.function) rest).on under h.1.1.env (At h.0))
        x h.1.1.stack values
        (resumed code most_variables (version_in texts f.version) (result_in texts f.version f.function) x n rest h.1.1.stack h.1.1.env
        own_f.state.place h.0 h.1.1.coded h.1.0)
        h.1.1.values_have
        ∙ ap₂ (code_at_stop names own t) same.stop_is (sym h.1.1.words)
    point_waits (Trapped kind) y point after h stops =
        absurd (rests_no_trap (step code own_f.state) kind (rests_at code y point after own_f.state stops) h)
    point_waits Nothing y point after h stops = absurd h

  frame_waits : (t : ℕ) (f : Frame) (own_f : CodeFrame) (what : Option Waiting) → FrameRests texts tags m.naming f own_f
      → WaitsNext texts names own t (Rests own_f) what → waits_after (next_of f) w t ≡ what
  frame_waits t f own_f what h (trapping g kind e) =
      trap_waits t f own_f (next_of f) kind h.1
      (subst (λ c. step c own_f.state ≡ Traps kind) (ap₂ (code_in texts) h.0.version h.0.function) e)
  frame_waits t f own_f what h (stopping g y point after stops) =
      point_waits t f own_f (next_of f) y point after h.1
      (subst (λ c. Stops c y point own_f.state.place after) (ap₂ (code_in texts) h.0.version h.0.function) stops)

  -- ---- in a thread, in a slot

  pub next_waits : (t : ℕ) (e : Option Enter) (fs : List Frame) (next : CodeNext) (owns : List CodeFrame) (what : Option Waiting)
      → NextMatches texts tags m.naming e fs next owns → WaitsNext texts names own t next what → waits_in_thread e fs w t ≡ what
  next_waits t (Some e) fs (Enters due) owns what h (entering d) = refl
  next_waits t (Some e) fs (Rests own_f) owns what h waits = absurd h
  next_waits t None [] next owns what h waits = absurd h
  next_waits t None (f ∷ fs) (Enters due) owns what h waits = absurd h
  next_waits t None (f ∷ fs) (Rests own_f) owns what h waits = frame_waits t f own_f what h.0 waits

  slot_waits : (t : ℕ) (x : Slot) (y : CodeSlot) (what : Option Waiting) → SlotMatches texts tags m.naming x y → Waits texts names own t y what
      → waits_of x w t ≡ what
  slot_waits t Free CodeFree what h e = sym e
  slot_waits t Free (CodeLive th) what h e = absurd h
  slot_waits t Free (CodeOver serial v) what h e = absurd h
  slot_waits t (Live th) CodeFree what h e = absurd h
  slot_waits t (Live th) (CodeLive own_th) what h e = next_waits t th.entering th.frames own_th.next own_th.below what h.next e
  slot_waits t (Live th) (CodeOver serial v) what h e = absurd h
  slot_waits t (Over serial v) CodeFree what h e = absurd h
  slot_waits t (Over serial v) (CodeLive own_th) what h e = absurd h
  slot_waits t (Over serial v) (CodeOver own_serial u) what h e = sym e

  pub waits_alike : (t : ℕ) (what : Option Waiting) → Waits texts names own t (slice_index_or own.slots t CodeFree) what
      → waits_of (in_slot w t) w t ≡ what
  waits_alike t what waits =
      slot_waits t (in_slot w t) (slice_index_or own.slots t CodeFree) what
      (slot_matching texts tags m.naming w.slots own.slots t (m.slots going)) waits
