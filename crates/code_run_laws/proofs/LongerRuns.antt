-- Frames go on in the code of their own versions where a newer text is installed.
use Rattle.std.proofs.Common.{◌≡◌, ℕ, ◌≤◌, List, [], ◌∷◌, ◌++◌, length, Option, Some, None, sym, ap, subst, arith}
use Rattle.c_tree.specs.BareExpr.{Bytes, BareType}
use Rattle.c_tree.specs.BareDef.{BareDef}
use Rattle.c_semantics.specs.Resolution.{resolved_body}
use Rattle.c_semantics.specs.Texts.{definition, parameters_of, result_type}
use Rattle.c_semantics.specs.Threads.{Enter, Frame, next_of}
use Rattle.source_model.specs.Worlds.{Slot}
use Rattle.source_model.specs.Worlds as world
use Rattle.version_laws.proofs.TableHistories.{one_longer, text_as_before}
use Rattle.typed_trees.specs.ValueTypes.{HaveTypes}
use Rattle.typed_trees.specs.ExpressionTypes.{IsFunction, parameter_types}
use Rattle.typed_runs.specs.TypedFrames.{EnterTyped, result_in}
use Rattle.bytecode.specs.Words.{Naming}
use Rattle.tree_code.specs.Code.{body_code}
use Rattle.code_runs.specs.CodeThreads.{CodeFrame, CodeNext, CodeSlot, Enters, Free, Live, Over, Rests}
use Rattle.code_run_laws.specs.ThreadMatches.{Awaits, BelowMatch, FrameAwaits, FrameRests, IsSame, NextMatches, RestsSo, SlotMatches, SlotsMatch}

module _ (texts : List (List BareDef)) (q : List BareDef) (tags : List Bytes) (naming : Naming) where
  abbrev longer : List (List BareDef)
  longer = texts ++ q ∷ []

  still_known : (n : ℕ) → n ≤ length texts → n ≤ length longer
  still_known n h = let e = one_longer texts q in omega (arith, h, e)

  result_still : (n : ℕ) (f : Bytes) → n ≤ length texts → result_in texts n f ≡ result_in longer n f
  result_still n f h = ap (λ text. result_type (definition text f)) (sym (text_as_before texts q n h))

  same_longer : (f : Frame) (own : CodeFrame) → IsSame texts tags naming f own → IsSame longer tags naming f own
  same_longer f own h = record { function = h.function; version = h.version; standing = h.standing; known = still_known f.version h.known }

  rests_longer : (f : Frame) (own : CodeFrame) → FrameRests texts tags naming f own → FrameRests longer tags naming f own
  rests_longer f own h = (
    same_longer f own h.0,
    subst
        (λ text. let look = definition text in
        RestsSo (body_code look (parameters_of (look f.function)) (result_type (look f.function)) (resolved_body look (look f.function))) look
        (result_type (look f.function)) tags naming (next_of f) own.state)
        (sym (text_as_before texts q f.version h.0.known)) h.1,
  )

  awaits_longer : (type : BareType) (f : Frame) (own : CodeFrame) → FrameAwaits texts tags naming type f own
      → FrameAwaits longer tags naming type f own
  awaits_longer type f own h = (
    same_longer f own h.0,
    subst
        (λ text. let look = definition text in
        Awaits (body_code look (parameters_of (look f.function)) (result_type (look f.function)) (resolved_body look (look f.function))) look
        (result_type (look f.function)) tags naming type f.pieces f.values f.scopes own.state)
        (sym (text_as_before texts q f.version h.0.known)) h.1,
  )

  below_longer : (type : BareType) (fs : List Frame) (owns : List CodeFrame) → BelowMatch texts tags naming type fs owns
      → BelowMatch longer tags naming type fs owns
  below_longer type [] [] h = h
  below_longer type [] (own ∷ owns) h = absurd h
  below_longer type (f ∷ fs) [] h = absurd h
  below_longer type (f ∷ fs) (own ∷ owns) h = (
    awaits_longer type f own h.0,
    subst (λ r. BelowMatch longer tags naming r fs owns) (result_still f.version f.function h.0.0.known)
        (below_longer (result_in texts f.version f.function) fs owns h.1),
  )

  enter_longer : (e : Enter) → EnterTyped texts tags e → EnterTyped longer tags e
  enter_longer e h = record {
    known = still_known e.version h.known;
    function = subst (λ text. IsFunction (definition text e.function)) (sym (text_as_before texts q e.version h.known)) h.function;
    arguments =
        subst (λ text. HaveTypes tags (parameter_types (definition text e.function)) e.arguments)
        (sym (text_as_before texts q e.version h.known)) h.arguments;
  }

  next_longer : (o : Option Enter) (fs : List Frame) (x : CodeNext) (owns : List CodeFrame) → NextMatches texts tags naming o fs x owns
      → NextMatches longer tags naming o fs x owns
  next_longer (Some e) fs (Enters own) owns h = (
    record {
      function = h.0.function;
      version = h.0.version;
      typed = enter_longer e h.0.typed;
      arguments = h.0.arguments;
      ranged = h.0.ranged;
    },
    subst (λ r. BelowMatch longer tags naming r fs owns) (result_still e.version e.function h.0.typed.known)
        (below_longer (result_in texts e.version e.function) fs owns h.1),
  )
  next_longer (Some e) fs (Rests own) owns h = absurd h
  next_longer None [] x owns h = absurd h
  next_longer None (f ∷ fs) (Enters own) owns h = absurd h
  next_longer None (f ∷ fs) (Rests own) owns h = (
    rests_longer f own h.0,
    subst (λ r. BelowMatch longer tags naming r fs owns) (result_still f.version f.function h.0.0.known)
        (below_longer (result_in texts f.version f.function) fs owns h.1),
  )

  slot_longer : (s : Slot) (own : CodeSlot) → SlotMatches texts tags naming s own → SlotMatches longer tags naming s own
  slot_longer world.Free Free h = tt
  slot_longer world.Free (Live own) h = absurd h
  slot_longer world.Free (Over serial w) h = absurd h
  slot_longer (world.Live th) Free h = absurd h
  slot_longer (world.Live th) (Live own) h =
      record { serial = h.serial; depth = h.depth; next = next_longer th.entering th.frames own.next own.below h.next }
  slot_longer (world.Live th) (Over serial w) h = absurd h
  slot_longer (world.Over serial v) Free h = absurd h
  slot_longer (world.Over serial v) (Live own) h = absurd h
  slot_longer (world.Over serial v) (Over own w) h = h

  pub slots_longer : (ss : List Slot) (owns : List CodeSlot) → SlotsMatch texts tags naming ss owns → SlotsMatch longer tags naming ss owns
  slots_longer [] [] h = tt
  slots_longer [] (own ∷ owns) h = absurd h
  slots_longer (s ∷ ss) [] h = absurd h
  slots_longer (s ∷ ss) (own ∷ owns) h = (slot_longer s own h.0, slots_longer ss owns h.1)
