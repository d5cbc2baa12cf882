-- Frames and threads match as before where there are more objects, all of which are named.
use Rattle.std.proofs.Common.{List, [], ◌∷◌, length, Option, Some, None, sym, ◌∙◌}
use Rattle.c_tree.specs.BareExpr.{Bytes, BareType}
use Rattle.c_tree.specs.BareDef.{BareDef}
use Rattle.c_semantics.specs.Texts.{Definitions, int}
use Rattle.c_semantics.specs.Values.{Value}
use Rattle.c_semantics.specs.Pieces.{Piece, Scopes, Halt, Stopped, Trapped, Nothing, At}
use Rattle.c_semantics.specs.Threads.{Enter, Frame, Thread, next_of}
use Rattle.source_model.specs.Worlds.{Slot}
use Rattle.source_model.specs.Worlds as world
use Rattle.typed_runs.specs.TypedFrames.{result_in, version_in}
use Rattle.typed_runs.proofs.MoreObjects.{Grows, enter_still, scopes_still, value_still, values_still}
use Rattle.typed_trees.specs.ExpressionTypes.{parameter_types}
use Rattle.bytecode.specs.Words.{Naming}
use Rattle.bytecode.specs.Meaning.{State}
use Rattle.tree_code.specs.Code.{Code}
use Rattle.tree_code.specs.CodeLaws.{Matches}
use Rattle.code_kinds.specs.WellFormed.{most_variables}
use Rattle.code_runs.specs.CodeThreads.{CodeFrame, CodeEnter, CodeNext, CodeThread, CodeSlot, Enters, Rests, Free, Live, Over}
use Rattle.code_runs.specs.CodeMoves.{code_in}
use Rattle.code_run_laws.specs.ThreadMatches.{Awaits, BelowMatch, EnterMatches, FrameAwaits, FrameRests, IsSame, NextMatches, RestsSo, SlotMatches, SlotsMatch, ThreadMatches}
use Rattle.code_run_laws.proofs.SharedAlike.{MoreNamed}
use Rattle.code_run_laws.proofs.MoreNames.{holds_still, word_still, words_still}

module _ (tags more : List Bytes) (old new : Naming) (grows : Grows tags more) (named : MoreNamed (length tags) old new) where
  pub matches_still : (code : Code) (look : Definitions) (result : BareType) (ps : List Piece) (values : List Value) (scopes : Scopes) (s : State)
      → Matches code most_variables look result tags old ps values scopes s → Matches code most_variables look result more new ps values scopes s
  matches_still code look result ps values scopes s h = record {
    stack = h.stack;
    env = h.env;
    coded = h.coded;
    values_have = values_still tags more grows h.stack values h.values_have;
    scopes_have = scopes_still tags more grows h.env scopes h.scopes_have;
    ranged = h.ranged;
    words = h.words ∙ sym (words_still tags old new named h.stack values h.values_have);
    variables = holds_still tags old new named h.env scopes s.locals h.scopes_have h.variables;
    room = h.room;
  }

  awaits_still : (code : Code) (look : Definitions) (result type : BareType) (ps : List Piece) (values : List Value) (scopes : Scopes) (s : State)
      → Awaits code look result tags old type ps values scopes s → Awaits code look result more new type ps values scopes s
  awaits_still code look result type ps values scopes s h = record {
    stack = h.stack;
    env = h.env;
    coded = h.coded;
    values_have = values_still tags more grows h.stack values h.values_have;
    scopes_have = scopes_still tags more grows h.env scopes h.scopes_have;
    ranged = h.ranged;
    words = h.words ∙ sym (words_still tags old new named h.stack values h.values_have);
    variables = holds_still tags old new named h.env scopes s.locals h.scopes_have h.variables;
    room = h.room;
  }

  rests_still : (code : Code) (look : Definitions) (result : BareType) (x : Halt) (s : State)
      → RestsSo code look result tags old x s → RestsSo code look result more new x s
  rests_still code look result (Stopped x n rest values scopes) s h =
      (h.0, (h.1.0, matches_still code look result (At x n ∷ rest) values scopes s h.1.1))
  rests_still code look result (Trapped kind) s h = h
  rests_still code look result Nothing s h = absurd h

  module _ (texts : List (List BareDef)) where
    pub same_still : (f : Frame) (own : CodeFrame) → IsSame texts tags old f own → IsSame texts more new f own
    same_still f own h = record { function = h.function; version = h.version; standing = h.standing; known = h.known }

    frame_rests_still : (f : Frame) (own : CodeFrame) → FrameRests texts tags old f own → FrameRests texts more new f own
    frame_rests_still f own h = (
      same_still f own h.0,
      rests_still (code_in texts f.version f.function) (version_in texts f.version) (result_in texts f.version f.function) (next_of f) own.state h.1,
    )

    frame_awaits_still : (type : BareType) (f : Frame) (own : CodeFrame) → FrameAwaits texts tags old type f own
        → FrameAwaits texts more new type f own
    frame_awaits_still type f own h = (
      same_still f own h.0,
      awaits_still (code_in texts f.version f.function) (version_in texts f.version) (result_in texts f.version f.function) type f.pieces f.values
          f.scopes own.state h.1,
    )

    pub below_match_still : (type : BareType) (fs : List Frame) (owns : List CodeFrame) → BelowMatch texts tags old type fs owns
        → BelowMatch texts more new type fs owns
    below_match_still type [] [] h = h
    below_match_still type [] (own ∷ owns) h = absurd h
    below_match_still type (f ∷ fs) [] h = absurd h
    below_match_still type (f ∷ fs) (own ∷ owns) h =
        (frame_awaits_still type f own h.0, below_match_still (result_in texts f.version f.function) fs owns h.1)

    enter_match_still : (e : Enter) (own : CodeEnter) → EnterMatches texts tags old e own → EnterMatches texts more new e own
    enter_match_still e own h = record {
      function = h.function;
      version = h.version;
      typed = enter_still tags more grows texts e h.typed;
      arguments =
          h.arguments
          ∙ sym (words_still tags old new named (parameter_types (version_in texts e.version e.function)) e.arguments h.typed.arguments);
      ranged = h.ranged;
    }

    next_still : (e : Option Enter) (fs : List Frame) (own : CodeNext) (owns : List CodeFrame) → NextMatches texts tags old e fs own owns
        → NextMatches texts more new e fs own owns
    next_still (Some e) fs (Enters own) owns h =
        (enter_match_still e own h.0, below_match_still (result_in texts e.version e.function) fs owns h.1)
    next_still (Some e) fs (Rests own) owns h = absurd h
    next_still None [] own owns h = absurd h
    next_still None (f ∷ fs) (Enters own) owns h = absurd h
    next_still None (f ∷ fs) (Rests own) owns h =
        (frame_rests_still f own h.0, below_match_still (result_in texts f.version f.function) fs owns h.1)

    pub thread_still : (th : Thread) (own : CodeThread) → ThreadMatches texts tags old th own → ThreadMatches texts more new th own
    thread_still th own h =
        record { serial = h.serial; depth = h.depth; next = next_still th.entering th.frames own.next own.below h.next }

    slot_still : (s : Slot) (own : CodeSlot) → SlotMatches texts tags old s own → SlotMatches texts more new s own
    slot_still world.Free Free h = tt
    slot_still world.Free (Live own) h = absurd h
    slot_still world.Free (Over serial w) h = absurd h
    slot_still (world.Live th) Free h = absurd h
    slot_still (world.Live th) (Live own) h = thread_still th own h
    slot_still (world.Live th) (Over serial w) h = absurd h
    slot_still (world.Over serial v) Free h = absurd h
    slot_still (world.Over serial v) (Live own) h = absurd h
    slot_still (world.Over serial v) (Over own w) h =
        (h.0, (h.1.0 ∙ sym (word_still tags old new named int v h.1.1.1), (h.1.1.0, value_still tags more grows int v h.1.1.1)))

    pub slots_still : (ss : List Slot) (owns : List CodeSlot) → SlotsMatch texts tags old ss owns → SlotsMatch texts more new ss owns
    slots_still [] [] h = tt
    slots_still [] (own ∷ owns) h = absurd h
    slots_still (s ∷ ss) [] h = absurd h
    slots_still (s ∷ ss) (own ∷ owns) h = (slot_still s own h.0, slots_still ss owns h.1)
