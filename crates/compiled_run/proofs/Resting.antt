-- What a thread of code does next is what the source machine's thread does.
use Rattle.std.proofs.Common.{◌≡◌, ℕ, List, [], ◌∷◌, Option, Some, None, refl, sym, ap₂, subst}
use Rattle.run_types.specs.declared.trap.TrapKind.{TrapKind}
use Rattle.c_tree.specs.BareExpr.{Bytes, BareType}
use Rattle.c_tree.specs.BareDef.{BareDef}
use Rattle.c_semantics.specs.Texts.{Definitions}
use Rattle.c_semantics.specs.Values.{Value}
use Rattle.c_semantics.specs.Stops.{Stop}
use Rattle.c_semantics.specs.Pieces.{Halt, Nothing, Piece, Scopes, Stopped, Trapped}
use Rattle.c_semantics.specs.Threads.{Enter, Frame, Thread, next_of}
use Rattle.typed_runs.specs.TypedFrames.{result_in, version_in}
use Rattle.bytecode.specs.Words.{Naming}
use Rattle.bytecode.specs.Meaning.{State, step, Traps}
use Rattle.tree_code.specs.Code.{Code}
use Rattle.tree_code.specs.CodedPieces.{Stops}
use Rattle.code_runs.specs.CodeThreads.{CodeEnter, CodeFrame, Enters, Rests}
use Rattle.code_runs.specs.CodeMoves.{code_in, frame_code}
use Rattle.code_run_laws.specs.ThreadMatches.{BelowMatch, EnterMatches, IsSame, NextMatches, RestsSo}
use Rattle.code_run_laws.proofs.OneEnd.{one_point, rests_at, rests_no_trap}

module _ (texts : List (List BareDef)) (tags : List Bytes) (naming : Naming) where
  -- ---- a thread that rests

  pub record RestsAlike (th : Thread) (own : CodeFrame) (owns : List CodeFrame) : Type 0 where
    pub frame : Frame
    pub below : List Frame
    pub entering : th.entering ≡ None
    pub frames : th.frames ≡ frame ∷ below
    pub same : IsSame texts tags naming frame own
    pub rests : RestsSo (frame_code texts own) (version_in texts frame.version) (result_in texts frame.version frame.function) tags naming
        (next_of frame) own.state
    pub under : BelowMatch texts tags naming (result_in texts frame.version frame.function) below owns

  pub rests_alike : (th : Thread) (own : CodeFrame) (owns : List CodeFrame)
      → NextMatches texts tags naming th.entering th.frames (Rests own) owns → RestsAlike th own owns
  rests_alike th own owns m = by th.entering refl th.frames refl m
    where
      by : (e : Option Enter) → th.entering ≡ e → (fs : List Frame) → th.frames ≡ fs → NextMatches texts tags naming e fs (Rests own) owns
          → RestsAlike th own owns
      by (Some e) entering fs frames m = absurd m
      by None entering [] frames m = absurd m
      by None entering (f ∷ fs) frames m = record {
        frame = f;
        below = fs;
        entering = entering;
        frames = frames;
        same = m.0.0;
        rests =
            subst (λ code. RestsSo code (version_in texts f.version) (result_in texts f.version f.function) tags naming (next_of f) own.state)
            (sym (ap₂ (code_in texts) m.0.0.version m.0.0.function)) m.0.1;
        under = m.1;
      }

  -- ---- a thread that enters

  pub record EntersAlike (th : Thread) (own : CodeEnter) (owns : List CodeFrame) : Type 0 where
    pub enter : Enter
    pub entering : th.entering ≡ Some enter
    pub matches : EnterMatches texts tags naming enter own
    pub under : BelowMatch texts tags naming (result_in texts enter.version enter.function) th.frames owns

  pub enters_alike : (th : Thread) (own : CodeEnter) (owns : List CodeFrame)
      → NextMatches texts tags naming th.entering th.frames (Enters own) owns → EntersAlike th own owns
  enters_alike th own owns m = by th.entering refl m
    where
      none : (fs : List Frame) → NextMatches texts tags naming None fs (Enters own) owns → ⊥
      none [] m = absurd m
      none (f ∷ fs) m = absurd m

      by : (e : Option Enter) → th.entering ≡ e → NextMatches texts tags naming e th.frames (Enters own) owns → EntersAlike th own owns
      by (Some e) entering m = record { enter = e; entering = entering; matches = m.0; under = m.1 }
      by None entering m = absurd (none th.frames m)

-- ---- where its private instructions end

module _ (code : Code) (look : Definitions) (result : BareType) (tags : List Bytes) (naming : Naming) (at : State) where
  abbrev Resting : Halt → Type 0
  Resting x = RestsSo code look result tags naming x at

  -- at a stop
  pub record StopsAt (x : Halt) (s : Stop) (n : ℕ) : Type 0 where
    pub rest : List Piece
    pub values : List Value
    pub scopes : Scopes
    pub is : x ≡ Stopped s n rest values scopes

  pub stops_at : (x : Halt) (s : Stop) (n after : ℕ) → Resting x → Stops code s n at.place after → StopsAt x s n
  stops_at (Stopped x m rest values scopes) s n after h there =
      let same = one_point code x s m n at.place h.0 after h.1.0 there in
      record { rest = rest; values = values; scopes = scopes; is = ap₂ (λ y k. Stopped y k rest values scopes) same.stop_is same.number_is }
  stops_at (Trapped kind) s n after h there = absurd (rests_no_trap (step code at) kind (rests_at code s n after at there) h)
  stops_at Nothing s n after h there = absurd h

  -- at an operator's trap
  pub traps_at : (x : Halt) (kind : TrapKind) → Resting x → step code at ≡ Traps kind → (other : TrapKind) × (x ≡ Trapped other)
  traps_at (Stopped x m rest values scopes) kind h e = absurd (rests_no_trap (step code at) kind (rests_at code x m h.0 at h.1.0) e)
  traps_at (Trapped other) kind h e = (other, refl)
  traps_at Nothing kind h e = absurd h

  -- at nothing else
  pub not_lost : (x : Halt) → Resting x → ((kind : TrapKind) → step code at ≡ Traps kind → ⊥)
      → ((s : Stop) (n after : ℕ) → Stops code s n at.place after → ⊥) → ⊥
  not_lost (Stopped x m rest values scopes) h no_trap no_stop = no_stop x m h.0 h.1.0
  not_lost (Trapped kind) h no_trap no_stop = no_trap kind h
  not_lost Nothing h no_trap no_stop = absurd h
