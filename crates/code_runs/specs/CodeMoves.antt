-- The moves of threads of code: a stop, or an enter, and then private instructions up to the next stop.
use Rattle.std.specs.Prelude.{◌≡◌, ℕ, zero, suc, ◌==◌, ◌<◌, Bool, true, false, List, [], ◌∷◌, ◌++◌, length, take, drop, reverse, slice_set, Option, Some, None, if◌then◌else◌}
use Rattle.std.specs.List.{position}
use Rattle.run_types.specs.declared.trap.TrapKind.{TrapKind}
use Rattle.run_types.specs.declared.trap.TrapKind.TheVariants.{Depth, Join as NotJoined}
use Rattle.c_ints.specs.declared.kind.Kind.TheVariants.{I32}
use Rattle.c_tree.specs.BareExpr.{Bytes}
use Rattle.c_tree.specs.BareDef.{BareDef}
use Rattle.c_semantics.specs.Resolution.{resolved_body}
use Rattle.c_semantics.specs.Texts.{definition, parameters_of, result_type}
use Rattle.c_semantics.specs.Stops.{Stop, Spawn, Join, Call, Return, Begin, End}
use Rattle.source_model.specs.Worlds.{Finished, Trapped}
use Rattle.source_model.specs.Moves.{frame_count}
use Rattle.version_laws.specs.Histories.{last_text, text_in}
use Rattle.bytecode.specs.Words.{number_at}
use Rattle.bytecode.specs.Meaning.{State, Runs, step, Rests as RestsAt, Traps as TrapsAt}
use Rattle.tree_code.specs.Code.{Code, body_code}
use Rattle.tree_code.specs.CodedPieces.{Stops}
use Rattle.code_kinds.specs.WellFormed.{most_variables}
use Rattle.code_runs.specs.CodeData.{Data, Names, thread_word}
use Rattle.code_runs.specs.CodeThreads.{CodeFrame, CodeEnter, CodeThread, CodeSlot, CodeWorld, Enters, Rests, Free, Live, Over, starting}
use Rattle.code_runs.specs.SharedStops.{Came, Done, Does, One, On, Traps}
use Rattle.code_runs.specs.Layouts.{Freshens}

-- the code of a function in a version, by the texts of the versions so far
abbrev pub code_in : List (List BareDef) → ℕ → Bytes → Code
code_in texts version function =
    let look = definition (text_in texts version) in
    body_code look (parameters_of (look function)) (result_type (look function)) (resolved_body look (look function))

abbrev pub frame_code : List (List BareDef) → CodeFrame → Code
frame_code texts f = code_in texts f.version f.function

-- ---- private instructions

-- they come to a point or to an operator's trap
pub data Ends (code : Code) (s : State) : Type 0 where
  rests : step code s ≡ RestsAt → Ends code s
  traps : (kind : TrapKind) → step code s ≡ TrapsAt kind → Ends code s

-- a frame goes on from a place with words on its stack, having stopped at a point
pub record GoesOn (texts : List (List BareDef)) (f : CodeFrame) (place : ℕ) (stack : List ℕ) (standing : ℕ) (next : CodeFrame) : Type 0 where
  pub function : next.function ≡ f.function
  pub version : next.version ≡ f.version
  pub stood : next.standing ≡ standing
  pub runs : Runs (frame_code texts f) (record { place = place; stack = stack; locals = f.state.locals }) next.state
  pub ends : Ends (frame_code texts f) next.state

-- ---- slots

abbrev pub with_slot : ℕ → CodeSlot → CodeWorld → CodeWorld
with_slot t s c = record c { slots = slice_set c.slots t s }

abbrev pub with_thread : ℕ → CodeThread → CodeWorld → CodeWorld
with_thread t th c = with_slot t (Live th) c

-- the run ended with a trap of the thread in a slot
abbrev pub trapped : TrapKind → ℕ → CodeWorld → CodeWorld
trapped kind t c = record c { finish = Some (Trapped kind t) }

abbrev pub is_free : CodeSlot → Bool
is_free Free = true
is_free (Live th) = false
is_free (Over serial w) = false

-- a thread with another innermost frame
abbrev pub going : CodeThread → CodeFrame → CodeThread
going th f = record th { next = Rests f }

-- the word that a thread left, with its slot, where its word is the one given
abbrev pub left_in : ℕ → ℕ → CodeSlot → Option ℕ
left_in w t (Over serial v) = if thread_word (record { slot = t; serial = serial }) == w then Some v else None
left_in w t Free = None
left_in w t (Live th) = None

abbrev pub or_else : Option (ℕ × ℕ) → Option (ℕ × ℕ) → Option (ℕ × ℕ)
or_else None b = b
or_else (Some a) b = Some a

abbrev pub with_place : ℕ → Option ℕ → Option (ℕ × ℕ)
with_place t None = None
with_place t (Some v) = Some (t, v)

abbrev pub left_from : ℕ → ℕ → List CodeSlot → Option (ℕ × ℕ)
left_from w t [] = None
left_from w t (s ∷ ss) = or_else (with_place t (left_in w t s)) (left_from w (suc t) ss)

-- ---- stops

-- the thread in a slot, at a stop
pub record At : Type 0 where
  pub slot : ℕ
  pub thread : CodeThread
  pub frame : CodeFrame
  pub point : ℕ
  pub after : ℕ

-- the frame goes on after its stop with these words on its stack, in a world
abbrev pub Continues : List (List BareDef) → At → CodeThread → List ℕ → CodeWorld → CodeWorld → Type 0
Continues texts a th stack w new =
    (next : CodeFrame) × (GoesOn texts a.frame a.after stack a.point next × (new ≡ with_thread a.slot (going th next) w))

-- a stop that changes no other thread
abbrev pub Comes : List (List BareDef) → At → CodeWorld → Data → Came → CodeWorld → Type 0
Comes texts a w d (On stack) new = Continues texts a a.thread stack (record w { shared = d }) new
Comes texts a w d (Traps kind) new = new ≡ trapped kind a.slot (record w { shared = d })

-- a thread started in a slot, if one is free
abbrev pub Spawned : List (List BareDef) → At → CodeWorld → CodeEnter → List ℕ → Option ℕ → CodeWorld → Type 0
Spawned texts a w e under None new = Continues texts a a.thread (0 ∷ under) w new
Spawned texts a w e under (Some t) new =
    Continues texts a a.thread (thread_word (record { slot = t; serial = w.threads }) ∷ under)
    (with_thread t (starting w.threads e) (record w { threads = suc w.threads })) new

-- the join of a thread that isn't waited for
abbrev pub Joined : List (List BareDef) → At → CodeWorld → List ℕ → Option (ℕ × ℕ) → CodeWorld → Type 0
Joined texts a w under None new = new ≡ trapped NotJoined a.slot w
Joined texts a w under (Some p) new = Continues texts a a.thread (p.1 ∷ under) (with_slot p.0 Free w) new

-- the end of a thread's first frame: of main's, the run's end; else the thread's
abbrev pub ended : CodeWorld → ℕ → ℕ → ℕ → CodeWorld
ended w zero serial v = record w { finish = Some (Finished (number_at I32 v)) }
ended w (suc t) serial v = with_slot (suc t) (Over serial v) w

-- a return: its word goes to the frame that called, which goes on where it waits
abbrev pub Returned : List (List BareDef) → At → CodeWorld → ℕ → List CodeFrame → CodeWorld → Type 0
Returned texts a w v [] new = new ≡ ended w a.slot a.thread.serial v
Returned texts a w v (f ∷ fs) new =
    (next : CodeFrame) × (GoesOn texts f f.state.place (v ∷ f.state.stack) f.standing next
    × (new ≡ with_thread a.slot (record a.thread { next = Rests next; below = fs }) w))

-- a call: the frame waits after its stop, without the arguments
abbrev pub called : At → Bytes → ℕ → CodeThread
called a name n =
    let f = a.frame in
    record a.thread {
      next = Enters (record { function = name; arguments = reverse (take n f.state.stack); version = f.version });
      below = record f { standing = a.point; state = record f.state { place = a.after; stack = drop n f.state.stack } } ∷ a.thread.below;
    }

-- the end of a transaction, in one
abbrev pub Closes : List (List BareDef) → At → CodeWorld → ℕ → CodeWorld → Type 0
Closes texts a w zero new = ⊥
Closes texts a w (suc depth) new = Continues texts a (record a.thread { depth = depth }) a.frame.state.stack w new

-- a stop of a thread: the world after it and what it printed. A stop that changes no other thread is made once the object that it uses
-- has the layout of the text in force
abbrev pub StopMade : List (List BareDef) → Names → At → Stop → CodeWorld → CodeWorld → List ℕ → Type 0
StopMade texts names a (Spawn name) w new printed =
    (printed ≡ []) × One a.frame.state.stack (λ v under.
    Spawned texts a w (record { function = name; arguments = v ∷ []; version = a.frame.version }) under (position is_free w.slots) new)
StopMade texts names a Join w new printed =
    (printed ≡ []) × One a.frame.state.stack (λ v under. Joined texts a w under (left_from v 0 w.slots) new)
StopMade texts names a (Call name n) w new printed = (printed ≡ []) × (new ≡ with_thread a.slot (called a name n) w)
StopMade texts names a Return w new printed =
    (printed ≡ []) × One a.frame.state.stack (λ v under. Returned texts a w v a.thread.below new)
StopMade texts names a Begin w new printed =
    (printed ≡ []) × Continues texts a (record a.thread { depth = suc a.thread.depth }) a.frame.state.stack w new
StopMade texts names a End w new printed = (printed ≡ []) × Closes texts a w a.thread.depth new
StopMade texts names a s w new printed =
    (d : Data) × (Freshens texts names s a.frame.state.stack w.shared d
    × ((x : Done) × (Does names (last_text texts) a.slot s d a.frame.state.stack x
    × ((printed ≡ x.printed) × Comes texts a w x.shared x.came new))))

-- ---- moves

-- a function that is entered in the version in force: its variables begin with its arguments, of which the last is the first
-- variable; it is after its entry check-in
pub record IsEntered (texts : List (List BareDef)) (e : CodeEnter) (f : CodeFrame) : Type 0 where
  pub function : f.function ≡ e.function
  pub version : f.version ≡ length texts
  pub others : List ℕ
  pub locals : f.state.locals ≡ reverse e.arguments ++ others
  pub room : length f.state.locals ≡ most_variables

-- the move of a thread that lives in a slot, in a run that hasn't ended
pub data Moves (texts : List (List BareDef)) (names : Names) (w : CodeWorld) (t : ℕ) (th : CodeThread) : CodeWorld → List ℕ → Type 0 where
  -- it enters a function
  enters : (e : CodeEnter) (f next : CodeFrame) → th.next ≡ Enters e → length th.below < frame_count → IsEntered texts e f
      → GoesOn texts f 1 [] 0 next → Moves texts names w t th (with_thread t (going th next) w) []
  -- there is no room for one more frame
  overflows : (e : CodeEnter) → th.next ≡ Enters e → length th.below ≡ frame_count
      → Moves texts names w t th (trapped Depth t w) []
  -- an operator traps
  traps : (f : CodeFrame) (kind : TrapKind) → th.next ≡ Rests f → step (frame_code texts f) f.state ≡ TrapsAt kind
      → Moves texts names w t th (trapped kind t w) []
  -- it makes a stop
  stops : (f : CodeFrame) (s : Stop) (point after : ℕ) (new : CodeWorld) (printed : List ℕ) → th.next ≡ Rests f
      → Stops (frame_code texts f) s point f.state.place after
      → StopMade texts names (record { slot = t; thread = th; frame = f; point = point; after = after }) s w new printed
      → Moves texts names w t th new printed
