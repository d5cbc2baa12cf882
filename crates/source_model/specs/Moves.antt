-- The moves of a thread: its local evaluation and one stop.
use Rattle.std.specs.Prelude.{ℕ, zero, suc, ◌==◌, Bool, true, false, ◌&&◌, ◌||◌, ℤ, pos, List, [], ◌∷◌, ◌++◌, length, take, drop, reverse, position, slice_get, slice_set, Option, Some, None, unwrap_or, unsigned_abs, int_lt, int_le, if◌then◌else◌}
use Rattle.run_types.specs.declared.trap.TrapKind.{TrapKind}
use Rattle.run_types.specs.declared.trap.TrapKind.TheVariants.{Null, Stale, Index, Depth, Relock, Unlock as NotHeld, MutexHeld, Join as NotJoined}
use Rattle.c_ints.specs.Number.{value_of}
use Rattle.c_tree.specs.BareExpr.{Bytes}
use Rattle.c_semantics.specs.Names.{struct_name}
use Rattle.c_semantics.specs.Texts.{members_of}
use Rattle.c_semantics.specs.Values.{ThreadRef, Value, Number, Reference, Started, int_of}
use Rattle.c_semantics.specs.Stops.{Stop, ReadGlobal, WriteGlobal, ReadElement, WriteElement, ReadField, WriteField, New, Free, Print, InitMutex, Lock, Unlock, Spawn, Join, Call, Return, Back, Begin, End, Update}
use Rattle.c_semantics.specs.Pieces.{Piece, Variable, Scopes, Halt, Stopped, Nothing}
use Rattle.c_semantics.specs.Pieces as halt
use Rattle.c_semantics.specs.Evaluation.{in_scope, with_value}
use Rattle.c_semantics.specs.Threads.{Frame, Enter, Thread, started, entered, next_of}
use Rattle.c_semantics.specs.Transformers.{zero_fields, first_cell}
use Rattle.source_model.specs.Versions.{current}
use Rattle.source_model.specs.Worlds.{World, Object, Slot, Live, Over, Finish, Finished, Trapped, now, is_over, in_slot, with_slot, with_thread, cells_of, with_cells, holder_of, with_holder, released, live_objects}
use Rattle.source_model.specs.Worlds as world
use Rattle.source_model.specs.Uses.{use_at, using}
use Rattle.source_model.specs.Waits.{must_wait}
use Rattle.source_model.specs.Printing.{printed}

-- a thread at a stop that it makes: the world, its slot, the thread, its innermost frame and the frames below it
pub record Standing : Type 0 where
  pub world : World
  pub slot : ℕ
  pub thread : Thread
  pub frame : Frame
  pub below : List Frame

-- how many frames a thread may have
abbrev pub frame_count : ℕ
frame_count = 256

-- the thread after its stop, with these values
abbrev pub gone_on : Standing → List Value → Thread
gone_on s values = record s.thread { frames = record s.frame { values = values } ∷ s.below }

-- the stop is made: the world changes, and the thread goes on with these values
abbrev pub goes_on : Standing → World → List Value → Option World
goes_on s w values = Some (with_thread s.slot (gone_on s values) w)

-- the stop traps, and with it the run ends
abbrev pub traps : Standing → TrapKind → Option World
traps s kind =
    Some (record (with_thread s.slot (gone_on s s.frame.values) s.world) { finish = Some (Trapped kind s.slot) })

-- an element of an array; an index outside it traps
abbrev pub in_bounds : ℤ → List Value → Bool
in_bounds i cells = int_le (pos 0) i && int_lt i (pos (length cells))

abbrev pub read_element : Standing → Bytes → List Value → Option World
read_element s name (Number i ∷ values) =
    let cells = cells_of s.world name in
    if in_bounds (value_of i) cells
    then goes_on s s.world (unwrap_or (slice_get cells (unsigned_abs (value_of i))) (int_of 0) ∷ values)
    else traps s Index
read_element s name _ = None

abbrev pub write_element : Standing → Bytes → List Value → Option World
write_element s name (v ∷ Number i ∷ values) =
    let cells = cells_of s.world name in
    if in_bounds (value_of i) cells
    then goes_on s (with_cells name (slice_set cells (unsigned_abs (value_of i)) v) s.world) (v ∷ values)
    else traps s Index
write_element s name _ = None

-- what is done with a live object; a null handle and the handle of an ended object trap
abbrev pub on_live : Standing → (Object → Option World) → Option Object → Option World
on_live s f None = traps s Stale
on_live s f (Some o) = if o.live then f o else traps s Stale

abbrev pub on_object : Standing → Option ℕ → (ℕ → Object → Option World) → Option World
on_object s None f = traps s Null
on_object s (Some n) f = on_live s (f n) (slice_get s.world.objects n)

-- an object changed
abbrev pub with_object : ℕ → Object → World → World
with_object n o w = record w { objects = slice_set w.objects n o }

abbrev pub read_field : Standing → Bytes → List Value → Option World
read_field s field (Reference r ∷ values) =
    on_object s r (λ n o. goes_on s s.world (unwrap_or (in_scope o.fields field) (int_of 0) ∷ values))
read_field s field _ = None

abbrev pub write_field : Standing → Bytes → List Value → Option World
write_field s field (v ∷ Reference r ∷ values) =
    on_object s r (λ n o. goes_on s (with_object n (record o { fields = with_value field v o.fields }) s.world) (v ∷ values))
write_field s field _ = None

-- a new object with its fields zero, or null where as many live as may
abbrev pub new_object : World → Bytes → Object
new_object w tag = record { tag = tag; fields = zero_fields (members_of (now w (struct_name tag))); live = true }

abbrev pub allocate : Standing → Bytes → List Value → Option World
allocate s tag values =
    let w = s.world in
    if live_objects w == w.capacity
    then goes_on s w (Reference None ∷ values)
    else goes_on s (record w { objects = w.objects ++ new_object w tag ∷ [] }) (Reference (Some (length w.objects)) ∷ values)

-- the end of an object; of the null handle it does nothing
abbrev pub release : Standing → List Value → Option World
release s (Reference None ∷ values) = goes_on s s.world (int_of 0 ∷ values)
release s (Reference (Some n) ∷ values) =
    on_live s (λ o. goes_on s (with_object n (record o { live = false }) s.world) (int_of 0 ∷ values))
    (slice_get s.world.objects n)
release s _ = None

-- the newest values that are n arguments, in their order
abbrev pub arguments_of : ℕ → List Value → List Value
arguments_of n values = reverse (take n values)

abbrev pub print : Standing → Bytes → ℕ → List Value → Option World
print s format n values =
    let w = s.world in
    goes_on s (record w { output = w.output ++ printed format (arguments_of n values) }) (int_of 0 ∷ drop n values)

-- mutexes, by who holds them
abbrev pub initialise : Standing → List Value → Option ℕ → Option World
initialise s values None = goes_on s s.world (int_of 0 ∷ values)
initialise s values (Some slot) = traps s MutexHeld

-- a lock that isn't waited for: a free mutex is taken, and one that the thread holds traps
abbrev pub lock : Standing → Bytes → List Value → Option ℕ → Option World
lock s name values None = goes_on s (with_holder name s.slot s.world) (int_of 0 ∷ values)
lock s name values (Some slot) = traps s Relock

abbrev pub unlock : Standing → Bytes → List Value → Option ℕ → Option World
unlock s name values None = traps s NotHeld
unlock s name values (Some slot) =
    if slot == s.slot then goes_on s (released name s.world) (int_of 0 ∷ values) else traps s NotHeld

-- whether nothing is in a slot
abbrev pub is_free : Slot → Bool
is_free world.Free = true
is_free (Live th) = false
is_free (Over serial result) = false

-- a thread started in the least free slot; where there is none, the handle names no thread
abbrev pub start_in : Standing → Enter → List Value → Option ℕ → Option World
start_in s enter values None = goes_on s s.world (Started None ∷ values)
start_in s enter values (Some t) =
    let w = s.world in
    let new = started w.threads enter in
    goes_on s (with_thread t new (record w { threads = suc w.threads }))
    (Started (Some (record { slot = t; serial = w.threads })) ∷ values)

abbrev pub spawn : Standing → Bytes → List Value → Option World
spawn s name (v ∷ values) =
    start_in s (record { function = name; arguments = v ∷ []; version = s.frame.version }) values
    (position is_free s.world.slots)
spawn s name _ = None

-- the join of a thread that isn't waited for: one that has ended gives its result, and its slot is free again
abbrev pub join_slot : Standing → ThreadRef → List Value → Slot → Option World
join_slot s ref values world.Free = traps s NotJoined
join_slot s ref values (Live th) = traps s NotJoined
join_slot s ref values (Over serial result) =
    if serial == ref.serial then goes_on s (with_slot ref.slot world.Free s.world) (result ∷ values) else traps s NotJoined

abbrev pub join : Standing → List Value → Option World
join s (Started None ∷ values) = traps s NotJoined
join s (Started (Some ref) ∷ values) = join_slot s ref values (in_slot s.world ref.slot)
join s _ = None

-- a call: the arguments are there, and the enter is the next move
abbrev pub call : Standing → Bytes → ℕ → List Value → Option World
call s name n values =
    let enter : Enter = record { function = name; arguments = arguments_of n values; version = s.frame.version } in
    Some (with_thread s.slot (record (gone_on s (drop n values)) { entering = Some enter }) s.world)

-- an int as a number
abbrev pub number_of : Value → ℤ
number_of (Number n) = value_of n
number_of _ = pos 0

-- the end of a thread's first frame: of main's, the run's end; else the thread's
abbrev pub finish_thread : Standing → Value → ℕ → Option World
finish_thread s v zero = Some (record s.world { finish = Some (Finished (number_of v)) })
finish_thread s v (suc t) = Some (with_slot s.slot (Over s.thread.serial v) s.world)

-- a return: its value goes to the frame that called
abbrev pub return_to : Standing → Value → List Frame → Option World
return_to s v [] = finish_thread s v s.slot
return_to s v (f ∷ fs) =
    Some (with_thread s.slot (record s.thread { frames = record f { values = v ∷ f.values } ∷ fs }) s.world)

abbrev pub return : Standing → List Value → Option World
return s (v ∷ values) = return_to s v s.below
return s _ = None

-- a transaction's begin; the outermost one empties the record
abbrev pub begin_at : Standing → ℕ → Thread → Option World
begin_at s zero th = Some (with_thread s.slot (record th { depth = 1; uses = [] }) s.world)
begin_at s (suc depth) th = Some (with_thread s.slot (record th { depth = suc (suc depth) }) s.world)

-- a transaction's end; the outermost one closes the record, and it is kept
abbrev pub end_at : Standing → ℕ → Thread → Option World
end_at s zero th = None
end_at s (suc zero) th =
    Some (with_thread s.slot (record th { depth = 0; uses = [] }) (record s.world { closed = s.world.closed ++ record { slot = s.slot; uses = th.uses } ∷ [] }))
end_at s (suc (suc depth)) th = Some (with_thread s.slot (record th { depth = suc depth }) s.world)

-- a write of a global leaves the value
abbrev pub write_global : Standing → Bytes → List Value → Option World
write_global s name (v ∷ values) = goes_on s (with_cells name (v ∷ []) s.world) (v ∷ values)
write_global s name _ = None

-- a stop, whose use was made
abbrev pub perform : Stop → Standing → List Value → Option World
perform (ReadGlobal name) s values = goes_on s s.world (first_cell (cells_of s.world name) ∷ values)
perform (WriteGlobal name) s values = write_global s name values
perform (ReadElement name) s values = read_element s name values
perform (WriteElement name) s values = write_element s name values
perform (ReadField tag field) s values = read_field s field values
perform (WriteField tag field) s values = write_field s field values
perform (New tag) s values = allocate s tag values
perform (Free tag) s values = release s values
perform (Print format n) s values = print s format n values
perform (InitMutex name) s values = initialise s values (holder_of s.world name)
perform (Lock name) s values = lock s name values (holder_of s.world name)
perform (Unlock name) s values = unlock s name values (holder_of s.world name)
perform (Spawn name) s values = spawn s name values
perform Join s values = join s values
perform (Call name n) s values = call s name n values
perform Return s values = return s values
perform Back s values = goes_on s s.world values
perform Begin s values = begin_at s s.thread.depth (gone_on s values)
perform End s values = end_at s s.thread.depth (gone_on s values)
perform Update s values = goes_on s s.world values

-- a stop with its use, which is made on behalf of the frame's version
abbrev pub with_use : Stop → World → ℕ → Thread → Frame → List Frame → Option Bytes → Option World
with_use s w t th f below None =
    perform s (record { world = w; slot = t; thread = th; frame = f; below = below }) f.values
with_use s w t th f below (Some name) =
    using w th f.version name
    (λ user. perform s (record { world = w; slot = t; thread = user; frame = f; below = below }) f.values)

abbrev pub stop_made : Stop → World → ℕ → Thread → Frame → List Frame → Option World
stop_made s w t th f below = with_use s w t th f below (use_at s)

-- after the local evaluation of the innermost frame: the stop, or the trap
abbrev pub behind : World → ℕ → Thread → Frame → List Frame → Halt → Option World
behind w t th f below (Stopped s n rest values scopes) =
    stop_made s w t th (record f { standing = n; pieces = rest; values = values; scopes = scopes }) below
behind w t th f below (halt.Trapped kind) = Some (record w { finish = Some (Trapped kind t) })
behind w t th f below Nothing = None

-- an enter: the function's current definition, in a frame of the current version; it traps where there is no room
abbrev pub frame_of : World → Enter → Frame
frame_of w e = entered (now w) e.function (current w.table) e.arguments

abbrev pub enter_with : World → ℕ → Enter → Thread → Option World
enter_with w t e th =
    if length th.frames == frame_count
    then Some (record (with_thread t th w) { finish = Some (Trapped Depth t) })
    else Some (with_thread t (record th { frames = frame_of w e ∷ th.frames; entering = None }) w)

-- its use is made on behalf of the version that called or spawned
abbrev pub enter : World → ℕ → Thread → Enter → Option World
enter w t th e = using w th e.version e.function (enter_with w t e)

-- a thread's move: the enter that is due, else the stop of its innermost frame
abbrev pub in_frames : World → ℕ → Thread → List Frame → Option World
in_frames w t th [] = None
in_frames w t th (f ∷ below) = behind w t th f below (next_of f)

abbrev pub thread_move : World → ℕ → Thread → Option Enter → Option World
thread_move w t th (Some e) = enter w t th e
thread_move w t th None = in_frames w t th th.frames

abbrev pub move_of : World → ℕ → Slot → Option World
move_of w t (Live th) = thread_move w t th th.entering
move_of w t world.Free = None
move_of w t (Over serial result) = None

-- the move of the thread in slot t; none where it can't move, since the run is over, it waits or it has nothing to do
abbrev pub move : World → ℕ → Option World
move w t = if is_over w || must_wait w t then None else move_of w t (in_slot w t)
