-- Laws of the source machine: what shows that the definitions say what is meant.
use Rattle.std.specs.Prelude.{◌≡◌, ◌≢◌, ℕ, ◌≤◌, ◌<◌, ◌↔◌, IsTrue, List, ◌∷◌, ◌++◌, Contains, Option, Some, None}
use Rattle.std.specs.Option.{is_some, option_and_then}
use Rattle.c_tree.specs.BareExpr.{Bytes}
use Rattle.c_tree.specs.BareDef.{BareDef}
use Rattle.c_semantics.specs.Stops.{Lock}
use Rattle.c_semantics.specs.Threads.{Record, Thread}
use Rattle.c_semantics.specs.Values.{ThreadRef, Value, Started}
use Rattle.source_model.specs.Versions.{Entry, Versioned, Table, AllApart, current}
use Rattle.source_model.specs.Worlds.{World, Limits, Live, holder_of, in_slot}
use Rattle.source_model.specs.Uses.{IsConsistent}
use Rattle.source_model.specs.Spans.{shared}
use Rattle.source_model.specs.Moves.{Standing, join, move}
use Rattle.source_model.specs.Waits.{Waiting, ForMutex, at_stop, waits_for}
use Rattle.source_model.specs.Installs.{installed}
use Rattle.source_model.specs.Runs.{SourceMove, step, run, start}

-- moves made in two parts are the moves made as a whole
abbrev pub TwoParts : Type 0
TwoParts =
    (texts : List (List BareDef)) (ms ns : List SourceMove) (w : World)
    → run texts (ms ++ ns) w ≡ option_and_then (run texts ns) (run texts ms w)

-- where a definition was misused, nothing moves and nothing is installed
abbrev pub MarkedStands : Type 0
MarkedStands = (texts : List (List BareDef)) (m : SourceMove) (w : World) → IsTrue w.misused → step texts m w ≡ None

-- an install changes no thread, and so no frame
abbrev pub InstallKeepsThreads : Type 0
InstallKeepsThreads = (q : List BareDef) (w : World) → (installed q w).slots ≡ w.slots

-- an install prints nothing
abbrev pub InstallKeepsOutput : Type 0
InstallKeepsOutput = (q : List BareDef) (w : World) → (installed q w).output ≡ w.output

-- a move changes no other thread
abbrev pub OthersStay : Type 0
OthersStay =
    (w after : World) (t k : ℕ) (th : Thread) → move w t ≡ Some after → k ≢ t → in_slot w k ≡ Live th → in_slot after k ≡ Live th

-- what was printed stays, and more may come after it
abbrev pub Grows : World → World → Type 0
Grows w after = (more : List ℕ) × (after.output ≡ w.output ++ more)

abbrev pub OutputGrows : Type 0
OutputGrows =
    (texts : List (List BareDef)) (ms : List SourceMove) (w after : World) → run texts ms w ≡ Some after → Grows w after

-- no entry belongs to a version above the current one
abbrev pub CurrentIsGreatest : Type 0
CurrentIsGreatest =
    (table : Table) (v : Versioned) (e : Entry) (n : ℕ)
    → Contains table v → Contains v.entries e → Contains e.versions n → n ≤ current table

-- in each world that a run comes to, the entries of a name have no version in common
abbrev pub EntriesApart : Type 0
EntriesApart =
    (texts : List (List BareDef)) (limits : Limits) (ms : List SourceMove) (w after : World)
    → start texts limits ≡ Some w → run texts ms w ≡ Some after → AllApart after.table

-- in each world that a run comes to and that has a version, a record is consistent exactly where its uses share some
abbrev pub SharedIsConsistent : Type 0
SharedIsConsistent =
    (texts : List (List BareDef)) (limits : Limits) (ms : List SourceMove) (w after : World) (uses : Record)
    → start texts limits ≡ Some w → run texts ms w ≡ Some after → 0 < current after.table
    → IsConsistent after.table uses ↔ ((v : ℕ) × Contains (shared after.table uses) v)

-- who waits can't move
abbrev pub WaitersStand : Type 0
WaitersStand = (w : World) (slot : ℕ) (what : Waiting) → waits_for w slot ≡ Some what → move w slot ≡ None

-- a lock waits for a mutex exactly where another slot holds it
abbrev pub LocksWait : Type 0
LocksWait =
    (name : Bytes) (w : World) (slot holder : ℕ) (values : List Value)
    → at_stop (Lock name) w slot values ≡ Some (ForMutex name holder) ↔ (holder_of w name ≡ Some holder) × (holder ≢ slot)

-- a join that doesn't wait is made, or traps
abbrev pub JoinsAreMade : Type 0
JoinsAreMade = (s : Standing) (named : Option ThreadRef) (values : List Value) → IsTrue (is_some (join s (Started named ∷ values)))
