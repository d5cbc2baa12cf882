-- A stop on what threads share, made by a machine.
use Rattle.std.proofs.Common.{◌≡◌, ℕ, Bool, true, false, List, Option, Some, Result, Ok, Err, refl, sym, ap, subst, ◌∙◌}
use Rattle.std.specs.Prelude.{Vec}
use Rattle.std.specs.declared.alloc.AllocError.{AllocError}
use Rattle.std.specs.declared.alloc.Global.{Global}
use Rattle.c_semantics.specs.Names.{struct_name}
use Rattle.c_semantics.specs.Threads.{Frame as SeenFrame, Thread as SeenThread, next_of}
use Rattle.source_model.specs.Worlds.{World}
use Rattle.source_model.specs.Moves.{gone_on, perform}
use Rattle.local_evaluation.specs.declared.value.Value.{Value}
use Rattle.local_evaluation.specs.declared.piece.Stop.{Stop}
use Rattle.source_data.specs.declared.store.Store.{Store}
use Rattle.source_data.specs.declared.shared_stops.Did.{Did}
use Rattle.source_data.specs.declared.shared_stops.Did.TheVariants.{Nothing}
use Rattle.local_evaluation.specs.declared.work.Halt.{Halt}
use Rattle.source_runner.specs.declared.thread.Frame.{Frame}
use Rattle.source_runner.specs.declared.thread.Next.{Next}
use Rattle.source_runner.specs.declared.thread.Next.TheVariants as next
use Rattle.source_runner.specs.declared.thread.Thread.{Thread}
use Rattle.source_programs.specs.declared.programs.Programs.{Programs}
use Rattle.source_runner.specs.declared.machine.Machine.{Machine}
use Rattle.resolved_tree.specs.Nodes.{Table}
use Rattle.local_evaluation.specs.Pieces.{pending, stop_of}
use Rattle.local_evaluation.specs.Work.{newest, scopes_of, went}
use Rattle.source_programs.specs.Programs.{current_of, table_of, versions_of}
use Rattle.source_data.specs.Stores.{Kept, Performs, came_to, standing_with, with_store}
use Rattle.source_runner.specs.Machines.{IsFrame, IsReady, IsThread, IsUser, Moves, StandsBut, standing_at}
use Rattle.version_laws.proofs.SameDefinitions.{members_alike}
use Rattle.version_laws.proofs.TableHistories.{last_as_current}
use Rattle.source_runner.proofs.Halted.{true_is_not_false}

-- another store
pub stored : (m : Machine) (store : Store) (slot : ℕ) (w : World) (before : SeenThread) → StandsBut m slot w before
    → StandsBut (record m { store = store }) slot (with_store (table_of m.program) store w) before
stored m store slot w before h = record {
  all = record {
    program = h.all.program;
    history = h.all.history;
    text = h.all.text;
    store = refl;
    threads = h.all.threads;
    misused = h.all.misused;
    finish = h.all.finish;
    count = h.all.count;
  };
  within = h.within;
  others = h.others;
  taken = h.taken;
  own = h.own;
}

-- what the definitions make of the stop
pub performed : (m : Machine) (slot : ℕ) (th : Thread) (f : Frame) (stop : Stop) (point : ℕ) (w : World) (before user : SeenThread)
    (did : Did) (new : Store) (after : List Value) → StandsBut m slot w before
    → Performs (table_of m.program) (current_of m.program) slot (stop_of (table_of m.program) stop) m.store f.work.values.items did new after
    → perform (stop_of (table_of m.program) stop) (standing_at (table_of m.program) w slot th f point user) (newest f.work.values.items)
    ≡ came_to did (standing_with (table_of m.program) new (standing_at (table_of m.program) w slot th f point user)) (newest after)
performed m slot th f stop point w before user did new after h performs =
    let t = table_of m.program in
    let at : World → Option World = λ v. perform (stop_of t stop) (standing_at t v slot th f point user) (newest f.work.values.items) in
    ap at h.all.store ∙ performs (standing_at t w slot th f point user) refl
    (λ tag. members_alike _ _ (last_as_current (versions_of m.program) w.table h.all.history (struct_name tag)))

-- by what the stop came to
pub performed_as : (m : Machine) (slot : ℕ) (th : Thread) (f : Frame) (stop : Stop) (point : ℕ) (w : World) (before user : SeenThread)
    (did other : Did) (new : Store) (after : List Value) → StandsBut m slot w before
    → Performs (table_of m.program) (current_of m.program) slot (stop_of (table_of m.program) stop) m.store f.work.values.items did new after
    → did ≡ other
    → perform (stop_of (table_of m.program) stop) (standing_at (table_of m.program) w slot th f point user) (newest f.work.values.items)
    ≡ came_to other (standing_with (table_of m.program) new (standing_at (table_of m.program) w slot th f point user)) (newest after)
performed_as m slot th f stop point w before user did other new after h performs is =
    let t = table_of m.program in
    let by : Did → Option World = λ d. came_to d (standing_with t new (standing_at t w slot th f point user)) (newest after) in
    performed m slot th f stop point w before user did new after h performs ∙ ap by is

-- the frame with other values, at the stop's point
abbrev pub frame_then : Frame → ℕ → Vec Value Global → Frame
frame_then f point values = record f { standing = point; work = record f.work { values = values } }

-- the thread after it
pub went_on : (t : Table) (th : Thread) (f : Frame) (values : Vec Value Global) (point : ℕ) (w : World) (slot : ℕ) (user : SeenThread)
    → IsUser th user
    → IsReady t th (frame_then f point values) (gone_on (standing_at t w slot th f point user) (newest values.items))
went_on t th f values point w slot user h = record {
  serial = h.serial;
  depth = h.depth;
  entering = h.entering;
  frames = refl;
}

-- the thread where the run ends
pub trapped : (t : Table) (th : Thread) (n : Next) (frames : List SeenFrame) (over : Bool) (user : SeenThread) → over ≡ true
    → IsUser th user → IsThread t over th n (record user { frames = frames })
trapped t th n frames over user e h =
    record { serial = h.serial; depth = h.depth; does = λ going. absurd (true_is_not_false (sym e ∙ going)) }

-- a move that was made, from whatever world
pub moves_from : (m : Machine) (w v after : World) (r : Result Bool AllocError) → Moves m w r (Some after) → Moves m v r (Some after)
moves_from m w v after (Ok true) h = record { came = h.came }
moves_from m w v after (Ok false) h = record { came = h.came }
moves_from m w v after (Err e) h = record { came = h.came }

-- the store and the values are those that were there
pub same_store : (m : Machine) (store : Store) (slot : ℕ) (w : World) (before : SeenThread) → store ≡ m.store → StandsBut m slot w before
    → StandsBut (record m { store = store }) slot w before
same_store m store slot w before e h = subst (λ x. StandsBut (record m { store = x }) slot w before) (sym e) h

pub same_values : (t : Table) (over : Bool) (th : Thread) (f : Frame) (halt : Halt) (values : Vec Value Global) (own : SeenThread)
    → values.items ≡ f.work.values.items → IsThread t over th (next.Halt f halt) own
    → IsThread t over th (next.Halt (record f { work = record f.work { values = values } }) halt) own
same_values t over th f halt values own e h = record {
  serial = h.serial;
  depth = h.depth;
  does = λ going. let is = h.does going in (is.0, (is.1.0, is.1.1, with_values is.1.0 is.1.2));
}
  where
    with_values : (x : SeenFrame) → IsFrame t f halt x → IsFrame t (record f { work = record f.work { values = values } }) halt x
    with_values x i = record {
      function = i.function;
      version = i.version;
      standing = i.standing;
      next = subst (λ vs. next_of x ≡ went t (Some halt) (pending t f.work.pieces.items) (newest vs) (scopes_of t f.work.scopes.items)) (sym e) i.next;
    }

pub kept_as : (did : Did) (old new : Store) (values after : List Value) → did ≡ Nothing → Kept did old values new after
    → Kept Nothing old values new after
kept_as did old new values after e h = subst (λ d. Kept d old values new after) e h

-- the same in a machine whose program is the same
pub ready_in : (p q : Programs) (th : Thread) (f : Frame) (own : SeenThread) → p ≡ q → IsReady (table_of p) th f own
    → IsReady (table_of q) th f own
ready_in p q th f own e h = subst (λ x. IsReady (table_of x) th f own) e h
