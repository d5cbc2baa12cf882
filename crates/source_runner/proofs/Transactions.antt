-- A thread that begins or ends a transaction.
use Rattle.std.proofs.Common.{◌≡◌, ℕ, zero, suc, ◌+◌, [], ◌∷◌, ◌++◌, Option, Some, refl, sym, ap, ◌∙◌, arith}
use Rattle.c_semantics.specs.Threads.{Record, Thread as SeenThread}
use Rattle.source_model.specs.Worlds.{World, with_thread}
use Rattle.source_model.specs.Moves.{begin_at, end_at, gone_on}
use Rattle.source_runner.specs.declared.thread.Frame.{Frame}
use Rattle.source_runner.specs.declared.thread.Thread.{Thread}
use Rattle.source_runner.specs.declared.machine.Machine.{Machine}
use Rattle.resolved_tree.specs.Nodes.{Table}
use Rattle.local_evaluation.specs.Work.{newest}
use Rattle.source_runner.specs.Machines.{IsReady, IsUser, StandsBut, standing_at}

-- what a move makes where it is made: a thread that is ready, in its slot
abbrev pub Goes : Table → World → ℕ → Thread → Frame → Option World → Type 0
Goes t w slot th f o = (after : SeenThread) × (o ≡ Some (with_thread slot after w)) × IsReady t th f after

pub begins : (t : Table) (w : World) (slot : ℕ) (th : Thread) (f : Frame) (point : ℕ) (user : SeenThread) (d deeper : ℕ)
    → d ≡ th.depth → deeper ≡ th.depth + 1 → IsUser th user
    → Goes t w slot (record th { depth = deeper }) (record f { standing = point })
    (begin_at (standing_at t w slot th f point user) d (gone_on (standing_at t w slot th f point user) (newest f.work.values.items)))
begins t w slot th f point user zero deeper e deep h = (
  record (gone_on (standing_at t w slot th f point user) (newest f.work.values.items)) { depth = 1; uses = [] },
  refl,
  record { serial = h.serial; depth = omega (arith, e, deep); entering = h.entering; frames = refl },
)
begins t w slot th f point user (suc d) deeper e deep h = (
  record (gone_on (standing_at t w slot th f point user) (newest f.work.values.items)) { depth = suc (suc d) },
  refl,
  record { serial = h.serial; depth = omega (arith, e, deep); entering = h.entering; frames = refl },
)

-- the world after the end of a transaction: that of the outermost one closes its record
abbrev pub ended : World → ℕ → Record → ℕ → World
ended w slot uses (suc zero) = record w { closed = w.closed ++ record { slot = slot; uses = uses } ∷ [] }
ended w slot uses d = w

pub ends : (t : Table) (w : World) (slot : ℕ) (th : Thread) (f : Frame) (point : ℕ) (user : SeenThread) (d less : ℕ)
    → d ≡ th.depth → less + 1 ≡ th.depth → IsUser th user
    → Goes t (ended w slot user.uses d) slot (record th { depth = less }) (record f { standing = point })
    (end_at (standing_at t w slot th f point user) d (gone_on (standing_at t w slot th f point user) (newest f.work.values.items)))
ends t w slot th f point user zero less e fewer h = absurd (none (e ∙ sym fewer))
  where
    none : 0 ≡ less + 1 → ⊥
    none z = omega (arith, z)
ends t w slot th f point user (suc zero) less e fewer h = (
  record (gone_on (standing_at t w slot th f point user) (newest f.work.values.items)) { depth = 0; uses = [] },
  refl,
  record { serial = h.serial; depth = omega (arith, e, fewer); entering = h.entering; frames = refl },
)
ends t w slot th f point user (suc (suc d)) less e fewer h = (
  record (gone_on (standing_at t w slot th f point user) (newest f.work.values.items)) { depth = suc d },
  refl,
  record { serial = h.serial; depth = omega (arith, e, fewer); entering = h.entering; frames = refl },
)

-- the machine keeps no records
pub ending : (m : Machine) (slot : ℕ) (w : World) (before : SeenThread) (uses : Record) (d : ℕ)
    → StandsBut m slot w before → StandsBut m slot (ended w slot uses d) before
ending m slot w before uses zero h = h
ending m slot w before uses (suc (suc d)) h = h
ending m slot w before uses (suc zero) h = record {
  all = record {
    program = h.all.program;
    history = h.all.history;
    text = h.all.text;
    store = let on : World → World = λ x. ended (record x { closed = w.closed }) slot uses 1 in ap on h.all.store;
    threads = h.all.threads;
    misused = h.all.misused;
    finish = h.all.finish;
    count = h.all.count;
  };
  within = h.within;
  others = h.others;
  taken = h.taken;
  own = h.own;
}
