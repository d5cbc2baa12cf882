-- A thread that comes after a stop, with its private work done.
use Rattle.std.proofs.Common.{◌≡◌, Bool, Some, refl, subst}
use Rattle.c_semantics.specs.Threads.{Thread as SeenThread}
use Rattle.c_semantics.specs.Evaluation.{local}
use Rattle.local_evaluation.specs.declared.work.Halt.{Halt}
use Rattle.local_evaluation.specs.declared.work.Work.{Work}
use Rattle.source_runner.specs.declared.thread.Frame.{Frame}
use Rattle.source_runner.specs.declared.thread.Next.TheVariants as next
use Rattle.source_runner.specs.declared.thread.Thread.{Thread}
use Rattle.resolved_tree.specs.Nodes.{Table}
use Rattle.local_evaluation.specs.Pieces.{pending}
use Rattle.local_evaluation.specs.Work.{newest, scopes_of, went}
use Rattle.source_runner.specs.Machines.{IsReady, IsThread}
use Rattle.source_runner.specs.Frames.{frame_of}

pub ready_thread : (t u : Table) (over : Bool) (th : Thread) (f : Frame) (work : Work) (halt : Halt) (own : SeenThread)
    → u ≡ t → IsReady t th f own
    → local (pending u f.work.pieces.items) (newest f.work.values.items) (scopes_of u f.work.scopes.items)
    ≡ went u (Some halt) (pending u work.pieces.items) (newest work.values.items) (scopes_of u work.scopes.items)
    → IsThread t over th (next.Halt (record f { work = work }) halt) own
ready_thread t u over th f work halt own e h done = record {
  serial = h.serial;
  depth = h.depth;
  does = λ going. (h.entering, (frame_of t f, h.frames, record { function = refl; version = refl; standing = refl; next = at_t e done }));
}
  where
    at_t : (e : u ≡ t) → local (pending u f.work.pieces.items) (newest f.work.values.items) (scopes_of u f.work.scopes.items)
        ≡ went u (Some halt) (pending u work.pieces.items) (newest work.values.items) (scopes_of u work.scopes.items)
        → local (pending t f.work.pieces.items) (newest f.work.values.items) (scopes_of t f.work.scopes.items)
        ≡ went t (Some halt) (pending t work.pieces.items) (newest work.values.items) (scopes_of t work.scopes.items)
    at_t e d = subst (λ v. local (pending v f.work.pieces.items) (newest f.work.values.items) (scopes_of v f.work.scopes.items)
        ≡ went v (Some halt) (pending v work.pieces.items) (newest work.values.items) (scopes_of v work.scopes.items)) e d
