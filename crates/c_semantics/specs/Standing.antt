-- Where a thread stands, as a point of the body that its frame has entered.
use Rattle.std.specs.Prelude.{ℕ, Option, Some, None}
use Rattle.run_types.specs.Skeleton.{Skeleton, reached}
use Rattle.c_semantics.specs.Threads.{Frame, Enter}

-- the point of a thread in its innermost frame. Where an enter is due it is the call; else the frame's last stop, or the
-- check-in that follows it, from when the thread comes there up to its next stop, so also once the check-in is passed. A
-- frame that another is above is at its call, where it stopped.
abbrev pub stands_at : Skeleton → Option Enter → Frame → ℕ
stands_at s (Some enter) f = f.standing
stands_at s None f = reached s f.standing
