-- What ties runs to skeletons: each frame comes through the body of its function, as its version has it.
use Rattle.std.specs.Prelude.{◌≡◌, ℕ, ◌≤◌, List, slice_get, Some, None}
use Rattle.c_tree.specs.BareDef.{BareDef}
use Rattle.c_tree.specs.BareExpr.{BareType}
use Rattle.c_semantics.specs.Texts.{result_type}
use Rattle.c_semantics.specs.Resolved.{Statements}
use Rattle.c_semantics.specs.Resolution.{resolved_body}
use Rattle.c_semantics.specs.Skeletons.{skeleton}
use Rattle.c_semantics.specs.Standing.{stands_at}
use Rattle.c_semantics.specs.SkeletonLaws.{Comes}
use Rattle.c_semantics.specs.Threads.{Frame, Thread}
use Rattle.source_model.specs.Versions.{Table, in_version, current}
use Rattle.source_model.specs.Worlds.{World, Limits, Live, in_slot}
use Rattle.source_model.specs.Runs.{SourceMove, run, start}

-- the body of a frame's function in the frame's version, and the type of its result
abbrev pub body_of_frame : Table → Frame → Statements
body_of_frame table f = resolved_body (in_version table f.version) (in_version table f.version f.function)

abbrev pub result_of_frame : Table → Frame → BareType
result_of_frame table f = result_type (in_version table f.version f.function)

-- a frame comes through that body; with how many transactions it began and didn't end
pub record ComesThrough (table : Table) (f : Frame) : Type 0 where
  pub depth : ℕ
  pub comes : Comes (body_of_frame table f) (result_of_frame table f) (stands_at (skeleton (body_of_frame table f)) None f) depth f.pieces
  pub version : f.version ≤ current table

-- in each world that a run comes to
abbrev pub FramesComeThrough : Type 0
FramesComeThrough =
    (texts : List (List BareDef)) (limits : Limits) (ms : List SourceMove) (w after : World) (t : ℕ) (th : Thread)
    (k : ℕ) (f : Frame)
    → start texts limits ≡ Some w → run texts ms w ≡ Some after → in_slot after t ≡ Live th → slice_get th.frames k ≡ Some f
    → ComesThrough after.table f
