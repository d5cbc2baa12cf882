-- The frames of a thread, as the definitions have them.
use Rattle.std.specs.Prelude.{List, map, reverse}
use Rattle.c_semantics.specs.Threads.{Frame as SeenFrame}
use Rattle.source_runner.specs.declared.thread.Frame.{Frame}
use Rattle.resolved_tree.specs.Nodes.{Table, word}
use Rattle.local_evaluation.specs.Pieces.{pending}
use Rattle.local_evaluation.specs.Work.{newest, scopes_of}

-- a frame after its last stop
abbrev pub frame_of : Table → Frame → SeenFrame
frame_of t f = record {
  function = word t f.function;
  version = f.version;
  standing = f.standing;
  pieces = pending t f.work.pieces.items;
  values = newest f.work.values.items;
  scopes = scopes_of t f.work.scopes.items;
}

-- frames that wait, of which the innermost is the last that is kept
abbrev pub frames_of : Table → List Frame → List SeenFrame
frames_of t fs = map (frame_of t) (reverse fs)
