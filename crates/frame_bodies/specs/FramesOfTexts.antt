-- The bodies of the frames of a run are those of its texts.
use Rattle.std.specs.Prelude.{◌≡◌, List}
use Rattle.c_tree.specs.BareDef.{BareDef}
use Rattle.c_semantics.specs.Texts.{definition}
use Rattle.c_semantics.specs.Resolution.{resolved_body}
use Rattle.c_semantics.specs.Skeletons.{skeleton}
use Rattle.c_semantics.specs.SourceTexts.{Text}
use Rattle.c_semantics.specs.Threads.{Frame}
use Rattle.source_model.specs.Versions.{Table}
use Rattle.source_model.specs.FrameLaws.{body_of_frame}
use Rattle.version_laws.specs.Histories.{IsHistory, text_in}
use Rattle.frame_bodies.specs.AcceptedTexts.{definitions_of}
use Rattle.frame_bodies.specs.InForce.{InForce}

-- the body of a frame is that of its function in the text of its version
abbrev pub FramesHaveBodiesOfTexts : Type 0
FramesHaveBodiesOfTexts =
    (texts : List (List BareDef)) (table : Table) (f : Frame) → IsHistory texts table
    → let look = definition (text_in texts f.version) in body_of_frame table f ≡ resolved_body look (look f.function)

-- so its skeleton is that of the body in force in its version
abbrev pub FramesHaveBodiesInForce : Type 0
FramesHaveBodiesInForce =
    (texts : List Text) (table : Table) (f : Frame) → IsHistory (definitions_of texts) table
    → (in_force : InForce texts f.version f.function) → skeleton (body_of_frame table f) ≡ in_force.body.skeleton
