-- The bodies of frames by the texts of their versions.
use Rattle.std.proofs.Common.{sym, ap, ◌∙◌}
use Rattle.c_semantics.specs.Texts.{definition}
use Rattle.c_semantics.specs.Skeletons.{skeleton}
use Rattle.source_model.specs.Versions.{in_version}
use Rattle.version_laws.specs.Histories.{text_in}
use Rattle.version_laws.proofs.EntersAlike.{bodies_alike}
use Rattle.frame_bodies.specs.AcceptedTexts.{definitions_of}
use Rattle.frame_bodies.specs.FramesOfTexts.{FramesHaveBodiesInForce, FramesHaveBodiesOfTexts}

pub frames_have_bodies_of_texts : FramesHaveBodiesOfTexts
frames_have_bodies_of_texts texts table f history =
    bodies_alike (in_version table f.version) (definition (text_in texts f.version)) (history.alike f.version) f.function

pub frames_have_bodies_in_force : FramesHaveBodiesInForce
frames_have_bodies_in_force texts table f history in_force =
    ap skeleton (frames_have_bodies_of_texts (definitions_of texts) table f history) ∙ sym in_force.skeleton_is
