-- What the definitions decide on an offer, by what a decision says.
use Rattle.std.proofs.Common.{ap, ◌∙◌}
use Rattle.c_semantics.specs.Changes.{changed}
use Rattle.c_semantics.specs.SourceTexts.{text_of}
use Rattle.source_model.specs.Guards.{decided, decided_by}
use Rattle.source_model.specs.Patches.{last_definitions}
use Rattle.offer_decision.specs.Laws.{NoPatchIsDecided, RefusalIsDecided, AdmissionIsDecided}

pub no_patch_is_decided : NoPatchIsDecided
no_patch_is_decided rules g k lines versions next seats cause e = ap (decided rules g k (last_definitions g.versions) (text_of next)) e

pub refusal_is_decided : RefusalIsDecided
refusal_is_decided rules g k lines versions next seats r d =
    ap (decided rules g k (last_definitions g.versions) (text_of next)) d.0
    ∙ ap (decided_by rules g k (text_of next) (changed (last_definitions g.versions) (text_of next).definitions)) d.1.verdict_is

pub admission_is_decided : AdmissionIsDecided
admission_is_decided rules g k lines versions next seats patch pins d =
    ap (decided rules g k (last_definitions g.versions) (text_of next)) d.0
    ∙ ap (decided_by rules g k (text_of next) (changed (last_definitions g.versions) (text_of next).definitions)) d.1.verdict_is
