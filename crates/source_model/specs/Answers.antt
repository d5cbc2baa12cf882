-- What is answered to an offer, with the texts of names.
use Rattle.std.specs.Prelude.{ℕ, List}
use Rattle.c_tree.specs.BareExpr.{Bytes}
use Rattle.con_freeness.specs.Verdicts.{Refusal, refusal_seen}
use Rattle.source_model.specs.declared.patch.NotPatch.{NotPatch}
use Rattle.source_model.specs.declared.answer.OfferAnswer.{OfferAnswer}
use Rattle.source_model.specs.declared.answer.OfferAnswer.TheVariants as ids

-- the answer to an offer: installed as that version, refused, no patch, withdrawn, or never closed
pub data Answer : Type 0 where
  Installed : ℕ → Answer
  RefusedFor : Refusal → Answer
  NoPatch : NotPatch → Answer
  Withdrawn : Answer
  NotOffered : Answer

-- what an answer with ids says in a table of names
abbrev pub answer_seen : List Bytes → OfferAnswer → Answer
answer_seen names (ids.Installed version) = Installed version
answer_seen names (ids.Refused r) = RefusedFor (refusal_seen names r)
answer_seen names (ids.NotPatch cause) = NoPatch cause
answer_seen names ids.Withdrawn = Withdrawn
answer_seen names ids.NotOffered = NotOffered
