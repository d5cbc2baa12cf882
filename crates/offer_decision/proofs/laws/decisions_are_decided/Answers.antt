use Rattle.offer_decision.proofs.Decided.{no_patch_is_decided, refusal_is_decided, admission_is_decided}
use Rattle.offer_decision.proofs.laws.decisions_are_decided.Goals as goal

pub returns-clause-no_patch : goal.returns-clause-no_patch
returns-clause-no_patch c = no_patch_is_decided

pub returns-clause-refusal : goal.returns-clause-refusal
returns-clause-refusal c = refusal_is_decided

pub returns-clause-admission : goal.returns-clause-admission
returns-clause-admission c = admission_is_decided
