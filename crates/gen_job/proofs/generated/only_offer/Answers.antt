use Rattle.std.proofs.Common.{List, ℕ, Some, inl, subst, sym}
use Rattle.std.specs.Prelude.{◌⊎◌, ◌≡◌}
use Rattle.dsu_report.specs.declared.fault.FaultLine.TheVariants.{Memory}
use Rattle.job_answers.specs.Jobs.{IsKnownProgram, KnownProgramFault}
use Rattle.gen_job.proofs.Generating.{if_err_map, only_read}
use Rattle.gen_job.proofs.generated.only_offer.Goals as goal

pub returns-in-Ok-clause-read : goal.returns-in-Ok-clause-read
returns-in-Ok-clause-read c =
    only_read c.one_offer.result c.args.text.items c.in-Ok.typed c.args.lines
    (subst {A = List ℕ} (λ t. IsKnownProgram (Some t) c.in-Ok.typed) c.deref.ensures.value c.in-Ok.ensures.read)
    c.one_offer.ensures.texts c.one_offer.ensures.programs c.one_offer.ensures.counts

pub returns-in-Ok-clause-fault : goal.returns-in-Ok-clause-fault
returns-in-Ok-clause-fault c = if_err_map c.one_offer.result _ _ (λ line memory. inl memory) c.one_offer.ensures.fault

pub returns-in-Ok-clause-complete : goal.returns-in-Ok-clause-complete
returns-in-Ok-clause-complete c = λ program known. c.one_offer.ensures.fault

pub returns-in-Ok-clause-first : goal.returns-in-Ok-clause-first
returns-in-Ok-clause-first c = λ line wrong.
    absurd (c.in-Ok.ensures.first line (subst {A = List ℕ} (λ t. KnownProgramFault (Some t) line) (sym c.deref.ensures.value) wrong))

pub returns-in-Err-clause-fault : goal.returns-in-Err-clause-fault
returns-in-Err-clause-fault c =
    subst {A = List ℕ} (λ t. (c.in-Err.line ≡ Memory) ⊎ KnownProgramFault (Some t) c.in-Err.line) c.deref.ensures.value c.in-Err.ensures.fault

pub returns-in-Err-clause-complete : goal.returns-in-Err-clause-complete
returns-in-Err-clause-complete c = λ program known.
    c.in-Err.ensures.complete program (subst {A = List ℕ} (λ t. IsKnownProgram (Some t) program) (sym c.deref.ensures.value) known)

pub returns-in-Err-clause-first : goal.returns-in-Err-clause-first
returns-in-Err-clause-first c = λ line wrong.
    c.in-Err.ensures.first line (subst {A = List ℕ} (λ t. KnownProgramFault (Some t) line) (sym c.deref.ensures.value) wrong)
