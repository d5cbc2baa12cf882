use Rattle.std.proofs.Common.{◌∙◌, List, ℕ, Some, subst, sym}
use Rattle.std.specs.Prelude.{◌≡◌, ◌⊎◌, ◌/◌, IfErr, IfOk}
use Rattle.dsu_report.specs.declared.fault.FaultLine.TheVariants.{Memory}
use Rattle.program_gen.specs.Generated.{program_text, offer_text}
use Rattle.job_answers.specs.Jobs.{GeneratedFault, IsKnownProgram}
use Rattle.gen_job.specs.Parts.{IsOnlyOffer}
use Rattle.gen_job.proofs.generated.generated.Goals as goal

pub returns-in-Ok-clause-program : goal.returns-in-Ok-clause-program
returns-in-Ok-clause-program c =
    subst {A = List ℕ} (λ t. IfOk c.read_both.result (λ read. IsKnownProgram (Some t) read.0)) (c.deref.ensures.value ∙ c.in-Ok.ensures.program)
    c.read_both.ensures.program

pub returns-in-Ok-clause-offer : goal.returns-in-Ok-clause-offer
returns-in-Ok-clause-offer c =
    subst {A = List ℕ} (λ t. IfOk c.read_both.result (λ read. IsOnlyOffer t (c.args.size / 2) read.1)) c.in-Ok.ensures.offer
    c.read_both.ensures.offer

pub returns-in-Ok-clause-fault : goal.returns-in-Ok-clause-fault
returns-in-Ok-clause-fault c =
    subst {A = List ℕ} (λ t. IfErr c.read_both.result (λ fault. (fault.0 ≡ Memory)
    ⊎ GeneratedFault t (offer_text c.args.seed c.args.size) fault.0 fault.1.now))
    (c.deref.ensures.value ∙ c.in-Ok.ensures.program)
    (subst {A = List ℕ} (λ o. IfErr c.read_both.result (λ fault. (fault.0 ≡ Memory) ⊎ GeneratedFault c.deref.result.now o fault.0 fault.1.now))
    c.in-Ok.ensures.offer c.read_both.ensures.fault)

pub returns-in-Ok-clause-complete : goal.returns-in-Ok-clause-complete
returns-in-Ok-clause-complete c = λ program next first second.
    c.read_both.ensures.complete program next
    (subst {A = List ℕ} (λ t. IsKnownProgram (Some t) program) (sym (c.deref.ensures.value ∙ c.in-Ok.ensures.program)) first)
    (subst {A = List ℕ} (λ t. IsKnownProgram (Some t) next) (sym c.in-Ok.ensures.offer) second)

pub returns-in-Ok-clause-first : goal.returns-in-Ok-clause-first
returns-in-Ok-clause-first c = λ line file fault.
    c.read_both.ensures.first line file
    (subst {A = List ℕ} (λ t. GeneratedFault t c.in-Ok.offer.items line file) (sym (c.deref.ensures.value ∙ c.in-Ok.ensures.program))
    (subst {A = List ℕ} (λ o. GeneratedFault (program_text c.args.seed c.args.size) o line file) (sym c.in-Ok.ensures.offer) fault))
