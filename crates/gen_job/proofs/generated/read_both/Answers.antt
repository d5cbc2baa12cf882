use Rattle.std.proofs.Common.{Some, subst, sym}
use Rattle.std.specs.Prelude.{MatchResult}
use Rattle.c_tree.specs.declared.def.Program.{Program}
use Rattle.job_answers.specs.Jobs.{IsKnownProgram}
use Rattle.gen_job.specs.Parts.{IsToldAt}
use Rattle.gen_job.proofs.Generating.{first_fault, first_told, if_err_map, if_ok_map, second_fault, second_told}
use Rattle.gen_job.proofs.generated.read_both.Goals as goal

pub returns-in-Ok-clause-program : goal.returns-in-Ok-clause-program
returns-in-Ok-clause-program c =
    if_ok_map c.with_offer.result _ _
    (λ read is. subst {A = Program} (λ p. IsKnownProgram (Some c.args.text.now) p) (sym is) c.in-Ok.ensures.read) c.with_offer.ensures.program

pub returns-in-Ok-clause-fault : goal.returns-in-Ok-clause-fault
returns-in-Ok-clause-fault c =
    if_err_map c.with_offer.result _ _
    (λ fault. second_fault c.args.text.now c.args.offer.items c.in-Ok.program c.in-Ok.ensures.read fault.0 fault.1.now) c.with_offer.ensures.fault

pub returns-in-Ok-clause-complete : goal.returns-in-Ok-clause-complete
returns-in-Ok-clause-complete c = λ program next first second. c.with_offer.ensures.complete next second

pub returns-in-Ok-clause-first : goal.returns-in-Ok-clause-first
returns-in-Ok-clause-first c = λ line file fault.
    second_told c.args.text.now c.args.offer.items
    (λ at. MatchResult c.with_offer.result (λ read. ⊥) (λ told. IsToldAt line at told.0 told.1.now)) line file
    (c.in-Ok.ensures.first line) (c.with_offer.ensures.first line) fault

pub returns-in-Err-clause-fault : goal.returns-in-Err-clause-fault
returns-in-Err-clause-fault c = first_fault c.args.text.now c.args.offer.items c.in-Err.line c.in-Err.ensures.fault

pub returns-in-Err-clause-complete : goal.returns-in-Err-clause-complete
returns-in-Err-clause-complete c = λ program next first second. c.in-Err.ensures.complete program first

pub returns-in-Err-clause-first : goal.returns-in-Err-clause-first
returns-in-Err-clause-first c = λ line file fault.
    first_told c.args.text.now c.args.offer.items c.in-Err.line c.in-Err.ensures.complete c.in-Err.ensures.first line file fault
