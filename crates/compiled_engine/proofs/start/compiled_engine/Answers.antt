use Rattle.std.proofs.Common.{arith, length, ap, subst, sym}
use Rattle.std.specs.Prelude.{◌-◌, ◌^◌}
use Rattle.std.proofs.lemmas.Result.{IfErr-weaker, IfOk-weaker}
use Rattle.dsu_runs.specs.Setups.{setup_of}
use Rattle.compiled_run.specs.Compiled.{CanBeAsked, Lasts}
use Rattle.compiled_engine.proofs.MetNeeds.{accepted_runs_meet_needs}
use Rattle.compiled_engine.proofs.TextsOfPrograms.{programs_are_accepted}
use Rattle.compiled_engine.proofs.start.compiled_engine.Goals as goal

pub first_run-requires-clause-accepted : goal.first_run-requires-clause-accepted
first_run-requires-clause-accepted g c =
    let a = c.args in
    programs_are_accepted a.text a.offers.items a.lines.items a.objects c.requires.equal c.requires.accepted

pub over-requires-clause-some : goal.over-requires-clause-some
over-requires-clause-some g c =
    let many = ap length c.in-Ok.ensures.trees in
    omega (arith, many)

pub returns-in-Ok-clause-start : goal.returns-in-Ok-clause-start
returns-in-Ok-clause-start g c =
    let a = c.args in
    c.over.ensures.start a.text a.offers.items a.objects c.requires.equal c.in-Ok.ensures.trees c.in-Ok.ensures.run c.in-Ok.ensures.kept
    (accepted_runs_meet_needs c.journals_are_typed.ensures c.threads_of_journals_go_on.ensures c.accepted_runs_misuse_nothing.ensures
    (setup_of a.text a.offers.items a.lines.items a.objects) c.requires.accepted)

pub returns-in-Ok-clause-lasts : goal.returns-in-Ok-clause-lasts
returns-in-Ok-clause-lasts g c =
    IfOk-weaker c.over.result _ _ (λ e is. subst (Lasts (2 ^ 32 - 1)) (sym is) c.in-Ok.ensures.lasts) c.over.ensures.run

pub returns-in-Ok-clause-asked : goal.returns-in-Ok-clause-asked
returns-in-Ok-clause-asked g c =
    IfOk-weaker c.over.result _ _ (λ e is. subst CanBeAsked (sym is) c.in-Ok.ensures.asked) c.over.ensures.run

pub returns-in-Ok-clause-fault : goal.returns-in-Ok-clause-fault
returns-in-Ok-clause-fault g c =
    let a = c.args in
    let accepted = c.requires.accepted.first in
    IfErr-weaker c.over.result _ _ (λ e is. c.accepted_programs_start.ensures accepted.bytes a.text accepted.accepted e.why
    (is a.text a.offers.items c.in-Ok.ensures.trees)) c.over.ensures.fault

pub why_of-requires : goal.why_of-requires
why_of-requires g c = c.in-Err.ensures.fault
