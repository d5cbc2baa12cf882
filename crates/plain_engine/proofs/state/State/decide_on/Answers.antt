use Rattle.std.proofs.Common.{refl, subst}
use Rattle.std.proofs.lemmas.Result.{on_err_weaker}
use Rattle.con_freeness.specs.Verdicts.{refusal_seen}
use Rattle.source_model.specs.Answers.{NoPatch, RefusedFor}
use Rattle.plain_engine.specs.Steps.{IsDecided}
use Rattle.plain_engine.specs.Plain.{state_shown}
use Rattle.plain_engine.proofs.Deciding.{no_patch, refused, refusal_says}
use Rattle.plain_engine.proofs.state.State.decide_on.Goals as goal

pub returns-in-NotPatch-clause-made : goal.returns-in-NotPatch-clause-made
returns-in-NotPatch-clause-made g c = λ setup x old going right offered some prepared.
    let s = state_shown g.M.Machine.shown c.keep_rows.new.self in
    let k = c.args.k in
    let at = c.keep_rows.ensures.stays setup x k old prepared in
    let cause = c.in-NotPatch.cause in
    no_patch setup x k s at going right offered some cause c.close.new.self
    (subst (IsDecided s k) c.in-NotPatch.is (c.decision.ensures k (c.keep_rows.ensures.prepared k prepared)))
    (c.close.ensures setup x s.installed.names (NoPatch cause) at.book offered (λ more. refl))

pub returns-in-Refused-clause-made : goal.returns-in-Refused-clause-made
returns-in-Refused-clause-made g c = λ setup x old going right offered some prepared.
    let s = state_shown g.M.Machine.shown c.keep_rows.new.self in
    let k = c.args.k in
    let at = c.keep_rows.ensures.stays setup x k old prepared in
    let r = c.in-Refused.refusal in
    let is = subst (IsDecided s k) c.in-Refused.is (c.decision.ensures k (c.keep_rows.ensures.prepared k prepared)) in
    refused setup x k s at going right offered some r c.close-in-Refused.new.self is
    (c.close-in-Refused.ensures setup x s.installed.names (RefusedFor (refusal_seen s.installed.names r)) at.book offered
    (refusal_says setup x k s at going right offered some r is))

pub returns-in-Admitted-clause-made : goal.returns-in-Admitted-clause-made
returns-in-Admitted-clause-made g c = λ setup x old going right offered some prepared.
    let s = state_shown g.M.Machine.shown c.keep_rows.new.self in
    let k = c.args.k in
    c.install.ensures.made setup x (c.keep_rows.ensures.stays setup x k old prepared) going right offered some
    (subst (IsDecided s k) c.in-Admitted.is (c.decision.ensures k (c.keep_rows.ensures.prepared k prepared)))

pub returns-in-Admitted-clause-stays : goal.returns-in-Admitted-clause-stays
returns-in-Admitted-clause-stays g c =
    on_err_weaker c.install.result (λ stays setup x old prepared. stays setup x (c.keep_rows.ensures.stays setup x c.args.k old prepared))
    c.install.ensures.stays
