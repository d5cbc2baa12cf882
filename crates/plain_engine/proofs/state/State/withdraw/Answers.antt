use Rattle.std.proofs.Common.{◌∙◌, refl, sym}
use Rattle.std.proofs.lemmas.Bool.{true≢false}
use Rattle.source_model.specs.Answers.{Withdrawn}
use Rattle.plain_engine.specs.Plain.{state_shown}
use Rattle.plain_engine.proofs.QuietEvents.{withdraws_none, withdraws_one}
use Rattle.plain_engine.proofs.state.State.withdraw.Goals as goal

pub returns-then-has_ended-clause-made : goal.returns-then-has_ended-clause-made
returns-then-has_ended-clause-made g c = λ setup x at.
    withdraws_none setup x c.args.k (state_shown g.M.Machine.shown c.args.self.now) at
    (λ going. absurd (true≢false (sym c.if-has_ended.true ∙ c.has_ended.ensures setup x at.run ∙ going)))

pub returns-then-not-is_open-clause-made : goal.returns-then-not-is_open-clause-made
returns-then-not-is_open-clause-made g c = λ setup x at.
    let s = state_shown g.M.Machine.shown c.args.self.now in
    withdraws_none setup x c.args.k s at
    (λ going. sym (c.is_open.ensures setup x s.installed.names at.book) ∙ c.if-not-is_open.true)

pub returns-clause-made : goal.returns-clause-made
returns-clause-made g c = λ setup x at.
    let s = state_shown g.M.Machine.shown c.args.self.now in
    let is = sym (c.is_open.ensures setup x s.installed.names at.book) ∙ c.if-not-is_open.false in
    withdraws_one setup x c.args.k s c.close.new.self at (sym (c.has_ended.ensures setup x at.run) ∙ c.if-has_ended.false) is
    (c.close.ensures setup x s.installed.names Withdrawn at.book is (λ more. refl))
