use Rattle.std.proofs.Common.{◌≡◌, ◌<◌, ℕ, zero, suc, ◌∙◌, refl, sym, arith}
use Rattle.std.proofs.lemmas.Bool.{false≢true, true≢false}
use Rattle.source_model.specs.JournalLaws.{texts_of}
use Rattle.plain_engine.specs.Plain.{state_shown}
use Rattle.plain_engine.proofs.Deciding.{never_decides}
use Rattle.plain_engine.proofs.Standing.{misused_is}
use Rattle.plain_engine.proofs.state.State.may_decide.Goals as goal

positive : (k : ℕ) → (k ≡ 0 → ⊥) → 0 < k
positive zero h = absurd (h refl)
positive (suc k) h = omega arith

pub returns-then-not-is_open-clause-never : goal.returns-then-not-is_open-clause-never
returns-then-not-is_open-clause-never g c = λ none setup x at.
    let s = state_shown g.M.Machine.shown c.args.self.now in
    never_decides setup x c.args.k s at
    (λ going offered. absurd (false≢true (sym c.if-not-is_open.true ∙ c.is_open.ensures setup x s.installed.names at.book ∙ offered)))

pub returns-then-has_ended-clause-never : goal.returns-then-has_ended-clause-never
returns-then-has_ended-clause-never g c = λ none setup x at.
    never_decides setup x c.args.k (state_shown g.M.Machine.shown c.args.self.now) at
    (λ going offered. absurd (true≢false (sym c.if-has_ended.true ∙ c.has_ended.ensures setup x at.run ∙ going)))

pub returns-then-misused-clause-misused : goal.returns-then-misused-clause-misused
returns-then-misused-clause-misused g c = (
  refl,
  λ setup x at.
      sym (misused_is setup x (g.M.Machine.shown c.args.self.now.run) c.misused.result at.run (c.misused.ensures (texts_of setup) setup.limits at.run.moves at.run.run))
      ∙ c.if-misused.true,
)

pub returns-clause-open : goal.returns-clause-open
returns-clause-open g c = λ may setup x at.
    let s = state_shown g.M.Machine.shown c.args.self.now in (
      sym (c.has_ended.ensures setup x at.run) ∙ c.if-has_ended.false,
      sym (misused_is setup x s.run c.misused.result at.run (c.misused.ensures (texts_of setup) setup.limits at.run.moves at.run.run)) ∙ c.if-misused.false,
      sym (c.is_open.ensures setup x s.installed.names at.book) ∙ c.if-not-is_open.false,
    )

pub returns-clause-some : goal.returns-clause-some
returns-clause-some g c = λ may. positive c.args.k c.if-k-eq0.false
