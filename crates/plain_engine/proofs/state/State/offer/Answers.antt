use Rattle.std.proofs.Common.{◌≡◌, Bool, true, false, ◌∙◌, sym, Some}
use Rattle.std.specs.Prelude.{if◌then◌else◌}
use Rattle.std.proofs.lemmas.Bool.{true≢false}
use Rattle.source_model.specs.Guards.{Guard, Setup, can_open, has_ended}
use Rattle.run_types.specs.declared.run.Event.TheVariants.{Offer}
use Rattle.dsu_runs.specs.Books.{Entries, IsBook}
use Rattle.plain_engine.specs.Plain.{IsStateAt, ShownState, state_shown}
use Rattle.plain_engine.specs.Steps.{ComesTo}
use Rattle.plain_engine.proofs.QuietEvents.{offers_none, offers_one}
use Rattle.plain_engine.proofs.state.State.offer.Goals as goal

by : (setup : Setup) (g : Guard) (k : _) (s : ShownState) (book : Entries) (done : Bool) → IsStateAt setup g s → has_ended g ≡ false
    → done ≡ can_open setup g k
    → IsBook setup (if done then record g { open_offer = Some k; greatest = k } else g) s.installed.names book
    → ComesTo setup (Offer k) g (record s { book = book }) done
by setup g k s book true at going can is = offers_one setup g k s book at going (sym can) is
by setup g k s book false at going can is =
    let none = offers_none setup g k (record s { book = book })
    (record { run = at.run; seats = at.seats; versions = at.versions; book = is; reached = at.reached; meets = at.meets }) (λ on. sym can) in none

pub returns-then-has_ended-clause-made : goal.returns-then-has_ended-clause-made
returns-then-has_ended-clause-made g c = λ setup x at lines.
    offers_none setup x c.args.k (state_shown g.M.Machine.shown c.args.self.now) at
    (λ going. absurd (true≢false (sym c.if-has_ended.true ∙ c.has_ended.ensures setup x at.run ∙ going)))

pub returns-clause-made : goal.returns-clause-made
returns-clause-made g c = λ setup x at lines.
    let s = state_shown g.M.Machine.shown c.args.self.now in
    let made = c.offer.ensures setup x s.installed.names at.book lines in
    by setup x c.args.k s c.offer.new.self c.offer.result at (sym (c.has_ended.ensures setup x at.run) ∙ c.if-has_ended.false)
    made.0 made.1
