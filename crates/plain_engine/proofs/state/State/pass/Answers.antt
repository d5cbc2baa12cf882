use Rattle.std.proofs.Common.{◌≡◌, ◌<◌, false, ◌∙◌, ap, refl, sym, subst, arith, slice_get, slice_index_or, slice_set, Some, []}
use Rattle.std.specs.Option.{is_none, is_some}
use Rattle.std.specs.Prelude.{Option, None, true}
use Rattle.std.proofs.lemmas.Bool.{true≢false, false≢true}
use Rattle.std.proofs.lemmas.Option.{slice_get-get_or}
use Rattle.run_types.specs.declared.run.Event.TheVariants.{CheckIn}
use Rattle.source_model.specs.JournalLaws.{texts_of}
use Rattle.source_model.specs.Worlds.{in_slot, is_over}
use Rattle.source_runner.specs.Queries.{innermost_in}
use Rattle.plain_engine.specs.Kept.{empty}
use Rattle.plain_engine.specs.Steps.{Happened}
use Rattle.plain_engine.specs.Plain.{state_shown}
use Rattle.plain_engine.proofs.QuietEvents.{passes, stays_put}
use Rattle.plain_engine.proofs.Standing.{asked, given}
use Rattle.plain_engine.proofs.state.State.pass.Goals as goal

none_is : {A : Type 0} (o : Option A) → is_some o ≡ false → is_none o ≡ true
none_is None e = refl
none_is (Some a) e = absurd (true≢false e)

some_is : {A : Type 0} (o : Option A) → is_some o ≡ true → is_none o ≡ false
some_is None e = absurd (false≢true e)
some_is (Some a) e = refl

pub returns-then-has_ended-clause-made : goal.returns-then-has_ended-clause-made
returns-then-has_ended-clause-made g c = λ setup x at.
    stays_put setup x c.args.slot (state_shown g.M.Machine.shown c.args.self.now) at
    (λ going there. absurd (true≢false (sym c.if-has_ended.true ∙ c.has_ended.ensures setup x at.run ∙ going)))

pub returns-then-is_some-clause-made : goal.returns-then-is_some-clause-made
returns-then-is_some-clause-made g c = λ setup x at.
    let s = state_shown g.M.Machine.shown c.args.self.now in
    stays_put setup x c.args.slot s at
    (λ going there. some_is x.open_offer
    (ap is_some (sym (c.open.ensures setup x s.installed.names at.book)) ∙ sym c.is_some.ensures ∙ c.if-is_some.true))

pub returns-clause-made : goal.returns-clause-made
returns-clause-made g c = λ setup x at.
    let s = state_shown g.M.Machine.shown c.args.self.now in
    let slot = c.args.slot in
    let going = sym (c.has_ended.ensures setup x at.run) ∙ c.if-has_ended.false in
    let below : slot < 16 = c.is_at_check_in.ensures.within c.if-not-is_at_check_in.false in
    let one = passes setup x slot s at going (sym (c.is_at_check_in.ensures.value x at.seats going) ∙ c.if-not-is_at_check_in.false) below _
    (subst (λ seats. slice_get seats slot ≡ Some (slice_index_or c.all.result.now slot empty)) c.all.ensures.same
    (slice_get-get_or c.all.result.now slot empty (omega (arith, below, c.all.ensures.many)))) c.frame-frame.result
    (λ on. asked setup x s.run at.run (λ x. innermost_in (in_slot x.world slot)) _
    (c.frame-frame.ensures (texts_of setup) setup.limits at.run.moves at.run.run (given setup x s.run at.run (λ x. is_over x.world) false on)))
    c.marks_are_of_frames.ensures c.frames_come_through_their_bodies.ensures
    (none_is x.open_offer
    (ap is_some (sym (c.open.ensures setup x s.installed.names at.book)) ∙ sym c.is_some.ensures ∙ c.if-is_some.false)) in
    subst (λ seats. Happened setup (CheckIn slot) x (record s { seats = seats }) []) (sym c.set.ensures)
    (subst (λ new. Happened setup (CheckIn slot) x (record s { seats = slice_set s.seats slot new }) []) (sym c.passed.ensures) one)
