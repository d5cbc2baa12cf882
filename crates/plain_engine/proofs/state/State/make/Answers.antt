use Rattle.std.proofs.Common.{◌≡◌, ◌∙◌, ◌++◌, ◌∷◌, [], Ok, false, ap, sym}
use Rattle.source_model.specs.Guards.{has_ended, seat_of}
use Rattle.source_model.specs.JournalLaws.{texts_of}
use Rattle.source_model.specs.Runs as source
use Rattle.run_machine.specs.declared.machine.Moved.TheVariants.{Done, CannotMove}
use Rattle.plain_engine.specs.Plain.{state_shown}
use Rattle.plain_engine.proofs.Moving.{made, made_alone, move_needs, refused, stepped}
use Rattle.plain_engine.proofs.state.State.make.Goals as goal

pub returns-in-CannotMove-clause-made : goal.returns-in-CannotMove-clause-made
returns-in-CannotMove-clause-made g c = λ setup x at.
    let s = state_shown g.M.Machine.shown c.args.self.now in
    let new = g.M.Machine.shown c.step.new.self in
    let slot = c.args.slot in
    let none_at : has_ended x ≡ false → (seat_of x slot).at_check_in ≡ false = λ going.
    sym (c.is_at_check_in.ensures.value x at.seats going) ∙ c.if-is_at_check_in.false in
    let came =
    stepped (texts_of setup) setup.limits at.run.moves slot new c.step.result CannotMove
    (c.in_ok-step.was ∙ ap Ok c.in-CannotMove.is)
    (c.step.ensures.moved (texts_of setup) setup.limits at.run.moves at.run.run (move_needs setup x s at slot none_at)) in
    refused setup x s at new slot c.step.ensures.same came.0 came.1

pub returns-then-made-clause-made : goal.returns-then-made-clause-made
returns-then-made-clause-made g c = λ setup x at.
    let s = state_shown g.M.Machine.shown c.args.self.now in
    let new = g.M.Machine.shown c.step.new.self in
    let slot = c.args.slot in
    let none_at : has_ended x ≡ false → (seat_of x slot).at_check_in ≡ false = λ going.
    sym (c.is_at_check_in.ensures.value x at.seats going) ∙ c.if-is_at_check_in.false in
    let came =
    stepped (texts_of setup) setup.limits at.run.moves slot new c.step.result (Done c.in-Done.made)
    (c.in_ok-step.was ∙ ap Ok c.in-Done.is)
    (c.step.ensures.moved (texts_of setup) setup.limits at.run.moves at.run.run (move_needs setup x s at slot none_at)) in
    let there = new.reached (texts_of setup) setup.limits (at.run.moves ++ source.Move slot ∷ []) came.run in
    made setup x s at new slot c.in-Done.made.leads c.step.ensures.same none_at came.run there.0 there.1
    came.leads c.follow_move.new.seats
    (c.follow_move.ensures (texts_of setup) setup.limits (at.run.moves ++ source.Move slot ∷ []) there.0 came.run there.1)

pub returns-else-made-clause-made : goal.returns-else-made-clause-made
returns-else-made-clause-made g c = λ setup x at.
    let s = state_shown g.M.Machine.shown c.args.self.now in
    let new = g.M.Machine.shown c.step.new.self in
    let slot = c.args.slot in
    let none_at : has_ended x ≡ false → (seat_of x slot).at_check_in ≡ false = λ going.
    sym (c.is_at_check_in.ensures.value x at.seats going) ∙ c.if-is_at_check_in.false in
    let came =
    stepped (texts_of setup) setup.limits at.run.moves slot new c.step.result (Done c.in-Done.made)
    (c.in_ok-step.was ∙ ap Ok c.in-Done.is)
    (c.step.ensures.moved (texts_of setup) setup.limits at.run.moves at.run.run (move_needs setup x s at slot none_at)) in
    let there = new.reached (texts_of setup) setup.limits (at.run.moves ++ source.Move slot ∷ []) came.run in
    made_alone setup x s at new slot c.in-Done.made.leads c.step.ensures.same none_at came.run there.0 there.1
    came.leads c.is_at_check_in.ensures.many (came.starts c.if-made.false) c.follow_mover.new.seats
    (c.follow_mover.ensures (texts_of setup) setup.limits (at.run.moves ++ source.Move slot ∷ []) there.0 came.run there.1)
