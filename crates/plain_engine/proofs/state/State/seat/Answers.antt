use Rattle.std.proofs.Common.{◌∙◌, arith, subst, sym}
use Rattle.std.proofs.lemmas.Option.{slice_get_within}
use Rattle.source_model.specs.Guards.{bodies_of, seat_of}
use Rattle.source_model.specs.Worlds.{is_over}
use Rattle.plain_engine.specs.Asked.{IsHeld}
use Rattle.plain_engine.specs.Plain.{state_shown}
use Rattle.plain_engine.proofs.Querying.{held_inside, held_outside}
use Rattle.plain_engine.proofs.Threads.{past_last}
use Rattle.plain_engine.proofs.state.State.seat.Goals as goal

pub returns-in-None : goal.returns-in-None
returns-in-None g c = λ x are going.
    let s = state_shown g.M.Machine.shown c.args.self.now in
    let past = past_last s.seats c.args.slot (sym c.get.ensures.at ∙ c.in-None.is) in
    let many = c.get.ensures.many in
    subst (λ kept. IsHeld s.run.words (bodies_of x) (is_over x.world) kept (seat_of x c.args.slot)) (sym c.empty.ensures)
    (held_outside x s.run s.seats c.args.slot are (omega (arith, past, many)))

pub returns-in-Some : goal.returns-in-Some
returns-in-Some g c = λ x are going.
    let s = state_shown g.M.Machine.shown c.args.self.now in
    let at = sym c.get.ensures.at ∙ c.in-Some.is in
    let inside = slice_get_within s.seats c.args.slot c.in-Some.seat at in
    let many = c.get.ensures.many in
    held_inside x s.run s.seats c.args.slot c.in-Some.seat are going (omega (arith, inside, many)) at
