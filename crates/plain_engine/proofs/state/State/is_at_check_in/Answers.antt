use Rattle.std.proofs.Common.{◌∙◌, arith, sym}
use Rattle.std.proofs.lemmas.Option.{slice_get_within}
use Rattle.plain_engine.specs.Plain.{state_shown}
use Rattle.plain_engine.proofs.Standing.{inside_is, outside_is}
use Rattle.plain_engine.proofs.Threads.{past_last}
use Rattle.plain_engine.proofs.state.State.is_at_check_in.Goals as goal

pub returns-in-Some-clause-value : goal.returns-in-Some-clause-value
returns-in-Some-clause-value g c = λ x are going.
    let s = state_shown g.M.Machine.shown c.args.self.now in
    let at = sym c.get.ensures.at ∙ c.in-Some.is in
    let inside = slice_get_within s.seats c.args.slot c.in-Some.seat at in
    let many = c.get.ensures.many in
    inside_is x s.run s.seats c.args.slot c.in-Some.seat are going (omega (arith, inside, many)) at

pub returns-in-Some-clause-within : goal.returns-in-Some-clause-within
returns-in-Some-clause-within g c = λ is.
    let s = state_shown g.M.Machine.shown c.args.self.now in
    let inside = slice_get_within s.seats c.args.slot c.in-Some.seat (sym c.get.ensures.at ∙ c.in-Some.is) in
    let many = c.get.ensures.many in
    omega (arith, inside, many)

pub returns-in-None-clause-value : goal.returns-in-None-clause-value
returns-in-None-clause-value g c = λ x are going.
    let s = state_shown g.M.Machine.shown c.args.self.now in
    let past = past_last s.seats c.args.slot (sym c.get.ensures.at ∙ c.in-None.is) in
    let many = c.get.ensures.many in
    outside_is x s.run s.seats c.args.slot are (omega (arith, past, many))
