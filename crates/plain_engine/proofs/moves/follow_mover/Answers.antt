use Rattle.std.proofs.Common.{◌∙◌, arith, subst, sym}
use Rattle.std.proofs.lemmas.Option.{slice_get_within}
use Rattle.plain_engine.specs.Kept.{AreAfter}
use Rattle.source_model.specs.Runs.{is_live}
use Rattle.source_model.specs.Worlds.{in_slot}
use Rattle.plain_engine.proofs.SlotsAfter.{moved_dead, moved_on, none_moved, one_moved}
use Rattle.plain_engine.proofs.Standing.{of_run}
use Rattle.plain_engine.proofs.Threads.{past_last}
use Rattle.plain_engine.proofs.moves.follow_mover.Goals as goal

pub returns-in_default : goal.returns-in_default
returns-in_default g c = λ texts limits moves w run reached none.
    let seats = c.args.seats.now in
    let past = past_last seats c.args.mover (sym c.get.ensures.at ∙ c.in_default.is) in
    let many = c.get.ensures.many in
    none_moved (g.M.Machine.shown c.args.run.now).words w c.args.mover c.args.leads seats many (omega (arith, past, many)) none

pub returns-then-is_live : goal.returns-then-is_live
returns-then-is_live g c = λ texts limits moves w run reached none.
    let t = (g.M.Machine.shown c.args.run.now).words in
    let seats = c.args.seats.now in
    let seat = c.in-Some.seat in
    let mover = c.args.mover in
    let leads = c.args.leads in
    let pinned = c.stays_pinned.result in
    let at = sym c.get.ensures.at ∙ c.in-Some.is in
    subst (AreAfter t w mover leads seats) (sym (c.go_on.ensures seat at))
    (one_moved t w mover leads seats seat (record seat { at_check_in = leads; pinned = pinned }) at
    (moved_on (in_slot w mover) leads pinned seat
    (of_run (λ x. is_live (in_slot x.world mover)) texts limits moves w c.is_live.result reached (c.is_live.ensures texts limits moves run)
    ∙ c.if-is_live.true)
    (c.stays_pinned.ensures texts limits moves w run reached))
    none)

pub returns-else-is_live : goal.returns-else-is_live
returns-else-is_live g c = λ texts limits moves w run reached none.
    let t = (g.M.Machine.shown c.args.run.now).words in
    let seats = c.args.seats.now in
    let seat = c.in-Some.seat in
    let mover = c.args.mover in
    let leads = c.args.leads in
    subst (AreAfter t w mover leads seats) (sym c.set.ensures)
    (one_moved t w mover leads seats seat c.empty.result (sym c.get.ensures.at ∙ c.in-Some.is)
    (moved_dead (in_slot w mover) leads seat c.empty.result
    (of_run (λ x. is_live (in_slot x.world mover)) texts limits moves w c.is_live.result reached (c.is_live.ensures texts limits moves run)
    ∙ c.if-is_live.false)
    c.empty.ensures)
    none)

pub go_on-requires : goal.go_on-requires
go_on-requires g c =
    let inside = slice_get_within c.args.seats.now c.args.mover c.in-Some.seat (sym c.get.ensures.at ∙ c.in-Some.is) in
    let many = c.get.ensures.many in
    omega (arith, inside, many)

pub set-requires : goal.set-requires
set-requires g c =
    let inside = slice_get_within c.args.seats.now c.args.mover c.in-Some.seat (sym c.get.ensures.at ∙ c.in-Some.is) in
    let many = c.get.ensures.many in
    omega (arith, inside, many)
