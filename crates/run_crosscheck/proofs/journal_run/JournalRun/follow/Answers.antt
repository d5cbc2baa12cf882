use Rattle.std.proofs.Common.{◌++◌, ◌∷◌, [], suc, drop, take, subst}
use Rattle.std.specs.Prelude.{slice_index_or}
use Rattle.run_types.specs.declared.run.Event.TheVariants.{Move}
use Rattle.run_crosscheck.specs.Following.{HasFollowed}
use Rattle.run_crosscheck.proofs.Follow.{after_event, all_events, before_event}
use Rattle.run_crosscheck.proofs.journal_run.JournalRun.follow.Goals as goal

pub loop-event-preserved : goal.loop-event-preserved
loop-event-preserved c = λ setup g names same h.
    let i = c.loop-event.event-index in
    let events = c.args.events.now in
    let event = slice_index_or events i (Move 0) in
    let within = c.loop-event-test.true in
    let at = before_event setup g.answers events i c.loop-event.self within (c.loop-event.invariant setup g names same h) in
    after_event setup g.answers events i c.make.new.self within
    (subst (HasFollowed setup g.answers (take i events ++ event ∷ []) (drop (suc i) events) c.make.new.self) c.in-Done.is
    (c.in_ok-make.ensures setup g names (take i events) (drop (suc i) events) same at))

pub returns-in-CannotMove : goal.returns-in-CannotMove
returns-in-CannotMove c = λ setup g names same h.
    let i = c.loop-event.event-index in
    let events = c.args.events.now in
    let event = slice_index_or events i (Move 0) in
    let within = c.loop-event-test.true in
    let at = before_event setup g.answers events i c.loop-event.self within (c.loop-event.invariant setup g names same h) in
    subst (HasFollowed setup g.answers (take i events ++ event ∷ []) (drop (suc i) events) c.make.new.self) c.in-CannotMove.is
    (c.in_ok-make.ensures setup g names (take i events) (drop (suc i) events) same at)

pub returns : goal.returns
returns c = λ setup g names same h.
    all_events setup g.answers c.args.events.now c.loop-event.event-index c.loop-event.self c.loop-event-test.false
    (c.loop-event.invariant setup g names same h)
