use Rattle.std.proofs.Common.{◌≡◌, [], List, map, take, drop}
use Rattle.c_tree.specs.BareExpr.{Bytes}
use Rattle.source_model.specs.Answers.{answer_seen}
use Rattle.source_model.specs.Guards.{Guard, Setup}
use Rattle.source_model.specs.Journals.{answers}
use Rattle.run_crosscheck.specs.Following.{IsFollowed}
use Rattle.run_crosscheck.proofs.journal_run.JournalRun.follow.Given as goal

-- the events so far were followed
abbrev pub invariant-loop-event : goal.invariant-loop-event
invariant-loop-event l =
    (setup : Setup) (g : Guard) (names : List Bytes) → map (answer_seen names) l.fn.given ≡ answers setup g
    → IsFollowed setup g.answers [] l.fn.events l.initial.self
    → IsFollowed setup g.answers (take l.event-index l.fn.events) (drop l.event-index l.fn.events) l.self
