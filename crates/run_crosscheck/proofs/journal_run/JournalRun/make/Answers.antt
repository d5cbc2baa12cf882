use Rattle.std.proofs.Common.{◌++◌, ◌∷◌, [], IfOk, refl, sym, subst}
use Rattle.std.proofs.lemmas.Result.{IfOk-weaker}
use Rattle.source_model.specs.JournalLaws.{texts_of}
use Rattle.source_model.specs.Journals.{moves}
use Rattle.run_crosscheck.specs.Following.{HasFollowed, IsFollowed}
use Rattle.run_crosscheck.proofs.Follow.{passes, stepped}
use Rattle.run_crosscheck.proofs.journal_run.JournalRun.make.Goals as goal

pub returns-in-Move : goal.returns-in-Move
returns-in-Move c = λ setup g names es rest same h.
    let old = c.args.self.now in
    let new = record old { run = c.step.new.self } in
    subst
    (λ e. IsFollowed setup g.answers es (e ∷ rest) old → IfOk c.step.result (HasFollowed setup g.answers (es ++ e ∷ []) rest new))
    (sym c.in-Move.is)
    (λ at.
    IfOk-weaker c.step.result _ _ (stepped setup g.answers es rest _ old new at c.step.ensures.same refl)
    (c.step.ensures.stepped (texts_of setup) setup.limits (moves g.answers es) at.at.recorded).came)
    h

pub returns-in-Decide : goal.returns-in-Decide
returns-in-Decide c = λ setup g names es rest same h.
    let old = c.args.self.now in
    subst
    (λ e. IsFollowed setup g.answers es (e ∷ rest) old
    → IfOk c.follow_decision.result (HasFollowed setup g.answers (es ++ e ∷ []) rest c.follow_decision.new.self))
    (sym c.in-Decide.is) (λ at. c.follow_decision.ensures setup g names es rest same at) h

pub returns-in-CheckIn : goal.returns-in-CheckIn
returns-in-CheckIn c = λ setup g names es rest same h. passes setup g.answers es rest c.args.event c.args.self.now c.in-CheckIn.is h
