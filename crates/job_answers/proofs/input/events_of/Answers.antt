use Rattle.job_answers.proofs.Reading.{IsAnswered, answers, by_journal_fault, is_answered, journal_fault, long_journal}
use Rattle.job_answers.proofs.input.events_of.Goals as goal

pub returns-in-Err-clause-first : goal.returns-in-Err-clause-first
returns-in-Err-clause-first g c = λ line fault.
    answers line c.in-Err.line (by_journal_fault (λ l. IsAnswered l c.in-Err.line) _ line fault
    (λ text is more. long_journal _ text _ is more c.in-Err.ensures.others)
    (λ text wrong is fits e. is_answered _ c.in-Err.line (c.in-Err.ensures.first text wrong is fits e)))

pub returns-in-Err-clause-fault : goal.returns-in-Err-clause-fault
returns-in-Err-clause-fault g c =
    journal_fault c.args.file.now (g.F.Files.content c.args.files.now c.args.file.now) _ _ c.in-Err.line c.in-Err.ensures.unread
    c.in-Err.ensures.none_failed c.in-Err.ensures.too_long c.in-Err.ensures.others
