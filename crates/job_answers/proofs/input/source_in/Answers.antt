use Rattle.job_answers.proofs.Reading.{IsAnswered, answers, by_program_fault, is_answered, long_source, long_text, no_answer, program_fault}
use Rattle.job_answers.proofs.input.source_in.Goals as goal

pub returns-in-Ok-clause-complete : goal.returns-in-Ok-clause-complete
returns-in-Ok-clause-complete g c = λ program known.
    c.in-Ok.ensures.complete known.text program known.known known.fits known.accepted

pub returns-in-Ok-clause-first : goal.returns-in-Ok-clause-first
returns-in-Ok-clause-first g c = λ line fault.
    absurd (by_program_fault (λ l. ⊥) _ line fault
    (λ text is more. long_source _ text _ _ is more c.in-Ok.ensures.read)
    (λ text what at is fits wrong. no_answer c.in-Ok.source _ (c.in-Ok.ensures.first text what at is fits wrong)))

pub returns-in-Err-clause-complete : goal.returns-in-Err-clause-complete
returns-in-Err-clause-complete g c = λ program known.
    c.in-Err.ensures.complete known.text program known.known known.fits known.accepted

pub returns-in-Err-clause-first : goal.returns-in-Err-clause-first
returns-in-Err-clause-first g c = λ line fault.
    answers line c.in-Err.line (by_program_fault (λ l. IsAnswered l c.in-Err.line) _ line fault
    (λ text is more. long_text _ text _ is more c.in-Err.ensures.others)
    (λ text what at is fits wrong. is_answered _ c.in-Err.line (c.in-Err.ensures.first text what at is fits wrong)))

pub returns-in-Err-clause-fault : goal.returns-in-Err-clause-fault
returns-in-Err-clause-fault g c =
    program_fault c.args.file.now (g.F.Files.content c.args.files.now c.args.file.now) _ _ c.in-Err.line c.in-Err.ensures.unread
    c.in-Err.ensures.none_failed c.in-Err.ensures.too_long c.in-Err.ensures.others
