use Rattle.std.proofs.Common.{sym, subst, arith}
use Rattle.c_parser.specs.Programs.{ReadsProgram}
use Rattle.c_parser.specs.TextPlans.TextParsed.{stuck_at, deep_at}
use Rattle.c_parser.specs.Parts.{Comes, ItemsStop}
use Rattle.c_parser.proofs.ProgramReadings.{program_read}
use Rattle.c_parser.proofs.ParseAnswers.{stuck_answer, deep_answer, stuck_within, deep_within}
use Rattle.c_parser.proofs.parser.program.Goals as goal

pub overflow_sub-result : goal.overflow_sub-result
overflow_sub-result c =
    let h : Comes c.args.tokens.now (stuck_at c.in-Err-Stuck.left) = subst (ItemsStop c.args.tokens.now) c.in-Err-Stuck.field-0-is c.in-Err-Stuck.ensures in
    omega (arith, stuck_within _ _ _ _ h.items h.some_left h.stopped)

pub overflow_sub-result-in-Err-Deep : goal.overflow_sub-result-in-Err-Deep
overflow_sub-result-in-Err-Deep c =
    let h : Comes c.args.tokens.now (deep_at c.in-Err-Deep.left) = subst (ItemsStop c.args.tokens.now) c.in-Err-Deep.field-0-is c.in-Err-Deep.ensures in
    omega (arith, deep_within _ _ _ _ h.items h.stopped)

pub returns-in-Err-Stuck : goal.returns-in-Err-Stuck
returns-in-Err-Stuck c =
    let h : Comes c.args.tokens.now (stuck_at c.in-Err-Stuck.left) = subst (ItemsStop c.args.tokens.now) c.in-Err-Stuck.field-0-is c.in-Err-Stuck.ensures in
    let w = stuck_within _ _ _ _ h.items h.some_left h.stopped in
    stuck_answer _ _ _ _ h.items h.some_left h.stopped _ (omega (arith, w))

pub returns-in-Err-Deep : goal.returns-in-Err-Deep
returns-in-Err-Deep c =
    let h : Comes c.args.tokens.now (deep_at c.in-Err-Deep.left) = subst (ItemsStop c.args.tokens.now) c.in-Err-Deep.field-0-is c.in-Err-Deep.ensures in
    let w = deep_within _ _ _ _ h.items h.stopped in
    deep_answer _ _ _ _ h.items h.stopped _ (omega (arith, w))

pub returns-in-Ok : goal.returns-in-Ok
returns-in-Ok c =
    subst (λ l. ReadsProgram c.args.tokens.now c.args.end (record { definitions = l; end = c.args.end })) (sym c.of.ensures) (program_read _ _ _ c.in-Ok.ensures)
