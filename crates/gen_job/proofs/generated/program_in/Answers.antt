use Rattle.gen_job.proofs.Generating.{as_complete, as_fault, as_first, as_known, isnt_program, too_long_is_known, too_long_told}
use Rattle.std.proofs.Common.{inr}
use Rattle.gen_job.proofs.generated.program_in.Goals as goal

pub returns-then-text-gt-TEXT_LIMIT-clause-fault : goal.returns-then-text-gt-TEXT_LIMIT-clause-fault
returns-then-text-gt-TEXT_LIMIT-clause-fault c = inr (too_long_is_known c.args.text.now c.if-text-gt-TEXT_LIMIT.true)

pub returns-then-text-gt-TEXT_LIMIT-clause-complete : goal.returns-then-text-gt-TEXT_LIMIT-clause-complete
returns-then-text-gt-TEXT_LIMIT-clause-complete c = λ program known. absurd (isnt_program c.args.text.now c.if-text-gt-TEXT_LIMIT.true program known)

pub returns-then-text-gt-TEXT_LIMIT-clause-first : goal.returns-then-text-gt-TEXT_LIMIT-clause-first
returns-then-text-gt-TEXT_LIMIT-clause-first c = λ line wrong. too_long_told c.args.text.now c.if-text-gt-TEXT_LIMIT.true line wrong

pub returns-clause-read : goal.returns-clause-read
returns-clause-read c = as_known c.args.text.now c.if-text-gt-TEXT_LIMIT.false c.tree_of.result c.tree_of.ensures.accepted

pub returns-clause-fault : goal.returns-clause-fault
returns-clause-fault c = as_fault c.args.text.now c.if-text-gt-TEXT_LIMIT.false c.tree_of.result c.tree_of.ensures.refused

pub returns-clause-complete : goal.returns-clause-complete
returns-clause-complete c = as_complete c.args.text.now c.if-text-gt-TEXT_LIMIT.false c.tree_of.result c.tree_of.ensures.complete

pub returns-clause-first : goal.returns-clause-first
returns-clause-first c = as_first c.args.text.now c.if-text-gt-TEXT_LIMIT.false c.tree_of.result c.tree_of.ensures.first
