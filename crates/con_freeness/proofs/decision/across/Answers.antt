use Rattle.std.proofs.Common.{Some, None}
use Rattle.name_sets.specs.Texts.{text_of}
use Rattle.con_freeness.proofs.EachRow.{no_future, no_prior, pinned_future, both_sides}
use Rattle.con_freeness.proofs.LeastNames.{least_is}
use Rattle.con_freeness.proofs.decision.across.Goals as goal

pub returns-in_default-clause-effect : goal.returns-in_default-clause-effect
returns-in_default-clause-effect c = λ texts list table row set.
    no_future texts c.args.pinned list
    (least_is c.args.names.now c.args.changed.now c.args.row.now.future list texts.future table set row.future c.requires.future
    None c.in_default.ensures)

pub returns-then-pinned-clause-effect : goal.returns-then-pinned-clause-effect
returns-then-pinned-clause-effect c = λ texts list table row set.
    pinned_future texts c.args.pinned list (text_of c.args.names.now c.in-Some.future) c.if-pinned.true
    (least_is c.args.names.now c.args.changed.now c.args.row.now.future list texts.future table set row.future c.requires.future
    (Some c.in-Some.future) c.in-Some.ensures)

pub returns-in-Some-least_common-clause-effect : goal.returns-in-Some-least_common-clause-effect
returns-in-Some-least_common-clause-effect c = λ texts list table row set.
    both_sides texts c.args.pinned list (text_of c.args.names.now c.in-Some-least_common.prior) (text_of c.args.names.now c.in-Some.future)
    c.if-pinned.false
    (least_is c.args.names.now c.args.changed.now c.args.row.now.prior list texts.prior table set row.prior c.requires.prior
    (Some c.in-Some-least_common.prior) c.in-Some-least_common.ensures)
    (least_is c.args.names.now c.args.changed.now c.args.row.now.future list texts.future table set row.future c.requires.future
    (Some c.in-Some.future) c.in-Some.ensures)

pub returns-in-None-clause-effect : goal.returns-in-None-clause-effect
returns-in-None-clause-effect c = λ texts list table row set.
    no_prior texts c.args.pinned list c.if-pinned.false
    (least_is c.args.names.now c.args.changed.now c.args.row.now.prior list texts.prior table set row.prior c.requires.prior
    None c.in-None.ensures)

pub returns-then-pinned-clause-known : goal.returns-then-pinned-clause-known
returns-then-pinned-clause-known c = c.requires.future c.in-Some.future c.in-Some.ensures.member

pub returns-in-Some-least_common-clause-known : goal.returns-in-Some-least_common-clause-known
returns-in-Some-least_common-clause-known c = (
  c.requires.prior c.in-Some-least_common.prior c.in-Some-least_common.ensures.member,
  c.requires.future c.in-Some.future c.in-Some.ensures.member,
)
