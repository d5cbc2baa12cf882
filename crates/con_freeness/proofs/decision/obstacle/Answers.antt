use Rattle.std.proofs.Common.{Some, None, ◌∙◌}
use Rattle.name_sets.specs.Texts.{text_of}
use Rattle.con_freeness.proofs.EachRow.{concrete_first, across_next}
use Rattle.con_freeness.proofs.LeastNames.{least_is}
use Rattle.con_freeness.proofs.decision.obstacle.Goals as goal

pub returns-in-Some-clause-effect : goal.returns-in-Some-clause-effect
returns-in-Some-clause-effect c = λ texts list other table row set other_set.
    concrete_first texts c.args.pinned list other (text_of c.args.names.now c.in-Some.name)
    (least_is c.args.names.now c.args.interface.now c.args.row.now.concrete other texts.concrete table other_set row.concrete
    c.requires.concrete (Some c.in-Some.name) c.in-Some.ensures)

pub returns-in-None-clause-effect : goal.returns-in-None-clause-effect
returns-in-None-clause-effect c = λ texts list other table row set other_set.
    c.across.ensures.effect texts list table row set
    ∙ across_next texts c.args.pinned list other
    (least_is c.args.names.now c.args.interface.now c.args.row.now.concrete other texts.concrete table other_set row.concrete
    c.requires.concrete None c.in-None.ensures)

pub returns-in-Some-clause-known : goal.returns-in-Some-clause-known
returns-in-Some-clause-known c = c.requires.concrete c.in-Some.name c.in-Some.ensures.member
