use Rattle.std.proofs.Common.{refl}
use Rattle.code_machine.proofs.Keeping.{keeps_all}
use Rattle.code_machine.proofs.Reaching.{is_alone}
use Rattle.code_machine.proofs.moves.with_others.Goals as goal

pub returns-in_default-clause-keeps : goal.returns-in_default-clause-keeps
returns-in_default-clause-keeps c =
    keeps_all c.args.image.now c.args.run.now _ (record { versions = refl; in_force = refl; layouts = refl }) refl refl c.requires.kept refl refl refl

pub returns-in_default-clause-came : goal.returns-in_default-clause-came
returns-in_default-clause-came c = λ all ready.
    absurd (c.requires.others (is_alone c.args.stop.now.act c.in_default.not-Spawn c.in_default.not-Join))
