use Rattle.std.proofs.Common.{refl}
use Rattle.code_machine.proofs.Going.{runs_there}
use Rattle.code_machine.proofs.Keeping.{keeps_all}
use Rattle.code_machine.proofs.Trapping.{trap_moves}
use Rattle.code_machine.proofs.moves.trap.Goals as goal

pub returns-clause-keeps : goal.returns-clause-keeps
returns-clause-keeps c =
    keeps_all c.args.image.now c.args.run.now _ (record { versions = refl; in_force = refl; layouts = refl }) refl refl c.requires.kept refl refl refl

pub returns-clause-came : goal.returns-clause-came
returns-clause-came c = λ all ready.
    let l = c.requires.lives in
    let old = c.args.run.now in
    trap_moves all c.args.image.now old c.args.slot c.args.kind l.running (runs_there all c.args.image.now old c.args.slot l.running ready.run_is l.there)
    (c.requires.kept.slots.fit c.args.slot l.running l.there) l.there l.live l.does l.going
