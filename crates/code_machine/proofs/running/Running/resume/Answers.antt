use Rattle.std.proofs.Common.{ℕ, length, refl, subst, arith}
use Rattle.code_machine.specs.Stops.{WentOn}
use Rattle.code_machine.specs.Versions.{texts_by}
use Rattle.code_machine.proofs.Resuming.{can_resume, resumed}
use Rattle.code_machine.proofs.running.Running.resume.Goals as goal

pub go_on-requires : goal.go_on-requires
go_on-requires c =
    can_resume c.args.image.now.functions.items (length c.args.image.now.callees.items) c.args.self.now c.args.stop.now c.requires.rests c.args.self.now.frames c.stack-height.result.1 c.requires.rests.fits.kept refl refl
    c.requires.plain.returns (omega (arith, c.stack-height.ensures.height, c.requires.plain.takes, c.requires.plain.leaves))

pub returns-clause-went : goal.returns-clause-went
returns-clause-went c = λ all versions code.
    resumed (texts_by all versions) c.args.image.now c.args.self.now c.go_on.new.self c.args.stop.now c.requires.rests
    (subst (λ (h : ℕ). WentOn (texts_by all versions) c.args.image.now c.args.self.now c.go_on.new.self c.args.stop.now.point c.args.stop.now.after h) c.stack-height.ensures.height (c.go_on.ensures.went all versions code))
