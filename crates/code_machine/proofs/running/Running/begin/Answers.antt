use Rattle.std.proofs.Common.{ℕ, ◌+◌, ◌<◌, Option, refl, subst, ◌∙◌, arith}
use Rattle.std.specs.Prelude.{◌^◌}
use Rattle.std.specs.Option.{SomeIff}
use Rattle.code_machine.proofs.Going.{runs_so}
use Rattle.code_machine.proofs.LocalStops.{begun}
use Rattle.code_machine.proofs.running.Running.begin.Goals as goal

pub returns-clause-made : goal.returns-clause-made
returns-clause-made c = λ all versions code.
    let deeper = c.args.self.now.depth + 1 in
    let counted = subst (λ (o : Option ℕ). SomeIff o (deeper < 2 ^ 64) deeper) c.in-Some.is c.checked_add.ensures in
    begun all versions c.args.image.now c.args.self.now c.args.stop.now code c.requires.rests c.resume.new.self c.in-Some.depth c.requires.act
    (c.resume.ensures.same.stand ∙ c.requires.rests.live) (omega (arith, counted.1)) (c.resume.ensures.went all versions code)

pub returns-clause-runs : goal.returns-clause-runs
returns-clause-runs c = λ all versions code.
    runs_so all versions c.args.image.now c.resume.new.self (record c.resume.new.self { depth = c.in-Some.depth }) refl (c.resume.ensures.runs all versions code)
