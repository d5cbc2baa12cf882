use Rattle.std.proofs.Common.{ℕ, refl, sym, subst}
use Rattle.code_image.specs.Stacks.{AreNeverHigher}
use Rattle.code_machine.proofs.Starting.{fresh}
use Rattle.code_machine.proofs.running.Running.start.Goals as goal

pub returns-clause-fits : goal.returns-clause-fits
returns-clause-fits c = λ functions callees inside stacks.
    fresh functions callees c.start.new.self _ c.args.function 1 refl c.start.ensures.kept c.start.ensures.frames c.requires.serial refl inside
    (subst (λ (k : ℕ). AreNeverHigher k functions) (sym c.start.ensures.high) stacks) c.start.ensures.there
