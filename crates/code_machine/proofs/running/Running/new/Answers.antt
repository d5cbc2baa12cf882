use Rattle.std.proofs.Common.{ℕ, length, refl, sym, subst, arith}
use Rattle.code_image.specs.Stacks.{AreNeverHigher}
use Rattle.code_machine.proofs.Starting.{fresh, no_arguments}
use Rattle.code_machine.proofs.running.Running.new.Goals as goal

pub returns-clause-fits : goal.returns-clause-fits
returns-clause-fits c =
    let image = c.args.image.now in
    let s = c.in_ok-new.field-0 in
    fresh image.functions.items (length image.callees.items) s _ image.main 0 refl c.in_ok-new.ensures.kept c.in_ok-new.ensures.empty (omega arith) refl image.begins
    (subst (λ (k : ℕ). AreNeverHigher k image.functions.items) (sym c.in_ok-new.ensures.high) image.highest.never_higher)
    (no_arguments s c.in_ok-new.ensures.empty)
