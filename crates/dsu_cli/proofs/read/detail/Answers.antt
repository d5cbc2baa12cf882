use Rattle.std.proofs.Common.{◌≡◌, ◌∙◌, true, false, sym, ap, refl, codes}
use Rattle.std.specs.Prelude.{nat_lt}
use Rattle.dsu_cli.specs.declared.setting.Switch.TheVariants.{Explain}
use Rattle.dsu_cli.specs.Words.{uses}
use Rattle.dsu_cli.proofs.read.detail.Goals as goal

pub returns-then-is_used : goal.returns-then-is_used
returns-then-is_used c its sorts =
    let used : nat_lt 0 (uses (codes "explain") its) ≡ true = ap (nat_lt 0) (sym (sorts.switches Explain)) ∙ sym c.is_used.ensures ∙ c.if-is_used.true in
    rw used refl

pub returns-else-is_used : goal.returns-else-is_used
returns-else-is_used c its sorts =
    let unused : nat_lt 0 (uses (codes "explain") its) ≡ false = ap (nat_lt 0) (sym (sorts.switches Explain)) ∙ sym c.is_used.ensures ∙ c.if-is_used.false in
    rw unused refl
