use Rattle.std.proofs.Common.{sym, subst}
use Rattle.patch_compare.specs.Faults.{IsFault}
use Rattle.patch_compare.proofs.comparison.compare_names.Goals as goal

pub returns-in-Some : goal.returns-in-Some
returns-in-Some c = subst (λ found. IsFault found c.kind_fault.result) c.in-Some.ensures c.kind_fault.ensures

pub returns-in-Ok : goal.returns-in-Ok
returns-in-Ok c = (c.in-Ok.ensures.changed, c.in-Ok.ensures.interface, c.in-Ok.ensures.added, sym c.in_default.ensures)

pub returns-in-Err : goal.returns-in-Err
returns-in-Err c = tt
