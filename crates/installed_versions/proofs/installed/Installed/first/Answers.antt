use Rattle.std.proofs.lemmas.Result.{err_from_is_err_and}
use Rattle.installed_versions.proofs.Firsts.{first_fault}
use Rattle.installed_versions.proofs.installed.Installed.first.Goals as goal

pub returns-in_err-names-clause-fault : goal.returns-in_err-names-clause-fault
returns-in_err-names-clause-fault c =
    let p = err_from_is_err_and c.from_residual.result c.from_residual.ensures.1 in rw (p.1, p.2) tt

pub returns-in_err-store-clause-fault : goal.returns-in_err-store-clause-fault
returns-in_err-store-clause-fault c =
    let p = err_from_is_err_and c.from_residual-in_err-store.result c.from_residual-in_err-store.ensures.1 in
    rw (p.1, p.2) (first_fault c.in_ok-names.names c.args.text.now c.in_err-store.field-0.0 c.in_ok-names.ensures c.in_err-store.ensures.fault)
