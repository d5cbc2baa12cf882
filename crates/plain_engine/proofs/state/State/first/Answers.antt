use Rattle.std.proofs.Common.{◌∙◌, ◌∷◌, [], ap, refl, slice_get, subst}
use Rattle.std.proofs.lemmas.Option.{same_Some}
use Rattle.std.proofs.lemmas.Result.{err_from_is_err_and}
use Rattle.c_semantics.specs.SourceTexts.{text_of}
use Rattle.installed_versions.specs.Firsts.{IsFirstFault}
use Rattle.installed_versions.specs.Installed.{IsInstalled}
use Rattle.dsu_runs.specs.Setups.{setup_of}
use Rattle.plain_engine.proofs.Starting.{first_run_at, first_state, lines_are}
use Rattle.plain_engine.proofs.state.State.first.Goals as goal

pub returns-clause-start : goal.returns-clause-start
returns-clause-start g c = λ text programs objects equal trees run meets.
    let lines = c.args.lines.items in
    let setup = setup_of text programs lines objects in
    let run_at = first_run_at text programs lines objects (g.M.Machine.shown c.args.run) equal run trees in
    let i = c.in_ok-installed.installed in
    let first = same_Some c.first_text.result.now text (c.first_text.ensures ∙ ap (λ ts. slice_get ts 0) trees) in
    first_state text programs lines objects _ run_at (c.first_seats-seats.ensures setup refl run_at)
    (subst (λ p. IsInstalled (text_of p ∷ []) i.count i.names i.store) first c.in_ok-installed.ensures.installed) c.in_ok-installed.ensures.rows refl trees
    (c.in_ok-book.ensures setup i.names (lines_are programs lines equal)) meets

pub returns-in_err-installed-clause-fault : goal.returns-in_err-installed-clause-fault
returns-in_err-installed-clause-fault g c =
    let p = err_from_is_err_and c.from_residual.result c.from_residual.ensures.1 in
    rw (p.1, p.2) (λ text offers trees.
    subst (λ q. IsFirstFault q c.in_err-installed.field-0.0)
    (same_Some c.first_text.result.now text (c.first_text.ensures ∙ ap (λ ts. slice_get ts 0) trees)) c.in_err-installed.ensures.fault)

pub returns-in_err-book-clause-fault : goal.returns-in_err-book-clause-fault
returns-in_err-book-clause-fault g c =
    let p = err_from_is_err_and c.from_residual-in_err-book.result c.from_residual-in_err-book.ensures.1 in
    rw (p.1, p.2) (λ text offers trees. tt)
