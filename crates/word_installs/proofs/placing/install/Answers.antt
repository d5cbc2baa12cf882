use Rattle.std.proofs.Common.{◌≡◌, ℕ, ◌+◌, ◌<◌, subst, sym, ap, ◌∙◌}
use Rattle.code_runs.specs.CodeData.{Data}
use Rattle.code_runs.specs.CodeInstalls.{Installs}
use Rattle.word_installs.specs.NewRows.{with_rows}
use Rattle.word_installs.specs.Prepared.{in_next_version, without_holders}
use Rattle.word_installs.proofs.Installed.{installs, version_stays}
use Rattle.word_installs.proofs.placing.install.Goals as goal

pub next_version-requires : goal.next_version-requires
next_version-requires c =
    let made : c.let_go.new.shared ≡ without_holders c.args.gone.now (with_rows c.args.rows.items c.args.shared.now) =
    c.let_go.ensures ∙ ap (without_holders c.args.gone.now) c.put_rows.ensures
    in
    let version : c.let_go.new.shared.version ≡ c.args.shared.now.version =
    ap (λ (d : Data). d.version) made ∙ version_stays c.args.rows.items c.args.gone.now c.args.shared.now
    in
    subst (λ (k : ℕ). k + 1 < 4294967296) (sym version) c.requires

pub returns-clause-installs : goal.returns-clause-installs
returns-clause-installs c = λ texts names q w is prepared.
    subst (λ (d : Data). Installs texts names q w (record w { shared = d }))
    (sym (c.next_version.ensures ∙ ap in_next_version (c.let_go.ensures ∙ ap (without_holders c.args.gone.now) c.put_rows.ensures)))
    (installs texts names q w c.args.shared.now c.args.rows.items c.args.gone.now is prepared)
