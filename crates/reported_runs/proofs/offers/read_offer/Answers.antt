use Rattle.std.proofs.Common.{List, ℕ, ◌++◌, ◌∷◌, [], ◌∙◌, ap, subst, sym}
use Rattle.std.proofs.lemmas.Result.{err_from_is_err_and}
use Rattle.c_tree.specs.declared.def.Program.{Program}
use Rattle.job_answers.specs.Jobs.{IsKnownProgram}
use Rattle.reported_runs.proofs.offers.read_offer.Goals as goal

pub returns-in_err-source-clause-complete : goal.returns-in_err-source-clause-complete
returns-in_err-source-clause-complete g c = λ program known.
    let p = err_from_is_err_and c.from_residual.result c.from_residual.ensures.1 in
    rw (p.1, p.2) (c.in_err-source.ensures.complete program
    (subst {A = List ℕ} (λ file. IsKnownProgram (g.F.Files.content c.args.files.now file) program) (sym c.as_str.ensures) known))

pub returns-in-Ok-clause-complete : goal.returns-in-Ok-clause-complete
returns-in-Ok-clause-complete g c = λ program known.
    c.in-Ok.ensures.programs ∙ ap (λ (p : Program). c.args.read.now.programs.items ++ p ∷ []) (c.in_ok-source.ensures.complete program
    (subst {A = List ℕ} (λ file. IsKnownProgram (g.F.Files.content c.args.files.now file) program) (sym c.as_str.ensures) known))
