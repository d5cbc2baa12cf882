use Rattle.std.proofs.Common.{List, Ok, ◌≡◌, ◌∷◌, ◌∙◌, ap, map, subst, sym}
use Rattle.std.specs.Prelude.{IfOk}
use Rattle.c_tree.specs.declared.def.Program.{Program}
use Rattle.source_programs.specs.Programs.{text_in}
use Rattle.image_load.specs.Loaded.{HasFewNames}
use Rattle.dsu_cli.specs.declared.job.EngineKind.{EngineKind}
use Rattle.dsu_cli.specs.declared.job.EngineKind.TheVariants.{Compiled}
use Rattle.reported_runs.proofs.engines.engine_for.Goals as goal

pub returns-in-Compiled-clause-named : goal.returns-in-Compiled-clause-named
returns-in-Compiled-clause-named c =
    subst {A = List Program} (λ ps. IfOk c.by_code.result (λ kind. kind ≡ Compiled → HasFewNames (map text_in (c.args.program.now ∷ ps))))
    c.as_slice.ensures.value c.by_code.ensures.named

pub returns-in-Compiled-clause-asked : goal.returns-in-Compiled-clause-asked
returns-in-Compiled-clause-asked c = λ few.
    subst (λ (asked : EngineKind). IfOk c.by_code.result (λ kind. kind ≡ asked)) (sym c.in-Compiled.is)
    (c.by_code.ensures.asked (subst {A = List Program} (λ ps. HasFewNames (map text_in (c.args.program.now ∷ ps))) (sym c.as_slice.ensures.value) few))

pub returns-in-Compiled-clause-alone : goal.returns-in-Compiled-clause-alone
returns-in-Compiled-clause-alone c = λ none. c.by_code.ensures.alone (c.as_slice.ensures.value ∙ none) ∙ ap Ok (sym c.in-Compiled.is)
