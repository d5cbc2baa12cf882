use Rattle.std.proofs.Common.{◌++◌, ◌∙◌, List, ap, map, subst, sym}
use Rattle.std.specs.Prelude.{◌∷◌, [], IfOk}
use Rattle.c_tree.specs.declared.def.Program.{Program}
use Rattle.c_semantics.specs.SourceTexts.{text_of}
use Rattle.source_programs.specs.Programs.{text_in}
use Rattle.dsu_runs.specs.Setups.{limits_of}
use Rattle.image_load.specs.Loaded.{HasFewNames}
use Rattle.compiled_run.specs.Compiled.{compiled_shown}
use Rattle.compiled_engine.proofs.TextsOfPrograms.{definitions_are}
use Rattle.compiled_engine.proofs.start.first_run.Goals as goal

pub returns-clause-run : goal.returns-clause-run
returns-clause-run c =
    let a = c.args in
    let same = c.in_ok-append.ensures.items ∙ ap (λ ts. ts ++ a.offers.items) c.in_ok-texts.ensures.items in
    subst {A = List Program} (λ ts. IfOk c.new.result (λ r. (compiled_shown r).is_run (map text_in ts) (limits_of a.objects) [])) same
    (c.new.ensures.run (record {
      whole = map text_of (a.text ∷ a.offers.items);
      accepted = c.requires.accepted;
      are = definitions_are (a.text ∷ a.offers.items) ∙ ap (map text_in) (sym same);
    }))

pub returns-clause-fault : goal.returns-clause-fault
returns-clause-fault c =
    let a = c.args in
    let same = c.in_ok-append.ensures.items ∙ ap (λ ts. ts ++ a.offers.items) c.in_ok-texts.ensures.items in
    c.new.ensures.fault (record {
      whole = map text_of (a.text ∷ a.offers.items);
      accepted = c.requires.accepted;
      are = definitions_are (a.text ∷ a.offers.items) ∙ ap (map text_in) (sym same);
    })
    (subst {A = List Program} (λ ts. HasFewNames (map text_in ts)) (sym same) c.requires.named)
