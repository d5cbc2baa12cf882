use Rattle.std.proofs.Common.{List, [], ◌∷◌, ◌++◌, map, ap, sym, subst, ◌∙◌}
use Rattle.std.specs.List.{flat_map, AllZip}
use Rattle.std.proofs.lemmas.Result.{IfOk-weaker}
use Rattle.c_tree.specs.BareExpr.{Bytes}
use Rattle.c_semantics.specs.SourceTexts.{text_of}
use Rattle.c_semantics.specs.Store.{store}
use Rattle.c_semantics.specs.Texts.{definition}
use Rattle.check_in_places.specs.declared.section.Section.{Section}
use Rattle.check_in_places.specs.Bodies.{AreSections}
use Rattle.check_in_places.specs.CheckIns.{functions}
use Rattle.admits_report.specs.AdmitsText.{block_text, end_text, IsBlockOf}
use Rattle.admits_report.specs.Answered.{AreAnswersOf}
use Rattle.admits_report.specs.Shown.{block_of}
use Rattle.admits_report.proofs.Blocks.{blocks_are}
use Rattle.admits_report.proofs.output.text_of_patch.Goals as goal

pub returns : goal.returns
returns c = λ changed interface stored in_c in_i.
    let program = c.args.program.now in
    let q = text_of program in
    let a = c.in_ok-admission.admission in
    let sections = c.in_ok-bodies.bodies.sections.items in
    let bodies = store (q ∷ []) in
    IfOk-weaker c.text_of_sections.result _ _
    (λ output is. record {
      blocks = map (block_of a.names.now) is.functions;
      are = blocks_are a bodies changed interface q 0 (functions program) sections is.functions
          (c.in_ok-admission.ensures.over bodies changed interface stored in_c in_i)
          (subst {A = List Bytes} (λ names. AreSections names (definition q.definitions) 0 (functions program) sections)
          (sym c.in_ok-admission.ensures.names) c.in_ok-bodies.ensures.sections)
          (subst {A = List Section} (λ list. AllZip (AreAnswersOf a) list is.functions) c.as_slice.ensures.value is.are);
      printed = is.printed
          ∙ ap (λ bytes. flat_map (block_text bytes) (map (block_of a.names.now) is.functions) ++ end_text (map (block_of a.names.now) is.functions))
          c.in_ok-lines.ensures;
    })
    c.text_of_sections.ensures
