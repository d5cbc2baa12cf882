use Rattle.std.proofs.Common.{◌≡◌, ◌+◌, List, map, take, ap, sym, subst, ◌∙◌}
use Rattle.std.specs.Prelude.{filter_map}
use Rattle.std.specs.Option.{option_map}
use Rattle.c_tree.specs.Bare.{bare_def}
use Rattle.source_model.specs.Worlds.{cells_at_first}
use Rattle.source_programs.specs.declared.globals.Cells.{Cells}
use Rattle.source_programs.specs.Globals.{cells_of, globals_of}
use Rattle.source_programs.proofs.Defining.{next_definition}
use Rattle.source_programs.proofs.Reported.{reported_some, reported_none}
use Rattle.source_programs.proofs.globals.globals_of.Goals.{in-Some+in_ok-push, in_default}
use Rattle.source_programs.proofs.globals.globals_of.Goals as goal

pub loop-definition-preserved : goal.loop-definition-preserved
loop-definition-preserved c =
    let text = c.args.text.now in
    let i = c.loop-definition.definition-index in
    let own = bare_def c.definition-item.result in
    let cs = c.loop-definition.globals.items in
    let before = map bare_def (take i text) in
    let now = map bare_def (take (i + 1) text) in
    let longer = next_definition bare_def text i c.definition-item.result c.loop-definition-test.true c.definition-item.is in
    let so_far = c.loop-definition.invariant in
    let told = c.in_ok-cells.ensures in
    elim c.match-branch-2.branch [
      | in-Some+in_ok-push w ↦
          reported_some cells_of cells_at_first cs c.match-branch-2.globals.items w.in-Some.cells before now own
          (ap (λ v. v.items) w.globals-is ∙ w.in_ok-push.ensures.items) longer so_far
          (ap (option_map cells_of) (sym w.in-Some.is) ∙ told)
      | in_default w ↦
          let P : List Cells → Type 0 = λ xs. globals_of xs ≡ filter_map cells_at_first now in
          subst P (sym (ap (λ v. v.items) w.globals-is))
          (reported_none cells_of cells_at_first cs before now own longer so_far (ap (option_map cells_of) (sym w.in_default.is) ∙ told))
    ]
