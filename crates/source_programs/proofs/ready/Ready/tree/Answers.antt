use Rattle.std.proofs.Common.{Option, ap, option_copied, slice_get, sym, ◌∙◌}
use Rattle.std.specs.Option.{option_and_then}
use Rattle.c_tree.specs.BareDef.{BareDef}
use Rattle.resolved_tree.specs.Trees.{table}
use Rattle.source_programs.specs.declared.definition.Definition.{Definition}
use Rattle.source_programs.specs.Programs.{name_of, text_of}
use Rattle.source_programs.proofs.ready.Ready.tree.Goals as goal

pub returns-in-Some : goal.returns-in-Some
returns-in-Some c = λ h.
    let text = text_of c.args.self.now in
    let at : Definition → Option BareDef = λ d. slice_get text d.place in
    c.tree_at.ensures
    ∙ ap (option_and_then at) (sym (ap option_copied c.in-Some.is) ∙ c.find.ensures h)
    ∙ h.trees (name_of (table c.args.trees.now) c.args.name)

pub returns-in-None : goal.returns-in-None
returns-in-None c = λ h.
    let text = text_of c.args.self.now in
    let at : Definition → Option BareDef = λ d. slice_get text d.place in
    ap (option_and_then at) (sym (ap option_copied c.in-None.is) ∙ c.find.ensures h)
    ∙ h.trees (name_of (table c.args.trees.now) c.args.name)
