use Rattle.std.proofs.Common.{Option, ap, option_copied, slice_get, sym, ◌∙◌}
use Rattle.std.specs.Option.{option_and_then}
use Rattle.c_tree.specs.BareDef.{BareDef}
use Rattle.source_programs.specs.declared.definition.Definition.{Definition}
use Rattle.source_programs.specs.Programs.{text_of}
use Rattle.source_programs.proofs.ready.Ready.tree_named.Goals as goal

pub returns-in-Some : goal.returns-in-Some
returns-in-Some c = λ t h.
    let text = text_of c.args.self.now in
    let at : Definition → Option BareDef = λ d. slice_get text d.place in
    c.tree_at.ensures
    ∙ ap (option_and_then at) (sym (ap option_copied c.in-Some.is) ∙ c.named.ensures t h)
    ∙ h.trees c.args.name.now

pub returns-in-None : goal.returns-in-None
returns-in-None c = λ t h.
    let text = text_of c.args.self.now in
    let at : Definition → Option BareDef = λ d. slice_get text d.place in
    ap (option_and_then at) (sym (ap option_copied c.in-None.is) ∙ c.named.ensures t h)
    ∙ h.trees c.args.name.now
