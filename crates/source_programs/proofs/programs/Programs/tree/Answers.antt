use Rattle.std.proofs.Common.{ap, ◌∙◌}
use Rattle.c_semantics.specs.Texts.{definition}
use Rattle.source_programs.specs.Programs.{table_of}
use Rattle.source_programs.proofs.programs.Programs.tree.Goals as goal

pub returns-in-Some : goal.returns-in-Some
returns-in-Some c = λ h.
    c.tree_named.ensures (table_of c.args.self.now) (c.in-Some.ensures.ready h)
    ∙ ap (λ text. definition text c.args.name.now) c.in-Some.ensures.text
