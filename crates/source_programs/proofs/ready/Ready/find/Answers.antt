use Rattle.std.proofs.Common.{bytes_eq, sym, ◌∙◌}
use Rattle.resolved_tree.specs.Nodes.{word}
use Rattle.resolved_tree.specs.Trees.{table}
use Rattle.source_programs.specs.Programs.{name_of}
use Rattle.source_programs.proofs.Placed.{find_there, find_nowhere}
use Rattle.source_programs.proofs.ready.Ready.find.Goals as goal

pub returns-in-Some : goal.returns-in-Some
returns-in-Some c = λ h.
    let t = table c.args.trees.now in
    let name = name_of t c.args.name in
    c.at.ensures
    ∙ find_there (λ d. bytes_eq name (word t d.name)) c.args.self.now.definitions.items c.in-Some.place (sym (c.place_of.ensures h) ∙ c.in-Some.is)

pub returns-in-None : goal.returns-in-None
returns-in-None c = λ h.
    let t = table c.args.trees.now in
    let name = name_of t c.args.name in
    find_nowhere (λ d. bytes_eq name (word t d.name)) c.args.self.now.definitions.items (sym (c.place_of.ensures h) ∙ c.in-None.is)
