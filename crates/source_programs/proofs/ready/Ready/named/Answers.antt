use Rattle.std.proofs.Common.{bytes_eq, sym, ◌∙◌}
use Rattle.resolved_tree.specs.Nodes.{word}
use Rattle.source_programs.proofs.Placed.{find_there, find_nowhere}
use Rattle.source_programs.proofs.ready.Ready.named.Goals as goal

pub returns-in-Some : goal.returns-in-Some
returns-in-Some c = λ t h.
    let name = c.args.name.now in
    c.at.ensures
    ∙ find_there (λ d. bytes_eq name (word t d.name)) c.args.self.now.definitions.items c.in-Some.place
    (sym (c.find.ensures ∙ h.names name) ∙ c.in-Some.is)

pub returns-in-None : goal.returns-in-None
returns-in-None c = λ t h.
    let name = c.args.name.now in
    find_nowhere (λ d. bytes_eq name (word t d.name)) c.args.self.now.definitions.items (sym (c.find.ensures ∙ h.names name) ∙ c.in-None.is)
