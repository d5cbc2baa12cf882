use Rattle.std.proofs.Common.{bytes_eq, ap, sym, ◌∙◌}
use Rattle.std.specs.List.{position}
use Rattle.resolved_tree.specs.Nodes.{word}
use Rattle.resolved_tree.specs.Trees.{table}
use Rattle.source_programs.specs.Places.{place_in}
use Rattle.source_programs.specs.Programs.{name_of}
use Rattle.source_programs.proofs.ready.Ready.place_of.Goals as goal

pub returns-in-Struct : goal.returns-in-Struct
returns-in-Struct c = λ h.
    let t = table c.args.trees.now in
    let r = c.args.self.now in
    c.find-in-Struct.ensures ∙ ap (place_in r.tags) c.text-in-Struct.ensures ∙ h.tags (word t c.in-Struct.tag)
    ∙ ap (λ n. position (λ d. bytes_eq (name_of t n) (word t d.name)) r.definitions.items) (sym c.in-Struct.is)
