use Rattle.std.proofs.Common.{arith, length-append, ap, ◌∙◌, List, [], ◌∷◌, ◌++◌}
use Rattle.resolved_tree.specs.declared.node.Entry.{Entry}
use Rattle.resolved_tree.specs.Nodes.{Tree}
use Rattle.resolved_tree.proofs.Growing.{grown_push, grown_count, within_entries, sound_after_push}
use Rattle.resolved_tree.proofs.trees.Trees.push.Goals as goal

pub invariant_of-self : goal.invariant_of-self
invariant_of-self c =
    let e : Entry = record { node = c.args.node; points = c.in-Ok.points } in
    record {
      sound = sound_after_push c.args.self.now.words c.args.self.now.entries.items c.push.new.self.items e c.push.result c.push.ensures.items
          c.args.self.now.sound (within_entries c.args.self.now.words c.args.self.now.entries.items c.args.node c.requires) (c.in-Ok.ensures.1 ∙ c.total.ensures);
    }

pub returns-clause-tree : goal.returns-clause-tree
returns-clause-tree c =
    let e : Entry = record { node = c.args.node; points = c.in-Ok.points } in
    rw c.in_ok-push.ensures.items
    (ap (λ (trees : List Tree). record { words = c.args.self.now.words; trees = trees })
    (grown_push c.args.self.now.words [] c.args.self.now.entries.items e))

pub returns-clause-id : goal.returns-clause-id
returns-clause-id c = omega (arith, c.len.ensures, grown_count c.args.self.now.words [] c.args.self.now.entries.items)

pub returns-clause-count : goal.returns-clause-count
returns-clause-count c =
    let words = c.args.self.now.words in
    let es = c.args.self.now.entries.items in
    let e : Entry = record { node = c.args.node; points = c.in-Ok.points } in
    rw c.in_ok-push.ensures.items
    (omega (arith, grown_count words [] (es ++ e ∷ []), grown_count words [] es, length-append es (e ∷ [])))
