use Rattle.std.proofs.Common.{◌≡◌, ◌∷◌, [], ◌++◌, map, sym, ap, ◌∙◌}
use Rattle.resolved_tree.specs.Nodes.{word}
use Rattle.local_evaluation.specs.Values.{seen}
use Rattle.resolved_tree.specs.Trees.{table}
use Rattle.source_data.proofs.Globals.{changed_at, changed_nowhere, place_within, placed_kept}
use Rattle.source_data.proofs.cells.set_global.Goals as goal

pub invariant_of-globals : goal.invariant_of-globals
invariant_of-globals c =
    let globals = c.args.globals.now in
    let found = sym c.place_of.ensures ∙ c.in-Some.is in
    record {
      placed = placed_kept globals.list.items globals.places c.in-Some.place c.index_mut.result.now _
          (place_within globals.list.items (word (table c.args.trees.now) c.args.name) c.in-Some.place found) (ap (λ g. g.name) c.index_mut.ensures.value) globals.placed;
    }

pub returns-in_ok-push : goal.returns-in_ok-push
returns-in_ok-push c =
    let t = table c.args.trees.now in
    let items : c.push.new.self.items ≡ c.args.value ∷ [] =
    c.in_ok-push.ensures.items ∙ ap (λ l. l ++ c.args.value ∷ []) c.clear.ensures.items
    in
    changed_at c.args.globals.now.list.items (word t c.args.name) c.in-Some.place c.index_mut.result.now _ (seen c.args.value ∷ [])
    (sym c.place_of.ensures ∙ c.in-Some.is) (ap (λ g. g.name) c.index_mut.ensures.value) (ap (map seen) items)

pub returns-in_default : goal.returns-in_default
returns-in_default c =
    let t = table c.args.trees.now in
    changed_nowhere c.args.globals.now.list.items (word t c.args.name) (seen c.args.value ∷ []) (sym c.place_of.ensures ∙ c.in_default.is)
