use Rattle.std.proofs.Common.{not, bytes_eq, ap, ◌∙◌, rules}
use Rattle.std.proofs.lemmas.Fn.{filter_same}
use Rattle.resolved_tree.specs.Nodes.{word}
use Rattle.resolved_tree.specs.Trees.{table}
use Rattle.source_data.specs.Stores.{holders_of, held_of}
use Rattle.source_data.proofs.Holders.{holders_without}
use Rattle.source_data.proofs.mutexes.set_free.Goals as goal

pub returns : goal.returns
returns c =
    let t = table c.args.trees.now in
    let mutex = word t c.args.mutex in
    ap (holders_of t) (filter_same _ (λ h. not (bytes_eq mutex (held_of t h).mutex)) _ (λ h b f' k. search rules) _ _ c.retain.ensures.filtered)
    ∙ holders_without t mutex c.args.holders.now.items
