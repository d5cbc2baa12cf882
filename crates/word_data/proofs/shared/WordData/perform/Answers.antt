use Rattle.std.proofs.Common.{[], sym, subst}
use Rattle.std.proofs.lemmas.List.{append-nil}
use Rattle.std.proofs.lemmas.Result.{IfOk-weaker}
use Rattle.resolved_tree.specs.Trees.{table}
use Rattle.word_data.specs.Resolved.{Resolves}
use Rattle.word_data.proofs.Creations.{allocates}
use Rattle.word_data.proofs.shared.WordData.perform.Goals as goal

pub returns-in-New-clause-performs : goal.returns-in-New-clause-performs
returns-in-New-clause-performs c = λ names text seen r.
    let t = table c.args.trees.now in
    IfOk-weaker c.allocate.result _ _
    (λ did m. (
      [],
      (
        sym (append-nil c.args.printed.now.items),
        allocates t names text c.args.slot c.args.stack c.args.self.now c.allocate.new.self c.args.words.now c.allocate.new.words did seen c.in-New.tag
            (subst (λ s. Resolves t names text seen s) c.in-New.is r) m,
      ),
    ))
    c.allocate.ensures.made
