use Rattle.std.proofs.Common.{◌≡◌, [], ◌∷◌, ◌++◌, sym, ap, subst, ◌∙◌}
use Rattle.code_store.specs.Stored.{meant_body, IsStoreOf}
use Rattle.code_store.proofs.StoredBodies.{store_with_body}
use Rattle.code_store.proofs.store.Store.add.Goals as goal

pub returns-clause-store : goal.returns-clause-store
returns-clause-store c =
    let items : c.push.new.self.items ≡ c.args.self.now ++ c.args.body ∷ [] =
    c.in_default.ensures.items ∙ ap (λ bs. bs ++ c.args.body ∷ []) c.self.view_is in
    λ names bodies store named.
    subst (λ items. IsStoreOf names (bodies ++ meant_body names c.args.body ∷ []) items) (sym items)
    (store_with_body c.args.self.now c.args.body c.requires names bodies store named)
