use Rattle.std.proofs.Common.{◌≡◌, ◌∙◌, ◌++◌, ◌∷◌, [], ap, inr, None, Option, ℕ, string_bytes, Global, String}
use Rattle.std.proofs.lemmas.List.{map-append}
use Rattle.c_scope.specs.Names.{texts_of, places_of, Lacks}
use Rattle.c_scope.proofs.NameLemmas.{insert-lacking, number-last}
use Rattle.c_scope.proofs.names.add.Goals as goal

pub returns-clause-added : goal.returns-clause-added
returns-clause-added c =
    let old = c.args.names.now.entries in
    let key = c.in_ok-owned.owned in
    let lacks : Lacks (texts_of old) (string_bytes key) = rw c.in_ok-owned.ensures.ok c.in_default.ensures.absent in
    let new : c.insert.new.self.entries ≡ old ++ (key, None) ∷ [] = c.in_ok-insert.ensures.entries ∙ insert-lacking old key None lacks in
    inr (
      c.in_default.ensures.absent,
      ap texts_of new ∙ map-append (λ (e : String Global × Option ℕ). string_bytes e.0) old ((key, None) ∷ []) ∙ ap (λ t. texts_of old ++ t ∷ []) c.in_ok-owned.ensures.ok,
      ap places_of new ∙ map-append (λ (e : String Global × Option ℕ). e.1) old ((key, None) ∷ []),
    )

pub returns-clause-number : goal.returns-clause-number
returns-clause-number c =
    let old = c.args.names.now.entries in
    let key = c.in_ok-owned.owned in
    let lacks : Lacks (texts_of old) (string_bytes key) = rw c.in_ok-owned.ensures.ok c.in_default.ensures.absent in
    let new : c.insert.new.self.entries ≡ old ++ (key, None) ∷ [] = c.in_ok-insert.ensures.entries ∙ insert-lacking old key None lacks in
    rw (new, c.len-name.ensures.len, ← c.in_ok-owned.ensures.ok) (number-last old key None)
