-- How many objects live.
use Rattle.std.proofs.Common.{◌≡◌, ℕ, ◌+◌, cond, List, [], ◌∷◌, refl, sym, ap, ◌∙◌}
use Rattle.std.specs.Prelude.{count_by}
use Rattle.std.proofs.lemmas.List.Sums.{sum_by-cons}
use Rattle.source_data.specs.declared.store.Object.{Object}
use Rattle.resolved_tree.specs.Nodes.{Table}
use Rattle.source_data.specs.Stores.{object_of, objects_of}

abbrev count : List Object → ℕ
count os = count_by (λ o. o.live) os

-- what an object counts
abbrev one : Object → ℕ
one o = cond o.live 1 0

-- as many live in the definitions
pub count_seen : (t : Table) (os : List Object) → count_by (λ o. o.live) (objects_of t os) ≡ count os
count_seen t [] = refl
count_seen t (o ∷ os) =
    sum_by-cons (λ o. cond o.live 1 0) (object_of t o) (objects_of t os)
    ∙ ap (λ n. one o + n) (count_seen t os)
    ∙ sym (sum_by-cons one o os)
