-- What a set that has the names of a family says of one name.
use Rattle.std.proofs.Common.{◌≡◌, ◌↔◌, ℕ, ◌<◌, List, Some, length, subst, sym, ◌∙◌}
use Rattle.std.specs.Prelude.{slice_get}
use Rattle.std.proofs.lemmas.Option.{slice_get_within}
use Rattle.name_sets.specs.IdSet.{Holds}
use Rattle.name_sets.specs.Texts.{IsTable}
use Rattle.c_tree.specs.BareExpr.{Bytes}
use Rattle.contextual_effects.specs.Effects.{HasNames}

-- the set holds an id exactly if the id's name is in the family
pub holds_if_in : {names : List Bytes} {In : Bytes → Type 0} (set id : ℕ) (z : Bytes) → IsTable names → HasNames names set In
    → slice_get names id ≡ Some z → Holds set id ↔ In z
holds_if_in {names} {In} set id z table has named = (
  λ h. let x = has.only id h in subst In (item x.0 z (sym x.1 ∙ named)) x.2,
  λ x. let r = has.all z x in subst (Holds set) (table.distinct r.0 id z r.1 named) r.2,
)
  where
    item : (u v : Bytes) → Some u ≡ Some v → u ≡ v
    item u v e = cc

-- each id in the set is one of the table
pub holds_known : {names : List Bytes} {In : Bytes → Type 0} (set id : ℕ) → HasNames names set In → Holds set id → id < length names
holds_known {names} set id has h = let x = has.only id h in slice_get_within names id x.0 x.1
