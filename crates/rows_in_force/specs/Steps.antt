-- What the steps promise one another.
use Rattle.std.specs.Prelude.{◌≡◌, ℕ, ◌↔◌}
use Rattle.name_sets.specs.IdSet.{Holds}
use Rattle.con_freeness.specs.declared.row.Row.{Row}
use Rattle.checkin_rows.specs.Steps.{IsEmptySet}

-- a row has one name, as one that is used directly
pub record IsEntering (id : ℕ) (row : Row) : Type 0 where
  pub prior : IsEmptySet row.prior
  pub future : IsEmptySet row.future
  pub concrete : (other : ℕ) → Holds row.concrete other ↔ (other ≡ id)
