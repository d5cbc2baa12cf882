-- What the test of one slot promises to that of all.
use Rattle.std.specs.Prelude.{◌≡◌, ℕ, Bool, Option, option_map}
use Rattle.name_sets.specs.Texts.{IsTable}
use Rattle.con_freeness.specs.declared.refusal.Effect.{Effect as EffectOfIds}
use Rattle.con_freeness.specs.declared.row.Row.{Row as RowOfIds}
use Rattle.con_freeness.specs.Decisions.{IsListOf, IsRowOf}
use Rattle.con_freeness.specs.Rows.{Names, Row, obstacle, across}
use Rattle.con_freeness.specs.Verdicts.{effect_seen}

-- the effect, with the texts of its names, is the obstacle of the row
abbrev pub IsObstacle : Names → RowOfIds → Bool → ℕ → ℕ → Option EffectOfIds → Type 0
IsObstacle table row pinned changed interface effect =
    (texts : Row) (changed_names interface_names : Names)
    → IsTable table → IsRowOf table row texts → IsListOf table changed changed_names → IsListOf table interface interface_names
    → option_map (effect_seen table) effect ≡ obstacle texts pinned changed_names interface_names

-- the effect is that by which the transaction doesn't admit the changed names
abbrev pub IsAcross : Names → RowOfIds → Bool → ℕ → Option EffectOfIds → Type 0
IsAcross table row pinned changed effect =
    (texts : Row) (changed_names : Names)
    → IsTable table → IsRowOf table row texts → IsListOf table changed changed_names
    → option_map (effect_seen table) effect ≡ across texts pinned changed_names
