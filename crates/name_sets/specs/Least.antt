-- The least name by text among some names.
use Rattle.std.specs.Prelude.{◌≢◌, ℕ, List, Option}
use Rattle.std.specs.Option.{MatchOption}
use Rattle.name_sets.specs.Texts.{IsBefore}

-- id is one of those of which P holds, and its text comes before the text of each other
pub record IsLeastOf (texts : List (List ℕ)) (P : ℕ → Type 0) (id : ℕ) : Type 0 where
  pub member : P id
  pub least : (other : ℕ) → P other → other ≢ id → IsBefore texts id other

-- the answer is that id, and there is no answer where P holds of no id
abbrev pub TellsLeast : List (List ℕ) → (ℕ → Type 0) → Option ℕ → Type 0
TellsLeast texts P answer = MatchOption answer ((id : ℕ) → ¬ P id) (IsLeastOf texts P)
