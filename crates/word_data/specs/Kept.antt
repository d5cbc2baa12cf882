-- How what threads share is kept.
use Rattle.std.specs.Prelude.{◌≡◌, ℕ, ◌≤◌, List, Option, length, refl}
use Rattle.std.specs.Coded.{Coded, code_by, coded×, coded_list, coded_option, coded_ℕ}
use Rattle.name_sets.specs.Limit.{most_names}
use Rattle.object_store.specs.Stores.{Store, store_code}
use Rattle.code_runs.specs.CodeData.{Data}

-- what is shared is stored as the tuple of its parts
abbrev pub data_code : Coded Data
data_code =
    code_by
    (List (List ℕ) × (Store × (List (Option ℕ) × ℕ)))
    (coded× (coded_list (coded_list coded_ℕ)) (coded× store_code (coded× (coded_list (coded_option coded_ℕ)) coded_ℕ)))
    (λ d. (d.cells, (d.objects, (d.holders, d.version))))
    (λ p. record { cells = p.0; objects = p.1.0; holders = p.1.1.0; version = p.1.1.1 })
    (λ _. refl)

-- how many mutexes have a number, which is that of a name
pub record AreNumbered (holders : List (Option ℕ)) (mutexes : ℕ) : Type 0 where
  pub counted : mutexes ≡ length holders
  pub few : mutexes ≤ most_names
