-- Places by function and generation, as contracts see them.
use Rattle.std.specs.Prelude.{ℕ, ◌==◌, Bool, ◌&&◌, List, [], slice_get, Option, unwrap_or}
use Rattle.std.specs.Option.{option_flatten}
use Rattle.verified_code.specs.declared.unit.CodeUnit.{CodeUnit}

-- the place of a generation in a function's row
abbrev pub place_at : List (Option ℕ) → ℕ → Option ℕ
place_at row g = option_flatten (slice_get row g)

-- the place of a function's generation
abbrev pub place_in : List (List (Option ℕ)) → ℕ → ℕ → Option ℕ
place_in rows f g = place_at (unwrap_or (slice_get rows f) []) g

-- whether a body is that of a function's generation
abbrev pub is_of : ℕ → ℕ → CodeUnit → Bool
is_of f g unit = (f == unit.function) && (g == unit.generation)
