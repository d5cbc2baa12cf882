-- The limit of fields.
use Rattle.std.specs.Prelude.{ℕ}

-- how many fields an object has at most
abbrev pub most_fields : ℕ
most_fields = 16
