-- The limit of names: that of a text's, and the number of ids.
use Rattle.std.specs.Prelude.{ℕ}

-- how many names there are at most
abbrev pub most_names : ℕ
most_names = 2048
