-- How many check-ins and rows a flow has at most.
use Rattle.std.specs.Prelude.{ℕ}

-- check-ins whose rows have numbers: as many as a store of bodies has room for
abbrev pub most_check_ins : ℕ
most_check_ins = 63000

-- rows with a number, which fits 16 bits and isn't 0
abbrev pub most_rows : ℕ
most_rows = 65535
