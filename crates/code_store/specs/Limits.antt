-- The limits of a store.
use Rattle.std.specs.Prelude.{ℕ, nat_lt, Bool, ◌||◌, List}
use Rattle.c_semantics.specs.Store.{Body, all_check_ins, all_tokens}

-- how many check-ins all bodies have at most
abbrev pub most_check_ins : ℕ
most_check_ins = 63000

-- how many tokens all bodies have at most
abbrev pub most_function_tokens : ℕ
most_function_tokens = 131072

-- some bodies have more check-ins or tokens than a store has room for
abbrev pub are_too_many : List Body → Bool
are_too_many bodies = nat_lt most_check_ins (all_check_ins bodies) || nat_lt most_function_tokens (all_tokens bodies)
