use Rattle.std.proofs.Common.{◌≡◌, ◌*◌}
use Rattle.program_gen.specs.Generated.{state_after, amount}
use Rattle.program_gen.specs.Shown.{functions_with}
use Rattle.program_gen.proofs.functions.functions_of.Given as goal

-- three numbers were drawn for each of the functions so far
abbrev pub invariant-loop-number : goal.invariant-loop-number
invariant-loop-number l =
    (l.draws.state ≡ state_after l.seed (3 * l.number)) × (l.functions.items ≡ functions_with l.seed l.size (amount l.seed) l.number)
