use Rattle.std.proofs.Common.{◌≡◌, ◌++◌, take}
use Rattle.std.specs.List.{flat_map}
use Rattle.std.specs.String.{string_bytes}
use Rattle.program_gen.specs.Shown.{line_of}
use Rattle.program_gen.proofs.texts.add_functions.Given as goal

-- the lines of the functions so far were added
abbrev pub invariant-loop-function : goal.invariant-loop-function
invariant-loop-function l =
    string_bytes l.text ≡ string_bytes l.initial.text ++ flat_map line_of (take l.function-index l.functions)
