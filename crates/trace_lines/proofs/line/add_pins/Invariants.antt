use Rattle.std.proofs.Common.{◌≡◌, ◌++◌, take}
use Rattle.std.specs.List.{flat_map}
use Rattle.std.specs.String.{string_bytes}
use Rattle.trace_lines.specs.Lines.{pin_words}
use Rattle.trace_lines.proofs.line.add_pins.Given as goal

-- the threads so far were added
abbrev pub invariant-loop-slot : goal.invariant-loop-slot
invariant-loop-slot l = string_bytes l.text ≡ string_bytes l.initial.text ++ flat_map pin_words (take l.slot-index l.pinned)
