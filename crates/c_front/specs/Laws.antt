-- What the definitions promise of every text. The call `faults_are_within_their_texts` has it as its contract.
use Rattle.std.specs.Prelude.{ℕ, ◌≤◌, List, length}
use Rattle.c_front.specs.declared.fault.FaultKind.{FaultKind}
use Rattle.c_front.specs.Accepted.{FirstFault}

-- a text's first fault is at one of its bytes or at its end
abbrev pub FaultsWithinTexts : Type 0
FaultsWithinTexts = (text : List ℕ) (what : FaultKind) (at : ℕ) → FirstFault text what at → at ≤ length text
