use Rattle.std.proofs.Common.{List}
use Rattle.name_sets.specs.Texts.{IsTable}
use Rattle.con_freeness.specs.Decisions.{IsListOf, AreSlotsOf}
use Rattle.con_freeness.specs.Rows.{Names, InForce}
use Rattle.con_freeness.proofs.EachSlot.{IsFrom}
use Rattle.con_freeness.proofs.decision.decide_by.Given as goal

abbrev pub invariant-loop-slot : goal.invariant-loop-slot
invariant-loop-slot l =
    (slots : List InForce) (changed_names interface_names : Names)
    → IsTable l.names → AreSlotsOf l.names l.in_force l.pinned slots
    → IsListOf l.names l.changed changed_names → IsListOf l.names l.interface interface_names
    → IsFrom l.slot slots changed_names interface_names
