use Rattle.std.proofs.Common.{◌≡◌, take}
use Rattle.c_semantics.specs.Texts.{definition}
use Rattle.c_semantics.specs.SourceTexts.{Text}
use Rattle.name_resolution.specs.Known.{known_of}
use Rattle.check_in_places.specs.CheckIns.{functions_in}
use Rattle.check_in_places.specs.Bodies.{AreBodiesOf}
use Rattle.check_in_places.proofs.bodies.bodies_among.Given as goal

-- the bodies of the functions so far
abbrev pub invariant-loop-one : goal.invariant-loop-one
invariant-loop-one l =
    (text : Text) → known_of l.known ≡ definition text.definitions
    → AreBodiesOf l.names text (functions_in (take l.one-index l.definitions)) l.bodies.flow l.bodies.sections.items
