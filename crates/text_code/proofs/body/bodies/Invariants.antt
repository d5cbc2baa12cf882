use Rattle.std.proofs.Common.{◌≡◌, map, take}
use Rattle.bytecode_gen.specs.Tails.{trees_of, look_of}
use Rattle.text_code.specs.Bodies.{outlined, coded, body_of}
use Rattle.text_code.proofs.body.bodies.Given as goal

abbrev pub invariant-loop-outline : goal.invariant-loop-outline
invariant-loop-outline l =
    map (body_of (trees_of l.source)) l.bodies.items
    ≡ map (coded (look_of l.source)) (map (outlined (trees_of l.source)) (take l.outline-index l.outlines))
