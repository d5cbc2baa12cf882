use Rattle.bytecode_gen.specs.Tails.{trees_of, look_of}
use Rattle.name_resolution.proofs.Kept.{mapped_more}
use Rattle.text_code.specs.Bodies.{outlined, coded, body_of}
use Rattle.text_code.proofs.body.bodies.Goals as goal

pub loop-outline-preserved : goal.loop-outline-preserved
loop-outline-preserved c =
    let s = c.args.source.now in
    mapped_more (body_of (trees_of s)) (coded (look_of s)) (outlined (trees_of s)) c.loop-outline.bodies.items c.push.new.self.items c.in_ok-made.made
    c.args.outlines.now c.loop-outline.outline-index c.outline-item.result c.in_ok-push.ensures.items c.loop-outline-test.true c.outline-item.is
    c.loop-outline.invariant c.in_ok-made.ensures
