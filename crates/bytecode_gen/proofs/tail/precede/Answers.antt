use Rattle.bytecode_gen.proofs.Preceding.{precedes_list}
use Rattle.bytecode_gen.proofs.tail.precede.Goals as goal

pub returns : goal.returns
returns c = λ t.
    precedes_list t c.args.tail.now.items c.loop-left.tail.items c.args.made.now c.loop-left.left c.loop-left-test.false c.loop-left.invariant.put
