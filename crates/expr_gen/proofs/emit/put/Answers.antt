use Rattle.expr_gen.proofs.Adding.{adds_slice}
use Rattle.expr_gen.proofs.emit.put.Goals as goal

pub returns : goal.returns
returns c =
    adds_slice c.extend_from_slice.result c.args.code.now.items c.extend_from_slice.new.self.items c.args.made.now
    c.extend_from_slice.ensures.items
