use Rattle.std.proofs.Common.{◌∷◌, replicate, ap, ◌∙◌, arith}
use Rattle.source_runner.specs.declared.thread.Slot.TheVariants.{Free}
use Rattle.source_runner.proofs.Beginning.{free_more}
use Rattle.source_runner.proofs.start.slots_of.Goals as goal

pub loop-preserved : goal.loop-preserved
loop-preserved c = (
  omega arith,
  omega (arith, c.loop-test.true, c.loop.invariant.0),
  free_more c.loop.slots.items c.push-in-loop.new.self.items c.args.first c.loop.counter c.loop.invariant.0 c.loop.invariant.2
      c.in_ok-push-2.ensures.items,
)

pub returns : goal.returns
returns c =
    c.loop.invariant.2
    ∙ ap (λ n. c.args.first ∷ replicate n Free) (omega (arith, c.loop.invariant.0, c.loop.invariant.1, c.loop-test.false))
