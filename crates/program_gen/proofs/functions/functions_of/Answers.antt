use Rattle.program_gen.proofs.Drawing.{all_drawn, drawn_is, one_more}
use Rattle.program_gen.proofs.functions.functions_of.Goals as goal

pub loop-number-preserved : goal.loop-number-preserved
loop-number-preserved c = (
  all_drawn c.args.seed c.loop-number.number _ _ _ _ c.loop-number.invariant.0 c.below-callee.ensures.state
      c.below-amount.ensures.state c.below-partner.ensures.state,
  one_more c.args.seed c.args.size c.loop-number.number _ _ _ c.loop-number.invariant.1 c.in_ok-push.ensures.items
      (drawn_is c.args.seed c.args.size c.loop-number.number _ _ _ _ _ _ _ _ c.loop-number.invariant.0 c.below-callee.ensures.state
      c.below-amount.ensures.state c.below-partner.ensures.state c.max.ensures c.below-callee.ensures.number
      c.below-amount.ensures.number c.below-partner.ensures.number),
)
