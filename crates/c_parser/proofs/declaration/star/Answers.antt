use Rattle.std.proofs.Common.{ap}
use Rattle.c_expr_parser.specs.Plans.{nothing}
use Rattle.c_parser.specs.TextPlans.{star_then, text_parsed}
use Rattle.c_parser.proofs.FunctionReturns.{of_call}
use Rattle.c_parser.proofs.declaration.star.Goals as goal

pub returns-in-Handle-clause-reads : goal.returns-in-Handle-clause-reads
returns-in-Handle-clause-reads c k =
    of_call c.take.result (λ x. nothing) (λ x. x.now) _ _ _ (ap (λ t. text_parsed (star_then c.args.depth t k) c.args.tokens.now) c.in-Handle.is) c.take.ensures.reads
