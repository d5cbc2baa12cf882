use Rattle.c_expr_parser.proofs.ExpressionLaws as law
use Rattle.c_expr_parser.proofs.parser.expression_depth.Goals as goal

pub returns : goal.returns
returns c = law.expression_depth
