use Rattle.c_expr_parser.proofs.ExpressionLaws as law
use Rattle.c_expr_parser.proofs.parser.one_expression.Goals as goal

pub returns : goal.returns
returns c = law.one_expression
