use Rattle.std.proofs.Common.{◌≡◌, ◌+◌, length, drop, arith, length-drop}
use Rattle.c_expr_parser.proofs.ExpressionAnswers.{sound, complete, stuck_at, deep_at}
use Rattle.c_expr_parser.proofs.parser.expression.Goals as goal

pub returns-clause-sound : goal.returns-clause-sound
returns-clause-sound c =
    let len : length (drop c.args.at c.args.tokens.now) + c.args.at ≡ length c.args.tokens.now = omega (arith, length-drop c.args.at c.args.tokens.now, c.requires.within) in
    sound c.args.depth c.args.at (length c.args.tokens.now) (drop c.args.at c.args.tokens.now) c.expression_at.result len c.expression_at.ensures

pub returns-clause-complete : goal.returns-clause-complete
returns-clause-complete c =
    let len : length (drop c.args.at c.args.tokens.now) + c.args.at ≡ length c.args.tokens.now = omega (arith, length-drop c.args.at c.args.tokens.now, c.requires.within) in
    complete c.args.depth c.args.at (length c.args.tokens.now) (drop c.args.at c.args.tokens.now) c.expression_at.result len c.expression_at.ensures

pub returns-clause-stuck : goal.returns-clause-stuck
returns-clause-stuck c =
    let len : length (drop c.args.at c.args.tokens.now) + c.args.at ≡ length c.args.tokens.now = omega (arith, length-drop c.args.at c.args.tokens.now, c.requires.within) in
    stuck_at c.args.depth c.args.at (length c.args.tokens.now) (drop c.args.at c.args.tokens.now) c.expression_at.result len c.expression_at.ensures

pub returns-clause-deep : goal.returns-clause-deep
returns-clause-deep c =
    let len : length (drop c.args.at c.args.tokens.now) + c.args.at ≡ length c.args.tokens.now = omega (arith, length-drop c.args.at c.args.tokens.now, c.requires.within) in
    deep_at c.args.depth c.args.at (length c.args.tokens.now) (drop c.args.at c.args.tokens.now) c.expression_at.result len c.expression_at.ensures
