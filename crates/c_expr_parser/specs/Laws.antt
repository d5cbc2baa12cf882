-- The laws of the grammar. The calls `one_expression` and `expression_depth` promise those of expressions, `one_program`
-- and `program_depth` of `c_parser` those of whole texts.
use Rattle.std.specs.Prelude.{ℕ}
use Rattle.c_expr_parser.specs.Expressions.{Assignment}
use Rattle.c_expr_parser.specs.Definitions.{TranslationUnit}
use Rattle.c_expr_parser.specs.Readings.{ReadsOnce, DepthByFront}

-- at most one expression is read from a list of tokens
abbrev pub OneExpression : Type 0
OneExpression = (d : ℕ) → ReadsOnce (Assignment d)

-- at most one program
abbrev pub OneProgram : Type 0
OneProgram = ReadsOnce TranslationUnit

-- the depth of a token depends on the tokens up to it alone: in expressions
abbrev pub ExpressionDepth : Type 0
ExpressionDepth = (d : ℕ) → DepthByFront (Assignment d)

-- and in whole texts
abbrev pub ProgramDepth : Type 0
ProgramDepth = DepthByFront TranslationUnit
