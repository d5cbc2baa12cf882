-- How a transaction is left: at its end alone. A text that types is so.
use Rattle.std.specs.Prelude.{ℕ, suc, ◌==◌, Bool, true, false, ◌&&◌}
use Rattle.c_semantics.specs.Resolved.{Statement, Statements, Block, If, IfElse, While, DoWhile, For, Break, Continue, Return, Transaction, NoStatements, StatementThen}

-- no return, break or continue leads out of a transaction; the statement is within that many of them, and `looped` says
-- whether a loop encloses it within the innermost one
abbrev mutual
  pub stays : ℕ → Bool → Statement → Bool
  stays depth looped (Block ss) = all_stay depth looped ss
  stays depth looped (If c s) = stays depth looped s
  stays depth looped (IfElse c s t) = stays depth looped s && stays depth looped t
  stays depth looped (While c s) = stays depth true s
  stays depth looped (DoWhile s c) = stays depth true s
  stays depth looped (For first test step s) = all_stay depth looped first && stays depth true s
  stays depth looped Break = looped
  stays depth looped Continue = looped
  stays depth looped (Return e) = depth == 0
  stays depth looped (Transaction ss) = all_stay (suc depth) false ss
  stays depth looped _ = true

  pub all_stay : ℕ → Bool → Statements → Bool
  all_stay depth looped NoStatements = true
  all_stay depth looped (StatementThen s ss) = stays depth looped s && all_stay depth looped ss

-- transactions of a function's body are left at their ends alone
abbrev pub leaves_at_ends : Statements → Bool
leaves_at_ends body = all_stay 0 false body
