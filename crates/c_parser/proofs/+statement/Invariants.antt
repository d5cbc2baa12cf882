use Rattle.std.proofs.Common.{◌≡◌, ◌≤◌, ◌+◌, ◌*◌, ℕ, length, List}
use Rattle.c_tree.specs.declared.stmt.Stmt.{Stmt}
use Rattle.c_parser.specs.TextPlans.{TextPlan, block_then, text_parsed}
use Rattle.c_parser.specs.Parts.{items_then}
use Rattle.c_parser.proofs.+statement.Given as goal

abbrev pub decreases-statement::statement : goal.decreases-statement::statement
decreases-statement::statement l = 8 * length l.tokens.now + 0

abbrev pub decreases-statement::begun : goal.decreases-statement::begun
decreases-statement::begun l = 8 * length l.tokens.now + 4

abbrev pub decreases-control::inner : goal.decreases-control::inner
decreases-control::inner l = 8 * length l.tokens.now + 1

abbrev pub decreases-control::otherwise : goal.decreases-control::otherwise
decreases-control::otherwise l = 8 * length l.tokens.now + 2

abbrev pub decreases-control::if_statement : goal.decreases-control::if_statement
decreases-control::if_statement l = 8 * length l.tokens.now + 3

abbrev pub decreases-control::while_statement : goal.decreases-control::while_statement
decreases-control::while_statement l = 8 * length l.tokens.now + 3

abbrev pub decreases-control::do_statement : goal.decreases-control::do_statement
decreases-control::do_statement l = 8 * length l.tokens.now + 3

abbrev pub decreases-control::for_statement : goal.decreases-control::for_statement
decreases-control::for_statement l = 8 * length l.tokens.now + 3

abbrev pub decreases-block::block : goal.decreases-block::block
decreases-block::block l = 8 * length l.tokens.now + 2

abbrev pub decreases-block::block_item : goal.decreases-block::block_item
decreases-block::block_item l = 8 * length l.tokens.now + 1

abbrev pub decreases-block::braces : goal.decreases-block::braces
decreases-block::braces l = 8 * length l.tokens.now + 3

abbrev pub decreases-block::transaction : goal.decreases-block::transaction
decreases-block::transaction l = 8 * length l.tokens.now + 0

abbrev pub invariant-block::block-loop-alloc : goal.invariant-block::block-loop-alloc
invariant-block::block-loop-alloc l = record {
  reads : (k : List Stmt → ℕ → TextPlan)
      → text_parsed (block_then l.depth k) l.tokens ≡ text_parsed (items_then l.depth l.list.items k) l.rest;
  within : length l.rest ≤ length l.tokens;
}

abbrev pub decreases-block::block-loop-alloc : goal.decreases-block::block-loop-alloc
decreases-block::block-loop-alloc l = length l.rest
