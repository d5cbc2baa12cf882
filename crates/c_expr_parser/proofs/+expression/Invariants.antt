use Rattle.std.proofs.Common.{◌≡◌, ◌≤◌, ◌+◌, ◌*◌, length}
use Rattle.c_expr_parser.specs.Plans.{Chain, Further, chains, operand, parsed, read, reads}
use Rattle.c_expr_parser.proofs.+expression.Given as goal

abbrev pub decreases-climb::assigned : goal.decreases-climb::assigned
decreases-climb::assigned l = 8 * length l.tokens.now + 0

abbrev pub decreases-climb::assignment : goal.decreases-climb::assignment
decreases-climb::assignment l = 8 * length l.tokens.now + 2

abbrev pub decreases-climb::binary : goal.decreases-climb::binary
decreases-climb::binary l = 8 * length l.tokens.now + 2

abbrev pub decreases-climb::chain : goal.decreases-climb::chain
decreases-climb::chain l = 8 * length l.tokens.now + 0

abbrev pub decreases-climb::chains : goal.decreases-climb::chains
decreases-climb::chains l = 8 * length l.tokens.now + 1

abbrev pub decreases-climb::chosen : goal.decreases-climb::chosen
decreases-climb::chosen l = 8 * length l.tokens.now + 0

abbrev pub decreases-climb::conditional : goal.decreases-climb::conditional
decreases-climb::conditional l = 8 * length l.tokens.now + 2

abbrev pub decreases-climb::conditional_rest : goal.decreases-climb::conditional_rest
decreases-climb::conditional_rest l = 8 * length l.tokens.now + 2

abbrev pub decreases-library::create_call : goal.decreases-library::create_call
decreases-library::create_call l = 8 * length l.tokens.now + 1

abbrev pub decreases-library::create_place : goal.decreases-library::create_place
decreases-library::create_place l = 8 * length l.tokens.now + 0

abbrev pub decreases-library::free_call : goal.decreases-library::free_call
decreases-library::free_call l = 8 * length l.tokens.now + 0

abbrev pub decreases-library::join_call : goal.decreases-library::join_call
decreases-library::join_call l = 8 * length l.tokens.now + 0

abbrev pub decreases-library::join_target : goal.decreases-library::join_target
decreases-library::join_target l = 8 * length l.tokens.now + 0

abbrev pub decreases-library::library : goal.decreases-library::library
decreases-library::library l = 8 * length l.tokens.now + 0

abbrev pub decreases-library::library_call : goal.decreases-library::library_call
decreases-library::library_call l = 8 * length l.tokens.now + 2

abbrev pub decreases-library::print_call : goal.decreases-library::print_call
decreases-library::print_call l = 8 * length l.tokens.now + 0

abbrev pub decreases-unary::arguments : goal.decreases-unary::arguments
decreases-unary::arguments l = 8 * length l.tokens.now + 3

abbrev pub decreases-unary::further : goal.decreases-unary::further
decreases-unary::further l = 8 * length l.tokens.now + 0

abbrev pub decreases-unary::inside : goal.decreases-unary::inside
decreases-unary::inside l = 8 * length l.tokens.now + 3

abbrev pub decreases-unary::begun_by_punctuator : goal.decreases-unary::begun_by_punctuator
decreases-unary::begun_by_punctuator l = 8 * length l.tokens.now + 0

abbrev pub decreases-unary::named : goal.decreases-unary::named
decreases-unary::named l = 8 * length l.tokens.now + 0

abbrev pub decreases-unary::operand : goal.decreases-unary::operand
decreases-unary::operand l = 8 * length l.tokens.now + 1

abbrev pub decreases-unary::prefixed : goal.decreases-unary::prefixed
decreases-unary::prefixed l = 8 * length l.tokens.now + 4

abbrev pub invariant-climb::chain-loop-joint : goal.invariant-climb::chain-loop-joint
invariant-climb::chain-loop-joint l =
    (reads (Chain l.level l.depth l.fn.first) l.tokens ≡ reads (Chain l.level l.depth l.a) l.rest) × (length l.rest ≤ length l.tokens)

abbrev pub decreases-climb::chain-loop-joint : goal.decreases-climb::chain-loop-joint
decreases-climb::chain-loop-joint l = length l.rest

abbrev pub invariant-climb::chains-loop-level : goal.invariant-climb::chains-loop-level
invariant-climb::chains-loop-level l =
    (parsed (chains l.level l.depth (operand l.fn.first)) l.tokens ≡ read (operand l.a) l.rest) × (length l.rest ≤ length l.tokens)

abbrev pub invariant-unary::further-loop-behind : goal.invariant-unary::further-loop-behind
invariant-unary::further-loop-behind l =
    (reads (Further l.depth l.fn.list.items) l.tokens ≡ reads (Further l.depth l.list.items) l.rest) × (length l.rest ≤ length l.tokens)

abbrev pub decreases-unary::further-loop-behind : goal.decreases-unary::further-loop-behind
decreases-unary::further-loop-behind l = length l.rest
