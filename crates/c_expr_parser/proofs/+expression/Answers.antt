use Rattle.std.proofs.Common.{◌≡◌, ◌+◌, ◌-◌, ◌∷◌, ◌++◌, ℕ, suc, length, arith, sym, ap, ◌∙◌, add-one}
use Rattle.std.specs.Prelude.{codes, pos, option_map, [], None, Some}
use Rattle.c_ints.specs.declared.kind.Kind.TheVariants.{I32}
use Rattle.c_ints.specs.Number.{number}
use Rattle.c_lexer.specs.Bytes.{quote}
use Rattle.c_lexer.specs.declared.token.TokenKind.TheVariants.{Identifier, Punctuator, LibraryWord}
use Rattle.c_tree.specs.declared.expr.ExprNode.TheVariants as node
use Rattle.c_expr_parser.specs.Plans.{operand, listed, parsed, read, reads, Assigned, Chain, Chosen, Postfix, Further, Inside, Target, as_operand, assignment, binary, chains, conditional, conditional_rest, create_call, create_place, free_call, join_call, print_call, word_call, primary, arguments, behind_name, prefixed}
use Rattle.c_expr_parser.specs.Tables.{is, holds_ahead, only, unquoted, constant_of, library_name, prefix_of}
use Rattle.c_expr_parser.proofs.PlanResults.{next, parsed_then, parsed_after, parsed_return}
use Rattle.c_expr_parser.proofs.FunctionReturns.{Goes, through, swap, hands_on, sinks_on, tail_call}
use Rattle.c_expr_parser.proofs.OperandContinuations.{assigned_none, assigned_some, assigned_deep, chosen_none, chosen_some, chosen_deep, chain_none, chain_some, chain_deep, chains_step, chains_go, further_none, further_some, further_deep}
use Rattle.c_expr_parser.proofs.OperandBeginnings.{operand_end, operand_none, operand_some, operand_takes, operand_deep, plan_by, no_plan, number_plan, character_plan, library_word_plan, punctuator_plan, same_first, inside_expr, inside_end, inside_type, inside_no_cast, behind_call, behind_index, behind_none, arguments_none, arguments_some, target_null, target_deep, target_place, lock_goes, create_goes, create_rest_goes, create_last_goes}
use Rattle.c_expr_parser.proofs.+expression.Goals as goal

pub climb::assigned-returns-in-None-clause-reads : goal.climb::assigned-returns-in-None-clause-reads
climb::assigned-returns-in-None-clause-reads t c =
    assigned_none _ _ _ c.in-None.ensures

pub climb::assigned-returns-in_err-shallow-in-Some-clause-reads : goal.climb::assigned-returns-in_err-shallow-in-Some-clause-reads
climb::assigned-returns-in_err-shallow-in-Some-clause-reads t c =
    let f = c.in-Some.ensures in
    sinks_on _ c.from_residual.result c.in_err-shallow-in-Some.field-0.0 c.from_residual.ensures.1 c.in_err-shallow-in-Some.ensures.1
    (assigned_deep _ _ c.in-Some.op f.0 _ _ f.1 f.2 c.in_err-shallow-in-Some.ensures.0)

pub climb::assigned-returns-in_err-right-in-Some-clause-reads : goal.climb::assigned-returns-in_err-right-in-Some-clause-reads
climb::assigned-returns-in_err-right-in-Some-clause-reads t c =
    let f = c.in-Some.ensures in
    let e1 : Goes (reads (Assigned c.args.depth c.args.left) c.args.tokens.now) _ _ = record { on = assigned_some _ _ c.in-Some.op f.0 _ _ f.1 f.2 c.in_ok-shallow-in-Some.ensures } in
    hands_on _ c.from_residual-in_err-right-in-Some.result c.in_err-right-in-Some.field-0.0 c.from_residual-in_err-right-in-Some.ensures.1 e1 (rw add-one at c.in_err-right-in-Some.ensures.reads)

pub climb::assigned-returns-in_ok-assign-in-Some-clause-reads : goal.climb::assigned-returns-in_ok-assign-in-Some-clause-reads
climb::assigned-returns-in_ok-assign-in-Some-clause-reads t c =
    let f = c.in-Some.ensures in
    let e1 : Goes (reads (Assigned c.args.depth c.args.left) c.args.tokens.now) _ _ = record { on = assigned_some _ _ c.in-Some.op f.0 _ _ f.1 f.2 c.in_ok-shallow-in-Some.ensures } in
    through e1 (rw add-one at c.in_ok-right-in-Some.ensures.reads) ∙ parsed_return _ _ ∙ ap (λ x. read (operand x) c.in_ok-right-in-Some.rest.now) (sym c.in_ok-assign-in-Some.ensures)

pub climb::assignment-returns-in_err-first-clause-reads : goal.climb::assignment-returns-in_err-first-clause-reads
climb::assignment-returns-in_err-first-clause-reads t c =
    let e1 : Goes (parsed (assignment c.args.depth) c.args.tokens.now) _ _ = record { on = parsed_then _ _ _ } in
    hands_on _ c.from_residual.result c.in_err-first.field-0.0 c.from_residual.ensures.1 e1 c.in_err-first.ensures.reads

pub climb::assignment-returns-in_err-left-clause-reads : goal.climb::assignment-returns-in_err-left-clause-reads
climb::assignment-returns-in_err-left-clause-reads t c =
    let e1 : Goes (parsed (assignment c.args.depth) c.args.tokens.now) _ _ = record { on = parsed_then _ _ _ } in
    let e2 : Goes (parsed (assignment c.args.depth) c.args.tokens.now) _ _ = record { on = through e1 c.in_ok-first.ensures.reads ∙ parsed_then _ _ _ } in
    hands_on _ c.from_residual-in_err-left.result c.in_err-left.field-0.0 c.from_residual-in_err-left.ensures.1 e2 c.in_err-left.ensures.reads

pub climb::assignment-returns-clause-reads : goal.climb::assignment-returns-clause-reads
climb::assignment-returns-clause-reads t c =
    let e1 : Goes (parsed (assignment c.args.depth) c.args.tokens.now) _ _ = record { on = parsed_then _ _ _ } in
    let e2 : Goes (parsed (assignment c.args.depth) c.args.tokens.now) _ _ = record { on = through e1 c.in_ok-first.ensures.reads ∙ parsed_then _ _ _ } in
    tail_call _ _ (through e2 c.in_ok-left.ensures.reads) c.conditional_rest.ensures.reads

pub climb::binary-returns-in_err-first-clause-reads : goal.climb::binary-returns-in_err-first-clause-reads
climb::binary-returns-in_err-first-clause-reads t c =
    let e1 : Goes (parsed (binary c.args.levels c.args.depth) c.args.tokens.now) _ _ = record { on = parsed_then _ _ _ } in
    hands_on _ c.from_residual.result c.in_err-first.field-0.0 c.from_residual.ensures.1 e1 c.in_err-first.ensures.reads

pub climb::binary-returns-clause-reads : goal.climb::binary-returns-clause-reads
climb::binary-returns-clause-reads t c =
    let e1 : Goes (parsed (binary c.args.levels c.args.depth) c.args.tokens.now) _ _ = record { on = parsed_then _ _ _ } in
    tail_call _ _ (through e1 c.in_ok-first.ensures.reads) c.chains.ensures.reads

pub climb::conditional-returns-in_err-first-clause-reads : goal.climb::conditional-returns-in_err-first-clause-reads
climb::conditional-returns-in_err-first-clause-reads t c =
    let e1 : Goes (parsed (conditional c.args.depth) c.args.tokens.now) _ _ = record { on = parsed_then _ _ _ } in
    hands_on _ c.from_residual.result c.in_err-first.field-0.0 c.from_residual.ensures.1 e1 c.in_err-first.ensures.reads

pub climb::conditional-returns-clause-reads : goal.climb::conditional-returns-clause-reads
climb::conditional-returns-clause-reads t c =
    let e1 : Goes (parsed (conditional c.args.depth) c.args.tokens.now) _ _ = record { on = parsed_then _ _ _ } in
    tail_call _ _ (through e1 c.in_ok-first.ensures.reads) c.conditional_rest.ensures.reads

pub climb::conditional_rest-returns-in_err-test-clause-reads : goal.climb::conditional_rest-returns-in_err-test-clause-reads
climb::conditional_rest-returns-in_err-test-clause-reads t c =
    let e1 : Goes (parsed (conditional_rest c.args.depth (operand c.args.first)) c.args.tokens.now) _ _ = record { on = parsed_after _ _ _ } in
    hands_on _ c.from_residual.result c.in_err-test.field-0.0 c.from_residual.ensures.1 e1 c.in_err-test.ensures.reads

pub climb::conditional_rest-returns-clause-reads : goal.climb::conditional_rest-returns-clause-reads
climb::conditional_rest-returns-clause-reads t c =
    let e1 : Goes (parsed (conditional_rest c.args.depth (operand c.args.first)) c.args.tokens.now) _ _ = record { on = parsed_after _ _ _ } in
    tail_call _ _ (through e1 c.in_ok-test.ensures.reads) c.chosen.ensures.reads

pub climb::chain-returns-in_err-shallow-clause-reads : goal.climb::chain-returns-in_err-shallow-clause-reads
climb::chain-returns-in_err-shallow-clause-reads t c =
    let f = c.in-Some.ensures in
    sinks_on _ c.from_residual.result c.in_err-shallow.field-0.0 c.from_residual.ensures.1 c.in_err-shallow.ensures.1
    (c.loop-joint.invariant.0 ∙ chain_deep _ _ _ c.in-Some.joint f.0 _ _ f.1 (rw add-one at f.2) c.in_err-shallow.ensures.0)

pub climb::chain-returns-in_err-b-clause-reads : goal.climb::chain-returns-in_err-b-clause-reads
climb::chain-returns-in_err-b-clause-reads t c =
    let f = c.in-Some.ensures in
    let e1 : Goes (reads (Chain c.args.level c.args.depth c.args.first) c.args.tokens.now) _ _ = record { on = c.loop-joint.invariant.0 ∙ chain_some _ _ _ c.in-Some.joint f.0 _ _ f.1 (rw add-one at f.2) c.in_ok-shallow.ensures } in
    hands_on _ c.from_residual-in_err-b.result c.in_err-b.field-0.0 c.from_residual-in_err-b.ensures.1 e1 c.in_err-b.ensures.reads

pub climb::chain-loop-joint-preserved : goal.climb::chain-loop-joint-preserved
climb::chain-loop-joint-preserved t c =
    let f = c.in-Some.ensures in
    let e1 : Goes (reads (Chain c.args.level c.args.depth c.args.first) c.args.tokens.now) _ _ = record { on = c.loop-joint.invariant.0 ∙ chain_some _ _ _ c.in-Some.joint f.0 _ _ f.1 (rw add-one at f.2) c.in_ok-shallow.ensures } in
    (through e1 c.in_ok-b.ensures.reads ∙ ap (λ x. reads (Chain c.args.level c.args.depth x) c.in_ok-b.behind.now) (sym c.in_ok-a.ensures), omega (arith, c.loop-joint.invariant.1, c.in_ok-b.ensures.within, ap length f.1))

pub climb::chain-returns-clause-reads : goal.climb::chain-returns-clause-reads
climb::chain-returns-clause-reads t c =
    c.loop-joint.invariant.0 ∙ chain_none _ _ _ _ (rw add-one at c.in_default.ensures)

pub climb::chains-loop-level-init : goal.climb::chains-loop-level-init
climb::chains-loop-level-init t c =
    (parsed_return _ _, omega arith)

pub climb::chains-returns-in_err-longer-clause-reads : goal.climb::chains-returns-in_err-longer-clause-reads
climb::chains-returns-in_err-longer-clause-reads t c =
    let more : ℕ = c.args.levels - suc c.loop-level.level in
    let sum : c.args.levels ≡ more + suc c.loop-level.level = omega (arith, c.loop-level-test.true) in
    let go = chains_go more (suc c.loop-level.level) c.args.depth (operand c.args.first) c.args.tokens.now in
    let here = chains_step c.loop-level.level c.args.depth (operand c.args.first) c.args.tokens.now ∙ ap (λ x. next x (λ w rest. reads (Chain c.loop-level.level c.args.depth (as_operand w)) rest)) c.loop-level.invariant.0 in
    let e1 : Goes (parsed (chains c.args.levels c.args.depth (operand c.args.first)) c.args.tokens.now) _ _ =
    record { on = ap (λ n. parsed (chains n c.args.depth (operand c.args.first)) c.args.tokens.now) sum ∙ go.1 ∙ ap (λ x. next x go.0) here } in
    hands_on _ c.from_residual.result c.in_err-longer.field-0.0 c.from_residual.ensures.1 e1 c.in_err-longer.ensures.reads

pub climb::chains-loop-level-preserved : goal.climb::chains-loop-level-preserved
climb::chains-loop-level-preserved t c =
    let here = chains_step c.loop-level.level c.args.depth (operand c.args.first) c.args.tokens.now ∙ ap (λ x. next x (λ w rest. reads (Chain c.loop-level.level c.args.depth (as_operand w)) rest)) c.loop-level.invariant.0 in
    (rw add-one (here ∙ c.in_ok-longer.ensures.reads), omega (arith, c.loop-level.invariant.1, c.in_ok-longer.ensures.within))

pub climb::chosen-returns-in_default-clause-reads : goal.climb::chosen-returns-in_default-clause-reads
climb::chosen-returns-in_default-clause-reads t c =
    chosen_none _ _ _ c.in_default.ensures

pub climb::chosen-returns-in_err-shallow-clause-reads : goal.climb::chosen-returns-in_err-shallow-clause-reads
climb::chosen-returns-in_err-shallow-clause-reads t c =
    let f = c.in-Some.ensures in
    sinks_on _ c.from_residual.result c.in_err-shallow.field-0.0 c.from_residual.ensures.1 c.in_err-shallow.ensures.1
    (chosen_deep _ _ f.0 _ _ f.1 f.2 c.in_err-shallow.ensures.0)

pub climb::chosen-returns-in_err-first-clause-reads : goal.climb::chosen-returns-in_err-first-clause-reads
climb::chosen-returns-in_err-first-clause-reads t c =
    let f = c.in-Some.ensures in
    let e1 : Goes (reads (Chosen c.args.depth c.args.test) c.args.tokens.now) _ _ = record { on = chosen_some _ _ f.0 _ _ f.1 f.2 c.in_ok-shallow.ensures ∙ parsed_after _ _ _ } in
    hands_on _ c.from_residual-in_err-first.result c.in_err-first.field-0.0 c.from_residual-in_err-first.ensures.1 e1 c.in_err-first.ensures.reads

pub climb::chosen-returns-in_err-rest-clause-reads : goal.climb::chosen-returns-in_err-rest-clause-reads
climb::chosen-returns-in_err-rest-clause-reads t c =
    let f = c.in-Some.ensures in
    let e1 : Goes (reads (Chosen c.args.depth c.args.test) c.args.tokens.now) _ _ = record { on = chosen_some _ _ f.0 _ _ f.1 f.2 c.in_ok-shallow.ensures ∙ parsed_after _ _ _ } in
    let e2 : Goes (reads (Chosen c.args.depth c.args.test) c.args.tokens.now) _ _ = record { on = through e1 c.in_ok-first.ensures.reads ∙ parsed_then _ _ _ } in
    hands_on _ c.from_residual-in_err-rest.result c.in_err-rest.field-0.0 c.from_residual-in_err-rest.ensures.1 e2 c.in_err-rest.ensures.reads

pub climb::chosen-returns-in_err-second-clause-reads : goal.climb::chosen-returns-in_err-second-clause-reads
climb::chosen-returns-in_err-second-clause-reads t c =
    let f = c.in-Some.ensures in
    let e1 : Goes (reads (Chosen c.args.depth c.args.test) c.args.tokens.now) _ _ = record { on = chosen_some _ _ f.0 _ _ f.1 f.2 c.in_ok-shallow.ensures ∙ parsed_after _ _ _ } in
    let e2 : Goes (reads (Chosen c.args.depth c.args.test) c.args.tokens.now) _ _ = record { on = through e1 c.in_ok-first.ensures.reads ∙ parsed_then _ _ _ } in
    let e3 : Goes (reads (Chosen c.args.depth c.args.test) c.args.tokens.now) _ _ = record { on = through e2 c.in_ok-rest.ensures.reads ∙ parsed_after _ _ _ } in
    hands_on _ c.from_residual-in_err-second.result c.in_err-second.field-0.0 c.from_residual-in_err-second.ensures.1 e3 (rw add-one at c.in_err-second.ensures.reads)

pub climb::chosen-returns-clause-reads : goal.climb::chosen-returns-clause-reads
climb::chosen-returns-clause-reads t c =
    let f = c.in-Some.ensures in
    let e1 : Goes (reads (Chosen c.args.depth c.args.test) c.args.tokens.now) _ _ = record { on = chosen_some _ _ f.0 _ _ f.1 f.2 c.in_ok-shallow.ensures ∙ parsed_after _ _ _ } in
    let e2 : Goes (reads (Chosen c.args.depth c.args.test) c.args.tokens.now) _ _ = record { on = through e1 c.in_ok-first.ensures.reads ∙ parsed_then _ _ _ } in
    let e3 : Goes (reads (Chosen c.args.depth c.args.test) c.args.tokens.now) _ _ = record { on = through e2 c.in_ok-rest.ensures.reads ∙ parsed_after _ _ _ } in
    through e3 (rw add-one at c.in_ok-second.ensures.reads) ∙ parsed_return _ _ ∙ ap (λ x. read (operand x) c.in_ok-second.rest.now) (sym c.in_ok-choose.ensures)

pub library::create_call-returns-in_err-place-clause-reads : goal.library::create_call-returns-in_err-place-clause-reads
library::create_call-returns-in_err-place-clause-reads t c =
    let e1 : Goes (parsed (create_call c.args.depth c.args.start) c.args.tokens.now) _ _ = record { on = create_goes _ _ _ } in
    hands_on _ c.from_residual.result c.in_err-place.field-0.0 c.from_residual.ensures.1 e1 c.in_err-place.ensures.reads

pub library::create_call-returns-in_err-function-clause-reads : goal.library::create_call-returns-in_err-function-clause-reads
library::create_call-returns-in_err-function-clause-reads t c =
    let e1 : Goes (parsed (create_call c.args.depth c.args.start) c.args.tokens.now) _ _ = record { on = create_goes _ _ _ } in
    let e2 : Goes (parsed (create_call c.args.depth c.args.start) c.args.tokens.now) _ _ = record { on = through e1 c.in_ok-place.ensures.reads ∙ create_rest_goes _ _ _ _ } in
    hands_on _ c.from_residual-in_err-function.result c.in_err-function.field-0.0 c.from_residual-in_err-function.ensures.1 e2 (rw add-one at c.in_err-function.ensures.reads)

pub library::create_call-returns-in_err-argument-clause-reads : goal.library::create_call-returns-in_err-argument-clause-reads
library::create_call-returns-in_err-argument-clause-reads t c =
    let e1 : Goes (parsed (create_call c.args.depth c.args.start) c.args.tokens.now) _ _ = record { on = create_goes _ _ _ } in
    let e2 : Goes (parsed (create_call c.args.depth c.args.start) c.args.tokens.now) _ _ = record { on = through e1 c.in_ok-place.ensures.reads ∙ create_rest_goes _ _ _ _ } in
    let e3 : Goes (parsed (create_call c.args.depth c.args.start) c.args.tokens.now) _ _ = record { on = through e2 (rw add-one at c.in_ok-function.ensures.reads) ∙ create_last_goes _ _ _ _ _ } in
    hands_on _ c.from_residual-in_err-argument.result c.in_err-argument.field-0.0 c.from_residual-in_err-argument.ensures.1 e3 (rw add-one at c.in_err-argument.ensures.reads)

pub library::create_call-returns-in_err-rest-clause-reads : goal.library::create_call-returns-in_err-rest-clause-reads
library::create_call-returns-in_err-rest-clause-reads t c =
    let e1 : Goes (parsed (create_call c.args.depth c.args.start) c.args.tokens.now) _ _ = record { on = create_goes _ _ _ } in
    let e2 : Goes (parsed (create_call c.args.depth c.args.start) c.args.tokens.now) _ _ = record { on = through e1 c.in_ok-place.ensures.reads ∙ create_rest_goes _ _ _ _ } in
    let e3 : Goes (parsed (create_call c.args.depth c.args.start) c.args.tokens.now) _ _ = record { on = through e2 (rw add-one at c.in_ok-function.ensures.reads) ∙ create_last_goes _ _ _ _ _ } in
    let e4 : Goes (parsed (create_call c.args.depth c.args.start) c.args.tokens.now) _ _ = record { on = through e3 (rw add-one at c.in_ok-argument.ensures.reads) ∙ parsed_then _ _ _ } in
    hands_on _ c.from_residual-in_err-rest.result c.in_err-rest.field-0.0 c.from_residual-in_err-rest.ensures.1 e4 c.in_err-rest.ensures.reads

pub library::create_call-returns-clause-reads : goal.library::create_call-returns-clause-reads
library::create_call-returns-clause-reads t c =
    let e1 : Goes (parsed (create_call c.args.depth c.args.start) c.args.tokens.now) _ _ = record { on = create_goes _ _ _ } in
    let e2 : Goes (parsed (create_call c.args.depth c.args.start) c.args.tokens.now) _ _ = record { on = through e1 c.in_ok-place.ensures.reads ∙ create_rest_goes _ _ _ _ } in
    let e3 : Goes (parsed (create_call c.args.depth c.args.start) c.args.tokens.now) _ _ = record { on = through e2 (rw add-one at c.in_ok-function.ensures.reads) ∙ create_last_goes _ _ _ _ _ } in
    let e4 : Goes (parsed (create_call c.args.depth c.args.start) c.args.tokens.now) _ _ = record { on = through e3 (rw add-one at c.in_ok-argument.ensures.reads) ∙ parsed_then _ _ _ } in
    tail_call _ _ (through e4 c.in_ok-rest.ensures.reads) c.primary.ensures.reads

pub library::create_place-returns-in_err-rest-clause-reads : goal.library::create_place-returns-in_err-rest-clause-reads
library::create_place-returns-in_err-rest-clause-reads t c =
    let e1 : Goes (parsed (create_place c.args.depth) c.args.tokens.now) _ _ = record { on = parsed_then _ _ _ } in
    hands_on _ c.from_residual.result c.in_err-rest.field-0.0 c.from_residual.ensures.1 e1 c.in_err-rest.ensures.reads

pub library::create_place-returns-in_err-rest-2-clause-reads : goal.library::create_place-returns-in_err-rest-2-clause-reads
library::create_place-returns-in_err-rest-2-clause-reads t c =
    let e1 : Goes (parsed (create_place c.args.depth) c.args.tokens.now) _ _ = record { on = parsed_then _ _ _ } in
    let e2 : Goes (parsed (create_place c.args.depth) c.args.tokens.now) _ _ = record { on = through e1 c.in_ok-rest.ensures.reads ∙ parsed_then _ _ _ } in
    hands_on _ c.from_residual-in_err-rest-2.result c.in_err-rest-2.field-0.0 c.from_residual-in_err-rest-2.ensures.1 e2 (rw add-one at c.in_err-rest-2.ensures.reads)

pub library::create_place-returns-in_err-place-clause-reads : goal.library::create_place-returns-in_err-place-clause-reads
library::create_place-returns-in_err-place-clause-reads t c =
    let e1 : Goes (parsed (create_place c.args.depth) c.args.tokens.now) _ _ = record { on = parsed_then _ _ _ } in
    let e2 : Goes (parsed (create_place c.args.depth) c.args.tokens.now) _ _ = record { on = through e1 c.in_ok-rest.ensures.reads ∙ parsed_then _ _ _ } in
    let e3 : Goes (parsed (create_place c.args.depth) c.args.tokens.now) _ _ = record { on = through e2 (rw add-one at c.in_ok-rest-2.ensures.reads) ∙ parsed_then _ _ _ } in
    hands_on _ c.from_residual-in_err-place.result c.in_err-place.field-0.0 c.from_residual-in_err-place.ensures.1 e3 (rw add-one at c.in_err-place.ensures.reads)

pub library::create_place-returns-in_err-rest-3-clause-reads : goal.library::create_place-returns-in_err-rest-3-clause-reads
library::create_place-returns-in_err-rest-3-clause-reads t c =
    let e1 : Goes (parsed (create_place c.args.depth) c.args.tokens.now) _ _ = record { on = parsed_then _ _ _ } in
    let e2 : Goes (parsed (create_place c.args.depth) c.args.tokens.now) _ _ = record { on = through e1 c.in_ok-rest.ensures.reads ∙ parsed_then _ _ _ } in
    let e3 : Goes (parsed (create_place c.args.depth) c.args.tokens.now) _ _ = record { on = through e2 (rw add-one at c.in_ok-rest-2.ensures.reads) ∙ parsed_then _ _ _ } in
    let e4 : Goes (parsed (create_place c.args.depth) c.args.tokens.now) _ _ = record { on = through e3 (rw add-one at c.in_ok-place.ensures.reads) ∙ parsed_then _ _ _ } in
    hands_on _ c.from_residual-in_err-rest-3.result c.in_err-rest-3.field-0.0 c.from_residual-in_err-rest-3.ensures.1 e4 (rw add-one at c.in_err-rest-3.ensures.reads)

pub library::create_place-returns-clause-reads : goal.library::create_place-returns-clause-reads
library::create_place-returns-clause-reads t c =
    let e1 : Goes (parsed (create_place c.args.depth) c.args.tokens.now) _ _ = record { on = parsed_then _ _ _ } in
    let e2 : Goes (parsed (create_place c.args.depth) c.args.tokens.now) _ _ = record { on = through e1 c.in_ok-rest.ensures.reads ∙ parsed_then _ _ _ } in
    let e3 : Goes (parsed (create_place c.args.depth) c.args.tokens.now) _ _ = record { on = through e2 (rw add-one at c.in_ok-rest-2.ensures.reads) ∙ parsed_then _ _ _ } in
    let e4 : Goes (parsed (create_place c.args.depth) c.args.tokens.now) _ _ = record { on = through e3 (rw add-one at c.in_ok-place.ensures.reads) ∙ parsed_then _ _ _ } in
    through e4 (rw add-one at c.in_ok-rest-3.ensures.reads) ∙ parsed_return _ _

pub library::free_call-returns-in_err-rest-clause-reads : goal.library::free_call-returns-in_err-rest-clause-reads
library::free_call-returns-in_err-rest-clause-reads t c =
    let e1 : Goes (parsed (free_call c.args.depth c.args.start) c.args.tokens.now) _ _ = record { on = parsed_then _ _ _ } in
    hands_on _ c.from_residual.result c.in_err-rest.field-0.0 c.from_residual.ensures.1 e1 c.in_err-rest.ensures.reads

pub library::free_call-returns-in_err-handle-clause-reads : goal.library::free_call-returns-in_err-handle-clause-reads
library::free_call-returns-in_err-handle-clause-reads t c =
    let e1 : Goes (parsed (free_call c.args.depth c.args.start) c.args.tokens.now) _ _ = record { on = parsed_then _ _ _ } in
    let e2 : Goes (parsed (free_call c.args.depth c.args.start) c.args.tokens.now) _ _ = record { on = through e1 c.in_ok-rest.ensures.reads ∙ parsed_after _ _ _ } in
    hands_on _ c.from_residual-in_err-handle.result c.in_err-handle.field-0.0 c.from_residual-in_err-handle.ensures.1 e2 (rw add-one at c.in_err-handle.ensures.reads)

pub library::free_call-returns-in_err-rest-2-clause-reads : goal.library::free_call-returns-in_err-rest-2-clause-reads
library::free_call-returns-in_err-rest-2-clause-reads t c =
    let e1 : Goes (parsed (free_call c.args.depth c.args.start) c.args.tokens.now) _ _ = record { on = parsed_then _ _ _ } in
    let e2 : Goes (parsed (free_call c.args.depth c.args.start) c.args.tokens.now) _ _ = record { on = through e1 c.in_ok-rest.ensures.reads ∙ parsed_after _ _ _ } in
    let e3 : Goes (parsed (free_call c.args.depth c.args.start) c.args.tokens.now) _ _ = record { on = through e2 (rw add-one at c.in_ok-handle.ensures.reads) ∙ parsed_then _ _ _ } in
    hands_on _ c.from_residual-in_err-rest-2.result c.in_err-rest-2.field-0.0 c.from_residual-in_err-rest-2.ensures.1 e3 c.in_err-rest-2.ensures.reads

pub library::free_call-returns-clause-reads : goal.library::free_call-returns-clause-reads
library::free_call-returns-clause-reads t c =
    let e1 : Goes (parsed (free_call c.args.depth c.args.start) c.args.tokens.now) _ _ = record { on = parsed_then _ _ _ } in
    let e2 : Goes (parsed (free_call c.args.depth c.args.start) c.args.tokens.now) _ _ = record { on = through e1 c.in_ok-rest.ensures.reads ∙ parsed_after _ _ _ } in
    let e3 : Goes (parsed (free_call c.args.depth c.args.start) c.args.tokens.now) _ _ = record { on = through e2 (rw add-one at c.in_ok-handle.ensures.reads) ∙ parsed_then _ _ _ } in
    tail_call _ _ (through e3 c.in_ok-rest-2.ensures.reads) c.primary.ensures.reads

pub library::join_call-returns-in_err-rest-clause-reads : goal.library::join_call-returns-in_err-rest-clause-reads
library::join_call-returns-in_err-rest-clause-reads t c =
    let e1 : Goes (parsed (join_call c.args.depth c.args.start) c.args.tokens.now) _ _ = record { on = parsed_then _ _ _ } in
    hands_on _ c.from_residual.result c.in_err-rest.field-0.0 c.from_residual.ensures.1 e1 c.in_err-rest.ensures.reads

pub library::join_call-returns-in_err-thread-clause-reads : goal.library::join_call-returns-in_err-thread-clause-reads
library::join_call-returns-in_err-thread-clause-reads t c =
    let e1 : Goes (parsed (join_call c.args.depth c.args.start) c.args.tokens.now) _ _ = record { on = parsed_then _ _ _ } in
    let e2 : Goes (parsed (join_call c.args.depth c.args.start) c.args.tokens.now) _ _ = record { on = through e1 c.in_ok-rest.ensures.reads ∙ parsed_after _ _ _ } in
    hands_on _ c.from_residual-in_err-thread.result c.in_err-thread.field-0.0 c.from_residual-in_err-thread.ensures.1 e2 (rw add-one at c.in_err-thread.ensures.reads)

pub library::join_call-returns-in_err-rest-2-clause-reads : goal.library::join_call-returns-in_err-rest-2-clause-reads
library::join_call-returns-in_err-rest-2-clause-reads t c =
    let e1 : Goes (parsed (join_call c.args.depth c.args.start) c.args.tokens.now) _ _ = record { on = parsed_then _ _ _ } in
    let e2 : Goes (parsed (join_call c.args.depth c.args.start) c.args.tokens.now) _ _ = record { on = through e1 c.in_ok-rest.ensures.reads ∙ parsed_after _ _ _ } in
    let e3 : Goes (parsed (join_call c.args.depth c.args.start) c.args.tokens.now) _ _ = record { on = through e2 (rw add-one at c.in_ok-thread.ensures.reads) ∙ parsed_then _ _ _ } in
    hands_on _ c.from_residual-in_err-rest-2.result c.in_err-rest-2.field-0.0 c.from_residual-in_err-rest-2.ensures.1 e3 (rw add-one at c.in_err-rest-2.ensures.reads)

pub library::join_call-returns-in_err-target-clause-reads : goal.library::join_call-returns-in_err-target-clause-reads
library::join_call-returns-in_err-target-clause-reads t c =
    let e1 : Goes (parsed (join_call c.args.depth c.args.start) c.args.tokens.now) _ _ = record { on = parsed_then _ _ _ } in
    let e2 : Goes (parsed (join_call c.args.depth c.args.start) c.args.tokens.now) _ _ = record { on = through e1 c.in_ok-rest.ensures.reads ∙ parsed_after _ _ _ } in
    let e3 : Goes (parsed (join_call c.args.depth c.args.start) c.args.tokens.now) _ _ = record { on = through e2 (rw add-one at c.in_ok-thread.ensures.reads) ∙ parsed_then _ _ _ } in
    let e4 : Goes (parsed (join_call c.args.depth c.args.start) c.args.tokens.now) _ _ = record { on = through e3 (rw add-one at c.in_ok-rest-2.ensures.reads) ∙ parsed_then _ _ _ } in
    hands_on _ c.from_residual-in_err-target.result c.in_err-target.field-0.0 c.from_residual-in_err-target.ensures.1 e4 (rw add-one at c.in_err-target.ensures.reads)

pub library::join_call-returns-in_err-rest-3-clause-reads : goal.library::join_call-returns-in_err-rest-3-clause-reads
library::join_call-returns-in_err-rest-3-clause-reads t c =
    let e1 : Goes (parsed (join_call c.args.depth c.args.start) c.args.tokens.now) _ _ = record { on = parsed_then _ _ _ } in
    let e2 : Goes (parsed (join_call c.args.depth c.args.start) c.args.tokens.now) _ _ = record { on = through e1 c.in_ok-rest.ensures.reads ∙ parsed_after _ _ _ } in
    let e3 : Goes (parsed (join_call c.args.depth c.args.start) c.args.tokens.now) _ _ = record { on = through e2 (rw add-one at c.in_ok-thread.ensures.reads) ∙ parsed_then _ _ _ } in
    let e4 : Goes (parsed (join_call c.args.depth c.args.start) c.args.tokens.now) _ _ = record { on = through e3 (rw add-one at c.in_ok-rest-2.ensures.reads) ∙ parsed_then _ _ _ } in
    let e5 : Goes (parsed (join_call c.args.depth c.args.start) c.args.tokens.now) _ _ = record { on = through e4 (rw add-one at c.in_ok-target.ensures.reads) ∙ parsed_then _ _ _ } in
    hands_on _ c.from_residual-in_err-rest-3.result c.in_err-rest-3.field-0.0 c.from_residual-in_err-rest-3.ensures.1 e5 c.in_err-rest-3.ensures.reads

pub library::join_call-returns-clause-reads : goal.library::join_call-returns-clause-reads
library::join_call-returns-clause-reads t c =
    let e1 : Goes (parsed (join_call c.args.depth c.args.start) c.args.tokens.now) _ _ = record { on = parsed_then _ _ _ } in
    let e2 : Goes (parsed (join_call c.args.depth c.args.start) c.args.tokens.now) _ _ = record { on = through e1 c.in_ok-rest.ensures.reads ∙ parsed_after _ _ _ } in
    let e3 : Goes (parsed (join_call c.args.depth c.args.start) c.args.tokens.now) _ _ = record { on = through e2 (rw add-one at c.in_ok-thread.ensures.reads) ∙ parsed_then _ _ _ } in
    let e4 : Goes (parsed (join_call c.args.depth c.args.start) c.args.tokens.now) _ _ = record { on = through e3 (rw add-one at c.in_ok-rest-2.ensures.reads) ∙ parsed_then _ _ _ } in
    let e5 : Goes (parsed (join_call c.args.depth c.args.start) c.args.tokens.now) _ _ = record { on = through e4 (rw add-one at c.in_ok-target.ensures.reads) ∙ parsed_then _ _ _ } in
    tail_call _ _ (through e5 c.in_ok-rest-3.ensures.reads ∙ ap (λ x. reads (Postfix c.args.depth x) c.in_ok-rest-3.rest.now) (sym c.in_ok-joined.ensures)) c.postfix.ensures.reads

pub library::join_target-returns-in-Some-clause-reads : goal.library::join_target-returns-in-Some-clause-reads
library::join_target-returns-in-Some-clause-reads t c =
    let f = c.in-Some.ensures in
    target_null _ f.0 _ _ f.1 f.2 c.in_ok-shallow.ensures

pub library::join_target-returns-in_err-shallow-clause-reads : goal.library::join_target-returns-in_err-shallow-clause-reads
library::join_target-returns-in_err-shallow-clause-reads t c =
    let f = c.in-Some.ensures in
    sinks_on _ c.from_residual.result c.in_err-shallow.field-0.0 c.from_residual.ensures.1 c.in_err-shallow.ensures.1
    (target_deep _ f.0 _ _ f.1 f.2 c.in_err-shallow.ensures.0)

pub library::join_target-returns-in_err-rest-clause-reads : goal.library::join_target-returns-in_err-rest-clause-reads
library::join_target-returns-in_err-rest-clause-reads t c =
    let e1 : Goes (reads (Target c.args.depth) c.args.tokens.now) _ _ = record { on = target_place _ _ c.in_default.ensures } in
    hands_on _ c.from_residual-in_err-rest.result c.in_err-rest.field-0.0 c.from_residual-in_err-rest.ensures.1 e1 c.in_err-rest.ensures.reads

pub library::join_target-returns-in_err-place-clause-reads : goal.library::join_target-returns-in_err-place-clause-reads
library::join_target-returns-in_err-place-clause-reads t c =
    let e1 : Goes (reads (Target c.args.depth) c.args.tokens.now) _ _ = record { on = target_place _ _ c.in_default.ensures } in
    let e2 : Goes (reads (Target c.args.depth) c.args.tokens.now) _ _ = record { on = through e1 c.in_ok-rest.ensures.reads ∙ parsed_then _ _ _ } in
    hands_on _ c.from_residual-in_err-place.result c.in_err-place.field-0.0 c.from_residual-in_err-place.ensures.1 e2 c.in_err-place.ensures.reads

pub library::join_target-returns-clause-reads : goal.library::join_target-returns-clause-reads
library::join_target-returns-clause-reads t c =
    let e1 : Goes (reads (Target c.args.depth) c.args.tokens.now) _ _ = record { on = target_place _ _ c.in_default.ensures } in
    let e2 : Goes (reads (Target c.args.depth) c.args.tokens.now) _ _ = record { on = through e1 c.in_ok-rest.ensures.reads ∙ parsed_then _ _ _ } in
    through e2 c.in_ok-place.ensures.reads ∙ parsed_return _ _

pub library::print_call-returns-in_err-rest-clause-reads : goal.library::print_call-returns-in_err-rest-clause-reads
library::print_call-returns-in_err-rest-clause-reads t c =
    let e1 : Goes (parsed (print_call c.args.depth c.args.start) c.args.tokens.now) _ _ = record { on = parsed_then _ _ _ } in
    hands_on _ c.from_residual.result c.in_err-rest.field-0.0 c.from_residual.ensures.1 e1 c.in_err-rest.ensures.reads

pub library::print_call-returns-in_err-format-clause-reads : goal.library::print_call-returns-in_err-format-clause-reads
library::print_call-returns-in_err-format-clause-reads t c =
    let e1 : Goes (parsed (print_call c.args.depth c.args.start) c.args.tokens.now) _ _ = record { on = parsed_then _ _ _ } in
    let e2 : Goes (parsed (print_call c.args.depth c.args.start) c.args.tokens.now) _ _ = record { on = through e1 c.in_ok-rest.ensures.reads ∙ parsed_then _ _ _ } in
    hands_on _ c.from_residual-in_err-format.result c.in_err-format.field-0.0 c.from_residual-in_err-format.ensures.1 e2 (rw add-one at c.in_err-format.ensures.reads)

pub library::print_call-returns-in_err-arguments-clause-reads : goal.library::print_call-returns-in_err-arguments-clause-reads
library::print_call-returns-in_err-arguments-clause-reads t c =
    let e1 : Goes (parsed (print_call c.args.depth c.args.start) c.args.tokens.now) _ _ = record { on = parsed_then _ _ _ } in
    let e2 : Goes (parsed (print_call c.args.depth c.args.start) c.args.tokens.now) _ _ = record { on = through e1 c.in_ok-rest.ensures.reads ∙ parsed_then _ _ _ } in
    let e3 : Goes (parsed (print_call c.args.depth c.args.start) c.args.tokens.now) _ _ = swap (record { on = through e2 (rw add-one at c.in_ok-format.ensures.reads) ∙ parsed_then _ _ _ }) (ap (λ es. reads (Further (suc c.args.depth) es) c.in_ok-format.rest.now) c.new.ensures.items) in
    hands_on _ c.from_residual-in_err-arguments.result c.in_err-arguments.field-0.0 c.from_residual-in_err-arguments.ensures.1 e3 (rw add-one at c.in_err-arguments.ensures.reads)

pub library::print_call-returns-in_err-rest-2-clause-reads : goal.library::print_call-returns-in_err-rest-2-clause-reads
library::print_call-returns-in_err-rest-2-clause-reads t c =
    let e1 : Goes (parsed (print_call c.args.depth c.args.start) c.args.tokens.now) _ _ = record { on = parsed_then _ _ _ } in
    let e2 : Goes (parsed (print_call c.args.depth c.args.start) c.args.tokens.now) _ _ = record { on = through e1 c.in_ok-rest.ensures.reads ∙ parsed_then _ _ _ } in
    let e3 : Goes (parsed (print_call c.args.depth c.args.start) c.args.tokens.now) _ _ = swap (record { on = through e2 (rw add-one at c.in_ok-format.ensures.reads) ∙ parsed_then _ _ _ }) (ap (λ es. reads (Further (suc c.args.depth) es) c.in_ok-format.rest.now) c.new.ensures.items) in
    let e4 : Goes (parsed (print_call c.args.depth c.args.start) c.args.tokens.now) _ _ = record { on = through e3 (rw add-one at c.in_ok-arguments.ensures.reads) ∙ parsed_then _ _ _ } in
    hands_on _ c.from_residual-in_err-rest-2.result c.in_err-rest-2.field-0.0 c.from_residual-in_err-rest-2.ensures.1 e4 c.in_err-rest-2.ensures.reads

pub library::print_call-returns-clause-reads : goal.library::print_call-returns-clause-reads
library::print_call-returns-clause-reads t c =
    let e1 : Goes (parsed (print_call c.args.depth c.args.start) c.args.tokens.now) _ _ = record { on = parsed_then _ _ _ } in
    let e2 : Goes (parsed (print_call c.args.depth c.args.start) c.args.tokens.now) _ _ = record { on = through e1 c.in_ok-rest.ensures.reads ∙ parsed_then _ _ _ } in
    let e3 : Goes (parsed (print_call c.args.depth c.args.start) c.args.tokens.now) _ _ = swap (record { on = through e2 (rw add-one at c.in_ok-format.ensures.reads) ∙ parsed_then _ _ _ }) (ap (λ es. reads (Further (suc c.args.depth) es) c.in_ok-format.rest.now) c.new.ensures.items) in
    let e4 : Goes (parsed (print_call c.args.depth c.args.start) c.args.tokens.now) _ _ = record { on = through e3 (rw add-one at c.in_ok-arguments.ensures.reads) ∙ parsed_then _ _ _ } in
    tail_call _ _ (through e4 c.in_ok-rest-2.ensures.reads) c.primary.ensures.reads

pub library::library_call-returns-in_err-mutex-in-Lock-clause-reads : goal.library::library_call-returns-in_err-mutex-in-Lock-clause-reads
library::library_call-returns-in_err-mutex-in-Lock-clause-reads t c =
    let e1 : Goes (parsed (word_call c.args.word c.args.depth c.args.start) c.args.tokens.now) _ _ = record { on = ap (λ w. parsed (word_call w c.args.depth c.args.start) c.args.tokens.now) c.in-Lock.is ∙ lock_goes node.Lock _ _ _ } in
    hands_on _ c.from_residual.result c.in_err-mutex-in-Lock.field-0.0 c.from_residual.ensures.1 e1 c.in_err-mutex-in-Lock.ensures.reads

pub library::library_call-returns-in_ok-mutex-in-Lock-clause-reads : goal.library::library_call-returns-in_ok-mutex-in-Lock-clause-reads
library::library_call-returns-in_ok-mutex-in-Lock-clause-reads t c =
    let e1 : Goes (parsed (word_call c.args.word c.args.depth c.args.start) c.args.tokens.now) _ _ = record { on = ap (λ w. parsed (word_call w c.args.depth c.args.start) c.args.tokens.now) c.in-Lock.is ∙ lock_goes node.Lock _ _ _ } in
    tail_call _ _ (through e1 c.in_ok-mutex-in-Lock.ensures.reads) c.primary-in-Lock.ensures.reads

pub library::library_call-returns-in_err-mutex-in-Unlock-clause-reads : goal.library::library_call-returns-in_err-mutex-in-Unlock-clause-reads
library::library_call-returns-in_err-mutex-in-Unlock-clause-reads t c =
    let e1 : Goes (parsed (word_call c.args.word c.args.depth c.args.start) c.args.tokens.now) _ _ = record { on = ap (λ w. parsed (word_call w c.args.depth c.args.start) c.args.tokens.now) c.in-Unlock.is ∙ lock_goes node.Unlock _ _ _ } in
    hands_on _ c.from_residual-in_err-mutex-in-Unlock.result c.in_err-mutex-in-Unlock.field-0.0 c.from_residual-in_err-mutex-in-Unlock.ensures.1 e1 c.in_err-mutex-in-Unlock.ensures.reads

pub library::library_call-returns-in_ok-mutex-in-Unlock-clause-reads : goal.library::library_call-returns-in_ok-mutex-in-Unlock-clause-reads
library::library_call-returns-in_ok-mutex-in-Unlock-clause-reads t c =
    let e1 : Goes (parsed (word_call c.args.word c.args.depth c.args.start) c.args.tokens.now) _ _ = record { on = ap (λ w. parsed (word_call w c.args.depth c.args.start) c.args.tokens.now) c.in-Unlock.is ∙ lock_goes node.Unlock _ _ _ } in
    tail_call _ _ (through e1 c.in_ok-mutex-in-Unlock.ensures.reads) c.primary-in-Unlock.ensures.reads

pub unary::further-returns-in_err-shallow-clause-reads : goal.unary::further-returns-in_err-shallow-clause-reads
unary::further-returns-in_err-shallow-clause-reads t c =
    let f = c.in-Some.ensures in
    sinks_on _ c.from_residual.result c.in_err-shallow.field-0.0 c.from_residual.ensures.1 c.in_err-shallow.ensures.1
    (c.loop-behind.invariant.0 ∙ further_deep _ _ f.0 _ _ f.1 f.2 c.in_err-shallow.ensures.0)

pub unary::further-returns-in_err-argument-clause-reads : goal.unary::further-returns-in_err-argument-clause-reads
unary::further-returns-in_err-argument-clause-reads t c =
    let f = c.in-Some.ensures in
    let e1 : Goes (reads (Further c.args.depth c.args.list.items) c.args.tokens.now) _ _ = record { on = c.loop-behind.invariant.0 ∙ further_some _ _ f.0 _ _ f.1 f.2 c.in_ok-shallow.ensures } in
    hands_on _ c.from_residual-in_err-argument.result c.in_err-argument.field-0.0 c.from_residual-in_err-argument.ensures.1 e1 c.in_err-argument.ensures.reads

pub unary::further-loop-behind-preserved : goal.unary::further-loop-behind-preserved
unary::further-loop-behind-preserved t c =
    let f = c.in-Some.ensures in
    let e1 : Goes (reads (Further c.args.depth c.args.list.items) c.args.tokens.now) _ _ = record { on = c.loop-behind.invariant.0 ∙ further_some _ _ f.0 _ _ f.1 f.2 c.in_ok-shallow.ensures } in
    (through e1 c.in_ok-argument.ensures.reads ∙ ap (λ x. reads (Further c.args.depth x) c.in_ok-argument.behind.now) (sym c.in_ok-push.ensures), omega (arith, c.loop-behind.invariant.1, c.in_ok-argument.ensures.within, ap length f.1))

pub unary::further-returns-clause-reads : goal.unary::further-returns-clause-reads
unary::further-returns-clause-reads t c =
    c.loop-behind.invariant.0 ∙ further_none _ _ _ c.in_default.ensures ∙ ap (λ es. read (listed es) c.loop-behind.rest.now) (sym c.of.ensures)

pub unary::arguments-returns-in-Some-clause-reads : goal.unary::arguments-returns-in-Some-clause-reads
unary::arguments-returns-in-Some-clause-reads t c =
    let f = c.in-Some.ensures in
    arguments_none _ f.0 _ _ f.1 f.2 (omega arith) ∙ ap (λ es. read (listed es) c.in-Some.rest.now) (sym (c.of.ensures ∙ c.new-list.ensures.items))

pub unary::arguments-returns-in_err-first-clause-reads : goal.unary::arguments-returns-in_err-first-clause-reads
unary::arguments-returns-in_err-first-clause-reads t c =
    let e1 : Goes (parsed (arguments c.args.depth) c.args.tokens.now) _ _ = record { on = arguments_some _ _ c.in_default.ensures } in
    hands_on _ c.from_residual.result c.in_err-first.field-0.0 c.from_residual.ensures.1 e1 (rw add-one at c.in_err-first.ensures.reads)

pub unary::arguments-returns-in_err-list-clause-reads : goal.unary::arguments-returns-in_err-list-clause-reads
unary::arguments-returns-in_err-list-clause-reads t c =
    let e1 : Goes (parsed (arguments c.args.depth) c.args.tokens.now) _ _ = record { on = arguments_some _ _ c.in_default.ensures } in
    let e2 : Goes (parsed (arguments c.args.depth) c.args.tokens.now) _ _ = swap (record { on = through e1 (rw add-one at c.in_ok-first.ensures.reads) ∙ parsed_then _ _ _ }) (ap (λ es. reads (Further (suc c.args.depth) es) c.in_ok-first.rest.now) (c.in_ok-push.ensures ∙ ap (λ es. es ++ c.in_ok-first.first.expr ∷ []) c.new-list.ensures.items)) in
    hands_on _ c.from_residual-in_err-list.result c.in_err-list.field-0.0 c.from_residual-in_err-list.ensures.1 e2 (rw add-one at c.in_err-list.ensures.reads)

pub unary::arguments-returns-in_err-rest-clause-reads : goal.unary::arguments-returns-in_err-rest-clause-reads
unary::arguments-returns-in_err-rest-clause-reads t c =
    let e1 : Goes (parsed (arguments c.args.depth) c.args.tokens.now) _ _ = record { on = arguments_some _ _ c.in_default.ensures } in
    let e2 : Goes (parsed (arguments c.args.depth) c.args.tokens.now) _ _ = swap (record { on = through e1 (rw add-one at c.in_ok-first.ensures.reads) ∙ parsed_then _ _ _ }) (ap (λ es. reads (Further (suc c.args.depth) es) c.in_ok-first.rest.now) (c.in_ok-push.ensures ∙ ap (λ es. es ++ c.in_ok-first.first.expr ∷ []) c.new-list.ensures.items)) in
    let e3 : Goes (parsed (arguments c.args.depth) c.args.tokens.now) _ _ = record { on = through e2 (rw add-one at c.in_ok-list.ensures.reads) ∙ parsed_then _ _ _ } in
    hands_on _ c.from_residual-in_err-rest.result c.in_err-rest.field-0.0 c.from_residual-in_err-rest.ensures.1 e3 c.in_err-rest.ensures.reads

pub unary::arguments-returns-clause-reads : goal.unary::arguments-returns-clause-reads
unary::arguments-returns-clause-reads t c =
    let e1 : Goes (parsed (arguments c.args.depth) c.args.tokens.now) _ _ = record { on = arguments_some _ _ c.in_default.ensures } in
    let e2 : Goes (parsed (arguments c.args.depth) c.args.tokens.now) _ _ = swap (record { on = through e1 (rw add-one at c.in_ok-first.ensures.reads) ∙ parsed_then _ _ _ }) (ap (λ es. reads (Further (suc c.args.depth) es) c.in_ok-first.rest.now) (c.in_ok-push.ensures ∙ ap (λ es. es ++ c.in_ok-first.first.expr ∷ []) c.new-list.ensures.items)) in
    let e3 : Goes (parsed (arguments c.args.depth) c.args.tokens.now) _ _ = record { on = through e2 (rw add-one at c.in_ok-list.ensures.reads) ∙ parsed_then _ _ _ } in
    through e3 c.in_ok-rest.ensures.reads ∙ parsed_return _ _

pub unary::inside-returns-in_default-clause-reads : goal.unary::inside-returns-in_default-clause-reads
unary::inside-returns-in_default-clause-reads t c =
    inside_end _ _ _ c.args.tokens.now c.in_default.ensures.cases

pub unary::inside-returns-in_err-a-clause-reads : goal.unary::inside-returns-in_err-a-clause-reads
unary::inside-returns-in_err-a-clause-reads t c =
    let e1 : Goes (reads (Inside c.args.casts c.args.depth c.args.start) c.args.tokens.now) _ _ = record { on = inside_expr _ _ _ _ _ _ c.in-Some.ensures.cases.0 (sym c.begins_type.ensures ∙ c.if-not-begins_type.true) } in
    hands_on _ c.from_residual.result c.in_err-a.field-0.0 c.from_residual.ensures.1 e1 (rw add-one at c.in_err-a.ensures.reads)

pub unary::inside-returns-in_err-rest-clause-reads : goal.unary::inside-returns-in_err-rest-clause-reads
unary::inside-returns-in_err-rest-clause-reads t c =
    let e1 : Goes (reads (Inside c.args.casts c.args.depth c.args.start) c.args.tokens.now) _ _ = record { on = inside_expr _ _ _ _ _ _ c.in-Some.ensures.cases.0 (sym c.begins_type.ensures ∙ c.if-not-begins_type.true) } in
    let e2 : Goes (reads (Inside c.args.casts c.args.depth c.args.start) c.args.tokens.now) _ _ = record { on = through e1 (rw add-one at c.in_ok-a.ensures.reads) ∙ parsed_then _ _ _ } in
    hands_on _ c.from_residual-in_err-rest.result c.in_err-rest.field-0.0 c.from_residual-in_err-rest.ensures.1 e2 c.in_err-rest.ensures.reads

pub unary::inside-returns-then-not-begins_type-clause-reads : goal.unary::inside-returns-then-not-begins_type-clause-reads
unary::inside-returns-then-not-begins_type-clause-reads t c =
    let e1 : Goes (reads (Inside c.args.casts c.args.depth c.args.start) c.args.tokens.now) _ _ = record { on = inside_expr _ _ _ _ _ _ c.in-Some.ensures.cases.0 (sym c.begins_type.ensures ∙ c.if-not-begins_type.true) } in
    let e2 : Goes (reads (Inside c.args.casts c.args.depth c.args.start) c.args.tokens.now) _ _ = record { on = through e1 (rw add-one at c.in_ok-a.ensures.reads) ∙ parsed_then _ _ _ } in
    tail_call _ _ (through e2 c.in_ok-rest.ensures.reads) c.postfix.ensures.reads

pub unary::inside-returns-then-not-casts-clause-reads : goal.unary::inside-returns-then-not-casts-clause-reads
unary::inside-returns-then-not-casts-clause-reads t c =
    inside_no_cast _ _ _ _ _ _ c.in-Some.ensures.cases.0 (sym c.begins_type.ensures ∙ c.if-not-begins_type.false) c.if-not-casts.true

pub unary::inside-returns-in_err-to-clause-reads : goal.unary::inside-returns-in_err-to-clause-reads
unary::inside-returns-in_err-to-clause-reads t c =
    let e1 : Goes (reads (Inside c.args.casts c.args.depth c.args.start) c.args.tokens.now) _ _ = record { on = inside_type _ _ _ _ _ _ c.in-Some.ensures.cases.0 (sym c.begins_type.ensures ∙ c.if-not-begins_type.false) c.if-not-casts.false } in
    hands_on _ c.from_residual-in_err-to.result c.in_err-to.field-0.0 c.from_residual-in_err-to.ensures.1 e1 (rw add-one at c.in_err-to.ensures.reads)

pub unary::inside-returns-in_err-rest-2-clause-reads : goal.unary::inside-returns-in_err-rest-2-clause-reads
unary::inside-returns-in_err-rest-2-clause-reads t c =
    let e1 : Goes (reads (Inside c.args.casts c.args.depth c.args.start) c.args.tokens.now) _ _ = record { on = inside_type _ _ _ _ _ _ c.in-Some.ensures.cases.0 (sym c.begins_type.ensures ∙ c.if-not-begins_type.false) c.if-not-casts.false } in
    let e2 : Goes (reads (Inside c.args.casts c.args.depth c.args.start) c.args.tokens.now) _ _ = record { on = through e1 (rw add-one at c.in_ok-to.ensures.reads) ∙ parsed_then _ _ _ } in
    hands_on _ c.from_residual-in_err-rest-2.result c.in_err-rest-2.field-0.0 c.from_residual-in_err-rest-2.ensures.1 e2 c.in_err-rest-2.ensures.reads

pub unary::inside-returns-in_err-a-2-clause-reads : goal.unary::inside-returns-in_err-a-2-clause-reads
unary::inside-returns-in_err-a-2-clause-reads t c =
    let e1 : Goes (reads (Inside c.args.casts c.args.depth c.args.start) c.args.tokens.now) _ _ = record { on = inside_type _ _ _ _ _ _ c.in-Some.ensures.cases.0 (sym c.begins_type.ensures ∙ c.if-not-begins_type.false) c.if-not-casts.false } in
    let e2 : Goes (reads (Inside c.args.casts c.args.depth c.args.start) c.args.tokens.now) _ _ = record { on = through e1 (rw add-one at c.in_ok-to.ensures.reads) ∙ parsed_then _ _ _ } in
    let e3 : Goes (reads (Inside c.args.casts c.args.depth c.args.start) c.args.tokens.now) _ _ = record { on = through e2 c.in_ok-rest-2.ensures.reads ∙ parsed_then _ _ _ } in
    hands_on _ c.from_residual-in_err-a-2.result c.in_err-a-2.field-0.0 c.from_residual-in_err-a-2.ensures.1 e3 (rw add-one at c.in_err-a-2.ensures.reads)

pub unary::inside-returns-clause-reads : goal.unary::inside-returns-clause-reads
unary::inside-returns-clause-reads t c =
    let e1 : Goes (reads (Inside c.args.casts c.args.depth c.args.start) c.args.tokens.now) _ _ = record { on = inside_type _ _ _ _ _ _ c.in-Some.ensures.cases.0 (sym c.begins_type.ensures ∙ c.if-not-begins_type.false) c.if-not-casts.false } in
    let e2 : Goes (reads (Inside c.args.casts c.args.depth c.args.start) c.args.tokens.now) _ _ = record { on = through e1 (rw add-one at c.in_ok-to.ensures.reads) ∙ parsed_then _ _ _ } in
    let e3 : Goes (reads (Inside c.args.casts c.args.depth c.args.start) c.args.tokens.now) _ _ = record { on = through e2 c.in_ok-rest-2.ensures.reads ∙ parsed_then _ _ _ } in
    through e3 (rw add-one at c.in_ok-a-2.ensures.reads) ∙ parsed_return _ _ ∙ ap (λ x. read (operand x) c.in_ok-a-2.rest.now) (sym c.in_ok-convert.ensures)

pub library::library-returns-in_default-word_of-clause-reads : goal.library::library-returns-in_default-word_of-clause-reads
library::library-returns-in_default-word_of-clause-reads n c casts t ts are kind =
    let same : c.in-Some.first.now.kind ≡ LibraryWord = ap (λ x. x.kind) (same_first (sym c.in-Some.ensures.cases.0 ∙ are)) ∙ kind in
    operand_none casts _ _ _ _ c.in-Some.ensures.cases.0 (library_word_plan casts c.args.depth c.in-Some.first.now None same (c.in_default-word_of.ensures ∙ ap library_name c.as_str.ensures))

pub library::library-returns-in_err-shallow-clause-reads : goal.library::library-returns-in_err-shallow-clause-reads
library::library-returns-in_err-shallow-clause-reads n c casts t ts are kind =
    let same : c.in-Some.first.now.kind ≡ LibraryWord = ap (λ x. x.kind) (same_first (sym c.in-Some.ensures.cases.0 ∙ are)) ∙ kind in
    sinks_on _ c.from_residual.result c.in_err-shallow.field-0.0 c.from_residual.ensures.1 c.in_err-shallow.ensures.1
    (operand_deep casts _ (word_call c.in-Some-word_of.word c.args.depth c.in-Some.first.now.at) _ _ _ c.in-Some.ensures.cases.0 (library_word_plan casts c.args.depth c.in-Some.first.now (Some c.in-Some-word_of.word) same (c.in-Some-word_of.ensures ∙ ap library_name c.as_str.ensures)) c.in_err-shallow.ensures.0)

pub library::library-returns-clause-reads : goal.library::library-returns-clause-reads
library::library-returns-clause-reads n c casts t ts are kind =
    let same : c.in-Some.first.now.kind ≡ LibraryWord = ap (λ x. x.kind) (same_first (sym c.in-Some.ensures.cases.0 ∙ are)) ∙ kind in
    tail_call _ _ (operand_takes casts _ (word_call c.in-Some-word_of.word c.args.depth c.in-Some.first.now.at) _ _ _ c.in-Some.ensures.cases.0 (library_word_plan casts c.args.depth c.in-Some.first.now (Some c.in-Some-word_of.word) same (c.in-Some-word_of.ensures ∙ ap library_name c.as_str.ensures)) c.in_ok-shallow.ensures) c.library_call.ensures.reads

pub unary::begun_by_punctuator-returns-in_default-prefix_of-clause-reads : goal.unary::begun_by_punctuator-returns-in_default-prefix_of-clause-reads
unary::begun_by_punctuator-returns-in_default-prefix_of-clause-reads n c t ts are kind =
    let same : c.in-Some.first.now.kind ≡ Punctuator = ap (λ x. x.kind) (same_first (sym c.in-Some.ensures.cases.0 ∙ are)) ∙ kind in
    operand_none c.args.casts _ _ _ _ c.in-Some.ensures.cases.0 (punctuator_plan c.args.casts c.args.depth c.in-Some.first.now None same (c.in_default-prefix_of.ensures ∙ ap prefix_of c.as_str.ensures))

pub unary::begun_by_punctuator-returns-in_err-shallow-clause-reads : goal.unary::begun_by_punctuator-returns-in_err-shallow-clause-reads
unary::begun_by_punctuator-returns-in_err-shallow-clause-reads n c t ts are kind =
    let same : c.in-Some.first.now.kind ≡ Punctuator = ap (λ x. x.kind) (same_first (sym c.in-Some.ensures.cases.0 ∙ are)) ∙ kind in
    sinks_on _ c.from_residual.result c.in_err-shallow.field-0.0 c.from_residual.ensures.1 c.in_err-shallow.ensures.1
    (operand_deep c.args.casts _ (prefixed c.args.casts c.args.depth c.in-Some.first.now.at c.in-Some-prefix_of.form) _ _ _ c.in-Some.ensures.cases.0 (punctuator_plan c.args.casts c.args.depth c.in-Some.first.now (Some c.in-Some-prefix_of.form) same (c.in-Some-prefix_of.ensures ∙ ap prefix_of c.as_str.ensures)) c.in_err-shallow.ensures.0)

pub unary::begun_by_punctuator-returns-clause-reads : goal.unary::begun_by_punctuator-returns-clause-reads
unary::begun_by_punctuator-returns-clause-reads n c t ts are kind =
    let same : c.in-Some.first.now.kind ≡ Punctuator = ap (λ x. x.kind) (same_first (sym c.in-Some.ensures.cases.0 ∙ are)) ∙ kind in
    tail_call _ _ (operand_takes c.args.casts _ (prefixed c.args.casts c.args.depth c.in-Some.first.now.at c.in-Some-prefix_of.form) _ _ _ c.in-Some.ensures.cases.0 (punctuator_plan c.args.casts c.args.depth c.in-Some.first.now (Some c.in-Some-prefix_of.form) same (c.in-Some-prefix_of.ensures ∙ ap prefix_of c.as_str.ensures)) c.in_ok-shallow.ensures) c.prefixed.ensures.reads

pub unary::named-returns-in_err-list-clause-reads : goal.unary::named-returns-in_err-list-clause-reads
unary::named-returns-in_err-list-clause-reads t c =
    let e1 : Goes (parsed (behind_name c.args.depth c.args.first.now.at c.args.first.now.text) c.args.tokens.now) _ _ = record { on = ap (λ x. parsed (behind_name c.args.depth c.args.first.now.at x) c.args.tokens.now) (sym c.in_ok-text.ensures.cases) ∙ behind_call _ _ _ _ _ _ c.in-Some.ensures.1 c.in-Some.ensures.2 (omega arith) } in
    hands_on _ c.from_residual-in_err-list.result c.in_err-list.field-0.0 c.from_residual-in_err-list.ensures.1 e1 c.in_err-list.ensures.reads

pub unary::named-returns-in_ok-list-clause-reads : goal.unary::named-returns-in_ok-list-clause-reads
unary::named-returns-in_ok-list-clause-reads t c =
    let e1 : Goes (parsed (behind_name c.args.depth c.args.first.now.at c.args.first.now.text) c.args.tokens.now) _ _ = record { on = ap (λ x. parsed (behind_name c.args.depth c.args.first.now.at x) c.args.tokens.now) (sym c.in_ok-text.ensures.cases) ∙ behind_call _ _ _ _ _ _ c.in-Some.ensures.1 c.in-Some.ensures.2 (omega arith) } in
    tail_call _ _ (through e1 c.in_ok-list.ensures.reads) c.primary.ensures.reads

pub unary::named-returns-in_err-index-clause-reads : goal.unary::named-returns-in_err-index-clause-reads
unary::named-returns-in_err-index-clause-reads t c =
    let e1 : Goes (parsed (behind_name c.args.depth c.args.first.now.at c.args.first.now.text) c.args.tokens.now) _ _ = record { on = ap (λ x. parsed (behind_name c.args.depth c.args.first.now.at x) c.args.tokens.now) (sym c.in_ok-text.ensures.cases) ∙ behind_index _ _ _ _ _ _ c.in-Some-skip.ensures.1 (sym (ap (holds_ahead (is Punctuator (codes "("))) c.in-Some-skip.ensures.1) ∙ c.in_default.ensures) c.in-Some-skip.ensures.2 (omega arith) } in
    hands_on _ c.from_residual-in_err-index.result c.in_err-index.field-0.0 c.from_residual-in_err-index.ensures.1 e1 (rw add-one at c.in_err-index.ensures.reads)

pub unary::named-returns-in_err-rest-clause-reads : goal.unary::named-returns-in_err-rest-clause-reads
unary::named-returns-in_err-rest-clause-reads t c =
    let e1 : Goes (parsed (behind_name c.args.depth c.args.first.now.at c.args.first.now.text) c.args.tokens.now) _ _ = record { on = ap (λ x. parsed (behind_name c.args.depth c.args.first.now.at x) c.args.tokens.now) (sym c.in_ok-text.ensures.cases) ∙ behind_index _ _ _ _ _ _ c.in-Some-skip.ensures.1 (sym (ap (holds_ahead (is Punctuator (codes "("))) c.in-Some-skip.ensures.1) ∙ c.in_default.ensures) c.in-Some-skip.ensures.2 (omega arith) } in
    let e2 : Goes (parsed (behind_name c.args.depth c.args.first.now.at c.args.first.now.text) c.args.tokens.now) _ _ = record { on = through e1 (rw add-one at c.in_ok-index.ensures.reads) ∙ parsed_then _ _ _ } in
    hands_on _ c.from_residual-in_err-rest.result c.in_err-rest.field-0.0 c.from_residual-in_err-rest.ensures.1 e2 c.in_err-rest.ensures.reads

pub unary::named-returns-in_ok-rest-clause-reads : goal.unary::named-returns-in_ok-rest-clause-reads
unary::named-returns-in_ok-rest-clause-reads t c =
    let e1 : Goes (parsed (behind_name c.args.depth c.args.first.now.at c.args.first.now.text) c.args.tokens.now) _ _ = record { on = ap (λ x. parsed (behind_name c.args.depth c.args.first.now.at x) c.args.tokens.now) (sym c.in_ok-text.ensures.cases) ∙ behind_index _ _ _ _ _ _ c.in-Some-skip.ensures.1 (sym (ap (holds_ahead (is Punctuator (codes "("))) c.in-Some-skip.ensures.1) ∙ c.in_default.ensures) c.in-Some-skip.ensures.2 (omega arith) } in
    let e2 : Goes (parsed (behind_name c.args.depth c.args.first.now.at c.args.first.now.text) c.args.tokens.now) _ _ = record { on = through e1 (rw add-one at c.in_ok-index.ensures.reads) ∙ parsed_then _ _ _ } in
    tail_call _ _ (through e2 c.in_ok-rest.ensures.reads) c.primary-in-Some-skip.ensures.reads

pub unary::named-returns-in_default-skip-clause-reads : goal.unary::named-returns-in_default-skip-clause-reads
unary::named-returns-in_default-skip-clause-reads t c =
    tail_call _ _ (ap (λ x. parsed (behind_name c.args.depth c.args.first.now.at x) c.args.tokens.now) (sym c.in_ok-text.ensures.cases) ∙ behind_none _ _ _ _ c.in_default.ensures c.in_default-skip.ensures) c.primary-in_default-skip.ensures.reads

pub unary::prefixed-returns-in_err-a-in-Increment-clause-reads : goal.unary::prefixed-returns-in_err-a-in-Increment-clause-reads
unary::prefixed-returns-in_err-a-in-Increment-clause-reads t c =
    let e1 : Goes (parsed (prefixed c.args.casts c.args.depth c.args.start c.args.form) c.args.tokens.now) _ _ = record { on = ap (λ f. parsed (prefixed c.args.casts c.args.depth c.args.start f) c.args.tokens.now) c.in-Increment.is ∙ parsed_then _ _ _ } in
    hands_on _ c.from_residual.result c.in_err-a-in-Increment.field-0.0 c.from_residual.ensures.1 e1 (rw add-one at c.in_err-a-in-Increment.ensures.reads)

pub unary::prefixed-returns-in_ok-step-in-Increment-clause-reads : goal.unary::prefixed-returns-in_ok-step-in-Increment-clause-reads
unary::prefixed-returns-in_ok-step-in-Increment-clause-reads t c =
    let e1 : Goes (parsed (prefixed c.args.casts c.args.depth c.args.start c.args.form) c.args.tokens.now) _ _ = record { on = ap (λ f. parsed (prefixed c.args.casts c.args.depth c.args.start f) c.args.tokens.now) c.in-Increment.is ∙ parsed_then _ _ _ } in
    through e1 (rw add-one at c.in_ok-a-in-Increment.ensures.reads) ∙ parsed_return _ _ ∙ ap (λ x. read (operand x) c.in_ok-a-in-Increment.rest.now) (sym c.in_ok-step-in-Increment.ensures)

pub unary::prefixed-returns-in_err-a-in-Decrement-clause-reads : goal.unary::prefixed-returns-in_err-a-in-Decrement-clause-reads
unary::prefixed-returns-in_err-a-in-Decrement-clause-reads t c =
    let e1 : Goes (parsed (prefixed c.args.casts c.args.depth c.args.start c.args.form) c.args.tokens.now) _ _ = record { on = ap (λ f. parsed (prefixed c.args.casts c.args.depth c.args.start f) c.args.tokens.now) c.in-Decrement.is ∙ parsed_then _ _ _ } in
    hands_on _ c.from_residual-in_err-a-in-Decrement.result c.in_err-a-in-Decrement.field-0.0 c.from_residual-in_err-a-in-Decrement.ensures.1 e1 (rw add-one at c.in_err-a-in-Decrement.ensures.reads)

pub unary::prefixed-returns-in_ok-step-in-Decrement-clause-reads : goal.unary::prefixed-returns-in_ok-step-in-Decrement-clause-reads
unary::prefixed-returns-in_ok-step-in-Decrement-clause-reads t c =
    let e1 : Goes (parsed (prefixed c.args.casts c.args.depth c.args.start c.args.form) c.args.tokens.now) _ _ = record { on = ap (λ f. parsed (prefixed c.args.casts c.args.depth c.args.start f) c.args.tokens.now) c.in-Decrement.is ∙ parsed_then _ _ _ } in
    through e1 (rw add-one at c.in_ok-a-in-Decrement.ensures.reads) ∙ parsed_return _ _ ∙ ap (λ x. read (operand x) c.in_ok-a-in-Decrement.rest.now) (sym c.in_ok-step-in-Decrement.ensures)

pub unary::prefixed-returns-in_err-a-in-Operator-clause-reads : goal.unary::prefixed-returns-in_err-a-in-Operator-clause-reads
unary::prefixed-returns-in_err-a-in-Operator-clause-reads t c =
    let e1 : Goes (parsed (prefixed c.args.casts c.args.depth c.args.start c.args.form) c.args.tokens.now) _ _ = record { on = ap (λ f. parsed (prefixed c.args.casts c.args.depth c.args.start f) c.args.tokens.now) c.in-Operator.is ∙ parsed_then _ _ _ } in
    hands_on _ c.from_residual-in_err-a-in-Operator.result c.in_err-a-in-Operator.field-0.0 c.from_residual-in_err-a-in-Operator.ensures.1 e1 (rw add-one at c.in_err-a-in-Operator.ensures.reads)

pub unary::prefixed-returns-in_ok-prefix-in-Operator-clause-reads : goal.unary::prefixed-returns-in_ok-prefix-in-Operator-clause-reads
unary::prefixed-returns-in_ok-prefix-in-Operator-clause-reads t c =
    let e1 : Goes (parsed (prefixed c.args.casts c.args.depth c.args.start c.args.form) c.args.tokens.now) _ _ = record { on = ap (λ f. parsed (prefixed c.args.casts c.args.depth c.args.start f) c.args.tokens.now) c.in-Operator.is ∙ parsed_then _ _ _ } in
    through e1 (rw add-one at c.in_ok-a-in-Operator.ensures.reads) ∙ parsed_return _ _ ∙ ap (λ x. read (operand x) c.in_ok-a-in-Operator.rest.now) (sym c.in_ok-prefix-in-Operator.ensures)

pub unary::operand-returns-in_default-clause-reads : goal.unary::operand-returns-in_default-clause-reads
unary::operand-returns-in_default-clause-reads t c =
    operand_end c.args.casts _ c.args.tokens.now c.in_default.ensures.cases

pub unary::operand-returns-in_err-shallow-in-Identifier-clause-reads : goal.unary::operand-returns-in_err-shallow-in-Identifier-clause-reads
unary::operand-returns-in_err-shallow-in-Identifier-clause-reads t c =
    sinks_on _ c.from_residual.result c.in_err-shallow-in-Identifier.field-0.0 c.from_residual.ensures.1 c.in_err-shallow-in-Identifier.ensures.1
    (operand_deep c.args.casts _ (behind_name c.args.depth c.in-Some.first.now.at c.in-Some.first.now.text) _ _ _ c.in-Some.ensures.cases.0 (plan_by Identifier c.args.casts c.args.depth c.in-Some.first.now c.in-Identifier.is) c.in_err-shallow-in-Identifier.ensures.0)

pub unary::operand-returns-in_ok-shallow-in-Identifier-clause-reads : goal.unary::operand-returns-in_ok-shallow-in-Identifier-clause-reads
unary::operand-returns-in_ok-shallow-in-Identifier-clause-reads t c =
    tail_call _ _ (operand_takes c.args.casts _ (behind_name c.args.depth c.in-Some.first.now.at c.in-Some.first.now.text) _ _ _ c.in-Some.ensures.cases.0 (plan_by Identifier c.args.casts c.args.depth c.in-Some.first.now c.in-Identifier.is) c.in_ok-shallow-in-Identifier.ensures) c.named.ensures.reads

pub unary::operand-returns-in-Some-constant-clause-reads : goal.unary::operand-returns-in-Some-constant-clause-reads
unary::operand-returns-in-Some-constant-clause-reads t c =
    tail_call _ _ (operand_some c.args.casts _ (primary c.args.depth c.in-Some.first.now.at (node.Number c.in-Some-constant.value)) _ _ _ c.in-Some.ensures.cases.0 (number_plan c.args.casts c.args.depth c.in-Some.first.now (Some c.in-Some-constant.value) c.in-Number.is (c.in-Some-constant.ensures ∙ ap constant_of c.as_str.ensures))) (c.integer_constant.ensures.reads _ _ c.in-Some.ensures.cases.0)

pub unary::operand-returns-in-None-clause-reads : goal.unary::operand-returns-in-None-clause-reads
unary::operand-returns-in-None-clause-reads t c =
    operand_none c.args.casts _ _ _ _ c.in-Some.ensures.cases.0 (number_plan c.args.casts c.args.depth c.in-Some.first.now None c.in-Number.is (c.in-None.ensures ∙ ap constant_of c.as_str.ensures))

pub unary::operand-returns-in-Some-character-clause-reads : goal.unary::operand-returns-in-Some-character-clause-reads
unary::operand-returns-in-Some-character-clause-reads t c =
    tail_call _ _ (operand_some c.args.casts _ (primary c.args.depth c.in-Some.first.now.at (node.Character c.in-Some-character.value)) _ _ _ c.in-Some.ensures.cases.0 (character_plan c.args.casts c.args.depth c.in-Some.first.now (Some c.in-Some-character.value) c.in-Character.is (c.in-Some-character.ensures ∙ ap (λ x. option_map (λ b. number I32 (pos b)) (only (unquoted quote x))) c.as_str-in-Character.ensures))) (c.character_constant.ensures.reads _ _ c.in-Some.ensures.cases.0)

pub unary::operand-returns-in-None-character-clause-reads : goal.unary::operand-returns-in-None-character-clause-reads
unary::operand-returns-in-None-character-clause-reads t c =
    operand_none c.args.casts _ _ _ _ c.in-Some.ensures.cases.0 (character_plan c.args.casts c.args.depth c.in-Some.first.now None c.in-Character.is (c.in-None-character.ensures ∙ ap (λ x. option_map (λ b. number I32 (pos b)) (only (unquoted quote x))) c.as_str-in-Character.ensures))

pub unary::operand-returns-in-LibraryWord-clause-reads : goal.unary::operand-returns-in-LibraryWord-clause-reads
unary::operand-returns-in-LibraryWord-clause-reads t c =
    c.library.ensures.reads c.args.casts _ _ c.in-Some.ensures.cases.0 c.in-LibraryWord.is

pub unary::operand-returns-in-Keyword-clause-reads : goal.unary::operand-returns-in-Keyword-clause-reads
unary::operand-returns-in-Keyword-clause-reads t c =
    operand_none c.args.casts _ _ _ _ c.in-Some.ensures.cases.0 (no_plan _ _ _ c.in-Keyword.is)
