use Rattle.std.proofs.Common.{◌≡◌, suc, refl, sym, ap, ◌∙◌, arith, add-one}
use Rattle.std.specs.Prelude.{codes}
use Rattle.c_lexer.specs.declared.token.TokenKind.TheVariants.{Keyword}
use Rattle.c_tree.specs.declared.stmt.StmtNode.TheVariants.{Block, While, DoWhile, For, Transaction}
use Rattle.c_expr_parser.specs.Plans.{nothing}
use Rattle.c_expr_parser.specs.Statements.{stmt}
use Rattle.c_expr_parser.specs.Tables.{is}
use Rattle.c_parser.specs.TextPlans.{Give, Want, Statement, Else, Items, Place, Optional, statement, part, as_statement, as_statements, as_place, as_optional, if_else, simple, do_statement, for_statement, transaction, punctuator, found, text_parsed}
use Rattle.c_parser.specs.Parts.{opened, word_plan, items_then}
use Rattle.c_parser.proofs.PlanResults.{parsed_give, dead_end}
use Rattle.c_parser.proofs.SignsByFirstToken.{sign_none, sign_some, shifted}
use Rattle.c_parser.proofs.PhraseBeginnings.{opened_reads, opened_deep, evaluate_reads, items_end, items_statement, items_declaration, items_close}
use Rattle.c_parser.proofs.FunctionReturns.{through, through_of, hands, hands_of, hands_want, sinks_on, tail_call, gives_tail}
use Rattle.c_parser.proofs.+statement.Goals as goal

pub statement::statement-returns-in_default-clause-reads : goal.statement::statement-returns-in_default-clause-reads
statement::statement-returns-in_default-clause-reads t c =
    dead_end (Statement c.args.depth) Give c.args.tokens.now c.in_default.ensures.cases refl

pub statement::statement-returns-in_default-opening_of-clause-reads : goal.statement::statement-returns-in_default-opening_of-clause-reads
statement::statement-returns-in_default-opening_of-clause-reads t c =
    gives_tail _ (λ x. statement x.0) (λ x. x.1.now) (evaluate_reads c.args.depth _ _ _ c.in-Some.ensures.cases.0 c.in_default-opening_of.ensures) (c.evaluate.ensures.reads (λ s. Give (statement s)))

pub statement::statement-returns-in_err-shallow-clause-reads : goal.statement::statement-returns-in_err-shallow-clause-reads
statement::statement-returns-in_err-shallow-clause-reads t c =
    sinks_on _ c.from_residual.result c.in_err-shallow.field-0.0 c.from_residual.ensures.1 c.in_err-shallow.ensures.1 (opened_deep c.args.depth c.in-Some-opening_of.opening _ _ _ c.in-Some.ensures.cases.0 c.in-Some-opening_of.ensures c.in_err-shallow.ensures.0)

pub statement::statement-returns-in-Begun-clause-reads : goal.statement::statement-returns-in-Begun-clause-reads
statement::statement-returns-in-Begun-clause-reads t c =
    tail_call _ _ (opened_reads c.args.depth c.in-Some-opening_of.opening _ _ _ c.in-Some.ensures.cases.0 c.in-Some-opening_of.ensures c.in_ok-shallow.ensures ∙ ap (λ o. text_parsed (opened c.args.depth c.in-Some.first.now.at o) c.in-Some.rest.now) c.in-Begun.is) c.begun.ensures.reads

pub statement::statement-returns-in-Update-clause-reads : goal.statement::statement-returns-in-Update-clause-reads
statement::statement-returns-in-Update-clause-reads t c =
    tail_call _ _ (opened_reads c.args.depth c.in-Some-opening_of.opening _ _ _ c.in-Some.ensures.cases.0 c.in-Some-opening_of.ensures c.in_ok-shallow.ensures ∙ ap (λ o. text_parsed (opened c.args.depth c.in-Some.first.now.at o) c.in-Some.rest.now) c.in-Update.is) c.update.ensures.reads

pub statement::statement-returns-in-Transaction-clause-reads : goal.statement::statement-returns-in-Transaction-clause-reads
statement::statement-returns-in-Transaction-clause-reads t c =
    tail_call _ _ (opened_reads c.args.depth c.in-Some-opening_of.opening _ _ _ c.in-Some.ensures.cases.0 c.in-Some-opening_of.ensures c.in_ok-shallow.ensures ∙ ap (λ o. text_parsed (opened c.args.depth c.in-Some.first.now.at o) c.in-Some.rest.now) c.in-Transaction.is) c.transaction.ensures.reads

pub statement::statement-returns-in-Brace-clause-reads : goal.statement::statement-returns-in-Brace-clause-reads
statement::statement-returns-in-Brace-clause-reads t c =
    tail_call _ _ (opened_reads c.args.depth c.in-Some-opening_of.opening _ _ _ c.in-Some.ensures.cases.0 c.in-Some-opening_of.ensures c.in_ok-shallow.ensures ∙ ap (λ o. text_parsed (opened c.args.depth c.in-Some.first.now.at o) c.in-Some.rest.now) c.in-Brace.is) c.braces.ensures.reads

pub statement::statement-returns-in-Semicolon-clause-reads : goal.statement::statement-returns-in-Semicolon-clause-reads
statement::statement-returns-in-Semicolon-clause-reads t c =
    opened_reads c.args.depth c.in-Some-opening_of.opening _ _ _ c.in-Some.ensures.cases.0 c.in-Some-opening_of.ensures c.in_ok-shallow.ensures ∙ ap (λ o. text_parsed (opened c.args.depth c.in-Some.first.now.at o) c.in-Some.rest.now) c.in-Semicolon.is ∙ parsed_give _ _ ∙ ap (λ s. found (statement s) c.in-Some.rest.now) (sym c.made.ensures)

pub statement::begun-returns-in-If-clause-reads : goal.statement::begun-returns-in-If-clause-reads
statement::begun-returns-in-If-clause-reads t c =
    tail_call _ _ (ap (λ w. text_parsed (word_plan c.args.depth c.args.start w) c.args.tokens.now) c.in-If.is) c.if_statement.ensures.reads

pub statement::begun-returns-in-While-clause-reads : goal.statement::begun-returns-in-While-clause-reads
statement::begun-returns-in-While-clause-reads t c =
    tail_call _ _ (ap (λ w. text_parsed (word_plan c.args.depth c.args.start w) c.args.tokens.now) c.in-While.is) c.while_statement.ensures.reads

pub statement::begun-returns-in-Do-clause-reads : goal.statement::begun-returns-in-Do-clause-reads
statement::begun-returns-in-Do-clause-reads t c =
    tail_call _ _ (ap (λ w. text_parsed (word_plan c.args.depth c.args.start w) c.args.tokens.now) c.in-Do.is) c.do_statement.ensures.reads

pub statement::begun-returns-in-For-clause-reads : goal.statement::begun-returns-in-For-clause-reads
statement::begun-returns-in-For-clause-reads t c =
    tail_call _ _ (ap (λ w. text_parsed (word_plan c.args.depth c.args.start w) c.args.tokens.now) c.in-For.is) c.for_statement.ensures.reads

pub statement::begun-returns-in-Break-clause-reads : goal.statement::begun-returns-in-Break-clause-reads
statement::begun-returns-in-Break-clause-reads t c =
    tail_call _ _ (ap (λ w. text_parsed (word_plan c.args.depth c.args.start w) c.args.tokens.now) c.in-Break.is) c.simple.ensures.reads

pub statement::begun-returns-in-Continue-clause-reads : goal.statement::begun-returns-in-Continue-clause-reads
statement::begun-returns-in-Continue-clause-reads t c =
    tail_call _ _ (ap (λ w. text_parsed (word_plan c.args.depth c.args.start w) c.args.tokens.now) c.in-Continue.is) c.simple-in-Continue.ensures.reads

pub statement::begun-returns-in-Return-clause-reads : goal.statement::begun-returns-in-Return-clause-reads
statement::begun-returns-in-Return-clause-reads t c =
    tail_call _ _ (ap (λ w. text_parsed (word_plan c.args.depth c.args.start w) c.args.tokens.now) c.in-Return.is) c.return_statement.ensures.reads

pub control::inner-returns-in_err-body-clause-reads : goal.control::inner-returns-in_err-body-clause-reads
control::inner-returns-in_err-body-clause-reads t c =
    hands _ c.from_residual.result c.in_err-body.field-0.0 c.from_residual.ensures.1 refl (rw add-one at c.in_err-body.ensures.reads)

pub control::inner-returns-clause-reads : goal.control::inner-returns-clause-reads
control::inner-returns-clause-reads t c =
    (rw add-one at c.in_ok-body.ensures.reads) ∙ ap (λ b. found (statement b) c.in_ok-body.rest.now) (sym c.in_ok-body-2.ensures)

pub control::otherwise-returns-in_default-clause-reads : goal.control::otherwise-returns-in_default-clause-reads
control::otherwise-returns-in_default-clause-reads t c k =
    sign_none (Else c.args.depth) (is Keyword (codes "else")) (Want (Statement (suc c.args.depth)) Give) k (part nothing) _ (λ t. refl) refl c.in_default.ensures

pub control::otherwise-returns-in_err-body-clause-reads : goal.control::otherwise-returns-in_err-body-clause-reads
control::otherwise-returns-in_err-body-clause-reads t c k =
    hands_want _ c.from_residual.result c.in_err-body.field-0.0 _ _ _ c.from_residual.ensures.1 (sign_some (Else c.args.depth) (is Keyword (codes "else")) (Want (Statement (suc c.args.depth)) Give) k _ _ (λ t. refl) c.in-Some.ensures c.requires) c.in_err-body.ensures.reads

pub control::otherwise-returns-clause-reads : goal.control::otherwise-returns-clause-reads
control::otherwise-returns-clause-reads t c k =
    through _ _ _ (sign_some (Else c.args.depth) (is Keyword (codes "else")) (Want (Statement (suc c.args.depth)) Give) k _ _ (λ t. refl) c.in-Some.ensures c.requires) c.in_ok-body.ensures.reads

pub control::if_statement-returns-in_err-condition-clause-reads : goal.control::if_statement-returns-in_err-condition-clause-reads
control::if_statement-returns-in_err-condition-clause-reads t c =
    hands _ c.from_residual.result c.in_err-condition.field-0.0 c.from_residual.ensures.1 refl (c.in_err-condition.ensures.reads (λ x. Want (Statement (suc c.args.depth)) (λ s. Want (Else c.args.depth) (λ r. Give (statement (stmt c.args.start (if_else x (as_statement s) r)))))))

pub control::if_statement-returns-in_err-first-clause-reads : goal.control::if_statement-returns-in_err-first-clause-reads
control::if_statement-returns-in_err-first-clause-reads t c =
    hands_want _ c.from_residual-in_err-first.result c.in_err-first.field-0.0 _ _ _ c.from_residual-in_err-first.ensures.1 (c.in_ok-condition.ensures.reads (λ x. Want (Statement (suc c.args.depth)) (λ s. Want (Else c.args.depth) (λ r. Give (statement (stmt c.args.start (if_else x (as_statement s) r))))))) c.in_err-first.ensures.reads

pub control::if_statement-returns-in_err-second-clause-reads : goal.control::if_statement-returns-in_err-second-clause-reads
control::if_statement-returns-in_err-second-clause-reads t c =
    hands _ c.from_residual-in_err-second.result c.in_err-second.field-0.0 c.from_residual-in_err-second.ensures.1 (through _ _ _ (c.in_ok-condition.ensures.reads (λ x. Want (Statement (suc c.args.depth)) (λ s. Want (Else c.args.depth) (λ r. Give (statement (stmt c.args.start (if_else x (as_statement s) r))))))) c.in_ok-first.ensures.reads) (c.in_err-second.ensures.reads (λ r. Give (statement (stmt c.args.start (if_else c.in_ok-condition.condition c.in_ok-first.first r)))))

pub control::if_statement-returns-clause-reads : goal.control::if_statement-returns-clause-reads
control::if_statement-returns-clause-reads t c =
    through _ _ _ (c.in_ok-condition.ensures.reads (λ x. Want (Statement (suc c.args.depth)) (λ s. Want (Else c.args.depth) (λ r. Give (statement (stmt c.args.start (if_else x (as_statement s) r))))))) c.in_ok-first.ensures.reads ∙ c.in_ok-second.ensures.reads (λ r. Give (statement (stmt c.args.start (if_else c.in_ok-condition.condition c.in_ok-first.first r)))) ∙ parsed_give _ _ ∙ ap (λ s. found (statement s) c.in_ok-second.rest.now) (sym c.if_made.ensures)

pub control::while_statement-returns-in_err-condition-clause-reads : goal.control::while_statement-returns-in_err-condition-clause-reads
control::while_statement-returns-in_err-condition-clause-reads t c =
    hands _ c.from_residual.result c.in_err-condition.field-0.0 c.from_residual.ensures.1 refl (c.in_err-condition.ensures.reads (λ x. Want (Statement (suc c.args.depth)) (λ s. Give (statement (stmt c.args.start (While x (as_statement s)))))))

pub control::while_statement-returns-in_err-body-clause-reads : goal.control::while_statement-returns-in_err-body-clause-reads
control::while_statement-returns-in_err-body-clause-reads t c =
    hands_want _ c.from_residual-in_err-body.result c.in_err-body.field-0.0 _ _ _ c.from_residual-in_err-body.ensures.1 (c.in_ok-condition.ensures.reads (λ x. Want (Statement (suc c.args.depth)) (λ s. Give (statement (stmt c.args.start (While x (as_statement s))))))) c.in_err-body.ensures.reads

pub control::while_statement-returns-clause-reads : goal.control::while_statement-returns-clause-reads
control::while_statement-returns-clause-reads t c =
    through _ _ _ (c.in_ok-condition.ensures.reads (λ x. Want (Statement (suc c.args.depth)) (λ s. Give (statement (stmt c.args.start (While x (as_statement s))))))) c.in_ok-body.ensures.reads ∙ parsed_give _ _ ∙ ap (λ s. found (statement s) c.in_ok-body.rest.now) (sym c.while_made.ensures)

pub control::do_statement-returns-in_err-body-clause-reads : goal.control::do_statement-returns-in_err-body-clause-reads
control::do_statement-returns-in_err-body-clause-reads t c =
    let e1 : text_parsed (do_statement c.args.depth c.args.start) c.args.tokens.now ≡ _ = refl in
    hands_want _ c.from_residual.result c.in_err-body.field-0.0 _ _ _ c.from_residual.ensures.1 e1 c.in_err-body.ensures.reads

pub control::do_statement-returns-in_err-rest-clause-reads : goal.control::do_statement-returns-in_err-rest-clause-reads
control::do_statement-returns-in_err-rest-clause-reads t c =
    let e1 : text_parsed (do_statement c.args.depth c.args.start) c.args.tokens.now ≡ _ = refl in
    hands_of _ c.from_residual-in_err-rest.result c.in_err-rest.field-0.0 _ _ _ c.from_residual-in_err-rest.ensures.1 (through _ _ _ e1 c.in_ok-body.ensures.reads) c.in_err-rest.ensures.reads

pub control::do_statement-returns-in_err-condition-clause-reads : goal.control::do_statement-returns-in_err-condition-clause-reads
control::do_statement-returns-in_err-condition-clause-reads t c =
    let e1 : text_parsed (do_statement c.args.depth c.args.start) c.args.tokens.now ≡ _ = refl in
    hands _ c.from_residual-in_err-condition.result c.in_err-condition.field-0.0 c.from_residual-in_err-condition.ensures.1 (through_of _ _ _ (through _ _ _ e1 c.in_ok-body.ensures.reads) c.in_ok-rest.ensures.reads) (c.in_err-condition.ensures.reads (λ x. simple c.args.depth c.args.start (DoWhile c.in_ok-body.body x)))

pub control::do_statement-returns-clause-reads : goal.control::do_statement-returns-clause-reads
control::do_statement-returns-clause-reads t c =
    let e1 : text_parsed (do_statement c.args.depth c.args.start) c.args.tokens.now ≡ _ = refl in
    tail_call _ _ (through_of _ _ _ (through _ _ _ e1 c.in_ok-body.ensures.reads) c.in_ok-rest.ensures.reads ∙ c.in_ok-condition.ensures.reads (λ x. simple c.args.depth c.args.start (DoWhile c.in_ok-body.body x)) ∙ ap (λ n. text_parsed (simple c.args.depth c.args.start n) c.in_ok-condition.rest.now) (sym c.do_made.ensures)) c.simple.ensures.reads

pub control::for_statement-returns-in_err-rest-clause-reads : goal.control::for_statement-returns-in_err-rest-clause-reads
control::for_statement-returns-in_err-rest-clause-reads t c =
    let e1 : text_parsed (for_statement c.args.depth c.args.start) c.args.tokens.now ≡ _ = refl in
    hands_of _ c.from_residual.result c.in_err-rest.field-0.0 _ _ _ c.from_residual.ensures.1 e1 c.in_err-rest.ensures.reads

pub control::for_statement-returns-in_err-before-clause-reads : goal.control::for_statement-returns-in_err-before-clause-reads
control::for_statement-returns-in_err-before-clause-reads t c =
    let e1 : text_parsed (for_statement c.args.depth c.args.start) c.args.tokens.now ≡ _ = refl in
    hands_want _ c.from_residual-in_err-before.result c.in_err-before.field-0.0 _ _ _ c.from_residual-in_err-before.ensures.1 (through_of _ _ _ e1 c.in_ok-rest.ensures.reads) (rw add-one at c.in_err-before.ensures.reads)

pub control::for_statement-returns-in_err-condition-clause-reads : goal.control::for_statement-returns-in_err-condition-clause-reads
control::for_statement-returns-in_err-condition-clause-reads t c =
    let e1 : text_parsed (for_statement c.args.depth c.args.start) c.args.tokens.now ≡ _ = refl in
    hands _ c.from_residual-in_err-condition.result c.in_err-condition.field-0.0 c.from_residual-in_err-condition.ensures.1 (through _ _ _ (through_of _ _ _ e1 c.in_ok-rest.ensures.reads) (rw add-one at c.in_ok-before.ensures.reads)) (rw add-one at (c.in_err-condition.ensures.reads (λ x. Want (Optional (suc c.args.depth)) (λ e. punctuator (codes ")") c.args.depth (Want (Statement (suc c.args.depth)) (λ s. Give (statement (stmt c.args.start (For c.in_ok-before.before x (as_optional e) (as_statement s))))))))))

pub control::for_statement-returns-in_err-step-clause-reads : goal.control::for_statement-returns-in_err-step-clause-reads
control::for_statement-returns-in_err-step-clause-reads t c =
    let e1 : text_parsed (for_statement c.args.depth c.args.start) c.args.tokens.now ≡ _ = refl in
    hands _ c.from_residual-in_err-step.result c.in_err-step.field-0.0 c.from_residual-in_err-step.ensures.1 (through _ _ _ (through_of _ _ _ e1 c.in_ok-rest.ensures.reads) (rw add-one at c.in_ok-before.ensures.reads) ∙ (rw add-one at (c.in_ok-condition.ensures.reads (λ x. Want (Optional (suc c.args.depth)) (λ e. punctuator (codes ")") c.args.depth (Want (Statement (suc c.args.depth)) (λ s. Give (statement (stmt c.args.start (For c.in_ok-before.before x (as_optional e) (as_statement s))))))))))) (rw add-one at (c.in_err-step.ensures.reads (λ x. Want (Statement (suc c.args.depth)) (λ s. Give (statement (stmt c.args.start (For c.in_ok-before.before c.in_ok-condition.condition x (as_statement s))))))))

pub control::for_statement-returns-in_err-body-clause-reads : goal.control::for_statement-returns-in_err-body-clause-reads
control::for_statement-returns-in_err-body-clause-reads t c =
    let e1 : text_parsed (for_statement c.args.depth c.args.start) c.args.tokens.now ≡ _ = refl in
    hands_want _ c.from_residual-in_err-body.result c.in_err-body.field-0.0 _ _ _ c.from_residual-in_err-body.ensures.1 (through _ _ _ (through_of _ _ _ e1 c.in_ok-rest.ensures.reads) (rw add-one at c.in_ok-before.ensures.reads) ∙ (rw add-one at (c.in_ok-condition.ensures.reads (λ x. Want (Optional (suc c.args.depth)) (λ e. punctuator (codes ")") c.args.depth (Want (Statement (suc c.args.depth)) (λ s. Give (statement (stmt c.args.start (For c.in_ok-before.before x (as_optional e) (as_statement s)))))))))) ∙ (rw add-one at (c.in_ok-step.ensures.reads (λ x. Want (Statement (suc c.args.depth)) (λ s. Give (statement (stmt c.args.start (For c.in_ok-before.before c.in_ok-condition.condition x (as_statement s))))))))) c.in_err-body.ensures.reads

pub control::for_statement-returns-clause-reads : goal.control::for_statement-returns-clause-reads
control::for_statement-returns-clause-reads t c =
    let e1 : text_parsed (for_statement c.args.depth c.args.start) c.args.tokens.now ≡ _ = refl in
    through _ _ _ (through _ _ _ (through_of _ _ _ e1 c.in_ok-rest.ensures.reads) (rw add-one at c.in_ok-before.ensures.reads) ∙ (rw add-one at (c.in_ok-condition.ensures.reads (λ x. Want (Optional (suc c.args.depth)) (λ e. punctuator (codes ")") c.args.depth (Want (Statement (suc c.args.depth)) (λ s. Give (statement (stmt c.args.start (For c.in_ok-before.before x (as_optional e) (as_statement s)))))))))) ∙ (rw add-one at (c.in_ok-step.ensures.reads (λ x. Want (Statement (suc c.args.depth)) (λ s. Give (statement (stmt c.args.start (For c.in_ok-before.before c.in_ok-condition.condition x (as_statement s))))))))) c.in_ok-body.ensures.reads ∙ parsed_give _ _ ∙ ap (λ s. found (statement s) c.in_ok-body.rest.now) (sym c.for_made.ensures)

pub block::block-loop-alloc-init : goal.block::block-loop-alloc-init
block::block-loop-alloc-init t c =
    record { reads = λ k. ap (λ l. text_parsed (items_then c.args.depth l k) c.args.tokens.now) (sym c.new-list.ensures.items); within = omega arith }

pub block::block-returns-in_err-longer-clause-reads : goal.block::block-returns-in_err-longer-clause-reads
block::block-returns-in_err-longer-clause-reads t c k =
    hands _ c.from_residual.result c.in_err-longer.field-0.0 c.from_residual.ensures.1 (c.loop-alloc.invariant.reads k) (c.in_err-longer.ensures.reads (sym c.is_ahead.ensures ∙ c.loop-alloc-test.true) k)

pub block::block-loop-alloc-preserved : goal.block::block-loop-alloc-preserved
block::block-loop-alloc-preserved t c =
    record { reads = λ k. c.loop-alloc.invariant.reads k ∙ c.in_ok-longer.ensures.reads (sym c.is_ahead.ensures ∙ c.loop-alloc-test.true) k; within = omega (arith, c.loop-alloc.invariant.within, c.in_ok-longer.ensures.within) }

pub block::block-returns-in_err-end-clause-reads : goal.block::block-returns-in_err-end-clause-reads
block::block-returns-in_err-end-clause-reads t c k =
    hands _ c.from_residual-in_err-end.result c.in_err-end.field-0.0 c.from_residual-in_err-end.ensures.1 (c.loop-alloc.invariant.reads k ∙ items_close _ _ k _ (sym c.is_ahead.ensures ∙ c.loop-alloc-test.false)) (c.in_err-end.ensures.reads (λ x. k c.loop-alloc.list.items (as_place x)))

pub block::block-returns-clause-reads : goal.block::block-returns-clause-reads
block::block-returns-clause-reads t c k =
    c.loop-alloc.invariant.reads k ∙ items_close _ _ k _ (sym c.is_ahead.ensures ∙ c.loop-alloc-test.false) ∙ (c.in_ok-end.ensures.reads (λ x. k c.loop-alloc.list.items (as_place x))) ∙ ap (λ l. text_parsed (k l c.in_ok-end.end) c.in_ok-end.rest.now) (sym c.of-body.ensures)

pub block::block_item-returns-in_default-clause-reads : goal.block::block_item-returns-in_default-clause-reads
block::block_item-returns-in_default-clause-reads t c no_brace k =
    items_end _ _ k _ c.in_default.ensures.cases

pub block::block_item-returns-in_err-declared-clause-reads : goal.block::block_item-returns-in_err-declared-clause-reads
block::block_item-returns-in_err-declared-clause-reads t c no_brace k =
    hands_of _ c.from_residual.result c.in_err-declared.field-0.0 _ _ _ c.from_residual.ensures.1 (items_declaration c.args.depth c.args.before.items k _ _ _ c.in-Some.ensures.cases.0 (sym c.begins_type.ensures ∙ c.if-begins_type.true)) (rw add-one at c.in_err-declared.ensures.reads)

pub block::block_item-returns-then-begins_type-clause-reads : goal.block::block_item-returns-then-begins_type-clause-reads
block::block_item-returns-then-begins_type-clause-reads t c no_brace k =
    tail_call c.declaration.result (λ x. text_parsed (items_then c.args.depth x.0.items k) x.1.now) (through_of _ _ _ (items_declaration c.args.depth c.args.before.items k _ _ _ c.in-Some.ensures.cases.0 (sym c.begins_type.ensures ∙ c.if-begins_type.true)) (rw add-one at c.in_ok-declared.ensures.reads)) (rw add-one at (c.declaration.ensures.reads (λ ss. items_then c.args.depth ss k)))

pub block::block_item-returns-in_err-next-clause-reads : goal.block::block_item-returns-in_err-next-clause-reads
block::block_item-returns-in_err-next-clause-reads t c no_brace k =
    hands_want _ c.from_residual-in_err-next.result c.in_err-next.field-0.0 _ _ _ c.from_residual-in_err-next.ensures.1 (items_statement c.args.depth c.args.before.items k _ _ _ c.in-Some.ensures.cases.0 (sym c.begins_type.ensures ∙ c.if-begins_type.false) no_brace) (rw add-one at c.in_err-next.ensures.reads)

pub block::block_item-returns-clause-reads : goal.block::block_item-returns-clause-reads
block::block_item-returns-clause-reads t c no_brace k =
    through _ _ _ (items_statement c.args.depth c.args.before.items k _ _ _ c.in-Some.ensures.cases.0 (sym c.begins_type.ensures ∙ c.if-begins_type.false) no_brace) (rw add-one at c.in_ok-next.ensures.reads) ∙ shifted (Items (suc c.args.depth)) c.args.before.items c.in_ok-next.next (λ f. as_statements f) (λ l. Want (Place (codes "}") c.args.depth) (λ end. k l (as_place end))) _ _ c.in_ok-push.ensures

pub block::braces-returns-in_err-block-clause-reads : goal.block::braces-returns-in_err-block-clause-reads
block::braces-returns-in_err-block-clause-reads t c =
    hands _ c.from_residual.result c.in_err-block.field-0.0 c.from_residual.ensures.1 (refl) (c.in_err-block.ensures.reads (λ ss end. Give (statement (stmt c.args.start (Block ss)))))

pub block::braces-returns-clause-reads : goal.block::braces-returns-clause-reads
block::braces-returns-clause-reads t c =
    (c.in_ok-block.ensures.reads (λ ss end. Give (statement (stmt c.args.start (Block ss))))) ∙ parsed_give _ _ ∙ ap (λ s. found (statement s) c.in_ok-block.rest.now) (sym c.made.ensures)

pub block::transaction-returns-in_err-rest-clause-reads : goal.block::transaction-returns-in_err-rest-clause-reads
block::transaction-returns-in_err-rest-clause-reads t c =
    let e1 : text_parsed (transaction c.args.depth c.args.start) c.args.tokens.now ≡ _ = refl in
    hands_of _ c.from_residual.result c.in_err-rest.field-0.0 _ _ _ c.from_residual.ensures.1 (e1) c.in_err-rest.ensures.reads

pub block::transaction-returns-in_err-block-clause-reads : goal.block::transaction-returns-in_err-block-clause-reads
block::transaction-returns-in_err-block-clause-reads t c =
    let e1 : text_parsed (transaction c.args.depth c.args.start) c.args.tokens.now ≡ _ = refl in
    hands _ c.from_residual-in_err-block.result c.in_err-block.field-0.0 c.from_residual-in_err-block.ensures.1 (through_of _ _ _ (e1) c.in_ok-rest.ensures.reads) (c.in_err-block.ensures.reads (λ ss end. Give (statement (stmt c.args.start (Transaction ss end)))))

pub block::transaction-returns-clause-reads : goal.block::transaction-returns-clause-reads
block::transaction-returns-clause-reads t c =
    let e1 : text_parsed (transaction c.args.depth c.args.start) c.args.tokens.now ≡ _ = refl in
    through_of _ _ _ (e1) c.in_ok-rest.ensures.reads ∙ (c.in_ok-block.ensures.reads (λ ss end. Give (statement (stmt c.args.start (Transaction ss end))))) ∙ parsed_give _ _ ∙ ap (λ s. found (statement s) c.in_ok-block.rest.now) (sym c.made.ensures)
