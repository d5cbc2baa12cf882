use Rattle.std.proofs.Common.{ap, sym, ◌∙◌, arith, drop, length, List, map}
use Rattle.c_tree.specs.declared.stmt.Stmt.{Stmt}
use Rattle.c_tree.specs.declared.stmt.StmtNode.TheVariants.{For}
use Rattle.c_expr_types.specs.Faults.{first, sooner}
use Rattle.c_expr_types.specs.Expressions.{is_condition}
use Rattle.c_definitions.specs.Lookup.{Scopes}
use Rattle.c_types.specs.Statements.{Walked, expression_faults, in_block, in_loop, in_order, walk}
use Rattle.c_types.specs.Views.{around_seen}
use Rattle.c_expr_types.proofs.Firsts.{first_append}
use Rattle.c_types.proofs.StatementsByNode.{outside_of_all, statement_faults_step, statement_scopes_step, fault_of_if_else, fault_of_for, sooner_is, turn, walk_of}
use Rattle.c_types.proofs.walk.+walk.Goals as goal

pub block-leave-requires : goal.block-leave-requires
block-leave-requires t c =
    let kept = outside_of_all c.args.body.now (around_seen c.args.around.now c.enter.new.self) in
    omega (arith, ap length c.in_ok-fault.ensures.scopes, kept.depth, c.in_ok-enter.ensures.nested)

pub block-returns-clause-scopes : goal.block-returns-clause-scopes
block-returns-clause-scopes t c =
    let kept = outside_of_all c.args.body.now (around_seen c.args.around.now c.enter.new.self) in
    c.leave.ensures
    ∙ ap (drop 1) c.in_ok-fault.ensures.scopes
    ∙ kept.outer
    ∙ ap (drop 1) c.in_ok-enter.ensures.entered

pub do_loop-returns-clause-fault : goal.do_loop-returns-clause-fault
do_loop-returns-clause-fault t c =
    let around = around_seen c.args.around.now c.args.scopes.now in
    sooner_is c.sooner.ensures c.in_ok-of_body.ensures.fault
    (c.in_ok-of_test.ensures
    ∙ ap (λ scopes. first (expression_faults is_condition (around_seen c.args.around.now scopes) c.args.test.now)) c.in_ok-of_body.ensures.scopes)
    ∙ sym (first_append ((walk c.args.body.now (in_block (in_loop around))).faults) (expression_faults is_condition around c.args.test.now))

pub statement-returns-in_ok-of_otherwise-in-IfElse-clause-fault :
    goal.statement-returns-in_ok-of_otherwise-in-IfElse-clause-fault
statement-returns-in_ok-of_otherwise-in-IfElse-clause-fault t c =
    sooner_is c.sooner.ensures c.in_ok-of_then-in-IfElse.ensures.fault
    (c.in_ok-of_otherwise-in-IfElse.ensures.fault
    ∙ ap (λ scopes. first ((walk c.in-IfElse.otherwise (in_block (around_seen c.args.around.now scopes))).faults)) c.in_ok-of_then-in-IfElse.ensures.scopes)
    ∙ sym (fault_of_if_else c.args.stmt.now c.in-IfElse.test c.in-IfElse.body c.in-IfElse.otherwise (around_seen c.args.around.now c.args.scopes.now) c.in-IfElse.is)

pub statement-leave-requires : goal.statement-leave-requires
statement-leave-requires t c =
    let kept = outside_of_all c.as_slice-in-For.result.now (around_seen c.args.around.now c.enter.new.self) in
    omega (arith, ap length c.in_ok-of_turn-in-For.ensures.scopes, ap length c.in_ok-of_opening-in-For.ensures.scopes, kept.depth, c.in_ok-enter-in-For.ensures.nested)

pub statement-returns-in_ok-of_turn-in-For-clause-fault :
    goal.statement-returns-in_ok-of_turn-in-For-clause-fault
statement-returns-in_ok-of_turn-in-For-clause-fault t c =
    let for = c.in-For in
    let found : List Stmt → Scopes → Walked = λ stmts scopes. in_order (map walk stmts) (around_seen c.args.around.now scopes) in
    let slice = c.as_slice-in-For.ensures in
    let entered = c.in_ok-enter-in-For.ensures.entered in
    sooner_is c.sooner-in-For.ensures
    (c.in_ok-of_opening-in-For.ensures.fault
    ∙ ap (λ stmts. first (found stmts c.enter.new.self).faults) slice
    ∙ ap (λ scopes. first (found for.opening scopes).faults) entered)
    (c.in_ok-of_turn-in-For.ensures.fault
    ∙ ap (λ scopes. first (turn for.test for.step for.body (around_seen c.args.around.now scopes)))
    (c.in_ok-of_opening-in-For.ensures.scopes
    ∙ ap (λ stmts. (found stmts c.enter.new.self).scopes) slice
    ∙ ap (λ scopes. (found for.opening scopes).scopes) entered))
    ∙ sym (fault_of_for c.args.stmt.now for.opening for.test for.step for.body (around_seen c.args.around.now c.args.scopes.now) for.is)

pub statement-returns-in_ok-of_turn-in-For-clause-scopes :
    goal.statement-returns-in_ok-of_turn-in-For-clause-scopes
statement-returns-in_ok-of_turn-in-For-clause-scopes t c =
    let for = c.in-For in
    let kept = outside_of_all c.as_slice-in-For.result.now (around_seen c.args.around.now c.enter.new.self) in
    c.leave.ensures
    ∙ ap (drop 1) (c.in_ok-of_turn-in-For.ensures.scopes ∙ c.in_ok-of_opening-in-For.ensures.scopes)
    ∙ kept.outer
    ∙ ap (drop 1) c.in_ok-enter-in-For.ensures.entered
    ∙ sym (ap (λ w. w.scopes) (walk_of c.args.stmt.now (For for.opening for.test for.step for.body) (around_seen c.args.around.now c.args.scopes.now) for.is))

pub statements-loop-stmt-preserved : goal.statements-loop-stmt-preserved
statements-loop-stmt-preserved t c =
    let body = c.args.body.now in
    let around = around_seen c.args.around.now c.loop-stmt.scopes in
    let i = c.loop-stmt.stmt-index in
    record {
      faults =
          statement_faults_step body i c.stmt-item.result around c.statement.new.scopes c.loop-stmt.fault c.sooner-fault.result
          c.loop-stmt-test.true c.stmt-item.is c.in_ok-statement.ensures.scopes
          (c.sooner-fault.ensures ∙ ap (sooner c.loop-stmt.fault) c.in_ok-statement.ensures.fault)
          ∙ c.loop-stmt.invariant.faults;
      scopes =
          statement_scopes_step body i c.stmt-item.result around c.statement.new.scopes
          c.loop-stmt-test.true c.stmt-item.is c.in_ok-statement.ensures.scopes
          ∙ c.loop-stmt.invariant.scopes;
    }
