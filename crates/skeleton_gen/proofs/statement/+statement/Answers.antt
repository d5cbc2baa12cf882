use Rattle.std.proofs.Common.{◌-◌, map, reverse, refl, ap, ◌∙◌, add-one, arith}
use Rattle.std.proofs.lemmas.Result.{IfOk-weaker}
use Rattle.resolved_tree.specs.Nodes.{expression_at, expression_if, statement_at, statements_at}
use Rattle.resolved_tree.specs.Trees.{table}
use Rattle.skeleton_gen.specs.Adding.{targets}
use Rattle.skeleton_gen.specs.Drawn.{spot_of}
use Rattle.skeleton_gen.proofs.Adding.{as_flow}
use Rattle.skeleton_gen.proofs.Loops.{adds_turns, row_set}
use Rattle.skeleton_gen.specs.Weights as weight
use Rattle.skeleton_gen.proofs.Rows.{row_weight, adds_one_of_row}
use Rattle.skeleton_gen.proofs.StatementParts.{adds_if_else, adds_while, adds_for, adds_do, adds_transaction, at_statement}
use Rattle.skeleton_gen.proofs.statement.+statement.Goals as goal

pub statements-statement-requires : goal.statements-statement-requires
statements-statement-requires m c =
    let t = table c.args.trees.now in
    let list = c.in_ok-list.list.items in
    let id = c.index.result.now in
    let light = row_weight t list (c.loop-left.left - 1) id (omega arith) in
    let here = ap (λ s. weight.of_statement (statement_at t s)) c.index.ensures in
    let all = ap weight.of_statements c.in_ok-list.ensures in
    (omega arith, tt)

pub statements-loop-left-preserved : goal.statements-loop-left-preserved
statements-loop-left-preserved m c =
    let t = table c.args.trees.now in
    let broken = c.args.jumps.now.broken.items in
    let continued = c.args.jumps.now.continued.items in
    record {
      within = omega arith;
      drawn = adds_one_of_row t c.args.depth c.in_ok-list.list.items c.loop-left.left c.index.result.now c.args.on.items broken continued
          (omega arith) (omega arith) c.loop-left.invariant.drawn
          (at_statement c.args.depth (targets c.loop-left.to.items broken continued) (ap (statement_at t) c.index.ensures) c.in_ok-to.ensures);
    }

pub statement-returns-in-Return : goal.statement-returns-in-Return
statement-returns-in-Return t c =
    let k = targets c.args.on.items c.args.jumps.now.broken.items c.args.jumps.now.continued.items in
    IfOk-weaker c.returned.result _ _ (λ first h. at_statement c.args.depth k c.in-Return.ensures (h k)) c.returned.ensures

pub statement-returns-in-UpdatePoint : goal.statement-returns-in-UpdatePoint
statement-returns-in-UpdatePoint t c =
    let broken = c.args.jumps.now.broken.items in
    let continued = c.args.jumps.now.continued.items in
    IfOk-weaker c.update_point.result _ _
    (λ first h. at_statement c.args.depth (targets c.args.on.items broken continued) c.in-UpdatePoint.ensures
    (h (table c.args.trees.now) broken continued))
    c.update_point.ensures

pub statement-returns-in-While : goal.statement-returns-in-While
statement-returns-in-While t c =
    let trees = table c.args.trees.now in
    let broken = c.args.jumps.now.broken.items in
    let continued = c.args.jumps.now.continued.items in
    IfOk-weaker c.turns.result _ _
    (λ first h. at_statement c.args.depth (targets c.args.on.items broken continued) c.in-While.ensures
    (adds_while c.args.depth (expression_at trees c.in-While.c) (statement_at trees c.in-While.body) c.args.on.items broken continued h))
    c.turns.ensures

pub statement-returns-in-DoWhile : goal.statement-returns-in-DoWhile
statement-returns-in-DoWhile t c =
    let broken = c.args.jumps.now.broken.items in
    let continued = c.args.jumps.now.continued.items in
    IfOk-weaker c.do_turns.result _ _
    (λ first h. at_statement c.args.depth (targets c.args.on.items broken continued) c.in-DoWhile.ensures (h broken continued))
    c.do_turns.ensures

pub statement-returns-in_ok-on-in-For : goal.statement-returns-in_ok-on-in-For
statement-returns-in_ok-on-in-For t c =
    let trees = table c.args.trees.now in
    let for = c.in-For in
    let broken = c.args.jumps.now.broken.items in
    let continued = c.args.jumps.now.continued.items in
    IfOk-weaker c.statements-in-For.result _ _
    (λ first h. at_statement c.args.depth (targets c.args.on.items broken continued) for.ensures
    (adds_for c.args.depth (statements_at trees for.first) (expression_if trees for.test) (expression_if trees for.step)
    (statement_at trees for.body) c.args.on.items broken continued c.in_ok-on-in-For.ensures h))
    c.statements-in-For.ensures

pub alternative-returns : goal.alternative-returns
alternative-returns t c =
    let trees = table c.args.trees.now in
    let second = rw c.in_ok-again.ensures at c.in_ok-second.ensures in
    IfOk-weaker c.tested.result _ _
    (λ first h. adds_if_else c.args.depth (expression_at trees c.args.c) (statement_at trees c.args.a) (statement_at trees c.args.b)
    c.args.on.items c.args.jumps.now.broken.items c.args.jumps.now.continued.items second c.in_ok-inside.ensures h)
    c.tested.ensures

pub transaction-returns : goal.transaction-returns
transaction-returns t c =
    let trees = table c.args.trees.now in
    IfOk-weaker c.point-4.result _ _
    (λ first h. adds_transaction (statements_at trees c.args.ss) c.args.on.items c.args.jumps.now.broken.items
    c.args.jumps.now.continued.items (c.in_ok-inner.ensures ∙ add-one c.args.depth) (c.in_ok-to.ensures trees)
    (c.in_ok-to-2.ensures trees) c.in_ok-to-3.ensures (c.in_ok-to-4.ensures trees) (h trees))
    c.point-4.ensures

pub turns-returns : goal.turns-returns
turns-returns t c =
    let trees = table c.args.trees.now in
    let edge = rw c.new.ensures.items at (c.in_ok-edge.ensures trees) in
    let inside = rw c.in_ok-again.ensures at c.in_ok-inside.ensures in
    adds_turns (expression_if trees c.args.l.test) (expression_if trees c.args.l.step) (statement_at trees c.args.l.body) c.args.on.items
    c.args.draft.now.next.items c.guarded.new.draft.next.items (as_flow edge) c.in_ok-after.ensures inside c.in_ok-first.ensures
    refl refl c.lead.ensures.at (ap (λ xs. reverse (map (spot_of trees) xs)) c.lead.ensures.spots)
    (row_set c.args.draft.now.next.items c.guarded.new.draft.next.items c.lead.ensures.next
    (c.len-back.ensures ∙ c.args.draft.now.next.ok.0) c.in_ok-copy.ensures)

pub do_turns-returns : goal.do_turns-returns
do_turns-returns t c = λ broken continued.
    let trees = table c.args.trees.now in
    let edge = rw c.new.ensures.items at (c.in_ok-edge.ensures trees) in
    let tests = rw (c.in_ok-to.ensures, c.as_slice.ensures.value, c.in_ok-copy.ensures) at c.in_ok-test.ensures in
    let bodies = rw c.in_ok-again.ensures at c.in_ok-first.ensures in
    adds_do (statement_at trees c.args.body) (expression_at trees c.args.c) c.args.on.items broken continued
    c.args.draft.now.next.items c.statement.new.draft.next.items edge tests bodies refl refl c.lead.ensures.at
    (ap (λ xs. reverse (map (spot_of trees) xs)) c.lead.ensures.spots)
    (row_set c.args.draft.now.next.items c.statement.new.draft.next.items c.lead.ensures.next (c.len-back.ensures ∙ c.args.draft.now.next.ok.0) c.in_ok-copy-2.ensures)
