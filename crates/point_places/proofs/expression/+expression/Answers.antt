use Rattle.std.proofs.Common.{◌++◌, ◌∷◌, ap, refl, sym, ◌∙◌, arith, append_assoc}
use Rattle.std.specs.Prelude.{slice_index_or}
use Rattle.c_semantics.specs.Points.{reads, writes}
use Rattle.c_semantics.specs.Places.{without_casts, operand, operands, expression_places, parts_places, place_of as begin_of, each_at}
use Rattle.resolved_tree.specs.Nodes.{expression_at, expression_of, arguments_at, place_of}
use Rattle.resolved_tree.specs.Trees.{table}
use Rattle.point_places.proofs.Weights.{of_expressions}
use Rattle.point_places.proofs.Appending.{added, added_last, argument_added}
use Rattle.point_places.proofs.expression.+expression.Goals as goal

pub node-returns-in_ok-parts-in-Read : goal.node-returns-in_ok-parts-in-Read
node-returns-in_ok-parts-in-Read t c =
    let tab = table c.args.trees.now in
    let e = without_casts c.args.e.now in
    added_last c.access.result c.args.places.now.items c.parts.new.places.items c.access.new.places.items _ _ _
    c.in_ok-parts-in-Read.ensures (c.access.ensures.read tab)
    (ap (λ n. expression_places (expression_of tab n) e) (sym c.in-Read.is))

pub node-returns-in_ok-target-in-Assign : goal.node-returns-in_ok-target-in-Assign
node-returns-in_ok-target-in-Assign t c =
    let tab = table c.args.trees.now in
    let e = without_casts c.args.e.now in
    added_last c.access-in-Assign.result c.args.places.now.items c.target.new.places.items c.access-in-Assign.new.places.items _ _ _
    c.in_ok-target-in-Assign.ensures (c.access-in-Assign.ensures.write tab)
    (ap (λ n. expression_places (expression_of tab n) e) (sym c.in-Assign.is))

pub node-returns-in_ok-parts-in-Postfix : goal.node-returns-in_ok-parts-in-Postfix
node-returns-in_ok-parts-in-Postfix t c =
    let tab = table c.args.trees.now in
    let e = without_casts c.args.e.now in
    let p = place_of tab c.in-Postfix.place in
    added_last c.read_and_write.result c.args.places.now.items c.parts-in-Postfix.new.places.items c.read_and_write.new.places.items _ _ _
    (c.in_ok-parts-in-Postfix.ensures ∙ ap (λ o. c.args.places.now.items ++ parts_places p o) c.operand-in-Postfix.ensures)
    (c.read_and_write.ensures tab)
    (sym (append_assoc (parts_places p (operand 0 e)) (each_at e (reads p)) (each_at e (writes p)))
    ∙ ap (λ n. expression_places (expression_of tab n) e) (sym c.in-Postfix.is))

pub node-returns-in_ok-target-in-Create : goal.node-returns-in_ok-target-in-Create
node-returns-in_ok-target-in-Create t c =
    let tab = table c.args.trees.now in
    let e = without_casts c.args.e.now in
    added_last c.once_and_write.result c.args.places.now.items c.target-in-Create.new.places.items c.once_and_write.new.places.items _ _ _
    c.in_ok-target-in-Create.ensures (c.once_and_write.ensures tab)
    (ap (λ n. expression_places (expression_of tab n) e) (sym c.in-Create.is))

pub update-returns : goal.update-returns
update-returns t c =
    let tab = table c.args.trees.now in
    let e = without_casts c.args.e.now in
    let p = place_of tab c.args.place in
    let v = expression_at tab c.args.value in
    let old = c.args.places.now.items in
    let read = added old c.parts.new.places.items c.access.new.places.items (parts_places p (operand 0 e)) (each_at e (reads p))
    (c.in_ok-parts.ensures ∙ ap (λ o. old ++ parts_places p o) c.operand.ensures) (c.in_ok-access.ensures.read tab) in
    let valued = added old c.access.new.places.items c.expression.new.places.items _ (expression_places v (operand 1 e)) read
    (c.in_ok-expression.ensures ∙ ap (λ o. c.access.new.places.items ++ expression_places v o) c.operand-2.ensures) in
    added_last c.access-2.result old c.expression.new.places.items c.access-2.new.places.items _ (each_at e (writes p)) _ valued
    (c.access-2.ensures.write tab) refl

pub join_into-returns : goal.join_into-returns
join_into-returns t c =
    let tab = table c.args.trees.now in
    let e = without_casts c.args.e.now in
    let p = place_of tab c.args.place in
    let v = expression_at tab c.args.thread in
    let old = c.args.places.now.items in
    let parted = added old c.expression.new.places.items c.parts.new.places.items (expression_places v (operand 0 e)) (parts_places p (operand 1 e))
    (c.in_ok-expression.ensures ∙ ap (λ o. old ++ expression_places v o) c.operand.ensures)
    (c.in_ok-parts.ensures ∙ ap (λ o. c.expression.new.places.items ++ parts_places p o) c.operand-2.ensures) in
    added_last c.once_and_write.result old c.parts.new.places.items c.once_and_write.new.places.items _ (begin_of e ∷ each_at e (writes p)) _ parted
    (c.once_and_write.ensures tab) refl

pub each-loop-argument-preserved : goal.each-loop-argument-preserved
each-loop-argument-preserved t c =
    let tab = table c.args.trees.now in
    let es = operands (without_casts c.args.e.now) in
    record {
      smaller = omega (arith, ap of_expressions c.in-Then.ensures);
      added = λ m. argument_added (expression_at tab c.in-Then.argument) (arguments_at tab c.in-Then.next) (arguments_at tab c.loop-argument.rest)
          es (without_casts c.operand.result.now) c.loop-argument.k c.in_ok-k.k c.loop-argument.places.items c.expression.new.places.items _
          c.in-Then.ensures (c.operand.ensures ∙ ap (λ d. slice_index_or es c.loop-argument.k d) m) c.in_ok-k.ensures c.in_ok-expression.ensures
          (c.loop-argument.invariant.added m);
    }
