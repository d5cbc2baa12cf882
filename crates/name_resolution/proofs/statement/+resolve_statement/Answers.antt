use Rattle.std.proofs.Common.{◌+◌, sym, ap, ◌∙◌, [], ◌∷◌, drop, map, option_map}
use Rattle.std.specs.Option.{option_map_or}
use Rattle.std.proofs.lemmas.List.{map-append}
use Rattle.c_tree.specs.Bare.{bare_type, bare_expr, bare_stmt, bare_block}
use Rattle.c_tree.proofs.Stmts.{by_node}
use Rattle.c_semantics.specs.Resolved.{IfElse, For, NoStatements, StatementThen}
use Rattle.c_semantics.specs.Texts.{int}
use Rattle.c_semantics.specs.Resolution.{statement, statements, tree_of, declared_by_all}
use Rattle.name_resolution.specs.Forms.{of_guarded, of_nested}
use Rattle.resolved_tree.specs.Nodes.{expression_at, expression_if, statement_at, statements_at}
use Rattle.resolved_tree.specs.Parts.{a_node, a_node_if, both}
use Rattle.name_resolution.specs.Found.{each_node, before}
use Rattle.name_resolution.specs.Known.{known_of, locals_of}
use Rattle.name_resolution.proofs.Kept.{grows_refl, grows_trans, in_later, both_in, each_more, later_as}
use Rattle.name_resolution.proofs.Resolving.{before_last, sequence_more, declared_more, sequence_end}
use Rattle.name_resolution.proofs.statement.+resolve_statement.Goals as goal

pub resolve_statement-returns-in-Empty-clause-tree : goal.resolve_statement-returns-in-Empty-clause-tree
resolve_statement-returns-in-Empty-clause-tree t c =
    let look = known_of c.args.known.now in
    let type = option_map_or (λ t. bare_type t.now) c.args.returned int in
    let locals = locals_of c.args.locals.now in
    later_as statement_at _ c.statement.result _ _ c.statement.ensures.tree
    (λ u g. sym (ap (statement look type locals) (by_node c.args.stmt.now _ c.in-Empty.is)))

pub resolve_statement-returns-in-Break-clause-tree : goal.resolve_statement-returns-in-Break-clause-tree
resolve_statement-returns-in-Break-clause-tree t c =
    let look = known_of c.args.known.now in
    let type = option_map_or (λ t. bare_type t.now) c.args.returned int in
    let locals = locals_of c.args.locals.now in
    later_as statement_at _ c.statement-in-Break.result _ _ c.statement-in-Break.ensures.tree
    (λ u g. sym (ap (statement look type locals) (by_node c.args.stmt.now _ c.in-Break.is)))

pub resolve_statement-returns-in-Continue-clause-tree : goal.resolve_statement-returns-in-Continue-clause-tree
resolve_statement-returns-in-Continue-clause-tree t c =
    let look = known_of c.args.known.now in
    let type = option_map_or (λ t. bare_type t.now) c.args.returned int in
    let locals = locals_of c.args.locals.now in
    later_as statement_at _ c.statement-in-Continue.result _ _ c.statement-in-Continue.ensures.tree
    (λ u g. sym (ap (statement look type locals) (by_node c.args.stmt.now _ c.in-Continue.is)))

pub resolve_statement-returns-in-Update-clause-tree : goal.resolve_statement-returns-in-Update-clause-tree
resolve_statement-returns-in-Update-clause-tree t c =
    let look = known_of c.args.known.now in
    let type = option_map_or (λ t. bare_type t.now) c.args.returned int in
    let locals = locals_of c.args.locals.now in
    later_as statement_at _ c.statement-in-Update.result _ _ c.statement-in-Update.ensures.tree
    (λ u g. sym (ap (statement look type locals) (by_node c.args.stmt.now _ c.in-Update.is)))

pub resolve_statement-returns-in-Declare-clause-tree : goal.resolve_statement-returns-in-Declare-clause-tree
resolve_statement-returns-in-Declare-clause-tree t c =
    let look = known_of c.args.known.now in
    let type = option_map_or (λ t. bare_type t.now) c.args.returned int in
    let locals = locals_of c.args.locals.now in
    later_as statement_at _ c.declaration.result _ _ c.declaration.ensures.tree
    (λ u g. sym (ap (statement look type locals) (by_node c.args.stmt.now _ c.in-Declare.is)))

pub resolve_statement-returns-in_ok-z-in-IfElse-clause-tree : goal.resolve_statement-returns-in_ok-z-in-IfElse-clause-tree
resolve_statement-returns-in_ok-z-in-IfElse-clause-tree t c =
    let look = known_of c.args.known.now in
    let type = option_map_or (λ t. bare_type t.now) c.args.returned int in
    let locals = locals_of c.args.locals.now in
    later_as statement_at _ c.statement-in-IfElse.result _ _ c.statement-in-IfElse.ensures.tree
    (λ u g.
    let g3 = grows_trans _ _ u c.statement-in-IfElse.ensures.grows g in
    let g2 = grows_trans _ _ u c.in_ok-z-in-IfElse.ensures.grows g3 in
    let g1 = grows_trans _ _ u c.in_ok-y-in-IfElse.ensures.grows g2 in
    let ex = c.in_ok-x-in-IfElse.ensures.tree u g1 in
    let ey = c.in_ok-y-in-IfElse.ensures.tree u g2 in
    let ez = c.in_ok-z-in-IfElse.ensures.tree u g3 in
    ap (λ x. IfElse x (statement_at u c.in_ok-y-in-IfElse.y) (statement_at u c.in_ok-z-in-IfElse.z)) ex
    ∙ ap (λ y. IfElse (tree_of look locals (bare_expr c.in-IfElse.e)) y (statement_at u c.in_ok-z-in-IfElse.z)) ey
    ∙ ap (IfElse (tree_of look locals (bare_expr c.in-IfElse.e)) (statement look type locals (bare_stmt c.in-IfElse.a))) ez
    ∙ sym (ap (statement look type locals) (by_node c.args.stmt.now _ c.in-IfElse.is)))

pub resolve_statement-returns-in_ok-z-in-For-clause-tree : goal.resolve_statement-returns-in_ok-z-in-For-clause-tree
resolve_statement-returns-in_ok-z-in-For-clause-tree t c =
    let look = known_of c.args.known.now in
    let type = option_map_or (λ t. bare_type t.now) c.args.returned int in
    let locals = locals_of c.args.locals.now in
    let copy = c.in_ok-scope-in-For.ensures in
    let inner = declared_by_all (bare_block (map bare_stmt c.in-For.first)) locals in
    let declared = c.in_ok-f-in-For.ensures.locals ∙ ap (λ ls. declared_by_all (bare_block (map bare_stmt c.in-For.first)) (locals_of ls)) copy in
    let at_test = ap locals_of c.as_slice.ensures.value ∙ declared in
    let at_step = ap locals_of c.as_slice-in-For.ensures.value ∙ declared in
    let at_body = ap locals_of c.as_slice-in-For-2.ensures.value ∙ declared in
    let test = option_map bare_expr c.in-For.test in
    let step = option_map bare_expr c.in-For.step in
    later_as statement_at _ c.statement-in-For.result _ _ c.statement-in-For.ensures.tree
    (λ u g.
    let g4 = grows_trans _ _ u c.statement-in-For.ensures.grows g in
    let g3 = grows_trans _ _ u c.in_ok-z-in-For.ensures.grows g4 in
    let g2 = grows_trans _ _ u c.in_ok-y-in-For.ensures.grows g3 in
    let g1 = grows_trans _ _ u c.in_ok-x-in-For.ensures.grows g2 in
    let ef = c.in_ok-f-in-For.ensures.tree u g1 in
    let ex = c.in_ok-x-in-For.ensures.tree u g2 in
    let ey = c.in_ok-y-in-For.ensures.tree u g3 in
    let ez = c.in_ok-z-in-For.ensures.tree u g4 in
    ap (λ f. For f (expression_if u c.in_ok-x-in-For.x) (expression_if u c.in_ok-y-in-For.y) (statement_at u c.in_ok-z-in-For.z)) (ef ∙ ap (λ ls. statements look type (locals_of ls) (bare_block (map bare_stmt c.in-For.first))) copy)
    ∙ ap (λ x. For (statements look type locals (bare_block (map bare_stmt c.in-For.first))) x (expression_if u c.in_ok-y-in-For.y) (statement_at u c.in_ok-z-in-For.z)) (ex ∙ ap (λ ls. option_map (tree_of look ls) test) at_test)
    ∙ ap (λ y. For (statements look type locals (bare_block (map bare_stmt c.in-For.first))) (option_map (tree_of look inner) test) y (statement_at u c.in_ok-z-in-For.z)) (ey ∙ ap (λ ls. option_map (tree_of look ls) step) at_step)
    ∙ ap (For (statements look type locals (bare_block (map bare_stmt c.in-For.first))) (option_map (tree_of look inner) test) (option_map (tree_of look inner) step)) (ez ∙ ap (λ ls. statement look type ls (bare_stmt c.in-For.a)) at_body)
    ∙ sym (ap (statement look type locals) (by_node c.args.stmt.now _ c.in-For.is)))

pub sequence-returns-clause-tree : goal.sequence-returns-clause-tree
sequence-returns-clause-tree t c =
    let look = known_of c.args.known.now in
    let type = option_map_or (λ t. bare_type t.now) c.args.returned int in
    let ids = c.loop-stmt.ids.items in
    let xs = c.as_slice-stmt-items.result.now in
    let inner = locals_of c.loop-stmt.locals.items in
    later_as statements_at _ c.linked.result _ _ c.linked.ensures.tree
    (λ u g.
    ap (λ is. before (map (statement_at u) is) NoStatements) c.as_slice-order.ensures.value
    ∙ ap (before (map (statement_at u) ids)) (sym (sequence_end look type xs c.loop-stmt.stmt-index inner c.loop-stmt-test.false))
    ∙ sym (c.loop-stmt.invariant.tree u (grows_trans _ _ u c.linked.ensures.grows g))
    ∙ ap (λ ys. statements look type (locals_of c.args.locals.now.items) (bare_block (map bare_stmt ys))) c.as_slice-stmt-items.ensures)

pub resolve_statement-statement-requires-in-For : goal.resolve_statement-statement-requires-in-For
resolve_statement-statement-requires-in-For t c =
    let gx = c.in_ok-x-in-For.ensures.grows in
    let gy = c.in_ok-y-in-For.ensures.grows in
    let gz = c.in_ok-z-in-For.ensures.grows in
    let f = a_node c.in_ok-f-in-For.f in
    let x = a_node_if c.in_ok-x-in-For.x in
    let y = a_node_if c.in_ok-y-in-For.y in
    let z = a_node c.in_ok-z-in-For.z in
    both_in _ f (both x (both y z)) (in_later _ _ f gz (in_later _ _ f gy (in_later _ _ f gx c.in_ok-f-in-For.ensures.within)))
    (both_in _ x (both y z) (in_later _ _ x gz (in_later _ _ x gy c.in_ok-x-in-For.ensures.within))
    (both_in _ y z (in_later _ _ y gz c.in_ok-y-in-For.ensures.within) c.in_ok-z-in-For.ensures.within))

pub sequence-loop-stmt-preserved : goal.sequence-loop-stmt-preserved
sequence-loop-stmt-preserved t c =
    let look = known_of c.args.known.now in
    let type = option_map_or (λ t. bare_type t.now) c.args.returned int in
    let ids = c.loop-stmt.ids.items in
    let xs = c.as_slice-stmt-items.result.now in
    let i = c.loop-stmt.stmt-index in
    let s = c.stmt-item.result in
    let outer = locals_of c.loop-stmt.locals.items in
    let here = ap locals_of c.as_slice.ensures.value in
    record {
      within = each_more _ ids c.push.new.self.items c.in_ok-id.id c.in_ok-push.ensures.items (in_later _ _ (each_node ids) c.resolve_statement.ensures.grows c.loop-stmt.invariant.within) c.in_ok-id.ensures.within;
      grows = grows_trans _ _ _ c.loop-stmt.invariant.grows c.resolve_statement.ensures.grows;
      tree = λ u g.
          let rest = statements look type (locals_of c.declare.new.locals.items) (bare_block (map bare_stmt (drop (i + 1) xs))) in
          c.loop-stmt.invariant.tree u (grows_trans _ _ u c.resolve_statement.ensures.grows g)
          ∙ ap (before (map (statement_at u) ids)) (sequence_more look type xs i s outer (locals_of c.declare.new.locals.items) c.loop-stmt-test.true c.stmt-item.is c.in_ok-declare.ensures)
          ∙ ap (λ x. before (map (statement_at u) ids) (StatementThen x rest)) (sym (c.in_ok-id.ensures.tree u g ∙ ap (λ ls. statement look type ls (bare_stmt s)) here))
          ∙ sym (before_last (map (statement_at u) ids) (statement_at u c.in_ok-id.id) rest)
          ∙ ap (λ ss. before ss rest) (sym (ap (map (statement_at u)) c.in_ok-push.ensures.items ∙ map-append (statement_at u) ids (c.in_ok-id.id ∷ [])));
      locals = c.loop-stmt.invariant.locals ∙ declared_more xs i s outer (locals_of c.declare.new.locals.items) c.loop-stmt-test.true c.stmt-item.is c.in_ok-declare.ensures;
    }

pub block-returns-in_err-scope-clause-grows : goal.block-returns-in_err-scope-clause-grows
block-returns-in_err-scope-clause-grows t c =
    grows_refl _

pub block-returns-clause-grows : goal.block-returns-clause-grows
block-returns-clause-grows t c =
    c.sequence.ensures.grows

pub block-returns-clause-within : goal.block-returns-clause-within
block-returns-clause-within t c =
    c.sequence.ensures.within

pub inner-returns-clause-grows : goal.inner-returns-clause-grows
inner-returns-clause-grows t c =
    c.resolve_statement.ensures.grows

pub inner-returns-clause-within : goal.inner-returns-clause-within
inner-returns-clause-within t c =
    c.resolve_statement.ensures.within

pub resolve_statement-returns-in-Empty-clause-grows : goal.resolve_statement-returns-in-Empty-clause-grows
resolve_statement-returns-in-Empty-clause-grows t c =
    c.statement.ensures.grows

pub resolve_statement-returns-in-Empty-clause-within : goal.resolve_statement-returns-in-Empty-clause-within
resolve_statement-returns-in-Empty-clause-within t c =
    c.statement.ensures.within

pub resolve_statement-returns-in-Declare-clause-grows : goal.resolve_statement-returns-in-Declare-clause-grows
resolve_statement-returns-in-Declare-clause-grows t c =
    c.declaration.ensures.grows

pub resolve_statement-returns-in-Declare-clause-within : goal.resolve_statement-returns-in-Declare-clause-within
resolve_statement-returns-in-Declare-clause-within t c =
    c.declaration.ensures.within

pub resolve_statement-returns-in_err-x-in-IfElse-clause-grows : goal.resolve_statement-returns-in_err-x-in-IfElse-clause-grows
resolve_statement-returns-in_err-x-in-IfElse-clause-grows t c =
    c.in_err-x-in-IfElse.ensures.grows

pub resolve_statement-returns-in_err-y-in-IfElse-clause-grows : goal.resolve_statement-returns-in_err-y-in-IfElse-clause-grows
resolve_statement-returns-in_err-y-in-IfElse-clause-grows t c =
    grows_trans _ _ _ c.in_ok-x-in-IfElse.ensures.grows c.in_err-y-in-IfElse.ensures.grows

pub resolve_statement-returns-in_err-z-in-IfElse-clause-grows : goal.resolve_statement-returns-in_err-z-in-IfElse-clause-grows
resolve_statement-returns-in_err-z-in-IfElse-clause-grows t c =
    grows_trans _ _ _ c.in_ok-x-in-IfElse.ensures.grows (grows_trans _ _ _ c.in_ok-y-in-IfElse.ensures.grows c.in_err-z-in-IfElse.ensures.grows)

pub resolve_statement-returns-in_ok-z-in-IfElse-clause-grows : goal.resolve_statement-returns-in_ok-z-in-IfElse-clause-grows
resolve_statement-returns-in_ok-z-in-IfElse-clause-grows t c =
    grows_trans _ _ _ c.in_ok-x-in-IfElse.ensures.grows (grows_trans _ _ _ c.in_ok-y-in-IfElse.ensures.grows (grows_trans _ _ _ c.in_ok-z-in-IfElse.ensures.grows c.statement-in-IfElse.ensures.grows))

pub resolve_statement-returns-in_ok-z-in-IfElse-clause-within : goal.resolve_statement-returns-in_ok-z-in-IfElse-clause-within
resolve_statement-returns-in_ok-z-in-IfElse-clause-within t c =
    c.statement-in-IfElse.ensures.within

pub resolve_statement-returns-in_err-f-in-For-clause-grows : goal.resolve_statement-returns-in_err-f-in-For-clause-grows
resolve_statement-returns-in_err-f-in-For-clause-grows t c =
    c.in_err-f-in-For.ensures.grows

pub resolve_statement-returns-in_err-x-in-For-clause-grows : goal.resolve_statement-returns-in_err-x-in-For-clause-grows
resolve_statement-returns-in_err-x-in-For-clause-grows t c =
    grows_trans _ _ _ c.in_ok-f-in-For.ensures.grows c.in_err-x-in-For.ensures.grows

pub resolve_statement-returns-in_err-y-in-For-clause-grows : goal.resolve_statement-returns-in_err-y-in-For-clause-grows
resolve_statement-returns-in_err-y-in-For-clause-grows t c =
    grows_trans _ _ _ c.in_ok-f-in-For.ensures.grows (grows_trans _ _ _ c.in_ok-x-in-For.ensures.grows c.in_err-y-in-For.ensures.grows)

pub resolve_statement-returns-in_err-z-in-For-clause-grows : goal.resolve_statement-returns-in_err-z-in-For-clause-grows
resolve_statement-returns-in_err-z-in-For-clause-grows t c =
    grows_trans _ _ _ c.in_ok-f-in-For.ensures.grows (grows_trans _ _ _ c.in_ok-x-in-For.ensures.grows (grows_trans _ _ _ c.in_ok-y-in-For.ensures.grows c.in_err-z-in-For.ensures.grows))

pub resolve_statement-returns-in_ok-z-in-For-clause-grows : goal.resolve_statement-returns-in_ok-z-in-For-clause-grows
resolve_statement-returns-in_ok-z-in-For-clause-grows t c =
    grows_trans _ _ _ c.in_ok-f-in-For.ensures.grows (grows_trans _ _ _ c.in_ok-x-in-For.ensures.grows (grows_trans _ _ _ c.in_ok-y-in-For.ensures.grows (grows_trans _ _ _ c.in_ok-z-in-For.ensures.grows c.statement-in-For.ensures.grows)))

pub resolve_statement-returns-in_ok-z-in-For-clause-within : goal.resolve_statement-returns-in_ok-z-in-For-clause-within
resolve_statement-returns-in_ok-z-in-For-clause-within t c =
    c.statement-in-For.ensures.within

pub resolve_statement-returns-in-Break-clause-grows : goal.resolve_statement-returns-in-Break-clause-grows
resolve_statement-returns-in-Break-clause-grows t c =
    c.statement-in-Break.ensures.grows

pub resolve_statement-returns-in-Break-clause-within : goal.resolve_statement-returns-in-Break-clause-within
resolve_statement-returns-in-Break-clause-within t c =
    c.statement-in-Break.ensures.within

pub resolve_statement-returns-in-Continue-clause-grows : goal.resolve_statement-returns-in-Continue-clause-grows
resolve_statement-returns-in-Continue-clause-grows t c =
    c.statement-in-Continue.ensures.grows

pub resolve_statement-returns-in-Continue-clause-within : goal.resolve_statement-returns-in-Continue-clause-within
resolve_statement-returns-in-Continue-clause-within t c =
    c.statement-in-Continue.ensures.within

pub resolve_statement-returns-in-Update-clause-grows : goal.resolve_statement-returns-in-Update-clause-grows
resolve_statement-returns-in-Update-clause-grows t c =
    c.statement-in-Update.ensures.grows

pub resolve_statement-returns-in-Update-clause-within : goal.resolve_statement-returns-in-Update-clause-within
resolve_statement-returns-in-Update-clause-within t c =
    c.statement-in-Update.ensures.within

pub resolve_statement-returns-in_err-scope-in-For-clause-grows : goal.resolve_statement-returns-in_err-scope-in-For-clause-grows
resolve_statement-returns-in_err-scope-in-For-clause-grows t c =
    grows_refl _

pub resolve_statement-statement-requires-in-IfElse : goal.resolve_statement-statement-requires-in-IfElse
resolve_statement-statement-requires-in-IfElse t c =
    both_in _ (a_node c.in_ok-x-in-IfElse.x) (both (a_node c.in_ok-y-in-IfElse.y) (a_node c.in_ok-z-in-IfElse.z))
    (in_later _ _ (a_node c.in_ok-x-in-IfElse.x) c.in_ok-z-in-IfElse.ensures.grows (in_later _ _ (a_node c.in_ok-x-in-IfElse.x) c.in_ok-y-in-IfElse.ensures.grows c.in_ok-x-in-IfElse.ensures.within))
    (both_in _ (a_node c.in_ok-y-in-IfElse.y) (a_node c.in_ok-z-in-IfElse.z) (in_later _ _ (a_node c.in_ok-y-in-IfElse.y) c.in_ok-z-in-IfElse.ensures.grows c.in_ok-y-in-IfElse.ensures.within) c.in_ok-z-in-IfElse.ensures.within)

pub sequence-returns-in_err-id-clause-grows : goal.sequence-returns-in_err-id-clause-grows
sequence-returns-in_err-id-clause-grows t c =
    grows_trans _ _ _ c.loop-stmt.invariant.grows c.in_err-id.ensures.grows

pub sequence-returns-in_err-declare-clause-grows : goal.sequence-returns-in_err-declare-clause-grows
sequence-returns-in_err-declare-clause-grows t c =
    grows_trans _ _ _ c.loop-stmt.invariant.grows c.in_ok-id.ensures.grows

pub sequence-returns-in_err-push-clause-grows : goal.sequence-returns-in_err-push-clause-grows
sequence-returns-in_err-push-clause-grows t c =
    grows_trans _ _ _ c.loop-stmt.invariant.grows c.in_ok-id.ensures.grows

pub sequence-returns-clause-grows : goal.sequence-returns-clause-grows
sequence-returns-clause-grows t c =
    grows_trans _ _ _ c.loop-stmt.invariant.grows c.linked.ensures.grows

pub sequence-returns-clause-within : goal.sequence-returns-clause-within
sequence-returns-clause-within t c =
    c.linked.ensures.within

pub resolve_statement-returns-in-Block-clause-tree : goal.resolve_statement-returns-in-Block-clause-tree
resolve_statement-returns-in-Block-clause-tree t c =
    let look = known_of c.args.known.now in
    let type = option_map_or (λ t. bare_type t.now) c.args.returned int in
    let locals = locals_of c.args.locals.now in
    later_as statement_at _ c.nested.result _ _ c.nested.ensures.tree
    (λ u g. sym (ap (statement look type locals) (by_node c.args.stmt.now _ c.in-Block.is)))

pub resolve_statement-returns-in-Block-clause-grows : goal.resolve_statement-returns-in-Block-clause-grows
resolve_statement-returns-in-Block-clause-grows t c = c.nested.ensures.grows

pub resolve_statement-returns-in-Block-clause-within : goal.resolve_statement-returns-in-Block-clause-within
resolve_statement-returns-in-Block-clause-within t c = c.nested.ensures.within

pub resolve_statement-returns-in-Evaluate-clause-tree : goal.resolve_statement-returns-in-Evaluate-clause-tree
resolve_statement-returns-in-Evaluate-clause-tree t c =
    let look = known_of c.args.known.now in
    let type = option_map_or (λ t. bare_type t.now) c.args.returned int in
    let locals = locals_of c.args.locals.now in
    later_as statement_at _ c.evaluation.result _ _ c.evaluation.ensures.tree
    (λ u g. sym (ap (statement look type locals) (by_node c.args.stmt.now _ c.in-Evaluate.is)))

pub resolve_statement-returns-in-Evaluate-clause-grows : goal.resolve_statement-returns-in-Evaluate-clause-grows
resolve_statement-returns-in-Evaluate-clause-grows t c = c.evaluation.ensures.grows

pub resolve_statement-returns-in-Evaluate-clause-within : goal.resolve_statement-returns-in-Evaluate-clause-within
resolve_statement-returns-in-Evaluate-clause-within t c = c.evaluation.ensures.within

pub resolve_statement-returns-in-If-clause-tree : goal.resolve_statement-returns-in-If-clause-tree
resolve_statement-returns-in-If-clause-tree t c =
    let look = known_of c.args.known.now in
    let type = option_map_or (λ t. bare_type t.now) c.args.returned int in
    let locals = locals_of c.args.locals.now in
    later_as statement_at _ c.guarded.result _ _ c.guarded.ensures.tree
    (λ u g. sym (ap (statement look type locals) (by_node c.args.stmt.now _ c.in-If.is)))

pub resolve_statement-returns-in-If-clause-grows : goal.resolve_statement-returns-in-If-clause-grows
resolve_statement-returns-in-If-clause-grows t c = c.guarded.ensures.grows

pub resolve_statement-returns-in-If-clause-within : goal.resolve_statement-returns-in-If-clause-within
resolve_statement-returns-in-If-clause-within t c = c.guarded.ensures.within

pub resolve_statement-returns-in-While-clause-tree : goal.resolve_statement-returns-in-While-clause-tree
resolve_statement-returns-in-While-clause-tree t c =
    let look = known_of c.args.known.now in
    let type = option_map_or (λ t. bare_type t.now) c.args.returned int in
    let locals = locals_of c.args.locals.now in
    later_as statement_at _ c.guarded-in-While.result _ _ c.guarded-in-While.ensures.tree
    (λ u g. sym (ap (statement look type locals) (by_node c.args.stmt.now _ c.in-While.is)))

pub resolve_statement-returns-in-While-clause-grows : goal.resolve_statement-returns-in-While-clause-grows
resolve_statement-returns-in-While-clause-grows t c = c.guarded-in-While.ensures.grows

pub resolve_statement-returns-in-While-clause-within : goal.resolve_statement-returns-in-While-clause-within
resolve_statement-returns-in-While-clause-within t c = c.guarded-in-While.ensures.within

pub resolve_statement-returns-in-DoWhile-clause-tree : goal.resolve_statement-returns-in-DoWhile-clause-tree
resolve_statement-returns-in-DoWhile-clause-tree t c =
    let look = known_of c.args.known.now in
    let type = option_map_or (λ t. bare_type t.now) c.args.returned int in
    let locals = locals_of c.args.locals.now in
    later_as statement_at _ c.guarded-in-DoWhile.result _ _ c.guarded-in-DoWhile.ensures.tree
    (λ u g. sym (ap (statement look type locals) (by_node c.args.stmt.now _ c.in-DoWhile.is)))

pub resolve_statement-returns-in-DoWhile-clause-grows : goal.resolve_statement-returns-in-DoWhile-clause-grows
resolve_statement-returns-in-DoWhile-clause-grows t c = c.guarded-in-DoWhile.ensures.grows

pub resolve_statement-returns-in-DoWhile-clause-within : goal.resolve_statement-returns-in-DoWhile-clause-within
resolve_statement-returns-in-DoWhile-clause-within t c = c.guarded-in-DoWhile.ensures.within

pub resolve_statement-returns-in-Return-clause-tree : goal.resolve_statement-returns-in-Return-clause-tree
resolve_statement-returns-in-Return-clause-tree t c =
    let look = known_of c.args.known.now in
    let type = option_map_or (λ t. bare_type t.now) c.args.returned int in
    let locals = locals_of c.args.locals.now in
    later_as statement_at _ c.return_zero.result _ _ c.return_zero.ensures.tree
    (λ u g. sym (ap (statement look type locals) (by_node c.args.stmt.now _ c.in-Return.is)))

pub resolve_statement-returns-in-Return-clause-grows : goal.resolve_statement-returns-in-Return-clause-grows
resolve_statement-returns-in-Return-clause-grows t c = c.return_zero.ensures.grows

pub resolve_statement-returns-in-Return-clause-within : goal.resolve_statement-returns-in-Return-clause-within
resolve_statement-returns-in-Return-clause-within t c = c.return_zero.ensures.within

pub resolve_statement-returns-in-ReturnValue-clause-tree : goal.resolve_statement-returns-in-ReturnValue-clause-tree
resolve_statement-returns-in-ReturnValue-clause-tree t c =
    let look = known_of c.args.known.now in
    let type = option_map_or (λ t. bare_type t.now) c.args.returned int in
    let locals = locals_of c.args.locals.now in
    later_as statement_at _ c.return_value.result _ _ c.return_value.ensures.tree
    (λ u g. sym (ap (statement look type locals) (by_node c.args.stmt.now _ c.in-ReturnValue.is)))

pub resolve_statement-returns-in-ReturnValue-clause-grows : goal.resolve_statement-returns-in-ReturnValue-clause-grows
resolve_statement-returns-in-ReturnValue-clause-grows t c = c.return_value.ensures.grows

pub resolve_statement-returns-in-ReturnValue-clause-within : goal.resolve_statement-returns-in-ReturnValue-clause-within
resolve_statement-returns-in-ReturnValue-clause-within t c = c.return_value.ensures.within

pub resolve_statement-returns-in-Transaction-clause-tree : goal.resolve_statement-returns-in-Transaction-clause-tree
resolve_statement-returns-in-Transaction-clause-tree t c =
    let look = known_of c.args.known.now in
    let type = option_map_or (λ t. bare_type t.now) c.args.returned int in
    let locals = locals_of c.args.locals.now in
    later_as statement_at _ c.nested-in-Transaction.result _ _ c.nested-in-Transaction.ensures.tree
    (λ u g. sym (ap (statement look type locals) (by_node c.args.stmt.now _ c.in-Transaction.is)))

pub resolve_statement-returns-in-Transaction-clause-grows : goal.resolve_statement-returns-in-Transaction-clause-grows
resolve_statement-returns-in-Transaction-clause-grows t c = c.nested-in-Transaction.ensures.grows

pub resolve_statement-returns-in-Transaction-clause-within : goal.resolve_statement-returns-in-Transaction-clause-within
resolve_statement-returns-in-Transaction-clause-within t c = c.nested-in-Transaction.ensures.within

pub guarded-returns-clause-tree : goal.guarded-returns-clause-tree
guarded-returns-clause-tree t c =
    let look = known_of c.args.known.now in
    let locals = locals_of c.args.locals.now in
    later_as statement_at _ c.made_of_guarded.result _ _ c.made_of_guarded.ensures.tree
    (λ u g.
    let g2 = grows_trans _ _ u c.made_of_guarded.ensures.grows g in
    let g1 = grows_trans _ _ u c.in_ok-y.ensures.grows g2 in
    ap (λ x. of_guarded c.args.form x (statement_at u c.in_ok-y.y)) (c.in_ok-x.ensures.tree u g1)
    ∙ ap (of_guarded c.args.form (tree_of look locals (bare_expr c.args.test.now))) (c.in_ok-y.ensures.tree u g2))

pub guarded-made_of_guarded-requires : goal.guarded-made_of_guarded-requires
guarded-made_of_guarded-requires t c =
    both_in _ (a_node c.in_ok-x.x) (a_node c.in_ok-y.y) (in_later _ _ (a_node c.in_ok-x.x) c.in_ok-y.ensures.grows c.in_ok-x.ensures.within) c.in_ok-y.ensures.within

pub guarded-returns-in_err-x-clause-grows : goal.guarded-returns-in_err-x-clause-grows
guarded-returns-in_err-x-clause-grows t c = c.in_err-x.ensures.grows

pub guarded-returns-in_err-y-clause-grows : goal.guarded-returns-in_err-y-clause-grows
guarded-returns-in_err-y-clause-grows t c = grows_trans _ _ _ c.in_ok-x.ensures.grows c.in_err-y.ensures.grows

pub guarded-returns-clause-grows : goal.guarded-returns-clause-grows
guarded-returns-clause-grows t c = grows_trans _ _ _ c.in_ok-x.ensures.grows (grows_trans _ _ _ c.in_ok-y.ensures.grows c.made_of_guarded.ensures.grows)

pub guarded-returns-clause-within : goal.guarded-returns-clause-within
guarded-returns-clause-within t c = c.made_of_guarded.ensures.within

pub nested-returns-clause-tree : goal.nested-returns-clause-tree
nested-returns-clause-tree t c =
    later_as statement_at _ c.made_of_nested.result _ _ c.made_of_nested.ensures.tree
    (λ u g. ap (of_nested c.args.form) (c.in_ok-ss.ensures.tree u (grows_trans _ _ u c.made_of_nested.ensures.grows g)))

pub nested-returns-in_err-ss-clause-grows : goal.nested-returns-in_err-ss-clause-grows
nested-returns-in_err-ss-clause-grows t c = c.in_err-ss.ensures.grows

pub nested-returns-clause-grows : goal.nested-returns-clause-grows
nested-returns-clause-grows t c = grows_trans _ _ _ c.in_ok-ss.ensures.grows c.made_of_nested.ensures.grows

pub nested-returns-clause-within : goal.nested-returns-clause-within
nested-returns-clause-within t c = c.made_of_nested.ensures.within
