use Rattle.std.proofs.Common.{sym, ap, ◌∙◌, map}
use Rattle.c_tree.specs.BareExpr.{Bytes, Handle}
use Rattle.c_tree.specs.Bare.{bare_expr, bare_arguments}
use Rattle.c_tree.proofs.Exprs.{by_node}
use Rattle.c_semantics.specs.Resolved.{And, Or, JoinInto, Call, Print, New, Create, InitMutex, Lock, Unlock, Element}
use Rattle.c_semantics.specs.Texts.{int, bound, global_type, result_type, parameters_of}
use Rattle.c_semantics.specs.Resolution.{Resolved, resolved, resolved_all, tree_of, value, located, variable, binary, choice, assignment, update, field, passed, handed}
use Rattle.name_resolution.specs.Forms.{of_one, of_two, of_many}
use Rattle.resolved_tree.specs.Nodes.{expression_at}
use Rattle.resolved_tree.specs.Parts.{both}
use Rattle.name_resolution.specs.Found.{found, in_found, listed, each_node}
use Rattle.name_resolution.specs.Known.{known_of, locals_of}
use Rattle.name_resolution.proofs.Kept.{grows_trans, in_later, both_in, each_more, mapped_more, later_as}
use Rattle.name_resolution.proofs.Resolving.{listed_all}
use Rattle.name_resolution.proofs.expression.+resolve.Goals as goal

pub resolve-returns-in-Number-clause-found : goal.resolve-returns-in-Number-clause-found
resolve-returns-in-Number-clause-found t c =
    let look = known_of c.args.known.now in
    let locals = locals_of c.args.locals.now in
    later_as found _ c.constant.result _ _ c.constant.ensures.found
    (λ u g. sym (ap (resolved look locals) (by_node c.args.expr.now _ c.in-Number.is)))

pub resolve-returns-in-Character-clause-found : goal.resolve-returns-in-Character-clause-found
resolve-returns-in-Character-clause-found t c =
    let look = known_of c.args.known.now in
    let locals = locals_of c.args.locals.now in
    later_as found _ c.constant-in-Character.result _ _ c.constant-in-Character.ensures.found
    (λ u g. sym (ap (resolved look locals) (by_node c.args.expr.now _ c.in-Character.is)))

pub resolve-returns-in-Null-clause-found : goal.resolve-returns-in-Null-clause-found
resolve-returns-in-Null-clause-found t c =
    let look = known_of c.args.known.now in
    let locals = locals_of c.args.locals.now in
    later_as found _ c.constant-in-Null.result _ _ c.constant-in-Null.ensures.found
    (λ u g. sym (ap (resolved look locals) (by_node c.args.expr.now _ c.in-Null.is)))

pub resolve-returns-in-Success-clause-found : goal.resolve-returns-in-Success-clause-found
resolve-returns-in-Success-clause-found t c =
    let look = known_of c.args.known.now in
    let locals = locals_of c.args.locals.now in
    later_as found _ c.constant-in-Success.result _ _ c.constant-in-Success.ensures.found
    (λ u g. sym (ap (resolved look locals) (by_node c.args.expr.now _ c.in-Success.is)))

pub resolve-returns-in-Error-clause-found : goal.resolve-returns-in-Error-clause-found
resolve-returns-in-Error-clause-found t c =
    let look = known_of c.args.known.now in
    let locals = locals_of c.args.locals.now in
    later_as found _ c.constant-in-Error.result _ _ c.constant-in-Error.ensures.found
    (λ u g. sym (ap (resolved look locals) (by_node c.args.expr.now _ c.in-Error.is)))

pub resolve-returns-in-Variable-clause-found : goal.resolve-returns-in-Variable-clause-found
resolve-returns-in-Variable-clause-found t c =
    let look = known_of c.args.known.now in
    let locals = locals_of c.args.locals.now in
    later_as found _ c.variable.result _ _ c.variable.ensures.found
    (λ u g. ap (λ (name : Bytes). variable look name (bound locals name)) c.as_str.ensures ∙ sym (ap (resolved look locals) (by_node c.args.expr.now _ c.in-Variable.is)))

pub resolve-returns-in-Unary-clause-found : goal.resolve-returns-in-Unary-clause-found
resolve-returns-in-Unary-clause-found t c =
    let look = known_of c.args.known.now in
    let locals = locals_of c.args.locals.now in
    later_as found _ c.one.result _ _ c.one.ensures.found
    (λ u g. sym (ap (resolved look locals) (by_node c.args.expr.now _ c.in-Unary.is)))

pub resolve-returns-in-Step-clause-found : goal.resolve-returns-in-Step-clause-found
resolve-returns-in-Step-clause-found t c =
    let look = known_of c.args.known.now in
    let locals = locals_of c.args.locals.now in
    later_as found _ c.one-in-Step.result _ _ c.one-in-Step.ensures.found
    (λ u g. sym (ap (resolved look locals) (by_node c.args.expr.now _ c.in-Step.is)))

pub resolve-returns-in-Cast-clause-found : goal.resolve-returns-in-Cast-clause-found
resolve-returns-in-Cast-clause-found t c =
    let look = known_of c.args.known.now in
    let locals = locals_of c.args.locals.now in
    later_as found _ c.one-in-Cast.result _ _ c.one-in-Cast.ensures.found
    (λ u g. sym (ap (resolved look locals) (by_node c.args.expr.now _ c.in-Cast.is)))

pub resolve-returns-in-Call-clause-found : goal.resolve-returns-in-Call-clause-found
resolve-returns-in-Call-clause-found t c =
    let look = known_of c.args.known.now in
    let locals = locals_of c.args.locals.now in
    later_as found _ c.many.result _ _ c.many.ensures.found
    (λ u g. ap (λ (name : Bytes). value (Call name (passed (resolved_all look locals (bare_arguments (map bare_expr c.in-Call.list))) (parameters_of (look name)))) (result_type (look name))) c.as_str-in-Call.ensures ∙ sym (ap (resolved look locals) (by_node c.args.expr.now _ c.in-Call.is)))

pub resolve-returns-in-Element-clause-found : goal.resolve-returns-in-Element-clause-found
resolve-returns-in-Element-clause-found t c =
    let look = known_of c.args.known.now in
    let locals = locals_of c.args.locals.now in
    later_as found _ c.one-in-Element.result _ _ c.one-in-Element.ensures.found
    (λ u g. ap (λ (name : Bytes). located (Element name (resolved look locals (bare_expr c.in-Element.a)).tree) (global_type (look name))) c.as_str-in-Element.ensures ∙ sym (ap (resolved look locals) (by_node c.args.expr.now _ c.in-Element.is)))

pub resolve-returns-in-Arrow-clause-found : goal.resolve-returns-in-Arrow-clause-found
resolve-returns-in-Arrow-clause-found t c =
    let look = known_of c.args.known.now in
    let locals = locals_of c.args.locals.now in
    later_as found _ c.one-in-Arrow.result _ _ c.one-in-Arrow.ensures.found
    (λ u g. ap (field look (resolved look locals (bare_expr c.in-Arrow.a))) c.as_str-in-Arrow.ensures ∙ sym (ap (resolved look locals) (by_node c.args.expr.now _ c.in-Arrow.is)))

pub resolve-returns-in-Dot-clause-found : goal.resolve-returns-in-Dot-clause-found
resolve-returns-in-Dot-clause-found t c =
    let look = known_of c.args.known.now in
    let locals = locals_of c.args.locals.now in
    later_as found _ c.constant-in-Dot.result _ _ c.constant-in-Dot.ensures.found
    (λ u g. sym (ap (resolved look locals) (by_node c.args.expr.now _ c.in-Dot.is)))

pub resolve-returns-in-Print-clause-found : goal.resolve-returns-in-Print-clause-found
resolve-returns-in-Print-clause-found t c =
    let look = known_of c.args.known.now in
    let locals = locals_of c.args.locals.now in
    later_as found _ c.many-in-Print.result _ _ c.many-in-Print.ensures.found
    (λ u g. ap (λ (format : Bytes). value (Print format (resolved_all look locals (bare_arguments (map bare_expr c.in-Print.arguments)))) int) c.as_str-in-Print.ensures ∙ sym (ap (resolved look locals) (by_node c.args.expr.now _ c.in-Print.is)))

pub resolve-returns-in-Calloc-clause-found : goal.resolve-returns-in-Calloc-clause-found
resolve-returns-in-Calloc-clause-found t c =
    let look = known_of c.args.known.now in
    let locals = locals_of c.args.locals.now in
    later_as found _ c.calloc.result _ _ c.calloc.ensures.found
    (λ u g. ap (λ (tag : Bytes). value (New tag) (Handle tag)) c.as_str-in-Calloc.ensures ∙ sym (ap (resolved look locals) (by_node c.args.expr.now _ c.in-Calloc.is)))

pub resolve-returns-in-Free-clause-found : goal.resolve-returns-in-Free-clause-found
resolve-returns-in-Free-clause-found t c =
    let look = known_of c.args.known.now in
    let locals = locals_of c.args.locals.now in
    later_as found _ c.one-in-Free.result _ _ c.one-in-Free.ensures.found
    (λ u g. sym (ap (resolved look locals) (by_node c.args.expr.now _ c.in-Free.is)))

pub resolve-returns-in-Join-clause-found : goal.resolve-returns-in-Join-clause-found
resolve-returns-in-Join-clause-found t c =
    let look = known_of c.args.known.now in
    let locals = locals_of c.args.locals.now in
    later_as found _ c.one-in-Join.result _ _ c.one-in-Join.ensures.found
    (λ u g. sym (ap (resolved look locals) (by_node c.args.expr.now _ c.in-Join.is)))

pub resolve-returns-in-InitMutex-clause-found : goal.resolve-returns-in-InitMutex-clause-found
resolve-returns-in-InitMutex-clause-found t c =
    let look = known_of c.args.known.now in
    let locals = locals_of c.args.locals.now in
    later_as found _ c.init_mutex.result _ _ c.init_mutex.ensures.found
    (λ u g. ap (λ (name : Bytes). value (InitMutex name) int) c.as_str-in-InitMutex.ensures ∙ sym (ap (resolved look locals) (by_node c.args.expr.now _ c.in-InitMutex.is)))

pub resolve-returns-in-Lock-clause-found : goal.resolve-returns-in-Lock-clause-found
resolve-returns-in-Lock-clause-found t c =
    let look = known_of c.args.known.now in
    let locals = locals_of c.args.locals.now in
    later_as found _ c.lock.result _ _ c.lock.ensures.found
    (λ u g. ap (λ (name : Bytes). value (Lock name) int) c.as_str-in-Lock.ensures ∙ sym (ap (resolved look locals) (by_node c.args.expr.now _ c.in-Lock.is)))

pub resolve-returns-in-Unlock-clause-found : goal.resolve-returns-in-Unlock-clause-found
resolve-returns-in-Unlock-clause-found t c =
    let look = known_of c.args.known.now in
    let locals = locals_of c.args.locals.now in
    later_as found _ c.unlock.result _ _ c.unlock.ensures.found
    (λ u g. ap (λ (name : Bytes). value (Unlock name) int) c.as_str-in-Unlock.ensures ∙ sym (ap (resolved look locals) (by_node c.args.expr.now _ c.in-Unlock.is)))

pub many-returns-clause-found : goal.many-returns-clause-found
many-returns-clause-found t c =
    let look = known_of c.args.known.now in
    let locals = locals_of c.args.locals.now in
    later_as found _ c.made_of_many.result _ _ c.made_of_many.ensures.found
    (λ u g.
    let g1 = grows_trans _ _ u c.made_of_many.ensures.grows g in
    ap (of_many look c.args.form)
    (ap (λ ids. listed (map (expression_at u) ids)) c.as_slice.ensures.value ∙ ap listed (c.in_ok-ids.ensures.trees u g1)
    ∙ listed_all look locals (map bare_expr c.args.list.now)))

pub all-loop-expr-preserved : goal.all-loop-expr-preserved
all-loop-expr-preserved t c =
    let ids = c.loop-expr.ids.items in
    let locals = locals_of c.args.locals.now in
    let look = known_of c.args.known.now in
    let later = in_later _ _ (each_node ids) c.tree.ensures.grows (in_later _ _ (each_node ids) c.resolve.ensures.grows c.loop-expr.invariant.within) in
    record {
      within = each_more _ ids c.push.new.self.items c.in_ok-id.id c.in_ok-push.ensures.items later c.in_ok-id.ensures.within;
      grows = grows_trans _ _ _ c.loop-expr.invariant.grows (grows_trans _ _ _ c.resolve.ensures.grows c.tree.ensures.grows);
      trees = λ u g.
          let g2 = grows_trans _ _ u c.tree.ensures.grows g in
          let g1 = grows_trans _ _ u c.resolve.ensures.grows g2 in
          mapped_more (expression_at u) (tree_of look locals) bare_expr ids c.push.new.self.items c.in_ok-id.id c.as_slice-expr-items.result.now
          c.loop-expr.expr-index c.expr-item.result c.in_ok-push.ensures.items c.loop-expr-test.true c.expr-item.is (c.loop-expr.invariant.trees u g1)
          (c.in_ok-id.ensures.tree u g ∙ ap (λ (r : Resolved). r.tree) (c.in_ok-found.ensures.found u g2));
    }

pub many-returns-in_err-ids-clause-grows : goal.many-returns-in_err-ids-clause-grows
many-returns-in_err-ids-clause-grows t c =
    c.in_err-ids.ensures.grows

pub many-returns-clause-grows : goal.many-returns-clause-grows
many-returns-clause-grows t c =
    grows_trans _ _ _ c.in_ok-ids.ensures.grows c.made_of_many.ensures.grows

pub many-returns-clause-within : goal.many-returns-clause-within
many-returns-clause-within t c =
    c.made_of_many.ensures.within

pub all-returns-in_err-found-clause-grows : goal.all-returns-in_err-found-clause-grows
all-returns-in_err-found-clause-grows t c =
    grows_trans _ _ _ c.loop-expr.invariant.grows c.in_err-found.ensures.grows

pub all-returns-in_err-id-clause-grows : goal.all-returns-in_err-id-clause-grows
all-returns-in_err-id-clause-grows t c =
    grows_trans _ _ _ c.loop-expr.invariant.grows (grows_trans _ _ _ c.in_ok-found.ensures.grows c.in_err-id.ensures.grows)

pub all-returns-in_err-push-clause-grows : goal.all-returns-in_err-push-clause-grows
all-returns-in_err-push-clause-grows t c =
    grows_trans _ _ _ c.loop-expr.invariant.grows (grows_trans _ _ _ c.in_ok-found.ensures.grows c.in_ok-id.ensures.grows)

pub resolve-returns-in_ok-x-in-Binary-clause-found : goal.resolve-returns-in_ok-x-in-Binary-clause-found
resolve-returns-in_ok-x-in-Binary-clause-found t c =
    let look = known_of c.args.known.now in
    let locals = locals_of c.args.locals.now in
    later_as found _ c.with.result _ _ c.with.ensures.found
    (λ u g.
    let ex = c.in_ok-x-in-Binary.ensures.found u (grows_trans _ _ u c.with.ensures.grows g) in
    ap (λ (r : Resolved). binary c.in-Binary.op r (resolved look locals (bare_expr c.in-Binary.b))) ex
    ∙ sym (ap (resolved look locals) (by_node c.args.expr.now _ c.in-Binary.is)))

pub resolve-returns-in_err-x-in-Binary-clause-grows : goal.resolve-returns-in_err-x-in-Binary-clause-grows
resolve-returns-in_err-x-in-Binary-clause-grows t c = c.in_err-x-in-Binary.ensures.grows

pub resolve-returns-in_ok-x-in-Binary-clause-grows : goal.resolve-returns-in_ok-x-in-Binary-clause-grows
resolve-returns-in_ok-x-in-Binary-clause-grows t c = grows_trans _ _ _ c.in_ok-x-in-Binary.ensures.grows c.with.ensures.grows

pub resolve-returns-in_ok-x-in-Binary-clause-within : goal.resolve-returns-in_ok-x-in-Binary-clause-within
resolve-returns-in_ok-x-in-Binary-clause-within t c = c.with.ensures.within

pub resolve-returns-in_ok-x-in-And-clause-found : goal.resolve-returns-in_ok-x-in-And-clause-found
resolve-returns-in_ok-x-in-And-clause-found t c =
    let look = known_of c.args.known.now in
    let locals = locals_of c.args.locals.now in
    later_as found _ c.with-in-And.result _ _ c.with-in-And.ensures.found
    (λ u g.
    let ex = c.in_ok-x-in-And.ensures.found u (grows_trans _ _ u c.with-in-And.ensures.grows g) in
    ap (λ (r : Resolved). value (And r.tree (resolved look locals (bare_expr c.in-And.b)).tree) int) ex
    ∙ sym (ap (resolved look locals) (by_node c.args.expr.now _ c.in-And.is)))

pub resolve-returns-in_err-x-in-And-clause-grows : goal.resolve-returns-in_err-x-in-And-clause-grows
resolve-returns-in_err-x-in-And-clause-grows t c = c.in_err-x-in-And.ensures.grows

pub resolve-returns-in_ok-x-in-And-clause-grows : goal.resolve-returns-in_ok-x-in-And-clause-grows
resolve-returns-in_ok-x-in-And-clause-grows t c = grows_trans _ _ _ c.in_ok-x-in-And.ensures.grows c.with-in-And.ensures.grows

pub resolve-returns-in_ok-x-in-And-clause-within : goal.resolve-returns-in_ok-x-in-And-clause-within
resolve-returns-in_ok-x-in-And-clause-within t c = c.with-in-And.ensures.within

pub resolve-returns-in_ok-x-in-Or-clause-found : goal.resolve-returns-in_ok-x-in-Or-clause-found
resolve-returns-in_ok-x-in-Or-clause-found t c =
    let look = known_of c.args.known.now in
    let locals = locals_of c.args.locals.now in
    later_as found _ c.with-in-Or.result _ _ c.with-in-Or.ensures.found
    (λ u g.
    let ex = c.in_ok-x-in-Or.ensures.found u (grows_trans _ _ u c.with-in-Or.ensures.grows g) in
    ap (λ (r : Resolved). value (Or r.tree (resolved look locals (bare_expr c.in-Or.b)).tree) int) ex
    ∙ sym (ap (resolved look locals) (by_node c.args.expr.now _ c.in-Or.is)))

pub resolve-returns-in_err-x-in-Or-clause-grows : goal.resolve-returns-in_err-x-in-Or-clause-grows
resolve-returns-in_err-x-in-Or-clause-grows t c = c.in_err-x-in-Or.ensures.grows

pub resolve-returns-in_ok-x-in-Or-clause-grows : goal.resolve-returns-in_ok-x-in-Or-clause-grows
resolve-returns-in_ok-x-in-Or-clause-grows t c = grows_trans _ _ _ c.in_ok-x-in-Or.ensures.grows c.with-in-Or.ensures.grows

pub resolve-returns-in_ok-x-in-Or-clause-within : goal.resolve-returns-in_ok-x-in-Or-clause-within
resolve-returns-in_ok-x-in-Or-clause-within t c = c.with-in-Or.ensures.within

pub resolve-returns-in_ok-x-in-Assign-clause-found : goal.resolve-returns-in_ok-x-in-Assign-clause-found
resolve-returns-in_ok-x-in-Assign-clause-found t c =
    let look = known_of c.args.known.now in
    let locals = locals_of c.args.locals.now in
    later_as found _ c.with-in-Assign.result _ _ c.with-in-Assign.ensures.found
    (λ u g.
    let ex = c.in_ok-x-in-Assign.ensures.found u (grows_trans _ _ u c.with-in-Assign.ensures.grows g) in
    ap (λ (r : Resolved). assignment r (resolved look locals (bare_expr c.in-Assign.b))) ex
    ∙ sym (ap (resolved look locals) (by_node c.args.expr.now _ c.in-Assign.is)))

pub resolve-returns-in_err-x-in-Assign-clause-grows : goal.resolve-returns-in_err-x-in-Assign-clause-grows
resolve-returns-in_err-x-in-Assign-clause-grows t c = c.in_err-x-in-Assign.ensures.grows

pub resolve-returns-in_ok-x-in-Assign-clause-grows : goal.resolve-returns-in_ok-x-in-Assign-clause-grows
resolve-returns-in_ok-x-in-Assign-clause-grows t c = grows_trans _ _ _ c.in_ok-x-in-Assign.ensures.grows c.with-in-Assign.ensures.grows

pub resolve-returns-in_ok-x-in-Assign-clause-within : goal.resolve-returns-in_ok-x-in-Assign-clause-within
resolve-returns-in_ok-x-in-Assign-clause-within t c = c.with-in-Assign.ensures.within

pub resolve-returns-in_ok-x-in-Update-clause-found : goal.resolve-returns-in_ok-x-in-Update-clause-found
resolve-returns-in_ok-x-in-Update-clause-found t c =
    let look = known_of c.args.known.now in
    let locals = locals_of c.args.locals.now in
    later_as found _ c.with-in-Update.result _ _ c.with-in-Update.ensures.found
    (λ u g.
    let ex = c.in_ok-x-in-Update.ensures.found u (grows_trans _ _ u c.with-in-Update.ensures.grows g) in
    ap (λ (r : Resolved). update c.in-Update.op r (resolved look locals (bare_expr c.in-Update.b))) ex
    ∙ sym (ap (resolved look locals) (by_node c.args.expr.now _ c.in-Update.is)))

pub resolve-returns-in_err-x-in-Update-clause-grows : goal.resolve-returns-in_err-x-in-Update-clause-grows
resolve-returns-in_err-x-in-Update-clause-grows t c = c.in_err-x-in-Update.ensures.grows

pub resolve-returns-in_ok-x-in-Update-clause-grows : goal.resolve-returns-in_ok-x-in-Update-clause-grows
resolve-returns-in_ok-x-in-Update-clause-grows t c = grows_trans _ _ _ c.in_ok-x-in-Update.ensures.grows c.with-in-Update.ensures.grows

pub resolve-returns-in_ok-x-in-Update-clause-within : goal.resolve-returns-in_ok-x-in-Update-clause-within
resolve-returns-in_ok-x-in-Update-clause-within t c = c.with-in-Update.ensures.within

pub resolve-returns-in_ok-x-in-Create-clause-found : goal.resolve-returns-in_ok-x-in-Create-clause-found
resolve-returns-in_ok-x-in-Create-clause-found t c =
    let look = known_of c.args.known.now in
    let locals = locals_of c.args.locals.now in
    later_as found _ c.with-in-Create.result _ _ c.with-in-Create.ensures.found
    (λ u g.
    let ex = c.in_ok-x-in-Create.ensures.found u (grows_trans _ _ u c.with-in-Create.ensures.grows g) in
    ap (λ (name : Bytes). value (Create (found u c.in_ok-x-in-Create.x).place name (handed (parameters_of (look name)) (resolved look locals (bare_expr c.in-Create.b)).tree)) int) c.as_str-in-Create.ensures
    ∙ ap (λ (r : Resolved). value (Create r.place c.in-Create.name.text (handed (parameters_of (look c.in-Create.name.text)) (resolved look locals (bare_expr c.in-Create.b)).tree)) int) ex
    ∙ sym (ap (resolved look locals) (by_node c.args.expr.now _ c.in-Create.is)))

pub resolve-returns-in_err-x-in-Create-clause-grows : goal.resolve-returns-in_err-x-in-Create-clause-grows
resolve-returns-in_err-x-in-Create-clause-grows t c = c.in_err-x-in-Create.ensures.grows

pub resolve-returns-in_ok-x-in-Create-clause-grows : goal.resolve-returns-in_ok-x-in-Create-clause-grows
resolve-returns-in_ok-x-in-Create-clause-grows t c = grows_trans _ _ _ c.in_ok-x-in-Create.ensures.grows c.with-in-Create.ensures.grows

pub resolve-returns-in_ok-x-in-Create-clause-within : goal.resolve-returns-in_ok-x-in-Create-clause-within
resolve-returns-in_ok-x-in-Create-clause-within t c = c.with-in-Create.ensures.within

pub resolve-returns-in_ok-x-in-JoinInto-clause-found : goal.resolve-returns-in_ok-x-in-JoinInto-clause-found
resolve-returns-in_ok-x-in-JoinInto-clause-found t c =
    let look = known_of c.args.known.now in
    let locals = locals_of c.args.locals.now in
    later_as found _ c.with-in-JoinInto.result _ _ c.with-in-JoinInto.ensures.found
    (λ u g.
    let ex = c.in_ok-x-in-JoinInto.ensures.found u (grows_trans _ _ u c.with-in-JoinInto.ensures.grows g) in
    ap (λ (r : Resolved). value (JoinInto r.tree (resolved look locals (bare_expr c.in-JoinInto.b)).place) int) ex
    ∙ sym (ap (resolved look locals) (by_node c.args.expr.now _ c.in-JoinInto.is)))

pub resolve-returns-in_err-x-in-JoinInto-clause-grows : goal.resolve-returns-in_err-x-in-JoinInto-clause-grows
resolve-returns-in_err-x-in-JoinInto-clause-grows t c = c.in_err-x-in-JoinInto.ensures.grows

pub resolve-returns-in_ok-x-in-JoinInto-clause-grows : goal.resolve-returns-in_ok-x-in-JoinInto-clause-grows
resolve-returns-in_ok-x-in-JoinInto-clause-grows t c = grows_trans _ _ _ c.in_ok-x-in-JoinInto.ensures.grows c.with-in-JoinInto.ensures.grows

pub resolve-returns-in_ok-x-in-JoinInto-clause-within : goal.resolve-returns-in_ok-x-in-JoinInto-clause-within
resolve-returns-in_ok-x-in-JoinInto-clause-within t c = c.with-in-JoinInto.ensures.within

pub resolve-returns-in_ok-y-in-Choice-clause-found : goal.resolve-returns-in_ok-y-in-Choice-clause-found
resolve-returns-in_ok-y-in-Choice-clause-found t c =
    let look = known_of c.args.known.now in
    let locals = locals_of c.args.locals.now in
    later_as found _ c.choice.result _ _ c.choice.ensures.found
    (λ u g.
    let g3 = grows_trans _ _ u c.choice.ensures.grows g in
    let g2 = grows_trans _ _ u c.in_ok-y-in-Choice.ensures.grows g3 in
    let g1 = grows_trans _ _ u c.in_ok-x-in-Choice.ensures.grows g2 in
    let ez = c.in_ok-z-in-Choice.ensures.found u g1 in
    let ex = c.in_ok-x-in-Choice.ensures.found u g2 in
    let ey = c.in_ok-y-in-Choice.ensures.found u g3 in
    ap (λ (r : Resolved). choice r (found u c.in_ok-x-in-Choice.x) (found u c.in_ok-y-in-Choice.y)) ez
    ∙ ap (λ (r : Resolved). choice (resolved look locals (bare_expr c.in-Choice.c)) r (found u c.in_ok-y-in-Choice.y)) ex
    ∙ ap (λ (r : Resolved). choice (resolved look locals (bare_expr c.in-Choice.c)) (resolved look locals (bare_expr c.in-Choice.a)) r) ey
    ∙ sym (ap (resolved look locals) (by_node c.args.expr.now _ c.in-Choice.is)))

pub resolve-choice-requires : goal.resolve-choice-requires
resolve-choice-requires t c =
    let x = in_later _ _ _ c.in_ok-y-in-Choice.ensures.grows c.in_ok-x-in-Choice.ensures.within in
    let z = in_later _ _ _ c.in_ok-y-in-Choice.ensures.grows (in_later _ _ _ c.in_ok-x-in-Choice.ensures.grows c.in_ok-z-in-Choice.ensures.within) in
    both_in _ (in_found c.in_ok-z-in-Choice.z) (both (in_found c.in_ok-x-in-Choice.x) (in_found c.in_ok-y-in-Choice.y)) z
    (both_in _ (in_found c.in_ok-x-in-Choice.x) (in_found c.in_ok-y-in-Choice.y) x c.in_ok-y-in-Choice.ensures.within)

pub resolve-returns-in_err-z-in-Choice-clause-grows : goal.resolve-returns-in_err-z-in-Choice-clause-grows
resolve-returns-in_err-z-in-Choice-clause-grows t c = c.in_err-z-in-Choice.ensures.grows

pub resolve-returns-in_err-x-in-Choice-clause-grows : goal.resolve-returns-in_err-x-in-Choice-clause-grows
resolve-returns-in_err-x-in-Choice-clause-grows t c = grows_trans _ _ _ c.in_ok-z-in-Choice.ensures.grows c.in_err-x-in-Choice.ensures.grows

pub resolve-returns-in_err-y-in-Choice-clause-grows : goal.resolve-returns-in_err-y-in-Choice-clause-grows
resolve-returns-in_err-y-in-Choice-clause-grows t c = grows_trans _ _ _ c.in_ok-z-in-Choice.ensures.grows (grows_trans _ _ _ c.in_ok-x-in-Choice.ensures.grows c.in_err-y-in-Choice.ensures.grows)

pub resolve-returns-in_ok-y-in-Choice-clause-grows : goal.resolve-returns-in_ok-y-in-Choice-clause-grows
resolve-returns-in_ok-y-in-Choice-clause-grows t c = grows_trans _ _ _ c.in_ok-z-in-Choice.ensures.grows (grows_trans _ _ _ c.in_ok-x-in-Choice.ensures.grows (grows_trans _ _ _ c.in_ok-y-in-Choice.ensures.grows c.choice.ensures.grows))

pub resolve-returns-in_ok-y-in-Choice-clause-within : goal.resolve-returns-in_ok-y-in-Choice-clause-within
resolve-returns-in_ok-y-in-Choice-clause-within t c = c.choice.ensures.within

pub one-returns-clause-found : goal.one-returns-clause-found
one-returns-clause-found t c =
    later_as found _ c.made_of_one.result _ _ c.made_of_one.ensures.found
    (λ u g. ap (of_one (known_of c.args.known.now) c.args.form) (c.in_ok-x.ensures.found u (grows_trans _ _ u c.made_of_one.ensures.grows g)))

pub one-returns-in_err-x-clause-grows : goal.one-returns-in_err-x-clause-grows
one-returns-in_err-x-clause-grows t c = c.in_err-x.ensures.grows

pub one-returns-clause-grows : goal.one-returns-clause-grows
one-returns-clause-grows t c = grows_trans _ _ _ c.in_ok-x.ensures.grows c.made_of_one.ensures.grows

pub one-returns-clause-within : goal.one-returns-clause-within
one-returns-clause-within t c = c.made_of_one.ensures.within

pub with-returns-clause-found : goal.with-returns-clause-found
with-returns-clause-found t c =
    later_as found _ c.made_of_two.result _ _ c.made_of_two.ensures.found
    (λ u g. ap (of_two (known_of c.args.known.now) c.args.form (found u c.args.x)) (c.in_ok-y.ensures.found u (grows_trans _ _ u c.made_of_two.ensures.grows g)))

pub with-made_of_two-requires : goal.with-made_of_two-requires
with-made_of_two-requires t c =
    both_in _ (in_found c.args.x) (in_found c.in_ok-y.y) (in_later _ _ (in_found c.args.x) c.in_ok-y.ensures.grows c.requires) c.in_ok-y.ensures.within

pub with-returns-in_err-y-clause-grows : goal.with-returns-in_err-y-clause-grows
with-returns-in_err-y-clause-grows t c = c.in_err-y.ensures.grows

pub with-returns-clause-grows : goal.with-returns-clause-grows
with-returns-clause-grows t c = grows_trans _ _ _ c.in_ok-y.ensures.grows c.made_of_two.ensures.grows

pub with-returns-clause-within : goal.with-returns-clause-within
with-returns-clause-within t c = c.made_of_two.ensures.within

pub resolve-returns-in-Number-clause-within : goal.resolve-returns-in-Number-clause-within
resolve-returns-in-Number-clause-within t c = c.constant.ensures.within

pub resolve-returns-in-Number-clause-grows : goal.resolve-returns-in-Number-clause-grows
resolve-returns-in-Number-clause-grows t c = c.constant.ensures.grows

pub resolve-returns-in-Character-clause-within : goal.resolve-returns-in-Character-clause-within
resolve-returns-in-Character-clause-within t c = c.constant-in-Character.ensures.within

pub resolve-returns-in-Character-clause-grows : goal.resolve-returns-in-Character-clause-grows
resolve-returns-in-Character-clause-grows t c = c.constant-in-Character.ensures.grows

pub resolve-returns-in-Null-clause-within : goal.resolve-returns-in-Null-clause-within
resolve-returns-in-Null-clause-within t c = c.constant-in-Null.ensures.within

pub resolve-returns-in-Null-clause-grows : goal.resolve-returns-in-Null-clause-grows
resolve-returns-in-Null-clause-grows t c = c.constant-in-Null.ensures.grows

pub resolve-returns-in-Success-clause-within : goal.resolve-returns-in-Success-clause-within
resolve-returns-in-Success-clause-within t c = c.constant-in-Success.ensures.within

pub resolve-returns-in-Success-clause-grows : goal.resolve-returns-in-Success-clause-grows
resolve-returns-in-Success-clause-grows t c = c.constant-in-Success.ensures.grows

pub resolve-returns-in-Error-clause-within : goal.resolve-returns-in-Error-clause-within
resolve-returns-in-Error-clause-within t c = c.constant-in-Error.ensures.within

pub resolve-returns-in-Error-clause-grows : goal.resolve-returns-in-Error-clause-grows
resolve-returns-in-Error-clause-grows t c = c.constant-in-Error.ensures.grows

pub resolve-returns-in-Variable-clause-within : goal.resolve-returns-in-Variable-clause-within
resolve-returns-in-Variable-clause-within t c = c.variable.ensures.within

pub resolve-returns-in-Variable-clause-grows : goal.resolve-returns-in-Variable-clause-grows
resolve-returns-in-Variable-clause-grows t c = c.variable.ensures.grows

pub resolve-returns-in-Unary-clause-within : goal.resolve-returns-in-Unary-clause-within
resolve-returns-in-Unary-clause-within t c = c.one.ensures.within

pub resolve-returns-in-Unary-clause-grows : goal.resolve-returns-in-Unary-clause-grows
resolve-returns-in-Unary-clause-grows t c = c.one.ensures.grows

pub resolve-returns-in-Step-clause-within : goal.resolve-returns-in-Step-clause-within
resolve-returns-in-Step-clause-within t c = c.one-in-Step.ensures.within

pub resolve-returns-in-Step-clause-grows : goal.resolve-returns-in-Step-clause-grows
resolve-returns-in-Step-clause-grows t c = c.one-in-Step.ensures.grows

pub resolve-returns-in-Cast-clause-within : goal.resolve-returns-in-Cast-clause-within
resolve-returns-in-Cast-clause-within t c = c.one-in-Cast.ensures.within

pub resolve-returns-in-Cast-clause-grows : goal.resolve-returns-in-Cast-clause-grows
resolve-returns-in-Cast-clause-grows t c = c.one-in-Cast.ensures.grows

pub resolve-returns-in-Call-clause-within : goal.resolve-returns-in-Call-clause-within
resolve-returns-in-Call-clause-within t c = c.many.ensures.within

pub resolve-returns-in-Call-clause-grows : goal.resolve-returns-in-Call-clause-grows
resolve-returns-in-Call-clause-grows t c = c.many.ensures.grows

pub resolve-returns-in-Element-clause-within : goal.resolve-returns-in-Element-clause-within
resolve-returns-in-Element-clause-within t c = c.one-in-Element.ensures.within

pub resolve-returns-in-Element-clause-grows : goal.resolve-returns-in-Element-clause-grows
resolve-returns-in-Element-clause-grows t c = c.one-in-Element.ensures.grows

pub resolve-returns-in-Arrow-clause-within : goal.resolve-returns-in-Arrow-clause-within
resolve-returns-in-Arrow-clause-within t c = c.one-in-Arrow.ensures.within

pub resolve-returns-in-Arrow-clause-grows : goal.resolve-returns-in-Arrow-clause-grows
resolve-returns-in-Arrow-clause-grows t c = c.one-in-Arrow.ensures.grows

pub resolve-returns-in-Dot-clause-within : goal.resolve-returns-in-Dot-clause-within
resolve-returns-in-Dot-clause-within t c = c.constant-in-Dot.ensures.within

pub resolve-returns-in-Dot-clause-grows : goal.resolve-returns-in-Dot-clause-grows
resolve-returns-in-Dot-clause-grows t c = c.constant-in-Dot.ensures.grows

pub resolve-returns-in-Print-clause-within : goal.resolve-returns-in-Print-clause-within
resolve-returns-in-Print-clause-within t c = c.many-in-Print.ensures.within

pub resolve-returns-in-Print-clause-grows : goal.resolve-returns-in-Print-clause-grows
resolve-returns-in-Print-clause-grows t c = c.many-in-Print.ensures.grows

pub resolve-returns-in-Calloc-clause-within : goal.resolve-returns-in-Calloc-clause-within
resolve-returns-in-Calloc-clause-within t c = c.calloc.ensures.within

pub resolve-returns-in-Calloc-clause-grows : goal.resolve-returns-in-Calloc-clause-grows
resolve-returns-in-Calloc-clause-grows t c = c.calloc.ensures.grows

pub resolve-returns-in-Free-clause-within : goal.resolve-returns-in-Free-clause-within
resolve-returns-in-Free-clause-within t c = c.one-in-Free.ensures.within

pub resolve-returns-in-Free-clause-grows : goal.resolve-returns-in-Free-clause-grows
resolve-returns-in-Free-clause-grows t c = c.one-in-Free.ensures.grows

pub resolve-returns-in-Join-clause-within : goal.resolve-returns-in-Join-clause-within
resolve-returns-in-Join-clause-within t c = c.one-in-Join.ensures.within

pub resolve-returns-in-Join-clause-grows : goal.resolve-returns-in-Join-clause-grows
resolve-returns-in-Join-clause-grows t c = c.one-in-Join.ensures.grows

pub resolve-returns-in-InitMutex-clause-within : goal.resolve-returns-in-InitMutex-clause-within
resolve-returns-in-InitMutex-clause-within t c = c.init_mutex.ensures.within

pub resolve-returns-in-InitMutex-clause-grows : goal.resolve-returns-in-InitMutex-clause-grows
resolve-returns-in-InitMutex-clause-grows t c = c.init_mutex.ensures.grows

pub resolve-returns-in-Lock-clause-within : goal.resolve-returns-in-Lock-clause-within
resolve-returns-in-Lock-clause-within t c = c.lock.ensures.within

pub resolve-returns-in-Lock-clause-grows : goal.resolve-returns-in-Lock-clause-grows
resolve-returns-in-Lock-clause-grows t c = c.lock.ensures.grows

pub resolve-returns-in-Unlock-clause-within : goal.resolve-returns-in-Unlock-clause-within
resolve-returns-in-Unlock-clause-within t c = c.unlock.ensures.within

pub resolve-returns-in-Unlock-clause-grows : goal.resolve-returns-in-Unlock-clause-grows
resolve-returns-in-Unlock-clause-grows t c = c.unlock.ensures.grows
