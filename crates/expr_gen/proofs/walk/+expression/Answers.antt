use Rattle.std.proofs.Common.{ℕ, ◌+◌, [], ◌∷◌, ◌++◌, length, ap, ◌∙◌, arith}
use Rattle.std.proofs.lemmas.Result.{IfOk-weaker}
use Rattle.c_semantics.specs.Points.{size}
use Rattle.resolved_tree.specs.declared.node.NodeId.{NodeId}
use Rattle.resolved_tree.specs.Nodes.{expression_at}
use Rattle.tree_code.specs.Code.{Code, value}
use Rattle.expr_gen.specs.declared.operand.Operands.{Operands}
use Rattle.expr_gen.specs.Kinds.{leaping}
use Rattle.expr_gen.specs.Operands.{operand_weight}
use Rattle.expr_gen.specs.Scope.{trees_of, look_of, scope_of}
use Rattle.expr_gen.proofs.Adding.{adds_as}
use Rattle.expr_gen.proofs.Jumps.{adds_logical, adds_choice, place_there, second_there}
use Rattle.expr_gen.proofs.Parts.{IsPlain, operands_light}
use Rattle.expr_gen.proofs.Walks.{adds_whole, whole_kind}
use Rattle.expr_gen.proofs.walk.+expression.Goals as goal

pub prepare-operand-requires : goal.prepare-operand-requires
prepare-operand-requires m c =
    let t = trees_of c.args.context.now in
    let h = operands_light t c.args.node in
    let e = ap (λ (o : Operands). operand_weight t o.first) c.operands_in-first.ensures in
    (omega arith, tt)

pub prepare-operand-requires-2 : goal.prepare-operand-requires-2
prepare-operand-requires-2 m c =
    let t = trees_of c.args.context.now in
    let h = operands_light t c.args.node in
    let e = ap (λ (o : Operands). operand_weight t o.second) c.operands_in-first.ensures in
    (omega arith, tt)

pub expression-returns-in_ok-finish-in_default : goal.expression-returns-in_ok-finish-in_default
expression-returns-in_ok-finish-in_default m c =
    let node = c.expression-node.result in
    let plain : IsPlain node = record { no_and = c.in_default.not-And; no_or = c.in_default.not-Or; no_choice = c.in_default.not-Choice } in
    record {
      code = IfOk-weaker c.left_kind.result _ _
          (λ kind h. adds_whole node c.args.n plain c.expression-node.ensures c.in_ok-ready-in_default.ensures c.in_ok-finish-in_default.ensures)
          c.left_kind.ensures;
      kind = IfOk-weaker c.left_kind.result _ _
          (λ kind h. whole_kind node c.args.n plain c.expression-node.ensures c.in_ok-ready-in_default.ensures h) c.left_kind.ensures;
    }

pub logical-lead-requires : goal.logical-lead-requires
logical-lead-requires m c =
    let t = trees_of c.args.context.now in
    let h = place_there c.in_ok-skip.skip (c.in_ok-skip.ensures.place ∙ c.expression.new.code.ok.0) (c.in_ok-skip.ensures.code t)
    c.in_ok-expression-2.ensures.code (c.in_ok-put.ensures t) in
    let k = c.put.new.code.ok.0 in
    omega arith

pub logical-returns-clause-code : goal.logical-returns-clause-code
logical-returns-clause-code m c =
    let t = trees_of c.args.context.now in
    let right = value (look_of c.args.context.now) (scope_of c.args.context.now) (expression_at t c.args.sides.1) in
    adds_logical c.args.op c.in_ok-skip.skip c.in_ok-expression.ensures.code
    (c.in_ok-skip.ensures.place ∙ c.expression.new.code.ok.0) (c.in_ok-skip.ensures.code t)
    (adds_as (ap right c.in_ok-next.ensures) c.in_ok-expression-2.ensures.code) (c.in_ok-put.ensures t)
    (λ before inside i there at.
    c.in_ok-lead.ensures t before inside i there at ∙ ap (λ when. before ++ leaping when (length inside) ∷ inside) c.skipping.ensures)
    (adds_as (ap (λ i. i ∷ []) (c.skipped.ensures t)) (c.in_ok-put-2.ensures t))

pub choice-lead-requires : goal.choice-lead-requires
choice-lead-requires m c =
    let t = trees_of c.args.context.now in
    let h = place_there c.in_ok-to_second.to_second (c.in_ok-to_second.ensures.place ∙ c.expression.new.code.ok.0)
    (c.in_ok-to_second.ensures.code t) c.in_ok-kind.ensures.code (c.in_ok-past.ensures.code t) in
    let k = c.hole-2.new.code.ok.0 in
    omega arith

pub choice-lead-requires-2 : goal.choice-lead-requires-2
choice-lead-requires-2 m c =
    let t = trees_of c.args.context.now in
    let h = second_there c.in_ok-to_second.to_second c.in_ok-past.past c.in_ok-expression.ensures.code
    (c.in_ok-to_second.ensures.place ∙ c.expression.new.code.ok.0) (c.in_ok-to_second.ensures.code t) c.in_ok-kind.ensures.code
    (c.in_ok-past.ensures.place ∙ c.expression-2.new.code.ok.0) (c.in_ok-past.ensures.code t) (c.in_ok-lead.ensures t)
    c.in_ok-expression-2.ensures.code in
    let k = c.expression-3.new.code.ok.0 in
    omega arith

pub choice-returns-clause-code : goal.choice-returns-clause-code
choice-returns-clause-code m c =
    let t = trees_of c.args.context.now in
    let code : NodeId → ℕ → Code = λ e n. value (look_of c.args.context.now) (scope_of c.args.context.now) (expression_at t e) n in
    let p = c.args.parts in
    adds_choice c.in_ok-to_second.to_second c.in_ok-past.past c.in_ok-expression.ensures.code
    (c.in_ok-to_second.ensures.place ∙ c.expression.new.code.ok.0) (c.in_ok-to_second.ensures.code t)
    (adds_as (ap (code p.1) c.in_ok-first.ensures) c.in_ok-kind.ensures.code)
    (c.in_ok-past.ensures.place ∙ c.expression-2.new.code.ok.0) (c.in_ok-past.ensures.code t) (c.in_ok-lead.ensures t)
    (adds_as (ap (code p.2) (c.in_ok-second.ensures ∙ ap (λ n. n + size (expression_at t p.1)) c.in_ok-first.ensures)) c.in_ok-expression-2.ensures.code)
    (c.in_ok-lead-2.ensures t)
