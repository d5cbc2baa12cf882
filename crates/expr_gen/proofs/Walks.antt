-- What the walk adds to code, of what it adds for the parts of an expression.
use Rattle.std.proofs.Common.{◌≡◌, ℕ, List, ap, ◌∙◌}
use Rattle.c_semantics.specs.Resolved.{Expression}
use Rattle.c_semantics.specs.Texts.{Definitions}
use Rattle.typed_trees.specs.ValueTypes.{Environment}
use Rattle.typed_trees.specs.ExpressionTypes.{type_of}
use Rattle.resolved_tree.specs.declared.node.ExpressionNode.{ExpressionNode}
use Rattle.resolved_tree.specs.Nodes.{Table, expression_of}
use Rattle.bytecode.specs.declared.instr.Instr.{Instr}
use Rattle.bytecode.specs.declared.kind.ValueKind.{ValueKind}
use Rattle.tree_code.specs.Code.{kind_of_type, value}
use Rattle.expr_gen.specs.declared.ending.Ready.{Ready}
use Rattle.expr_gen.specs.Endings.{ending, left_kind}
use Rattle.expr_gen.specs.Operands.{operands_of, operand_kind}
use Rattle.expr_gen.specs.Walk.{IsReady}
use Rattle.expr_gen.specs.Scope.{Adds}
use Rattle.expr_gen.proofs.Adding.{adds_as, adds_more}
use Rattle.expr_gen.proofs.Parts.{IsPlain, whole, left}

-- an expression that evaluates its parts without a test
pub adds_whole : {t : Table} {look : Definitions} {env : Environment} {u v w : List Instr} {r : Ready} {e : Expression}
    (node : ExpressionNode) (n : ℕ) → IsPlain node → expression_of t node ≡ e → IsReady t look env node n u v r
    → Adds t v w (ending env (expression_of t node) r.first r.second r.at) → Adds t u w (value look env e n)
adds_whole {t} {look} {env} {u} {v} {w} {r} {e} node n plain is ready last =
    let x = expression_of t node in
    let o = operands_of t node in
    let ends = ap (λ k. ending env x k r.second r.at) ready.first
    ∙ ap (λ k. ending env x (operand_kind t look env o.first) k r.at) ready.second
    ∙ ap (ending env x (operand_kind t look env o.first) (operand_kind t look env o.second)) ready.at in
    adds_as (whole t look env node n plain ∙ ap (λ y. value look env y n) is)
    (adds_more ready.code (adds_as ends last))

pub whole_kind : {t : Table} {look : Definitions} {env : Environment} {u v : List Instr} {r : Ready} {e : Expression} {kind : ValueKind}
    (node : ExpressionNode) (n : ℕ) → IsPlain node → expression_of t node ≡ e → IsReady t look env node n u v r
    → kind ≡ left_kind look env (expression_of t node) r.first r.second → kind ≡ kind_of_type (type_of look env e)
whole_kind {t} {look} {env} {u} {v} {r} {e} {kind} node n plain is ready h =
    let x = expression_of t node in
    h ∙ ap (λ k. left_kind look env x k r.second) ready.first
    ∙ ap (left_kind look env x (operand_kind t look env (operands_of t node).first)) ready.second
    ∙ left t look env node plain ∙ ap (λ y. kind_of_type (type_of look env y)) is
