use Rattle.std.proofs.Common.{◌+◌, [], ◌∷◌, refl, ap, ◌∙◌}
use Rattle.c_semantics.specs.Stops as stop
use Rattle.resolved_tree.specs.Nodes.{statements_at, type_of}
use Rattle.bytecode.specs.Instructions.{Halt}
use Rattle.bytecode.specs.Seen.{code_of}
use Rattle.expr_gen.specs.Scope.{variables_of}
use Rattle.bytecode_gen.specs.declared.part.Jumps.{Jumps}
use Rattle.bytecode_gen.specs.Tails.{trees_of, look_of}
use Rattle.bytecode_gen.proofs.BodyCode.{whole_body}
use Rattle.bytecode_gen.proofs.Preceding.{precedes_as}
use Rattle.bytecode_gen.proofs.Scoping.{in_one_scope}
use Rattle.bytecode_gen.proofs.Walking.{scope_of}
use Rattle.bytecode_gen.proofs.body.body_code.Goals as goal

pub returns : goal.returns
returns c =
    let s = c.args.source.now in
    let t = trees_of s in
    let parameters = c.args.parameters.now in
    let last = c.in_ok-last.last in
    let tail = c.precede.new.tail in
    let jumps : Jumps = record { broken = c.len.result; continued = c.len-2.result } in
    ap (code_of t) c.reversed.ensures
    ∙ whole_body (look_of s) (variables_of t parameters) (type_of t c.args.returned) (statements_at t c.args.body) jumps last c.new-tail.ensures.items
    (c.in_ok-last.ensures ∙ ap (λ n. n + 1) c.statements_points.ensures) (c.len.ensures ∙ tail.ok.0) (c.len-2.ensures ∙ tail.ok.0)
    (precedes_as (ap (λ i. i ∷ Halt stop.Return last ∷ []) (c.zero.ensures t)) (c.in_ok-precede.ensures t))
    (c.in_ok-statements.ensures.emits.code (variables_of t parameters ∷ []) (scope_of c.in_ok-variables.ensures.items refl (in_one_scope t parameters)))
    (c.in_ok-precede-2.ensures t)
