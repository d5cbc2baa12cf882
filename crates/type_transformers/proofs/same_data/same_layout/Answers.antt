use Rattle.std.proofs.Common.{◌<◌, ◌+◌, length, sym, ap, ◌∙◌, ◌&&◌, arith}
use Rattle.c_tree.specs.Bare.{bare_binding}
use Rattle.c_semantics.specs.Same.{same_binding}
use Rattle.type_transformers.proofs.Items.{from, from_item, from_end, other_lengths}
use Rattle.type_transformers.proofs.same_data.same_layout.Goals as goal

pub loop-i-preserved : goal.loop-i-preserved
loop-i-preserved c =
    let also : c.loop-i.i < length c.args.b.now = omega (arith, c.loop-i-test.true, c.if-a-b.false) in
    c.loop-i.invariant
    ∙ from_item bare_binding same_binding c.args.a.now c.args.b.now c.loop-i.i _ _ c.loop-i-test.true also c.index-a-i.is c.index-b-i.is
    ∙ ap (λ b. b && from bare_binding same_binding c.args.a.now c.args.b.now (c.loop-i.i + 1)) (sym c.same_binding.ensures ∙ c.if-not-same_binding.false)

pub returns-then-not-same_binding : goal.returns-then-not-same_binding
returns-then-not-same_binding c =
    let also : c.loop-i.i < length c.args.b.now = omega (arith, c.loop-i-test.true, c.if-a-b.false) in
    sym
    (c.loop-i.invariant
    ∙ from_item bare_binding same_binding c.args.a.now c.args.b.now c.loop-i.i _ _ c.loop-i-test.true also c.index-a-i.is c.index-b-i.is
    ∙ ap (λ b. b && from bare_binding same_binding c.args.a.now c.args.b.now (c.loop-i.i + 1)) (sym c.same_binding.ensures ∙ c.if-not-same_binding.true))

pub returns : goal.returns
returns c =
    sym (c.loop-i.invariant ∙ from_end bare_binding same_binding c.args.a.now c.args.b.now c.loop-i.i c.loop-i-test.false c.if-a-b.false)

pub returns-then-a-b : goal.returns-then-a-b
returns-then-a-b c = sym (other_lengths bare_binding same_binding c.args.a.now c.args.b.now c.if-a-b.true)
