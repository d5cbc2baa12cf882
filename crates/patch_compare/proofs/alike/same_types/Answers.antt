use Rattle.std.proofs.Common.{◌<◌, ◌+◌, length, get_or, sym, ap, ◌∙◌, ◌&&◌, arith}
use Rattle.c_tree.specs.Bare.{bare_type}
use Rattle.c_tree.specs.BareExpr.{BareType}
use Rattle.c_tree.specs.declared.def.Binding.{Binding}
use Rattle.c_semantics.specs.Same.{same_type}
use Rattle.patch_compare.proofs.Items.{from, from_item, from_end, other_lengths}
use Rattle.patch_compare.proofs.alike.same_types.Goals as goal

abbrev type_of : Binding → BareType
type_of b = bare_type b.declared

pub loop-i-preserved : goal.loop-i-preserved
loop-i-preserved c =
    let also : c.loop-i.i < length c.args.b.now = omega (arith, c.loop-i-test.true, c.if-a-b.false) in
    c.loop-i.invariant
    ∙ from_item type_of same_type c.args.a.now c.args.b.now c.loop-i.i _ _ c.loop-i-test.true also (ap (get_or c.args.a.now c.loop-i.i) c.index-a-i.is) (ap (get_or c.args.b.now c.loop-i.i) c.index-b-i.is)
    ∙ ap (λ b. b && from type_of same_type c.args.a.now c.args.b.now (c.loop-i.i + 1)) (sym c.same_type.ensures ∙ c.if-not-same_type.false)

pub returns-then-not-same_type : goal.returns-then-not-same_type
returns-then-not-same_type c =
    let also : c.loop-i.i < length c.args.b.now = omega (arith, c.loop-i-test.true, c.if-a-b.false) in
    sym
    (c.loop-i.invariant
    ∙ from_item type_of same_type c.args.a.now c.args.b.now c.loop-i.i _ _ c.loop-i-test.true also (ap (get_or c.args.a.now c.loop-i.i) c.index-a-i.is) (ap (get_or c.args.b.now c.loop-i.i) c.index-b-i.is)
    ∙ ap (λ b. b && from type_of same_type c.args.a.now c.args.b.now (c.loop-i.i + 1)) (sym c.same_type.ensures ∙ c.if-not-same_type.true))

pub returns : goal.returns
returns c =
    sym (c.loop-i.invariant ∙ from_end type_of same_type c.args.a.now c.args.b.now c.loop-i.i c.loop-i-test.false c.if-a-b.false)

pub returns-then-a-b : goal.returns-then-a-b
returns-then-a-b c = sym (other_lengths type_of same_type c.args.a.now c.args.b.now c.if-a-b.true)
