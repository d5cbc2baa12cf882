use Rattle.std.proofs.Common.{rules, ◌<◌, length, arith}
use Rattle.c_tree.specs.Bare.{bare_field_value}
use Rattle.c_tree.proofs.Lists.{equal_at}
use Rattle.c_tree.proofs.same.def.same_field_values.Goals as goal

pub returns-then-not-same_field_value : goal.returns-then-not-same_field_value
returns-then-not-same_field_value c = (
  λ h. cc,
  λ e.
      let below : c.loop-i.i < length c.args.b.now = omega (arith, c.loop-i-test.true, c.if-a-b.false) in
      let k = equal_at bare_field_value c.args.a.now c.args.b.now c.loop-i.i _ _ c.loop-i-test.true below c.index-a-i.is c.index-b-i.is e in
      let r = c.same_field_value.ensures.1 k in
      search (rules, r),
)
