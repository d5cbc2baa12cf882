use Rattle.std.proofs.Common.{◌≡◌, ◌∙◌, ◌+◌, ◌-◌, ◌<◌, ap, sym, drop, length, arith, [], ◌∷◌}
use Rattle.std.proofs.lemmas.List.{at_drop_all}
use Rattle.c_definitions.specs.Lookup.{members_of}
use Rattle.c_types.specs.TransformSyntax.{transforms_fields}
use Rattle.c_types.proofs.TransformedFields.{later_of, none_later, one_later, transforms_fields_step}
use Rattle.c_types.proofs.struct_transformer.transforms_struct.Goals as goal

pub loop-i-init : goal.loop-i-init
loop-i-init c =
    let vs = c.args.values.now in
    record {
      within = omega arith;
      later = c.new-later.ensures ∙ ap (λ t. t ∷ []) (sym none_later) ∙ sym (at_drop_all (λ ws. later_of ws ∷ []) vs (length vs) (omega arith));
      given = λ members is. sym (at_drop_all (transforms_fields c.args.known.now members) vs (length vs) (omega arith));
    }

pub loop-i-preserved : goal.loop-i-preserved
loop-i-preserved c =
    let vs = c.args.values.now in
    let i = c.loop-i.i - 1 in
    let below : i < length vs = omega (arith, c.loop-i.invariant.within, c.loop-i-test.true) in
    let next : i + 1 ≡ c.loop-i.i = omega (arith, c.loop-i-test.true) in
    let tables : c.loop-i.later ≡ later_of (drop (i + 1) vs) ∷ [] = c.loop-i.invariant.later ∙ ap (λ n. later_of (drop n vs) ∷ []) (sym next) in
    record {
      within = omega (arith, c.loop-i.invariant.within);
      later = one_later vs i c.index-values-i.result c.loop-i.later c.transforms_field.new.later below c.index-values-i.is tables c.in_ok-transforms_fields.ensures.fields;
      given = λ members is.
          transforms_fields_step c.args.known.now members (members_of c.args.known.now c.args.tag.now) vs i c.index-values-i.result c.loop-i.later
          c.loop-i.transforms_fields c.in_ok-transforms_fields.transforms_fields below c.index-values-i.is is tables
          (c.loop-i.invariant.given members is ∙ ap (λ n. transforms_fields c.args.known.now members (drop n vs)) (sym next))
          c.in_ok-transforms_fields.ensures.told;
    }
