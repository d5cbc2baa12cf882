use Rattle.std.proofs.Common.{length, inl, inr, arith, refl}
use Rattle.std.proofs.lemmas.Bool.{cases_lt}
use Rattle.c_tree.specs.Bare.{bare_binding}
use Rattle.type_transformers.specs.Hows.{how_of}
use Rattle.changes_report.proofs.Adding.{fields_more, fields_all}
use Rattle.changes_report.proofs.lines.add_fields.Goals as goal

pub loop-index-init : goal.loop-index-init
loop-index-init c = refl

pub loop-index-preserved : goal.loop-index-preserved
loop-index-preserved c =
    fields_more bare_binding how_of c.args.name.now _ _ _ c.args.fields.now c.args.changes.now c.loop-index.index
    c.index-fields-index.result c.index-changes-index.result (omega arith) (omega arith) c.index-fields-index.is c.index-changes-index.is
    c.loop-index.invariant c.in_ok-add_field.ensures

pub returns : goal.returns
returns c =
    fields_all bare_binding how_of c.args.name.now _ _ c.args.fields.now c.args.changes.now c.loop-index.index
    (elim (cases_lt c.loop-index.index (length c.args.fields.now)) [ inl less ↦ inr (omega arith) | inr all ↦ inl all ])
    c.loop-index.invariant
