use Rattle.std.proofs.Common.{Err, ap, ◌∙◌, arith}
use Rattle.patch_build.proofs.Tables.{added_more, too_many}
use Rattle.installed_versions.proofs.installed.add_all.Goals as goal

pub loop-text-preserved : goal.loop-text-preserved
loop-text-preserved c =
    c.in-Ok.ensures.texts
    ∙ added_more c.args.names.now c.loop-text.names c.args.texts.now c.loop-text.text-index c.text-item.result c.as_str.result.now
    c.loop-text-test.true c.text-item.is c.as_str.ensures.value c.loop-text.invariant

-- a full table that lacks a text would make them too many
pub unreachable-requires : goal.unreachable-requires
unreachable-requires c =
    let full = c.in-Err-Full.ensures.full.0 (ap Err c.in-Err-Full.field-0-is) in
    let many =
    too_many c.args.names.now c.loop-text.names c.args.texts.now c.loop-text.text-index c.text-item.result c.as_str.result.now
    c.loop-text-test.true c.text-item.is c.as_str.ensures.value c.loop-text.invariant full.0 full.1
    in
    omega (arith, c.requires, many)
