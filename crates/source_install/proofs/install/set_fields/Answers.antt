use Rattle.std.proofs.Common.{arith}
use Rattle.source_install.proofs.InstallSteps.{with_fields_past, with_fields_set}
use Rattle.source_install.proofs.install.set_fields.Goals as goal

pub returns-then-new-len : goal.returns-then-new-len
returns-then-new-len c =
    let os = c.args.objects.now.all.items in
    with_fields_set c.args.new.number c.args.new.fields os c.index_mut.result.now (omega (arith, c.if-new-len.true, c.len.ensures, c.args.objects.now.all.ok.0)) c.index_mut.ensures.value

pub returns-else-new-len : goal.returns-else-new-len
returns-else-new-len c =
    let os = c.args.objects.now.all.items in
    with_fields_past c.args.new.number c.args.new.fields os (omega (arith, c.if-new-len.false, c.len.ensures, c.args.objects.now.all.ok.0))
