use Rattle.std.proofs.Common.{◌≡◌, sym, ◌∙◌, arith, bytes_eq, true, false}
use Rattle.type_transformers.proofs.Finding.{find_passes, find_is_here}
use Rattle.type_transformers.proofs.fields.value_for.Goals as goal

pub returns-then-eq : goal.returns-then-eq
returns-then-eq c =
    let same : bytes_eq c.args.name.now c.value-item.result.field.text ≡ true = cc in
    sym (c.loop-value.invariant
    ∙ find_is_here (λ v. bytes_eq c.args.name.now v.field.text) c.args.given.now c.loop-value.value-index c.value-item.result (omega arith) c.value-item.is same)

pub loop-value-preserved : goal.loop-value-preserved
loop-value-preserved c =
    let differs : bytes_eq c.args.name.now c.value-item.result.field.text ≡ false = cc in
    c.loop-value.invariant
    ∙ find_passes (λ v. bytes_eq c.args.name.now v.field.text) c.args.given.now c.loop-value.value-index c.value-item.result (omega arith) c.value-item.is differs
