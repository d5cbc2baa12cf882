use Rattle.std.proofs.Common.{◌≡◌, sym, ◌∙◌, arith, bytes_eq, true, false}
use Rattle.type_transformers.proofs.Placing.{place_passes, place_is_here}
use Rattle.type_transformers.proofs.layout.place_in.Goals as goal

pub returns-then-eq-clause-place : goal.returns-then-eq-clause-place
returns-then-eq-clause-place c =
    let same : bytes_eq c.args.name.now c.index-fields-place.result.name.text ≡ true = cc in
    sym (c.loop-place.invariant
    ∙ place_is_here c.args.fields.now c.args.name.now c.loop-place.place c.index-fields-place.result (omega arith) c.index-fields-place.is same)

pub loop-place-preserved : goal.loop-place-preserved
loop-place-preserved c =
    let differs : bytes_eq c.args.name.now c.index-fields-place.result.name.text ≡ false = cc in
    c.loop-place.invariant
    ∙ place_passes c.args.fields.now c.args.name.now c.loop-place.place c.index-fields-place.result (omega arith) c.index-fields-place.is differs
