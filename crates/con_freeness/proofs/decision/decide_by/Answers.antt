use Rattle.std.proofs.Common.{◌≡◌, ◌<◌, false, length, sym, ap, ◌∙◌, arith}
use Rattle.std.specs.Prelude.{option_map}
use Rattle.con_freeness.specs.Verdicts.{effect_seen}
use Rattle.con_freeness.specs.Rows.{obstacle}
use Rattle.con_freeness.proofs.EachSlot.{slot_at, row_at, pin_at, goes_on, refuses}
use Rattle.con_freeness.proofs.decision.decide_by.Goals as goal

pub returns-in-Some-clause-verdict : goal.returns-in-Some-clause-verdict
returns-in-Some-clause-verdict c = λ slots list other table are set other_set.
    let names = c.args.names.now in
    let n = c.loop-slot.slot in
    let s = slot_at slots n in
    let here : n < length c.args.in_force.now = omega (arith, c.type_inv.in_force, c.loop-slot-test.true) in
    let many : length c.args.pinned.now ≡ 16 = c.type_inv.pinned.1.1.0.1 in
    let row = row_at names c.args.in_force.now c.args.pinned.now slots n c.index-in_force-slot.result are here in
    let pin = pin_at names c.args.in_force.now c.args.pinned.now slots n false are here (omega (arith, many, c.loop-slot-test.true)) in
    refuses n slots list other (effect_seen names c.in-Some.effect) (omega (arith, are.many, here))
    (ap (option_map (effect_seen names)) (sym c.in-Some.is) ∙ c.obstacle.ensures.effect s.row list other table row set other_set
    ∙ ap (λ p. obstacle s.row p list other) pin)
    (c.loop-slot.invariant slots list other table are set other_set)

pub loop-slot-preserved : goal.loop-slot-preserved
loop-slot-preserved c = λ slots list other table are set other_set.
    let names = c.args.names.now in
    let n = c.loop-slot.slot in
    let s = slot_at slots n in
    let here : n < length c.args.in_force.now = omega (arith, c.type_inv.in_force, c.loop-slot-test.true) in
    let many : length c.args.pinned.now ≡ 16 = c.type_inv.pinned.1.1.0.1 in
    let row = row_at names c.args.in_force.now c.args.pinned.now slots n c.index-in_force-slot.result are here in
    let pin = pin_at names c.args.in_force.now c.args.pinned.now slots n false are here (omega (arith, many, c.loop-slot-test.true)) in
    goes_on n slots list other (omega (arith, are.many, here))
    (ap (option_map (effect_seen names)) (sym c.in_default.is) ∙ c.obstacle.ensures.effect s.row list other table row set other_set
    ∙ ap (λ p. obstacle s.row p list other) pin)
    (c.loop-slot.invariant slots list other table are set other_set)
