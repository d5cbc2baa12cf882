use Rattle.std.proofs.Common.{◌<◌, arith, subst}
use Rattle.std.specs.Int.{trailing_zeros, w32}
use Rattle.slot_sets.specs.Members.{HasNoneFrom, IsFirstFrom}
use Rattle.slot_sets.proofs.Bits.{first_left, none_left, none_past, rest_from}
use Rattle.slot_sets.proofs.set.SlotSet.first_from.Goals as goal

pub returns-then-slot-ge-MOST_SLOTS : goal.returns-then-slot-ge-MOST_SLOTS
returns-then-slot-ge-MOST_SLOTS c =
    subst (λ set. HasNoneFrom set c.args.slot) c.self.view_is
    (none_past c.self.inside.bits c.args.slot c.self.invariant (omega (arith, c.if-slot-ge-MOST_SLOTS.true)))

pub returns-then-rest-eq0 : goal.returns-then-rest-eq0
returns-then-rest-eq0 c =
    subst (λ set. HasNoneFrom set c.args.slot) c.self.view_is
    (none_left c.self.inside.bits c.args.slot c.self.invariant c.if-rest-eq0.true)

pub returns : goal.returns
returns c =
    let within : c.args.slot < 32 = omega (arith, c.if-slot-ge-MOST_SLOTS.false) in
    let some : 0 < rest_from c.self.inside.bits c.args.slot = omega (arith, c.if-rest-eq0.false) in
    subst (λ set. IsFirstFrom set c.args.slot (trailing_zeros w32 (rest_from c.self.inside.bits c.args.slot))) c.self.view_is
    (first_left c.self.inside.bits c.args.slot c.self.invariant within some)
