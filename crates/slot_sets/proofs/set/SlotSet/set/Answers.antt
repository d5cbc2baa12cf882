use Rattle.std.proofs.Common.{◌==◌, ◌∙◌, ap, sym, if◌then◌else◌}
use Rattle.slot_sets.specs.Members.{is_in}
use Rattle.slot_sets.proofs.Bits.{with_slot, without_slot}
use Rattle.slot_sets.proofs.set.SlotSet.set.Goals as goal

pub returns-then-member : goal.returns-then-member
returns-then-member c = λ other.
    with_slot c.self.inside.bits c.args.slot c.requires other
    ∙ ap (λ b. if other == c.args.slot then b else is_in c.self.inside.bits other) (sym c.if-member.true)
    ∙ ap (λ n. if other == c.args.slot then c.args.member else is_in n other) c.self.view_is

pub returns-else-member : goal.returns-else-member
returns-else-member c = λ other.
    without_slot c.self.inside.bits c.args.slot c.self.invariant c.requires other
    ∙ ap (λ b. if other == c.args.slot then b else is_in c.self.inside.bits other) (sym c.if-member.false)
    ∙ ap (λ n. if other == c.args.slot then c.args.member else is_in n other) c.self.view_is
