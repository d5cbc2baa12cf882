use Rattle.std.proofs.Common.{refl, subst}
use Rattle.offer_decision.specs.Steps.{SaysRight}
use Rattle.offer_decision.proofs.offer.answer.Goals as goal

pub returns-in-Admitted : goal.returns-in-Admitted
returns-in-Admitted c = λ over rules bodies slots list other are store own in_c in_i. (
  refl,
  subst (SaysRight rules bodies slots c.args.seats.now c.args.names.now list other) c.in-Admitted.is
      (c.tested_over.ensures over rules bodies slots list other are store own in_c in_i),
)

pub returns-in-Refused : goal.returns-in-Refused
returns-in-Refused c = λ over rules bodies slots list other are store own in_c in_i.
    subst (SaysRight rules bodies slots c.args.seats.now c.args.names.now list other) c.in-Refused.is
    (c.tested_over.ensures over rules bodies slots list other are store own in_c in_i)
