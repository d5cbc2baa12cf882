use Rattle.std.proofs.Common.{inl, inr}
use Rattle.plain_engine.proofs.Turning.{first_does, no_offer}
use Rattle.plain_engine.proofs.calls.slot_of.Goals as goal

pub returns-in-Move : goal.returns-in-Move
returns-in-Move c = λ g slots is. first_does g slots c.args.act c.in-Move.slot is (inl c.in-Move.is)

pub returns-in-CheckIn : goal.returns-in-CheckIn
returns-in-CheckIn c = λ g slots is. first_does g slots c.args.act c.in-CheckIn.slot is (inr c.in-CheckIn.is)

pub returns-in-Offer : goal.returns-in-Offer
returns-in-Offer c = λ g slots is. no_offer g slots c.args.act c.in-Offer.k c.in-Offer.k is (inl c.in-Offer.is)

pub returns-in-Decide : goal.returns-in-Decide
returns-in-Decide c = λ g slots is. no_offer g slots c.args.act c.in-Decide.k c.in-Decide.k is (inr (inl c.in-Decide.is))

pub returns-in-Withdraw : goal.returns-in-Withdraw
returns-in-Withdraw c = λ g slots is. no_offer g slots c.args.act c.in-Withdraw.k c.in-Withdraw.k is (inr (inr c.in-Withdraw.is))
