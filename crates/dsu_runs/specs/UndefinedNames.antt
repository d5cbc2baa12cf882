-- Offers whose text uses a name that it doesn't define.
use Rattle.std.specs.Prelude.{◌≡◌, ℕ, Some}
use Rattle.source_model.specs.Guards.{Offer, Setup, offer_at}
use Rattle.brought_bodies.specs.Undefined.{HasUndefinedUse}

-- the text of offer k does
pub record UsesUndefined (setup : Setup) (k : ℕ) : Type 0 where
  pub offer : Offer
  pub offered : offer_at setup k ≡ Some offer
  pub undefined : HasUndefinedUse offer.text.definitions
