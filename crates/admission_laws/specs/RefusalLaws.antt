-- What a refusal names: the slot, and of the patch and of the slot's row the names for which that row doesn't admit it.
use Rattle.std.specs.Prelude.{◌≡◌, ℕ, ◌<◌, true, false, List, ◌∷◌, ◌++◌, map, Some, slice_get}
use Rattle.run_types.specs.declared.run.Event.{Event}
use Rattle.run_types.specs.declared.run.Event.TheVariants.{Decide}
use Rattle.c_tree.specs.BareExpr.{Bytes}
use Rattle.c_semantics.specs.Changes.{changed, interface}
use Rattle.name_sets.specs.NameLists.{precedes, is_among}
use Rattle.con_freeness.specs.Laws.{Admits}
use Rattle.con_freeness.specs.Rows.{Names, InForce, admits, verdict}
use Rattle.con_freeness.specs.Verdicts.{Effect, Concrete, Both, Pinned, Refusal, Refused}
use Rattle.source_model.specs.Answers.{RefusedFor}
use Rattle.source_model.specs.Patches.{last_definitions}
use Rattle.source_model.specs.Guards.{Guard, Offer, Rules, Setup, bodies_of, in_force, offer_at}
use Rattle.source_model.specs.Journals.{guard_after, answer_of}

-- a name is in both of two sets, and none that is in both comes before it in the order of bytes
pub record IsLeastCommon (a b : Names) (name : Bytes) : Type 0 where
  pub in_first : is_among a name ≡ true
  pub in_second : is_among b name ≡ true
  pub least : (other : Bytes) → is_among a other ≡ true → is_among b other ≡ true → precedes other name ≡ false

-- no name is in both
abbrev pub HaveNoneCommon : Names → Names → Type 0
HaveNoneCommon a b = (name : Bytes) → is_among a name ≡ true → is_among b name ≡ false

-- an effect says why a slot doesn't admit a patch: by which names, of which sets, and whether its thread is pinned. The
-- names of active code come first: where it uses one whose interface changes, the effect is `Concrete`
pub data Explains (s : InForce) (changed interface : Names) : Effect → Type 0 where
  concrete : (z : Bytes) → IsLeastCommon interface s.row.concrete z → Explains s changed interface (Concrete z)
  both : (y z : Bytes)
      → HaveNoneCommon interface s.row.concrete → s.pinned ≡ false
      → IsLeastCommon changed s.row.prior y → IsLeastCommon changed s.row.future z → Explains s changed interface (Both y z)
  pinned : (z : Bytes)
      → HaveNoneCommon interface s.row.concrete → s.pinned ≡ true
      → IsLeastCommon changed s.row.future z → Explains s changed interface (Pinned z)

-- a refusal names the least slot that doesn't admit the patch, and says why it doesn't
pub record IsRefusal (slots : List InForce) (changed interface : Names) (r : Refusal) : Type 0 where
  pub refusing : InForce
  pub there : slice_get slots r.slot ≡ Some refusing
  pub refuses : admits refusing.row refusing.pinned changed interface ≡ false
  pub why : Explains refusing changed interface r.effect
  pub least : (n : ℕ) (s : InForce) → n < r.slot → slice_get slots n ≡ Some s → Admits changed interface s

abbrev pub RefusalsNameTheLeast : Type 0
RefusalsNameTheLeast =
    (slots : List InForce) (changed interface : Names) (r : Refusal)
    → verdict slots changed interface ≡ Refused r → IsRefusal slots changed interface r

-- in the journal offer k is decided, and there refused: for the rows in force at that moment, those of the marks over the
-- bodies then stored, and for what the offered text changes of the text then in force
pub record IsRefusedAt (rules : Rules) (setup : Setup) (events : List Event) (k : ℕ) (r : Refusal) : Type 0 where
  pub before : List Event
  pub later : List Event
  pub in_order : events ≡ before ++ Decide k ∷ later
  pub guard : Guard
  pub reached : guard_after rules setup before ≡ Some guard
  pub offer : Offer
  pub offered : offer_at setup k ≡ Some offer
  pub refusal :
      IsRefusal (map (in_force rules (bodies_of guard)) guard.seats)
      (changed (last_definitions guard.versions) offer.text.definitions)
      (interface (last_definitions guard.versions) offer.text.definitions) r

-- each refusal that a legal journal answers is of such a moment
abbrev pub AnsweredRefusalsNameTheLeast : Type 0
AnsweredRefusalsNameTheLeast =
    (rules : Rules) (setup : Setup) (events : List Event) (g : Guard) (k : ℕ) (r : Refusal)
    → guard_after rules setup events ≡ Some g → answer_of g.answers k ≡ RefusedFor r → IsRefusedAt rules setup events k r
