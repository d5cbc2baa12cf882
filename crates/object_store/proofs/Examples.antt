-- Handles as words, and a store of one object.
use Rattle.std.proofs.Common.{◌≡◌, ◌+◌, ◌<◌, ℕ, Some, None, refl, sym, ap, ◌∙◌, arith}
use Rattle.std.specs.Ordering.{nat_cmp}
use Rattle.std.specs.FinMap.{FinMap, empty, get, insert, remove, len, get-empty, len-empty}
use Rattle.object_store.specs.declared.object.Object.{Object}
use Rattle.object_store.specs.Handles.{handle_of, creation_of, slot_of}
use Rattle.object_store.specs.Stores.{Store, Creates, without_object}
use Rattle.object_store.proofs.HandleMaps.{get_inserted, get_not_inserted, get_removed}

third_in_slot_seven : handle_of 3 7 ≡ 0x0000_0003_0000_0007
third_in_slot_seven = refl

its_creation : creation_of 0x0000_0003_0000_0007 ≡ 3
its_creation = refl

its_slot : slot_of 0x0000_0003_0000_0007 ≡ 7
its_slot = refl

module _ (first second : Object) where
  -- a store of one, without an object, with the first one, after its end, and with the second one in the same slot
  abbrev at_first : Store
  at_first = record { capacity = 1; created = 0; live = empty }

  abbrev with_first : Store
  with_first = record { capacity = 1; created = 1; live = insert empty (handle_of 1 0) first }

  abbrev after_end : Store
  after_end = without_object with_first (handle_of 1 0)

  abbrev with_second : Store
  with_second = record { capacity = 1; created = 2; live = insert after_end.live (handle_of 2 0) second }

  first_is_created : Creates at_first first (Some (handle_of 1 0)) with_first
  first_is_created = (omega (arith, len-empty nat_cmp Object), refl, refl)

  first_is_there : get with_first.live (handle_of 1 0) ≡ Some first
  first_is_there = get_inserted empty (handle_of 1 0) first

  first_is_gone : get after_end.live (handle_of 1 0) ≡ None
  first_is_gone = get_removed with_first.live (handle_of 1 0)

  -- the slot is used again, and the old handle leads nowhere
  stale : get with_second.live (handle_of 1 0) ≡ None
  stale = get_not_inserted after_end.live (handle_of 2 0) second (handle_of 1 0) (λ e. omega (arith, e)) ∙ first_is_gone
