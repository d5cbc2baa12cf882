use Rattle.std.proofs.Common.{◌≡◌, Some, refl, ap}
use Rattle.slab.specs.Slab.{Slab, ContainsKey, with_value}
use Rattle.slab.specs.Slab as slab
use Rattle.object_store.specs.Handles.{slot_of}
use Rattle.object_store.specs.Rows.{live_of}
use Rattle.object_store.proofs.LiveObjects.{get_there, live_after_write, slot_is_used, creation_there}
use Rattle.object_store.proofs.objects.Objects.object_mut.Goals as goal

pub index_mut-row-requires : goal.index_mut-row-requires
index_mut-row-requires c =
    let live_is : live_of c.self.inside.rows ≡ c.args.self.now.live = ap (λ s. s.live) c.self.view_is in
    rw c.slot.ensures.value (slot_is_used c.self.inside.rows c.self.invariant.within c.args.handle (rw live_is c.requires))

pub returns : goal.returns
returns c =
    let rows = c.self.inside.rows in
    let row = c.index_mut-row.result.now in
    let handle = c.args.handle in
    let within = c.self.invariant.within in
    let live_is : live_of rows ≡ c.args.self.now.live = ap (λ s. s.live) c.self.view_is in
    let there : slab.get rows (slot_of handle) ≡ Some row = rw (← c.slot.ensures.value) c.index_mut-row.ensures.value in
    let same = creation_there rows within handle row there (rw live_is c.requires) in (
      (refl, λ w. rw (← c.self.view_is, live_after_write rows within handle c.slot.result c.slot.ensures.value row c.index_mut-row.ensures.value same w) refl),
      record { writes_back = tt; value = rw (← c.self.view_is) (get_there rows within handle row there same) },
    )
