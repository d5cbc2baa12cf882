use Rattle.std.proofs.Common.{◌≡◌, Some, IsSome, refl, sym, ap, ◌∙◌}
use Rattle.std.specs.FinMap.{get}
use Rattle.slab.specs.Slab.{ContainsKey}
use Rattle.slab.specs.Slab as slab
use Rattle.object_store.specs.Handles.{slot_of}
use Rattle.object_store.specs.Rows.{live_of}
use Rattle.std.proofs.lemmas.Bool.{true≢false}
use Rattle.object_store.proofs.HandleMaps.{remove_none, none_of}
use Rattle.object_store.proofs.LiveObjects.{live_after_remove, slot_is_used, creation_there, within_after, copied_is_some}
use Rattle.object_store.proofs.objects.Objects.end.Goals as goal

pub returns-then-is_none-clause-ended : goal.returns-then-is_none-clause-ended
returns-then-is_none-clause-ended c =
    rw (remove_none c.args.self.now.live c.args.handle (none_of _ (λ there. true≢false (sym there ∙ sym (copied_is_some c.get.result _ c.get.ensures) ∙ c.if-is_none.ensures)))) refl

pub remove-requires : goal.remove-requires
remove-requires c =
    let live_is : live_of c.self.inside.rows ≡ c.args.self.now.live = ap (λ s. s.live) c.self.view_is in
    let lives : IsSome (get (live_of c.self.inside.rows) c.args.handle) = rw live_is (sym (copied_is_some c.get.result _ c.get.ensures) ∙ c.if-is_none.ensures) in
    rw c.slot.ensures.value (slot_is_used c.self.inside.rows c.self.invariant.within c.args.handle lives)

pub returns-clause-ended : goal.returns-clause-ended
returns-clause-ended c =
    let rows = c.self.inside.rows in
    let live_is : live_of rows ≡ c.args.self.now.live = ap (λ s. s.live) c.self.view_is in
    let lives : IsSome (get (live_of rows) c.args.handle) = rw live_is (sym (copied_is_some c.get.result _ c.get.ensures) ∙ c.if-is_none.ensures) in
    let ensured = c.remove.ensures in
    let there : slab.get rows (slot_of c.args.handle) ≡ Some c.remove.result = rw (← c.slot.ensures.value) ensured.value in
    let same = creation_there rows c.self.invariant.within c.args.handle c.remove.result there lives in
    let within = within_after rows c.remove.new.self c.slot.result _ c.self.invariant.within c.slot.ensures.bound ensured.updates in
    let live = live_after_remove rows c.remove.new.self c.self.invariant.within within c.args.handle c.remove.result (rw (← c.slot.ensures.value) ensured.updates) there same in
    rw (← c.self.view_is, live) refl
