use Rattle.std.proofs.Common.{◌≡◌, ◌<◌, ◌^◌, ℕ, ◌+◌, refl, sym, ap, ◌∙◌, arith}
use Rattle.slab.specs.Slab.{get, slab_len, ContainsKey}
use Rattle.object_store.specs.Handles.{slot_of, creation_of}
use Rattle.object_store.proofs.LiveObjects.{len-live_of, live_after_insert, leads_nowhere, within_after}
use Rattle.object_store.proofs.objects.Objects.create.Goals as goal

pub returns-then-len-self : goal.returns-then-len-self
returns-then-len-self c =
    (rw (← c.self.view_is) (len-live_of c.self.inside.rows c.self.invariant.within ∙ sym c.len.ensures ∙ c.if-len-self.true), refl)

pub returns : goal.returns
returns c =
    let rows = c.self.inside.rows in
    let new = c.insert_reserved-slot.new.self in
    let ensured = c.insert_reserved-slot.ensures in
    let slot = c.insert_reserved-slot.result in
    let small : slot < 2 ^ 32 = omega (arith, ensured.key_in_range, ensured.capacity, c.self.invariant.small) in
    let at : slot_of c.of.result ≡ slot = omega (arith, c.of.ensures, small) in
    let made : creation_of c.of.result ≡ c.self.inside.created + 1 = omega (arith, c.of.ensures, small) in
    let full : slab_len rows < c.self.inside.capacity = omega (arith, c.if-len-self.false, c.len.ensures, c.self.invariant.few) in
    let within : (k : ℕ) → ContainsKey new k → k < 2 ^ 32 = within_after rows new slot _ c.self.invariant.within small ensured.updates in
    let led = leads_nowhere c.of.result _ (ap (get rows) at ∙ ensured.was_vacant) in
    let live = live_after_insert rows new c.self.invariant.within within c.of.result (record { creation = c.self.inside.created + 1; object = record { tag = c.args.tag; layout = c.args.layout; fields = c.args.fields } }) (rw at ensured.updates) (sym made) led in
    rw (← c.self.view_is) (
      omega (arith, len-live_of rows c.self.invariant.within, full),
      made,
      rw live refl,
    )
