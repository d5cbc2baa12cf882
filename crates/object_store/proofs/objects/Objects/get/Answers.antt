use Rattle.std.proofs.Common.{sym, ◌∙◌}
use Rattle.object_store.proofs.LiveObjects.{get_there, get_other, get_nothing}
use Rattle.object_store.proofs.objects.Objects.get.Goals as goal
use Rattle.object_store.proofs.objects.Objects.get.Goals.{in_default-via-in-Some+else-row-creation, in_default-via-in_default}

pub returns-in-Some : goal.returns-in-Some
returns-in-Some c =
    rw (← c.self.view_is) (sym (get_there c.self.inside.rows c.self.invariant.within c.args.handle c.in-Some.row.now
    (rw (← c.slot.ensures.value) (sym c.in-Some.ensures)) (c.if-row-creation.true ∙ c.creation.ensures)))

pub returns-in_default : goal.returns-in_default
returns-in_default c =
    elim c.in_default.branch [
      | in_default-via-in-Some+else-row-creation w ↦
          rw (← c.self.view_is) (sym (get_other c.self.inside.rows c.self.invariant.within c.args.handle w.in-Some.row.now
          (rw (← c.slot.ensures.value) (sym w.in-Some.ensures)) (λ e. w.if-row-creation.false (e ∙ sym w.creation.ensures))))
      | in_default-via-in_default w ↦
          rw (← c.self.view_is) (sym (get_nothing c.self.inside.rows c.self.invariant.within c.args.handle (rw (← c.slot.ensures.value) (sym w.in_default.ensures))))
    ]
