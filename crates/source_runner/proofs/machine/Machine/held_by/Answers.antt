use Rattle.std.proofs.Common.{None, Some, sym, ap, ◌∙◌}
use Rattle.source_model.specs.Waits.{held_by}
use Rattle.resolved_tree.specs.Nodes.{word}
use Rattle.source_programs.specs.Programs.{table_of}
use Rattle.source_runner.proofs.Waiting.{holder_is, itself_holds, others_hold}
use Rattle.source_runner.proofs.machine.Machine.held_by.Goals as goal
use Rattle.source_runner.proofs.machine.Machine.held_by.Goals.{in_default-via-in-Some+else-holder-slot, in_default-via-in_default}

pub returns-in-Some : goal.returns-in-Some
returns-in-Some c = λ w h.
    let m = c.args.self.now in
    let name = c.args.name in
    let t = table_of m.program in
    others_hold (word t name) c.text.result.now c.args.slot c.in-Some.holder _
    (c.text.ensures ∙ ap (λ u. word u name) c.trees-trees.ensures)
    (holder_is m w _ name (Some c.in-Some.holder) h.all c.trees-trees.ensures
    (sym c.in-Some.is ∙ c.holder_of.ensures m.store w (sym c.as_slice.ensures.value)))
    c.if-holder-slot.true

pub returns-in_default : goal.returns-in_default
returns-in_default c = λ w h.
    let m = c.args.self.now in
    let name = c.args.name in
    let t = table_of m.program in
    let found = c.holder_of.ensures m.store w (sym c.as_slice.ensures.value) in
    elim c.in_default.branch [
      | in_default-via-in-Some+else-holder-slot v ↦
          itself_holds (word t name) c.args.slot v.in-Some.holder _
          (holder_is m w _ name (Some v.in-Some.holder) h.all c.trees-trees.ensures (sym v.in-Some.is ∙ found))
          v.if-holder-slot.false
      | in_default-via-in_default v ↦
          ap (held_by (word t name) c.args.slot)
          (sym (holder_is m w _ name None h.all c.trees-trees.ensures (sym v.in_default.is ∙ found)))
    ]
