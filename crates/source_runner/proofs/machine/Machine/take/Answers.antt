use Rattle.std.proofs.Common.{sym, ap, ◌∙◌, slice_set}
use Rattle.std.specs.Vec.{with_item}
use Rattle.source_model.specs.Worlds.{in_slot}
use Rattle.source_model.specs.Moves.{move_of}
use Rattle.source_runner.specs.declared.thread.Slot.TheVariants.{Free}
use Rattle.source_runner.proofs.Halted.{not_over}
use Rattle.source_runner.proofs.Stopping.{moves_as}
use Rattle.source_runner.proofs.Taking.{lives, none_moves, slot_is, stands_with, taking, twice}
use Rattle.source_runner.proofs.machine.Machine.take.Goals as goal

pub returns-in-Live-clause-moves : goal.returns-in-Live-clause-moves
returns-in-Live-clause-moves c = λ w h going.
    let m = c.args.self.now in
    let slot = c.args.slot in
    let at = sym (c.in-Some.ensures.item.3.1 Free) ∙ sym c.replace.ensures.value ∙ c.in-Live.is in
    let there = lives m w slot c.in-Live.thread c.in-Live.next h at in
    moves_as _ w _ _ _ (ap (move_of w slot) there.1)
    (c.act.ensures.moves w there.0
    (taking m _ w slot there.0 h c.in-Some.ensures.item.3.0 (ap (slice_set m.slots.items slot) (c.replace.ensures.after ∙ c.taken.ensures)) there.1)
    going (not_over _ _ _ _ _ going there.2))

pub returns-in_default-replace-clause-moves : goal.returns-in_default-replace-clause-moves
returns-in_default-replace-clause-moves c = λ w h going.
    let m = c.args.self.now in
    let slot = c.args.slot in
    let same = c.replace.ensures.value ∙ c.in-Some.ensures.item.3.1 Free in
    moves_as _ w _ _ _
    (none_moves m w slot c.replace.result (in_slot w slot) (slot_is m w slot c.replace.result h same) c.in_default-replace.not-Live)
    (record {
      came = stands_with m (with_item (with_item m.slots slot c.replace.new.dest) slot c.replace.result) w
          (twice m.slots.items slot c.replace.new.dest c.replace.result same) h;
    })
