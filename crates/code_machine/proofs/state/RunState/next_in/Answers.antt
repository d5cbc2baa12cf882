use Rattle.std.proofs.Common.{◌≡◌, ◌<◌, length, Some, false, refl, sym, ◌∙◌, arith}
use Rattle.std.specs.Prelude.{slice_get}
use Rattle.std.specs.Option.{is_some}
use Rattle.code_machine.proofs.Staying.{next_of, none_ended}
use Rattle.code_machine.proofs.ThreadSlots.{there_read}
use Rattle.code_machine.proofs.state.RunState.next_in.Goals as goal

pub returns : goal.returns
returns c =
    let slots = c.args.self.now.slots.items in
    let within : c.args.slot < length c.args.self.now.slots.items = omega (arith, c.if-slot-len.false, c.len.ensures, c.args.self.now.slots.ok.0) in
    let there : slice_get c.args.self.now.slots.items c.args.slot ≡ Some c.index.result.now = there_read slots (length slots) c.args.slot c.index.result.now refl within c.index.ensures in
    let runs : is_some c.args.self.now.finish ≡ false = sym c.is_some.ensures ∙ c.if-is_some.false in
    next_of c.args.self.now c.args.slot c.index.result.now there (none_ended c.args.self.now.finish runs) c.next_if_live.result c.next_if_live.ensures
