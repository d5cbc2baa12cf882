-- A run of the source machine may be sent to a thread. It has texts, whose trees get no such proof by themselves: where one
-- crosses, the answer cites this.
use denote.Param.Send.{IsSend, sendable}
use Rattle.std.proofs.Crossing.{crosses}
use Rattle.c_types.specs.contracts.program.Typed as Typed
use Rattle.c_types.proofs.TreesCross.{Typed-send}
use Rattle.resolved_tree.proofs.trees.Trees.TheSendSync as trees
use Rattle.resolved_tree.proofs.words.Word.TheSendSync as word
use Rattle.source_programs.specs.contracts.ready.Ready as Ready
use Rattle.source_programs.specs.contracts.programs.Programs as Programs
use Rattle.source_programs.proofs.definition.Definition.TheSendSync as definition
use Rattle.source_programs.proofs.places.Places.TheSendSync as places
use Rattle.source_programs.proofs.versions.Versions.TheSendSync as versions
use Rattle.source_data.proofs.store.Store.TheSendSync as store
use Rattle.source_runner.specs.contracts.machine.Machine as Machine
use Rattle.source_runner.specs.contracts.run.SourceRun as SourceRun
use Rattle.source_runner.proofs.machine.Finish.TheSendSync as finish
use Rattle.source_runner.proofs.thread.Slot.TheSendSync as slot

text_send : IsSend (Typed.the_field).row
text_send = Typed-send

Ready-send : IsSend Ready.the_row
Ready-send = search (sendable, crosses, text_send, definition.the_send, places.the_field_send) depth 20

Programs-send : IsSend (Programs.the_field).row
Programs-send = search (sendable, crosses, Ready-send, trees.the_field_send, versions.the_send, word.the_field_send) depth 20

Machine-send : IsSend (Machine.the_field).row
Machine-send = search (sendable, crosses, Programs-send, store.the_field_send, slot.the_send, finish.the_send) depth 20

pub SourceRun-send : IsSend SourceRun.the_row
SourceRun-send = search (sendable, Machine-send) depth 20
