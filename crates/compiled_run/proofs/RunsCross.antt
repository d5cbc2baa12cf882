-- A run may be sent to a thread. What leads to a formula or to a text's tree gets no such proof by itself: where one crosses, the answer
-- cites this.
use denote.Param.Send.{IsSend, sendable}
use Rattle.std.proofs.Crossing.{crosses, Arc-send, Vec-send, Vec-sync}
use Rattle.c_types.proofs.TreesCross.{Typed-send, Typed-sync}
use Rattle.versioned_structs.specs.contracts.formula.Formula as Formula
use Rattle.versioned_structs.specs.contracts.transform.FieldChange as FieldChange
use Rattle.versioned_structs.specs.contracts.transform.Transform as Transform
use Rattle.versioned_structs.proofs.formula.Formula.TheLaws.TheKnot.{send-Formula}
use Rattle.versioned_structs.proofs.formula.FormulaNode.TheSendSync as node
use Rattle.word_layouts.specs.contracts.change.Conversion as Conversion
use Rattle.word_layouts.specs.contracts.change.WordChange as WordChange
use Rattle.word_layouts.specs.contracts.layouts.VersionChanges as VersionChanges
use Rattle.word_layouts.specs.contracts.layouts.WordLayouts as WordLayouts
use Rattle.word_data.proofs.shared.WordData.TheSendSync as shared
use Rattle.word_frames.proofs.frames.Frames.TheSendSync as frames
use Rattle.thread_state.proofs.steps.End.TheSendSync as ending
use Rattle.code_image.proofs.image.CodeImage.TheSendSync as image
use Rattle.image_load.proofs.text_data.TextData.TheSendSync as tables
use Rattle.code_machine.specs.contracts.running.Next as Next
use Rattle.code_machine.specs.contracts.running.Stand as Stand
use Rattle.code_machine.specs.contracts.running.Running as Running
use Rattle.code_machine.specs.contracts.state.Finish as Finish
use Rattle.code_machine.specs.contracts.state.RunState as RunState
use Rattle.code_machine.specs.contracts.machine.CodeMachine as CodeMachine
use Rattle.compiled_run.specs.contracts.run.CompiledRun as CompiledRun

Formula-send : IsSend (Formula.the_field).row
Formula-send = search (sendable, send-Formula, node.the_send)

FieldChange-send : IsSend (FieldChange.the_field).row
FieldChange-send = search (sendable, Formula-send) depth 20

Transform-send : IsSend (Transform.the_field).row
Transform-send = search (sendable, Vec-send, FieldChange-send) depth 20

Conversion-send : IsSend (Conversion.the_field).row
Conversion-send = search (sendable, crosses, Transform-send) depth 20

WordChange-send : IsSend (WordChange.the_field).row
WordChange-send = search (sendable, Conversion-send) depth 20

VersionChanges-send : IsSend (VersionChanges.the_field).row
VersionChanges-send = search (sendable, crosses, WordChange-send) depth 20

WordLayouts-send : IsSend (WordLayouts.the_field).row
WordLayouts-send = search (sendable, crosses, VersionChanges-send) depth 20

Next-send : IsSend (Next.the_field).row
Next-send = search (sendable, ending.the_send, ending.the_field_send) depth 20

Stand-send : IsSend (Stand.the_field).row
Stand-send = search sendable depth 20

Running-send : IsSend (Running.the_field).row
Running-send = search (sendable, frames.the_send, frames.the_field_send, Next-send, Stand-send) depth 20

Finish-send : IsSend (Finish.the_field).row
Finish-send = search (sendable, crosses) depth 20

State-send : IsSend (RunState.the_field).row
State-send = search (sendable, Vec-send, shared.the_send, WordLayouts-send, Running-send, Finish-send) depth 20

Machine-send : IsSend (CodeMachine.the_field).row
Machine-send = search (sendable, Arc-send, image.the_send, image.the_sync, State-send) depth 20

pub CompiledRun-send : IsSend CompiledRun.the_row
CompiledRun-send = search (sendable, Arc-send, Vec-send, Vec-sync, Typed-send, Typed-sync, tables.the_send, Machine-send) depth 20
