use Rattle.std.proofs.Common.{ℕ, Option, None, sym}
use Rattle.c_tree.specs.BareExpr.{Bytes}
use Rattle.version_laws.specs.Histories.{text_in}
use Rattle.local_evaluation.specs.Pieces.{stop_of}
use Rattle.code_image.specs.Acts.{named}
use Rattle.code_image.specs.Images.{names_in}
use Rattle.code_machine.specs.Seen.{code_world, words_of}
use Rattle.code_machine.specs.Versions.{texts_of}
use Rattle.code_machine.proofs.AskedWaits.{awaits_none, none_waits, stop_waits}
use Rattle.code_machine.proofs.machine.CodeMachine.may_wait.Goals as goal

pub returns-in-Some : goal.returns-in-Some
returns-in-Some c = λ settled all is none.
    let image = c.args.self.now.image.value in
    let w = code_world c.args.self.now in
    let t = words_of image in
    let function : ℕ → Option Bytes = named t image.callees.items in
    let stop = c.in-Some.stop in
    let n = c.in-Some.ensures settled all is in
    let never = c.may_wait.ensures none in
    let texts = texts_of all c.args.self.now.run in
    let names = names_in all in
    stop_waits texts names w c.args.slot image stop None n
    (sym (awaits_none t names (text_in texts n.frame.version) function w c.args.slot (stop_of t stop.stop) stop.act n.frame.state.stack n.acts never.no_lock never.no_join))

pub returns-in-None : goal.returns-in-None
returns-in-None c = λ settled all is none.
    none_waits (texts_of all c.args.self.now.run) (names_in all) (code_world c.args.self.now) c.args.slot (c.in-None.ensures settled all is)
