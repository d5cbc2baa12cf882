use Rattle.std.proofs.Common.{ℕ, Option, None, sym, subst, ◌∙◌}
use Rattle.std.specs.Prelude.{option_map}
use Rattle.c_tree.specs.BareExpr.{Bytes}
use Rattle.version_laws.specs.Histories.{text_in}
use Rattle.local_evaluation.specs.Pieces.{stop_of}
use Rattle.word_data.specs.declared.stop.SharedStop.TheVariants.{Lock}
use Rattle.code_image.specs.Acts.{Acts, named}
use Rattle.code_machine.specs.Queries.{waiting_of}
use Rattle.code_machine.specs.Seen.{code_world, words_of}
use Rattle.code_machine.proofs.AskedWaits.{awaits_none, awaits_thread, stop_waits}
use Rattle.code_machine.proofs.machine.CodeMachine.waits_at.Goals as goal

pub returns-in-Shared : goal.returns-in-Shared
returns-in-Shared c = λ settled texts names n.
    let image = c.args.self.now.image.value in
    let w = code_world c.args.self.now in
    let t = words_of c.args.self.now.image.value in
    let function : ℕ → Option Bytes = named (words_of c.args.self.now.image.value) c.args.self.now.image.value.callees.items in
    let s = stop_of t c.args.stop.stop in
    let text = text_in texts n.frame.version in
    stop_waits texts names w c.args.slot image c.args.stop (option_map (waiting_of t) c.held_for.result) n
    (c.held_for.ensures names text n.frame.state.stack (subst (Acts t names text function s) c.in-Shared.is n.acts))

pub returns-in-Join : goal.returns-in-Join
returns-in-Join c = λ settled texts names n.
    let image = c.args.self.now.image.value in
    let w = code_world c.args.self.now in
    let t = words_of c.args.self.now.image.value in
    let function : ℕ → Option Bytes = named (words_of c.args.self.now.image.value) c.args.self.now.image.value.callees.items in
    let s = stop_of t c.args.stop.stop in
    let text = text_in texts n.frame.version in
    stop_waits texts names w c.args.slot image c.args.stop (option_map (waiting_of t) c.joined_by.result) n
    (c.joined_by.ensures settled n.frame n.rests
    ∙ sym (awaits_thread t names text function w c.args.slot s n.frame.state.stack (subst (Acts t names text function s) c.in-Join.is n.acts)))

pub returns-in_default : goal.returns-in_default
returns-in_default c = λ settled texts names n.
    let image = c.args.self.now.image.value in
    let w = code_world c.args.self.now in
    let t = words_of c.args.self.now.image.value in
    let function : ℕ → Option Bytes = named (words_of c.args.self.now.image.value) c.args.self.now.image.value.callees.items in
    let s = stop_of t c.args.stop.stop in
    let text = text_in texts n.frame.version in
    stop_waits texts names w c.args.slot image c.args.stop None n
    (sym (awaits_none t names text function w c.args.slot s c.args.stop.act n.frame.state.stack n.acts (λ k e. c.in_default.not-Shared (Lock k) e) c.in_default.not-Join))
