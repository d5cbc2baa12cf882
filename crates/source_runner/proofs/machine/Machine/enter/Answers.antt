use Rattle.std.proofs.Common.{true, false, length, refl, sym, ◌∙◌, arith}
use Rattle.std.proofs.lemmas.Bool.{eq-eqb, ne_eqb}
use Rattle.source_model.specs.Moves.{frame_count}
use Rattle.source_model.specs.Uses.{recorded}
use Rattle.resolved_tree.specs.Nodes.{word}
use Rattle.source_programs.specs.Programs.{table_of, versions_of}
use Rattle.source_runner.specs.Machines.{enter_of}
use Rattle.source_runner.proofs.Enters.{deep_thread, enters, enters_deep, enters_wrong, frames_are}
use Rattle.source_runner.proofs.Halted.{halted_thread}
use Rattle.source_runner.proofs.Stopping.{moves_as}
use Rattle.source_runner.proofs.machine.Machine.enter.Goals as goal

pub returns-then-not-is_right_use-clause-moves : goal.returns-then-not-is_right_use-clause-moves
returns-then-not-is_right_use-clause-moves c = λ w before but going is.
    let wrong = sym (c.is_right_use.ensures w.table but.all.program but.all.history) ∙ c.if-not-is_right_use.true in
    moves_as _ w _ _ _ (enters_wrong w c.args.slot before (enter_of (table_of c.args.self.now.program) c.args.due) wrong)
    (c.misuse.ensures.moves w before but (halted_thread _ _ true _ _ _ _ refl is))

pub returns-then-len-eq-FRAMES-clause-moves : goal.returns-then-len-eq-FRAMES-clause-moves
returns-then-len-eq-FRAMES-clause-moves c = λ w before but going is.
    let m = c.args.self.now in
    let t = table_of m.program in
    let versions = versions_of m.program in
    let below = c.args.thread.below in
    let right = sym (c.is_right_use.ensures w.table but.all.program but.all.history) ∙ c.if-not-is_right_use.false in
    let deep = frames_are t before c.args.thread c.args.due true is
    (eq-eqb (length below.items) frame_count (omega (arith, c.if-len-eq-FRAMES.true, c.len.ensures, below.ok.0))) in
    moves_as _ w _ _ _ (enters_deep w c.args.slot before (enter_of t c.args.due) right deep)
    (c.trap.ensures.moves w before (recorded w.table (word t c.args.due.function) before) but
    (deep_thread t w before c.args.thread c.args.due _ is))

pub returns-clause-moves : goal.returns-clause-moves
returns-clause-moves c = λ w before but going is.
    let m = c.args.self.now in
    let t = table_of m.program in
    let versions = versions_of m.program in
    let below = c.args.thread.below in
    let right = sym (c.is_right_use.ensures w.table but.all.program but.all.history) ∙ c.if-not-is_right_use.false in
    let room = frames_are t before c.args.thread c.args.due false is
    (ne_eqb (length below.items) frame_count (λ e. c.if-len-eq-FRAMES.false (omega (arith, e, c.len.ensures, below.ok.0)))) in
    let goes = enters versions t w c.args.slot before c.args.thread c.args.due c.in_ok-frame.frame but.all.history right room is
    (c.in_ok-frame.ensures but.all.program) in
    moves_as _ w _ _ _ goes.1 (c.go_on.ensures.moves w before goes.0 but goes.2)
