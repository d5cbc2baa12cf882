use Rattle.std.proofs.Common.{sym, ap, ◌∙◌}
use Rattle.code_runs.specs.CodeWaits.{joined}
use Rattle.code_machine.specs.Seen.{code_world}
use Rattle.code_machine.proofs.AskedThreads.{stack_is}
use Rattle.code_machine.proofs.machine.CodeMachine.joined_by.Goals as goal

pub returns-in-Some-newest : goal.returns-in-Some-newest
returns-in-Some-newest c = λ settled f h.
    let m = c.args.self.now in
    let l = c.in-Some.ensures in
    let r = c.in-Some.running.now in
    let s = stack_is m.image.value r l.fits (code_world m) c.args.slot l.lives (λ e. settled (record { running = r; there = l.there; due = e })) f h in
    c.lives_as.ensures ∙ sym (ap (joined (code_world m).slots) (s.1 ∙ c.in-Some-newest.ensures.1))

pub returns-in-None-newest : goal.returns-in-None-newest
returns-in-None-newest c = λ settled f h.
    let m = c.args.self.now in
    let l = c.in-Some.ensures in
    let r = c.in-Some.running.now in
    let s = stack_is m.image.value r l.fits (code_world m) c.args.slot l.lives (λ e. settled (record { running = r; there = l.there; due = e })) f h in
    sym (ap (joined (code_world m).slots) (s.1 ∙ c.in-None-newest.ensures s.0))
