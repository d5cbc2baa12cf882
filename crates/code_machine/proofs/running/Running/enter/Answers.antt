use Rattle.code_machine.specs.Seen.{words_of}
use Rattle.code_machine.specs.Versions.{RunsCode}
use Rattle.code_machine.proofs.Entering.{entered, runs_entered}
use Rattle.code_machine.proofs.running.Running.enter.Goals as goal

pub returns-clause-runs : goal.returns-clause-runs
returns-clause-runs c = λ all versions code last force.
    let image = c.args.image.now in
    let mid = record c.args.self.now { frames = c.enter.new.self } in
    c.go_on.ensures.runs all versions
    (runs_entered all versions image c.function.result.now c.args.self.now mid c.args.version c.args.function c.args.n c.enter.ensures.frames last force code)

pub returns-clause-entered : goal.returns-clause-entered
returns-clause-entered c = λ all versions code last force.
    let image = c.args.image.now in
    let mid = record c.args.self.now { frames = c.enter.new.self } in
    let runs : RunsCode all versions image mid =
    runs_entered all versions image c.function.result.now c.args.self.now mid c.args.version c.args.function c.args.n c.enter.ensures.frames last force code in
    entered all versions image c.function.result.now c.args.self.now c.go_on.new.self c.enter.new.self c.args.version c.args.function c.args.n c.args.count c.function.ensures
    last force (c.enter.ensures.enters (words_of image)) (c.go_on.ensures.went all versions runs)
