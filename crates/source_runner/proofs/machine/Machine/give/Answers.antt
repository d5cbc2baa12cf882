use Rattle.source_programs.specs.Programs.{table_of}
use Rattle.local_evaluation.specs.Values.{seen}
use Rattle.source_runner.proofs.Calls.{returns_last, returns_to}
use Rattle.source_runner.proofs.Stopping.{moves_as, user_with}
use Rattle.source_runner.proofs.machine.Machine.give.Goals as goal

pub returns-in_ok-push-in-Some-clause-moves : goal.returns-in_ok-push-in-Some-clause-moves
returns-in_ok-push-in-Some-clause-moves c = λ w before user point but used had.
    let m = c.args.self.now in
    let t = table_of m.program in
    let goes = returns_to t w c.args.slot c.args.thread c.pop_frame.new.frames c.args.frame c.in-Some.caller c.push.new.values point user
    c.args.value (c.in-Some.ensures t) c.in_ok-push-in-Some.ensures used in
    moves_as _ w _ _ _ goes.1 (c.go_on.ensures.moves w before goes.0 but goes.2)

pub returns-in-None-clause-moves : goal.returns-in-None-clause-moves
returns-in-None-clause-moves c = λ w before user point but used had.
    let m = c.args.self.now in
    let t = table_of m.program in
    moves_as _ w _ _ _ (returns_last t w c.args.slot c.args.thread c.args.frame point user (seen c.args.value) (c.in-None.ensures t).0)
    (c.finish.ensures.moves w before user point but (user_with _ _ _ used) (user_with _ _ _ had))
