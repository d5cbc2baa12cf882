use Rattle.std.proofs.Common.{◌<◌, subst}
use Rattle.std.proofs.lemmas.List.{length-map}
use Rattle.source_programs.specs.Programs.{table_of, text_at}
use Rattle.source_runner.proofs.Following.{follows}
use Rattle.source_runner.proofs.machine.Machine.follow.Goals as goal

pub returns-clause-stands : goal.returns-clause-stands
returns-clause-stands c = λ w h is.
    let m = c.args.self.now in
    let k = c.args.number in
    let below = subst (λ n. k < n) (length-map m.program.texts.items (λ r. r.text)) c.requires in
    let followed = c.in_ok-follow.ensures in
    follows m c.follow.new.self c.put_into.new.store k w h (followed.sound h.all.program) below followed.same.1 followed.follows
    (λ other. c.put_into.ensures (table_of m.program) (text_at m.program k) w other (c.in_ok-data.ensures w is))
