use Rattle.std.proofs.Common.{◌∙◌, ◌==◌, ap, if◌then◌else◌}
use Rattle.slot_sets.specs.Members.{is_in}
use Rattle.plain_engine.proofs.Threads.{set_thread}
use Rattle.plain_engine.proofs.seats.Seats.set.Goals as goal

pub invariant_of-self : goal.invariant_of-self
invariant_of-self c =
    set_thread c.self.inside.seats c.self.inside.live c.args.slot c.args.seat _ c.self.invariant c.requires
    (λ n. c.set.ensures n ∙ ap (λ b. if n == c.args.slot then b else is_in c.self.inside.live n) c.is_there.ensures)
