use Rattle.std.proofs.Common.{Some, sym, ap, ◌∙◌}
use Rattle.source_model.specs.Worlds.{in_slot}
use Rattle.source_runner.specs.Queries.{place_up_in}
use Rattle.source_runner.proofs.Running.{given, going_on}
use Rattle.source_runner.proofs.run.SourceRun.frame_up.Goals as goal

pub returns : goal.returns
returns c = λ texts limits moves h going.
    let not_over = going_on texts limits moves _ h going in
    given (λ x. place_up_in c.args.up (in_slot x.world c.args.slot)) texts limits moves _ h
    ∙ ap Some (sym (c.frame_up.ensures h.world h.stands not_over))
