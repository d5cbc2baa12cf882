use Rattle.std.proofs.Common.{◌≡◌, sym, subst, ap, ◌∙◌}
use Rattle.std.specs.Prelude.{option_map}
use Rattle.source_model.specs.Waits.{held_by}
use Rattle.local_evaluation.specs.declared.piece.Stop.{Stop}
use Rattle.local_evaluation.specs.Pieces.{stop_of}
use Rattle.resolved_tree.specs.Nodes.{word}
use Rattle.program_locks.specs.Locking.{holder_of}
use Rattle.word_data.specs.declared.stop.SharedStop.TheVariants.{Lock}
use Rattle.code_runs.specs.CodeWaits.{at_stop}
use Rattle.code_image.specs.declared.act.Act.TheVariants.{Shared}
use Rattle.code_image.specs.Acts.{Acts, named}
use Rattle.code_machine.specs.Queries.{waiting_of}
use Rattle.code_machine.specs.Seen.{code_world, words_of}
use Rattle.code_machine.proofs.machine.CodeMachine.locked.Goals as goal

pub returns-in-Lock : goal.returns-in-Lock
returns-in-Lock c = λ names text stack.
    let image = c.args.self.now.image.value in
    let w = code_world c.args.self.now in
    let t = words_of image in
    let slot = c.args.slot in
    let name = c.in-Lock.name in
    subst (λ (s : Stop). Acts t names text (named t image.callees.items) (stop_of t s) (Shared (Lock c.args.n))
    → option_map (waiting_of t) c.held_by.result ≡ at_stop names w slot (stop_of t s) stack) (sym c.in-Lock.is)
    (λ a. c.held_by.ensures t ∙ ap (held_by (word t name) slot) (c.holder.ensures ∙ ap (holder_of w.shared.holders) a))
