use Rattle.std.proofs.Common.{[], ◌∷◌, ap, ◌∙◌, add-one}
use Rattle.std.proofs.lemmas.Result.{on_ok_weaker}
use Rattle.local_evaluation.specs.Pieces.{stop_of}
use Rattle.skeletons.specs.Meaning.{check_in_of}
use Rattle.bytecode.specs.Instructions.{CheckIn, Halt}
use Rattle.bytecode_gen.proofs.Preceding.{precedes_as}
use Rattle.bytecode_gen.proofs.statement.checked_stop.Goals as goal

pub returns : goal.returns
returns c =
    on_ok_weaker c.precede.result
    (λ h t.
    precedes_as
    (ap (λ m. Halt (stop_of t c.args.stop) c.args.n ∷ CheckIn (check_in_of c.args.kind) m ∷ []) (c.in_ok-next.ensures ∙ add-one c.args.n))
    (h t))
    c.precede.ensures
