use Rattle.std.proofs.Common.{[], ◌∷◌, ap}
use Rattle.std.proofs.lemmas.Result.{on_ok_weaker}
use Rattle.bytecode.specs.Instructions.{Jump}
use Rattle.bytecode_gen.proofs.Preceding.{precedes_as}
use Rattle.bytecode_gen.proofs.statement.jump.Goals as goal

pub returns : goal.returns
returns c = on_ok_weaker c.precede.result (λ h t. precedes_as (ap (λ n. Jump n ∷ []) c.in_ok-over.ensures) (h t)) c.precede.ensures
