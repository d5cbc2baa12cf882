use Rattle.std.proofs.Common.{◌++◌, [], not, map, sym, ap, ◌∙◌}
use Rattle.std.proofs.lemmas.Bool.{true≢false}
use Rattle.code_store.specs.Limits.{are_too_many}
use Rattle.code_store.specs.Stored.{meant_body}
use Rattle.plain_engine.proofs.state.State.has_room.Goals as goal

pub returns-clause-full : goal.returns-clause-full
returns-clause-full g c = λ is setup x at few room.
    true≢false
    (sym (c.has_room.ensures []
    ∙ ap (λ stored. not (are_too_many (map (meant_body []) stored ++ map (meant_body []) c.args.bodies.now))) c.store.ensures
    ∙ ap not (room []))
    ∙ is)
