use Rattle.std.proofs.Common.{inl, subst}
use Rattle.c_semantics.specs.Texts.{Definitions}
use Rattle.check_in_places.specs.Bodies.{IsOutline}
use Rattle.check_in_places.proofs.bodies.add_function.Goals as goal

pub returns : goal.returns
returns c = λ text done same are.
    c.add_outline.ensures text done
    (subst {A = Definitions} (λ look. IsOutline c.args.names.now look c.args.function.now c.in_ok-outline.outline) same c.in_ok-outline.ensures.outline)
    are

pub add_outline-requires-clause-there : goal.add_outline-requires-clause-there
add_outline-requires-clause-there c = λ absent. c.requires (inl absent)
