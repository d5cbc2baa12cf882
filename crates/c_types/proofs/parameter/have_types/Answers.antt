use Rattle.std.proofs.Common.{sym, ◌∙◌}
use Rattle.std.proofs.lemmas.List.{length-map}
use Rattle.c_definitions.specs.Lookup.{types_of}
use Rattle.c_types.proofs.Bindings.{longer_differs}
use Rattle.c_types.proofs.parameter.have_types.Goals as goal

pub returns-then-parameters-types : goal.returns-then-parameters-types
returns-then-parameters-types c =
    let bs = c.args.parameters.now in
    sym (longer_differs (types_of bs) c.args.types.now (λ same. c.if-parameters-types.true (sym (length-map bs (λ b. b.declared)) ∙ same)))
