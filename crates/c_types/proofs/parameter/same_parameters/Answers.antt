use Rattle.std.proofs.Common.{sym, ◌∙◌}
use Rattle.std.proofs.lemmas.List.{length-map}
use Rattle.c_definitions.specs.Lookup.{types_of}
use Rattle.c_types.proofs.Bindings.{longer_differs}
use Rattle.c_types.proofs.parameter.same_parameters.Goals as goal

pub returns-then-a-b : goal.returns-then-a-b
returns-then-a-b c =
    let as' = c.args.a.now in
    let bs = c.args.b.now in
    sym (longer_differs (types_of as') (types_of bs)
    (λ same. c.if-a-b.true (sym (length-map as' (λ b. b.declared)) ∙ same ∙ length-map bs (λ b. b.declared))))
