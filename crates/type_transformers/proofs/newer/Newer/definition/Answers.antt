use Rattle.std.proofs.Common.{ap, ◌∙◌, length, ◌≤◌}
use Rattle.c_definitions.specs.Lookup.{declared_as}
use Rattle.versioned_structs.specs.Limits.{most_fields}
use Rattle.type_transformers.specs.Newer.{members_in}
use Rattle.type_transformers.proofs.Defined.{definition_found, lent}
use Rattle.type_transformers.proofs.newer.Newer.definition.Goals as goal

pub returns-clause-found : goal.returns-clause-found
returns-clause-found c =
    definition_found c.args.self.now c.args.name.now c.declared.result
    (c.declared.ensures ∙ ap (λ ds. declared_as ds c.args.name.now) (c.self.invariant.0 ∙ c.self.view_is))

pub returns-clause-small : goal.returns-clause-small
returns-clause-small c =
    lent (λ d. length (members_in d.kind) ≤ most_fields) c.declared.result _
    (c.declared.ensures ∙ ap (λ ds. declared_as ds c.args.name.now) c.self.invariant.0) (c.self.invariant.3 c.args.name.now)
