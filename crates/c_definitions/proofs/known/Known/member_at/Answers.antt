use Rattle.std.proofs.Common.{◌∙◌, ap, option_and_then, option_map, slice_get}
use Rattle.c_scope.specs.Tables.{innermost}
use Rattle.c_definitions.specs.Index.{own_members, member_tables}
use Rattle.c_definitions.proofs.Index.{members_found}
use Rattle.c_definitions.proofs.known.Known.member_at.Goals as goal

pub returns : goal.returns
returns c =
    let name = c.args.name.now in
    let place = c.args.place in
    c.type_in.ensures
    ∙ ap (option_and_then (λ d. option_map (λ b. b.declared) (option_and_then (slice_get (own_members d.kind)) c.number_in-number.result))) c.at.ensures
    ∙ members_found c.args.self.now place c.self.inside.members.items c.number_in-number.result name
    (c.self.invariant.of_members ∙ ap member_tables c.self.view_is)
    (c.number_in-number.ensures ∙ ap (λ ts. option_and_then (λ t. innermost t name) (option_and_then (slice_get ts) place)) c.as_slice.ensures.value)
