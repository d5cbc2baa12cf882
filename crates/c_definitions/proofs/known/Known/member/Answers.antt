use Rattle.std.proofs.Common.{◌∙◌, ap, option_and_then, slice_get}
use Rattle.c_definitions.specs.Index.{own_members}
use Rattle.c_definitions.specs.Lookup.{member}
use Rattle.c_definitions.proofs.Index.{struct_member}
use Rattle.c_definitions.proofs.known.Known.member.Goals as goal

pub returns : goal.returns
returns c =
    c.member_at.ensures
    ∙ ap (λ o. option_and_then (λ d. member (own_members d.kind) c.args.name.now) (option_and_then (slice_get c.args.self.now) o)) c.place_of.ensures
    ∙ struct_member c.args.self.now c.args.tag.now c.args.name.now
