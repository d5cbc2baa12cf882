use Rattle.std.proofs.Common.{vec_len, is_some, ap, ◌∙◌}
use Rattle.code_verify.specs.Meeting.{met_again}
use Rattle.code_verify.specs.Seen.{shape_of, shapes_of, keeps_of}
use Rattle.code_verify.proofs.Following.{earlier_carries}
use Rattle.code_verify.proofs.carry.carry.Goals as goal

pub returns-else-from-to-clause-carries : goal.returns-else-from-to-clause-carries
returns-else-from-to-clause-carries c =
    let keeps = keeps_of c.args.keeps.now in
    let copy = shape_of c.in_ok-copy.copy in
    let to = c.args.to in
    earlier_carries keeps (vec_len c.args.known.now) c.args.from to (shapes_of c.args.known.now.items) copy (shape_of c.args.shape.now)
    c.returns.result c.in_ok-copy.ensures c.if-from-to.false
    (c.returns.ensures ∙ ap (λ x. is_some (met_again (keeps to) (shapes_of x to) copy)) c.as_slice.ensures.value)
