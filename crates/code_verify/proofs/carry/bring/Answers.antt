use Rattle.std.proofs.Common.{◌<◌, vec_len, ap, ◌∙◌, arith}
use Rattle.code_verify.specs.Meeting.{met}
use Rattle.code_verify.specs.Seen.{shape_of, shapes_of, keeps_of}
use Rattle.code_verify.proofs.Following.{brought_at}
use Rattle.code_verify.proofs.carry.bring.Goals as goal

pub returns-clause-brings : goal.returns-clause-brings
returns-clause-brings c =
    let keeps = keeps_of c.args.keeps.now in
    let s = shape_of c.args.shape in
    let inside : c.args.place < vec_len c.args.known.now = omega arith in
    brought_at keeps (vec_len c.args.known.now) c.args.known.now.items s c.args.place c.in-Some.made inside c.args.known.now.ok.0
    (c.in-Some.ensures ∙ ap (λ x. met (keeps c.args.place) (shapes_of x c.args.place) s) c.as_slice.ensures.value)
