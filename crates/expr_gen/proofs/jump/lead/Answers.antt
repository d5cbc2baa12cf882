use Rattle.std.proofs.Common.{◌-◌, ap, ◌∙◌}
use Rattle.expr_gen.proofs.Jumps.{led}
use Rattle.expr_gen.proofs.jump.lead.Goals as goal

pub returns : goal.returns
returns c = λ t before inside i there at.
    led t before inside i c.args.code.now.items c.args.place c.in_ok-over.over c.jumping.result c.args.when there at
    (c.in_ok-over.ensures ∙ ap (λ n. n - c.args.place - 1) (c.len.ensures ∙ c.args.code.now.ok.0)) (c.jumping.ensures t)
