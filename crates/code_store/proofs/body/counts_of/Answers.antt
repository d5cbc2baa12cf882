use Rattle.std.proofs.Common.{map, ap, ◌∙◌, arith}
use Rattle.std.specs.Prelude.{count_by}
use Rattle.skeletons.specs.Meaning.{point_of}
use Rattle.c_semantics.specs.Skeletons.{is_check_in_kind}
use Rattle.code_store.proofs.Counting.{counts_more}
use Rattle.code_store.proofs.body.counts_of.Goals as goal

pub loop-body-preserved : goal.loop-body-preserved
loop-body-preserved c =
    counts_more c.args.bodies.now c.loop-body.body-index c.body-item.result c.loop-body.check_ins c.loop-body.tokens
    c.check_ins_among-check_ins.result (omega arith) c.body-item.is c.requires
    (λ names. c.check_ins_among-check_ins.ensures.number names
    ∙ ap (λ ps. count_by (λ p. is_check_in_kind p.kind) (map (point_of names) ps)) c.deref.ensures.value)
    c.loop-body.invariant
