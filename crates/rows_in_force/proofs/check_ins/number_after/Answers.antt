use Rattle.std.proofs.Common.{map, take, sym, ap, ◌∙◌}
use Rattle.std.specs.Prelude.{count_by}
use Rattle.c_semantics.specs.Skeletons.{is_check_in_kind}
use Rattle.skeletons.specs.Meaning.{meant, point_of}
use Rattle.rows_in_force.proofs.ReachedCheckIns.{before_reached}
use Rattle.rows_in_force.proofs.check_ins.number_after.Goals as goal

pub returns : goal.returns
returns c = λ names.
    c.check_ins_before.ensures names
    ∙ ap (λ ps. count_by (λ p. is_check_in_kind p.kind) (take c.args.point (map (point_of names) ps))) c.deref.ensures.value
    ∙ sym (before_reached (meant names c.args.body.now.skeleton) c.args.point)
