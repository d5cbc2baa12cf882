use Rattle.std.proofs.Common.{◌≡◌, map, take, length, sym, ap, ◌∙◌, arith}
use Rattle.std.specs.Prelude.{count_by, min}
use Rattle.std.proofs.lemmas.List.{take_all, take_min, take-map}
use Rattle.c_semantics.specs.Skeletons.{is_check_in_kind}
use Rattle.skeletons.specs.Meaning.{point_of}
use Rattle.rows_in_force.proofs.check_ins.check_ins_before.Goals as goal

pub returns : goal.returns
returns c = λ names.
    let points = c.args.points.now in
    let place = c.args.place in
    let least : c.min.result ≡ min place (length points) = omega (arith, c.min.ensures) in
    let before : take c.loop-point.point-index (take c.min.result points) ≡ take place points =
    take_all c.loop-point.point-index (take c.min.result points) c.loop-point-test.false ∙ ap (λ n. take n points) least
    ∙ take_min place points in
    c.loop-point.invariant.number names
    ∙ ap (λ ps. count_by (λ p. is_check_in_kind p.kind) (map (point_of names) ps)) before
    ∙ ap (count_by (λ p. is_check_in_kind p.kind)) (sym (take-map (point_of names) place points))
