use Rattle.std.proofs.Common.{◌≡◌, ◌∙◌, ◌++◌, ap, sym, length, slice_get, Some, arith}
use Rattle.std.proofs.lemmas.List.{length-map}
use Rattle.std.proofs.lemmas.Grind.{common_steps}
use Rattle.std.specs.Prelude.{slice_index}
use Rattle.std.proofs.lemmas.Option.{gets, slice_get-get_or, slice_get_within}
use Rattle.run_types.specs.Skeleton.{check_in_of}
use Rattle.skeletons.specs.Meaning.{kind_of, meant}
use Rattle.check_in_places.specs.CheckIns.{check_in_if}
use Rattle.check_in_places.specs.Bodies.{shown, check_ins_before}
use Rattle.check_in_places.proofs.CheckIns.{check_ins_more, check_ins_all, length_below}
use Rattle.check_in_places.proofs.spots.spots_of.Goals as goal

pub loop-number-preserved : goal.loop-number-preserved
loop-number-preserved c =
    let n = c.loop-number.number in
    let point = c.index.result.now in
    let place = slice_index c.args.places.now n in
    let is_point : slice_get c.args.skeleton.now.points.items n ≡ Some point = grind (arith, common_steps, gets) in
    let within = slice_get_within c.args.skeleton.now.points.items n point is_point in
    let is_place : slice_get c.args.places.now n ≡ Some place = slice_get-get_or c.args.places.now n 0 (omega (arith, within, c.requires.places)) in (
      λ names.
          c.in_ok-add_spot.ensures.shown names
          ∙ ap (λ list. list ++ check_in_if (check_in_of (kind_of names point.kind)) n place) (c.loop-number.invariant.0 names)
          ∙ sym (check_ins_more names c.args.skeleton.now c.args.places.now n place point is_point is_place),
      c.in_ok-add_spot.ensures.spots c.loop-number.invariant.1,
      λ names.
          c.in_ok-add_spot.ensures.counted (check_ins_before (meant names c.args.skeleton.now))
          (sym (length-map c.loop-number.spots.items shown) ∙ ap length (c.loop-number.invariant.0 names)
          ∙ length_below names c.args.skeleton.now c.args.places.now n (slice_get_within c.args.skeleton.now.points.items n point is_point))
          (c.loop-number.invariant.2 names),
      (let one = c.in_ok-add_spot.ensures.few in let before = c.loop-number.invariant.3 in omega (arith, one, before)),
    )

pub returns-clause-shown : goal.returns-clause-shown
returns-clause-shown c =
    λ names. c.loop-number.invariant.0 names ∙ check_ins_all names c.args.skeleton.now c.args.places.now c.loop-number.number (omega arith)

pub add_spot-requires-clause-few : goal.add_spot-requires-clause-few
add_spot-requires-clause-few c = c.loop-number.invariant.3
