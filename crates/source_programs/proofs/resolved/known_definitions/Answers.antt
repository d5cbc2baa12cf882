use Rattle.std.proofs.Common.{◌≡◌, ◌+◌, [], Some, map, option_map, take, refl, ap, ◌∙◌}
use Rattle.std.specs.Prelude.{slice_get}
use Rattle.std.proofs.lemmas.Option.{slice_get-map, slice_get_read}
use Rattle.c_tree.specs.Bare.{bare_def}
use Rattle.name_resolution.specs.Found.{Grows}
use Rattle.name_resolution.specs.Known.{known_of}
use Rattle.resolved_tree.specs.Nodes.{Table}
use Rattle.resolved_tree.specs.Trees.{table}
use Rattle.name_resolution.proofs.Kept.{grows_refl, grows_trans}
use Rattle.source_programs.proofs.Defining.{AreOf, are_of_more, are_of_none, are_of_same, defines_none, defines_some, next_definition, place_some}
use Rattle.source_programs.proofs.resolved.known_definitions.Goals.{in-Some+in_ok-push, in_default}
use Rattle.source_programs.proofs.resolved.known_definitions.Goals as goal

pub loop-place-init : goal.loop-place-init
loop-place-init c =
    let first : (u : Table) → AreOf u (known_of c.args.known.now) (map bare_def c.args.text.now) [] c.new-definitions.result.items =
    λ u. are_of_none u _ _ _ c.new-definitions.ensures.items in
    record {
      grows = grows_refl _;
      made = λ u g. (first u).made;
      trees = λ u g. (first u).trees;
      names = λ u g. (first u).names;
    }

pub loop-place-preserved : goal.loop-place-preserved
loop-place-preserved c =
    let text = c.args.text.now in
    let whole = map bare_def text in
    let i = c.loop-place.place in
    let look = known_of c.args.known.now in
    let tree = c.index-text-place.result in
    let own = bare_def tree in
    let ds = c.loop-place.definitions.items in
    let before = map bare_def (take i text) in
    let now = map bare_def (take (i + 1) text) in
    let after = c.match-branch-2.definitions.items in
    let longer = next_definition bare_def text i tree c.loop-place-test.true c.index-text-place.is in
    let here : slice_get whole i ≡ Some own =
    slice_get-map bare_def text i ∙ ap (option_map bare_def) (slice_get_read text _ i tree refl c.loop-place-test.true c.index-text-place.is) in
    let so_far : (u : Table) → Grows (table c.definition_of.new.trees) u → AreOf u look whole before ds =
    λ u g. let h = grows_trans _ _ u c.definition_of.ensures.grows g in
    record { made = c.loop-place.invariant.made u h; trees = c.loop-place.invariant.trees u h; names = c.loop-place.invariant.names u h } in
    let next : (u : Table) → Grows (table c.definition_of.new.trees) u → AreOf u look whole now after =
    λ u g. elim c.match-branch-2.branch [
      | in-Some+in_ok-push w ↦
          are_of_more u look whole before now ds after w.in-Some.made own
          (ap (λ v. v.items) w.definitions-is ∙ w.in_ok-push.ensures.items) longer
          (defines_some u look look c.in_ok-made.field-0 w.in-Some.made own refl w.in-Some.is (c.in_ok-made.ensures.made u g))
          (ap (slice_get whole) (place_some c.in_ok-made.field-0 w.in-Some.made i w.in-Some.is c.in_ok-made.ensures.place) ∙ here) (so_far u g)
      | in_default w ↦
          are_of_same u look whole before now ds after own (ap (λ v. v.items) w.definitions-is) longer
          (defines_none u look c.in_ok-made.field-0 own w.in_default.is (c.in_ok-made.ensures.made u g)) (so_far u g)
    ] in
    record {
      grows = grows_trans _ _ _ c.loop-place.invariant.grows c.definition_of.ensures.grows;
      made = λ u g. (next u g).made;
      trees = λ u g. (next u g).trees;
      names = λ u g. (next u g).names;
    }

pub returns-in_err-made-clause-grows : goal.returns-in_err-made-clause-grows
returns-in_err-made-clause-grows c = grows_trans _ _ _ c.loop-place.invariant.grows c.in_err-made.ensures.grows

pub returns-in_err-push-clause-grows : goal.returns-in_err-push-clause-grows
returns-in_err-push-clause-grows c = grows_trans _ _ _ c.loop-place.invariant.grows c.in_ok-made.ensures.grows

pub returns-clause-grows : goal.returns-clause-grows
returns-clause-grows c = c.loop-place.invariant.grows
