use Rattle.std.proofs.Common.{◌≡◌, ◌+◌, Some, map, option_map, take, sym, ap, ◌∙◌}
use Rattle.c_tree.specs.Bare.{bare_def}
use Rattle.name_resolution.specs.Found.{Grows}
use Rattle.name_resolution.specs.Known.{known_of}
use Rattle.resolved_tree.specs.Nodes.{Table}
use Rattle.resolved_tree.specs.Trees.{table}
use Rattle.name_resolution.proofs.Kept.{grows_trans}
use Rattle.text_code.specs.Bodies.{outlined, outline_if, outlines_of}
use Rattle.text_code.proofs.Outlining.{given_none, given_some}
use Rattle.text_code.proofs.outlines.outlines.Goals.{in-Some+in_ok-push, in_default}
use Rattle.text_code.proofs.outlines.outlines.Goals as goal

pub loop-definition-preserved : goal.loop-definition-preserved
loop-definition-preserved c =
    let look = known_of c.args.known.now in
    let text = c.args.text.now in
    let i = c.loop-definition.definition-index in
    let tree = c.definition-item.result in
    let before = c.loop-definition.outlines.items in
    let after = c.match-branch-2.outlines.items in
    let next : (u : Table) → Grows (table c.outline_in.new.trees) u → map (outlined u) after ≡ outlines_of look (map bare_def (take (i + 1) text)) =
    λ u g.
    let so_far = c.loop-definition.invariant.made u (grows_trans _ _ u c.outline_in.ensures.grows g) in
    elim c.match-branch-2.branch [
      | in-Some+in_ok-push w ↦
          given_some (outlined u) (outline_if look) bare_def before after w.in-Some.made text i tree
          (ap (λ v. v.items) w.outlines-is ∙ w.in_ok-push.ensures.items) c.loop-definition-test.true c.definition-item.is so_far
          (sym (ap (option_map (outlined u)) w.in-Some.is) ∙ c.in_ok-made.ensures.made u g)
      | in_default w ↦
          given_none (outlined u) (outline_if look) bare_def before after text i tree (ap (λ v. v.items) w.outlines-is)
          c.loop-definition-test.true c.definition-item.is so_far
          (sym (ap (option_map (outlined u)) w.in_default.is) ∙ c.in_ok-made.ensures.made u g)
    ] in
    record {
      grows = grows_trans _ _ _ c.loop-definition.invariant.grows c.outline_in.ensures.grows;
      made = next;
    }

pub returns-in_err-made-clause-grows : goal.returns-in_err-made-clause-grows
returns-in_err-made-clause-grows c = grows_trans _ _ _ c.loop-definition.invariant.grows c.in_err-made.ensures.grows

pub returns-in_err-push-clause-grows : goal.returns-in_err-push-clause-grows
returns-in_err-push-clause-grows c = grows_trans _ _ _ c.loop-definition.invariant.grows c.in_ok-made.ensures.grows

pub returns-clause-grows : goal.returns-clause-grows
returns-clause-grows c = c.loop-definition.invariant.grows
