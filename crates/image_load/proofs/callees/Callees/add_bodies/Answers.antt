use Rattle.std.proofs.Common.{List, [], ◌∷◌, take, subst, sym, ap, ◌∙◌}
use Rattle.c_tree.specs.BareExpr.{Bytes}
use Rattle.resolved_tree.specs.Nodes.{word}
use Rattle.resolved_tree.specs.Trees.{table}
use Rattle.text_code.specs.declared.body.Body.{Body}
use Rattle.code_image.specs.Images.{with_more}
use Rattle.image_load.specs.MadeTexts.{AreCallees, body_names}
use Rattle.image_load.proofs.NameLists.{more_append}
use Rattle.image_load.proofs.NameNumbers.{next_item}
use Rattle.image_load.proofs.callees.Callees.add_bodies.Goals as goal

pub loop-body-preserved : goal.loop-body-preserved
loop-body-preserved c = λ names h.
    let t = table c.args.trees.now in
    let bodies = c.args.bodies.now in
    let i = c.loop-body.body-index in
    let name : Bytes = word t c.body-item.result.name in
    let before = body_names t (take i bodies) in
    let longer = next_item (λ (b : Body). word t b.name) bodies i c.body-item.result c.loop-body-test.true c.body-item.is in
    subst (λ (ns : List Bytes). AreCallees t ns c.add.new.self)
    (sym (more_append names before (name ∷ [])) ∙ ap (with_more names) (sym longer))
    (c.in_ok-add.ensures _ (c.loop-body.invariant names h))
