use Rattle.std.proofs.Common.{◌+◌, List, [], take, subst, ap, ◌∙◌}
use Rattle.std.specs.Prelude.{Vec, flat_map}
use Rattle.std.specs.declared.alloc.Global.{Global}
use Rattle.c_tree.specs.BareExpr.{Bytes}
use Rattle.resolved_tree.specs.Trees.{table}
use Rattle.text_code.specs.declared.body.Body.{Body}
use Rattle.code_image.specs.Images.{with_more}
use Rattle.image_load.specs.MadeTexts.{AreCallees, body_names}
use Rattle.image_load.proofs.NameNumbers.{next_place}
use Rattle.image_load.proofs.NamesOfTexts.{texts_more}
use Rattle.image_load.proofs.callees.callees_of.Goals as goal

pub loop-of_text-preserved : goal.loop-of_text-preserved
loop-of_text-preserved c =
    let t = table c.args.trees.now in
    let bodies = c.args.bodies.now in
    let i = c.loop-of_text.of_text-index in
    let names_in : Vec Body Global → List Bytes = λ v. body_names t v.items in
    let longer = next_place bodies i c.of_text-item.result c.loop-of_text-test.true c.of_text-item.is in
    subst (λ (ns : List Bytes). AreCallees t ns c.add_bodies.new.self)
    (ap (λ bs. with_more (with_more [] (flat_map names_in (take i bodies))) (body_names t bs)) c.as_slice.ensures.value
    ∙ texts_more names_in [] (take i bodies) (take (i + 1) bodies) c.of_text-item.result longer)
    (c.in_ok-add_bodies.ensures _ c.loop-of_text.invariant)
