use Rattle.std.proofs.Common.{map, ap, ◌∙◌, arith}
use Rattle.std.proofs.lemmas.List.{take_all}
use Rattle.std.proofs.lemmas.Simd.{map-map}
use Rattle.c_tree.specs.Bare.{bare_def}
use Rattle.c_tree.specs.declared.def.Program.{Program}
use Rattle.name_resolution.proofs.Kept.{grows_trans, mapped_more}
use Rattle.source_programs.specs.Programs.{text_in}
use Rattle.text_code.specs.Bodies.{outlined}
use Rattle.image_load.specs.MadeTexts.{functions_in}
use Rattle.image_load.proofs.bodies.outlined.Goals as goal

pub loop-text-preserved : goal.loop-text-preserved
loop-text-preserved c = λ u g.
    let own = c.as_slice.ensures ∙ ap (λ (p : Program). p.definitions) c.program-program.ensures.tree in
    mapped_more (λ v. map (outlined u) v.items) functions_in text_in c.loop-text.outlines.items c.push.new.self.items c.in_ok-made.made
    c.args.texts.now c.loop-text.text-index c.text-item.result c.in_ok-push.ensures.items c.loop-text-test.true c.text-item.is
    (c.loop-text.invariant u (grows_trans _ _ u c.resolve.ensures.grows g))
    (c.in_ok-made.ensures.outlines u g ∙ ap (λ ds. functions_in (map bare_def ds)) own)

pub returns : goal.returns
returns c = λ u g.
    map-map (map (outlined u)) (λ v. v.items) c.loop-text.outlines.items ∙ c.loop-text.invariant u g
    ∙ ap (λ ps. map functions_in (map text_in ps)) (take_all c.loop-text.text-index c.args.texts.now (omega (arith, c.loop-text-test.false)))
