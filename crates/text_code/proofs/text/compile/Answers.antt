use Rattle.std.proofs.Common.{map, ap, ◌∙◌}
use Rattle.name_resolution.proofs.Kept.{grows_refl}
use Rattle.resolved_tree.specs.Trees.{table}
use Rattle.text_code.specs.Bodies.{outlined}
use Rattle.text_code.proofs.Outlining.{where_it_holds}
use Rattle.text_code.proofs.text.compile.Goals as goal

pub returns-clause-code : goal.returns-clause-code
returns-clause-code c =
    let t = table c.resolve.new.trees in
    where_it_holds c.generate.result _ _ c.generate.ensures
    (ap (map (outlined t)) c.as_slice.ensures.value ∙ c.in_ok-outlines.ensures.outlines t (grows_refl t))
