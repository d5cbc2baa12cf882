use Rattle.std.proofs.Common.{◌≡◌, ◌-◌, ◌++◌, map, take, replicate, length, ap, ◌∙◌, arith}
use Rattle.std.proofs.lemmas.Grind.{common_steps}
use Rattle.local_evaluation.specs.Values.{seen}
use Rattle.type_transformers.proofs.SeenCells.{filled_seen}
use Rattle.type_transformers.proofs.global.filled.Goals as goal

pub returns : goal.returns
returns c =
    let cells = c.args.cells.now in
    let n = c.args.count in
    let is : c.resize.new.self.items ≡ take n cells ++ replicate (n - length cells) c.zero.result =
    grind (arith, common_steps, c.in_ok-new.new.ok.0, c.in_ok-new.ensures.items, c.in_ok-resize.ensures.items)
    in
    ap (map seen) is ∙ filled_seen n (n - length cells) cells c.zero.result _ c.zero.ensures.value
