use Rattle.std.proofs.Common.{◌≡◌, ◌-◌, ◌++◌, map, take, replicate, length, Some, option_map, unwrap_or, [], sym, arith}
use Rattle.std.proofs.lemmas.Grind.{common_steps}
use Rattle.c_tree.specs.Bare.{bare_expr, bare_type}
use Rattle.c_semantics.specs.Constants.{initial, elements}
use Rattle.local_evaluation.specs.Values.{seen}
use Rattle.source_programs.proofs.Filled.{filled_cells}
use Rattle.source_programs.proofs.constant.cells_of.Goals as goal

pub returns : goal.returns
returns c =
    let array = c.args.array.now in
    let type = bare_type array.element in
    let vs = map (λ v. initial type (Some v)) (unwrap_or (option_map (map bare_expr) array.initial) []) in
    let cells = c.loop-e.cells.items in
    let n = elements array.length.value in
    let all : map seen cells ≡ vs = grind (arith, common_steps) in
    let is : c.resize.new.self.items ≡ take n cells ++ replicate (n - length cells) c.zero.result = grind (arith, common_steps, c.loop-e.cells.ok.0, c.in_ok-resize.ensures.items) in
    filled_cells type n cells c.resize.new.self.items vs c.zero.result (c.zero.ensures.of_type type (sym c.kind_of.ensures)) all is
