use Rattle.std.proofs.Common.{◌≡◌, map, take, Some}
use Rattle.c_tree.specs.Bare.{bare_expr, bare_type}
use Rattle.c_semantics.specs.Constants.{initial}
use Rattle.local_evaluation.specs.Values.{seen}
use Rattle.source_programs.proofs.constant.cells_of.Given as goal

abbrev pub invariant-loop-e : goal.invariant-loop-e
invariant-loop-e l =
    map seen l.cells.items ≡ map (λ v. initial (bare_type l.array.element) (Some v)) (map bare_expr (take l.e-index l.e-items))
