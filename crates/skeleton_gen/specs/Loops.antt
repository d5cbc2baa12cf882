-- A loop that begins with its test, as a part of a tree that other parts may precede.
use Rattle.std.specs.Prelude.{ℕ, ◌+◌, List, [], ◌∷◌, ◌++◌, Option}
use Rattle.run_types.specs.Skeleton.{Point, Back}
use Rattle.c_semantics.specs.Resolved.{Expression, Statement}
use Rattle.c_semantics.specs.Points.{at_depth, evaluated_if, of_statement, size_if, size_stmt}
use Rattle.c_semantics.specs.Skeletons.{Flow, loop, statement, expression_if}
use Rattle.skeleton_gen.specs.Adding.{targets}

-- its points: those of its test, its body and its step, and its back edge
abbrev pub loop_points : ℕ → Option Expression → Option Expression → Statement → List Point
loop_points d test step body =
    evaluated_if d test ++ of_statement d body ++ evaluated_if d step ++ at_depth d Back ∷ []

-- its flow from the point n on, by where control goes after it
abbrev pub loop_flow : Option Expression → Option Expression → Statement → ℕ → List ℕ → Flow
loop_flow test step body n on =
    let m = n + size_if test in
    let p = m + size_stmt body in
    loop test n (statement body m) (expression_if step p) (p + size_if step) (targets on on on)
