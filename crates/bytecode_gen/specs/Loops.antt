-- Parts of loops in front of a tail.
use Rattle.std.specs.Prelude.{ℕ, suc, ◌+◌, [], ◌∷◌, ◌++◌, length, Option, Some, None}
use Rattle.c_semantics.specs.Points.{size_if, size_stmt}
use Rattle.c_semantics.specs.Resolved.{Expression, Statement, DoWhile}
use Rattle.c_semantics.specs.Texts.{Definitions}
use Rattle.typed_trees.specs.ValueTypes.{Environment}
use Rattle.tree_code.specs.Code.{Code, condition_code, effect_if, negated, statement, turning, unless_jump}

-- a test, if there is one, with a jump over so many instructions
abbrev pub guard_code : Definitions → Environment → Option Expression → ℕ → ℕ → Code
guard_code look env None n over = []
guard_code look env (Some c) n over = condition_code look env c (negated c) n ++ unless_jump (negated c) over ∷ []

-- a loop that begins with its test, the first point of which is n
abbrev pub turns_code : Definitions → Environment → Option Expression → Option Expression → Statement → ℕ → Code
turns_code look env test step body n =
    let m = n + size_if test in
    let p = m + size_stmt body in
    let stepped = effect_if look env step p in
    turning look env test n (statement look env body m (suc (length stepped)) 0) stepped (p + size_if step)

-- a `do` loop, to whose own ends the jumps in its body lead
abbrev pub do_code : Definitions → Environment → Statement → Expression → ℕ → Code
do_code look env body test n = statement look env (DoWhile body test) n 0 0
