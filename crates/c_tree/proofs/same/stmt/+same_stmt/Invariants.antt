use Rattle.std.proofs.Common.{◌≡◌, map, take}
use Rattle.c_tree.specs.Bare.{bare_stmt}
use Rattle.c_tree.proofs.same.stmt.+same_stmt.Given as goal

abbrev pub invariant-same_stmts-loop-i : goal.invariant-same_stmts-loop-i
invariant-same_stmts-loop-i l = map bare_stmt (take l.i l.a) ≡ map bare_stmt (take l.i l.b)
