use Rattle.std.proofs.Common.{◌≡◌, map, take}
use Rattle.c_tree.specs.Bare.{bare_binding}
use Rattle.name_resolution.specs.Known.{binding_of}
use Rattle.name_resolution.proofs.statement.parameters.Given as goal

abbrev pub invariant-loop-binding : goal.invariant-loop-binding
invariant-loop-binding l = map binding_of l.locals.items ≡ map bare_binding (take l.binding-index l.list)
