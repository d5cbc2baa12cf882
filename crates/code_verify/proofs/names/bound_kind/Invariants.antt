use Rattle.std.proofs.Common.{◌≡◌, map, drop, find, bytes_eq}
use Rattle.c_tree.specs.Bare.{bare_binding}
use Rattle.code_verify.proofs.names.bound_kind.Given as goal

abbrev pub invariant-loop-binding : goal.invariant-loop-binding
invariant-loop-binding l =
    find (λ b. bytes_eq l.name b.name) (map bare_binding l.bindings)
    ≡ find (λ b. bytes_eq l.name b.name) (map bare_binding (drop l.binding-index l.bindings))
