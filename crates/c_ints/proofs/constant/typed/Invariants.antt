-- the kinds after don't hold the value, so the first that does is among those that are left
use Rattle.std.proofs.Common.{◌≡◌, drop, pos, find}
use Rattle.c_ints.specs.Kind.{holds}
use Rattle.c_ints.proofs.constant.typed.Given as goal

abbrev pub invariant-loop-kind : goal.invariant-loop-kind
invariant-loop-kind l =
    find (λ k. holds k (pos l.fn.value)) (drop l.kind-index l.kind-items) ≡ find (λ k. holds k (pos l.fn.value)) l.kind-items
