use Rattle.std.proofs.Common.{◌≡◌, ◌+◌, map, drop, option_map}
use Rattle.c_tree.specs.Bare.{bare_binding}
use Rattle.type_transformers.specs.Places.{place_in}
use Rattle.type_transformers.proofs.layout.place_in.Given as goal

-- the name isn't among the fields so far
abbrev pub invariant-loop-place : goal.invariant-loop-place
invariant-loop-place l =
    place_in (map bare_binding l.fn.fields) l.fn.name
    ≡ option_map (λ i. l.place + i) (place_in (map bare_binding (drop l.place l.fields)) l.fn.name)
