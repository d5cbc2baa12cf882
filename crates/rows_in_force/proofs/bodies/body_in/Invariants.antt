use Rattle.std.proofs.Common.{◌≡◌, ◌<◌, List, All, length, map, drop}
use Rattle.name_sets.specs.Texts.{IsTable, text_of}
use Rattle.c_tree.specs.BareExpr.{Bytes}
use Rattle.c_semantics.specs.Store as meant
use Rattle.code_store.specs.Stored.{meant_body, IsNamed}
use Rattle.rows_in_force.proofs.bodies.body_in.Given as goal

-- what is found is found from the next body on
abbrev pub invariant-loop-body : goal.invariant-loop-body
invariant-loop-body l =
    (names : List Bytes) → IsTable names → All (IsNamed names) l.bodies → l.fn.function < length names
    → meant.body_in (map (meant_body names) l.bodies) (text_of names l.fn.function) l.fn.generation
    ≡ meant.body_in (map (meant_body names) (drop l.body-index l.bodies)) (text_of names l.fn.function) l.fn.generation
