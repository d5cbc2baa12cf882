use Rattle.std.proofs.Common.{◌≡◌, ◌<◌, List, All, length, map, take}
use Rattle.name_sets.specs.Texts.{IsTable, text_of}
use Rattle.c_tree.specs.BareExpr.{Bytes}
use Rattle.c_semantics.specs.Store as meant
use Rattle.code_store.specs.Stored.{meant_body, IsNamed}
use Rattle.rows_in_force.proofs.bodies.generation_by.Given as goal

abbrev pub invariant-loop-body : goal.invariant-loop-body
invariant-loop-body l =
    (names : List Bytes) → IsTable names → All (IsNamed names) l.bodies → l.fn.function < length names
    → l.generation ≡ meant.generation_by (text_of names l.fn.function) l.fn.version (map (meant_body names) (take l.body-index l.bodies))
