use Rattle.std.proofs.Common.{◌≡◌, List, [], ℕ, All, map, take}
use Rattle.name_sets.specs.Texts.{IsTable}
use Rattle.c_semantics.specs.Store.{all_check_ins}
use Rattle.effect_flow.specs.Flows.{IsFlowOf}
use Rattle.effect_flow.specs.Parts.{check_ins_among}
use Rattle.code_store.specs.Stored.{meant_body, IsNamed}
use Rattle.code_store.proofs.store.Store.flow.Given as goal

abbrev pub invariant-loop-body : goal.invariant-loop-body
invariant-loop-body l = record {
  flow : (names : List (List ℕ)) → IsTable names → All (IsNamed names) l.body-items
      → IsFlowOf names (map (meant_body names) (take l.body-index l.body-items)) l.flow;
  check_ins : check_ins_among l.flow.points ≡ all_check_ins (map (meant_body []) (take l.body-index l.body-items));
}
