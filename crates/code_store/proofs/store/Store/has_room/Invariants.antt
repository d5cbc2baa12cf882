use Rattle.std.proofs.Common.{◌≡◌, ℕ, ◌+◌, ◌≤◌, List, map, take}
use Rattle.c_semantics.specs.Store.{all_check_ins, all_tokens}
use Rattle.code_store.specs.Limits.{most_check_ins, most_function_tokens}
use Rattle.code_store.specs.Stored.{meant_body}
use Rattle.code_store.proofs.store.Store.has_room.Given as goal

abbrev pub invariant-loop-body : goal.invariant-loop-body
invariant-loop-body l = record {
  check_ins_are : (names : List (List ℕ)) → l.check_ins ≡ all_check_ins (map (meant_body names) l.self) + all_check_ins (map (meant_body names) (take l.body-index l.bodies));
  tokens_are : (names : List (List ℕ)) → l.tokens ≡ all_tokens (map (meant_body names) l.self) + all_tokens (map (meant_body names) (take l.body-index l.bodies));
  few_check_ins : l.check_ins ≤ most_check_ins;
  few_tokens : l.tokens ≤ most_function_tokens;
}
